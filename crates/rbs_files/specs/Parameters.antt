-- Parts of type parameters and of overloads within the limits.
use Rattle.std.specs.Prelude.{ℕ, ◌≡◌, ◌≤◌, true, List, [], ◌∷◌, Option, None}
use Rattle.rbs_terminals.specs.declared.token.Token.{Token}
use Rattle.rbs_terminals.specs.declared.token.Kind.{Kind}
use Rattle.rbs_terminals.specs.declared.token.Kind.TheVariants as kind
use Rattle.sig_model.specs.declared.decl.Variance.{Variance}
use Rattle.sig_model.specs.PlainTy.{PlainTy}
use Rattle.sig_model.specs.PlainMember.{PlainParam, PlainMethod}
use Rattle.rbs_declarations.specs.Words.{variance_of}
use Rattle.rbs_declarations.specs.Grammar.{Bound, Param, ParamList, Overloads, is_new_param}
use Rattle.rbs_declarations.specs.Heights.{option_height}
use Rattle.rbs_declarations.specs.Openness.{bound_open, param_open, param_list_open, overloads_open}

-- the variance that a terminal is, if it is one
abbrev pub variance_at : Kind → Option Variance
variance_at (kind.Keyword k) = variance_of k
variance_at _ = None

-- the variance that stands next, if one does
abbrev pub variance_next : List Token → Option Variance
variance_next [] = None
variance_next (c ∷ ts) = variance_at c.kind

-- the bound of a parameter, or none
abbrev pub IsBound : ℕ → Option PlainTy → List Token → List Token → Type 0
IsBound room b ts rest = (d : Bound b ts rest) × (bound_open d ≤ room) × (option_height b ≤ 200)

-- a parameter whose name none of those before it has
abbrev pub IsParam : ℕ → List PlainParam → PlainParam → List Token → List Token → Type 0
IsParam room before p ts rest = (is_new_param p.name before ≡ true) × (d : Param p ts rest) × (param_open d ≤ room) × (option_height p.bound ≤ 200)

-- behind the parameters `before`, further ones make them `all`
abbrev pub Lengthens : ℕ → List PlainParam → List PlainParam → List Token → List Token → Type 0
Lengthens room before all ts rest = (d : ParamList before all ts rest) × (param_list_open d ≤ room)

-- behind the overloads `before`, further ones make them `all`
abbrev pub Overloaded : ℕ → List PlainMethod → List PlainMethod → List Token → List Token → Type 0
Overloaded room before all ts rest = (d : Overloads before all ts rest) × (overloads_open d ≤ room)
