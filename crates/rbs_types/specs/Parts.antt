-- The parts of types that are made in several steps: names, parameters and functions.
use Rattle.std.specs.Prelude.{ℕ, Bool, true, false, ◌&&◌, if◌then◌else◌, List, [], ◌∷◌, ◌++◌, Option, Some, None}
use Rattle.sig_model.specs.declared.ty.TypeName.{TypeName}
use Rattle.sig_model.specs.PlainTy as plain
use Rattle.sig_model.specs.PlainTy.{PlainTy, PlainFun, PlainBlock}
use Rattle.rbs_types.specs.declared.state.Parameters.{Parameters}
use Rattle.rbs_types.specs.declared.state.Listed.{Listed}
use Rattle.rbs_types.specs.declared.state.Head.{Head}
use Rattle.rbs_types.specs.declared.state.FunctionHead.{FunctionHead}
use Rattle.rbs_types.specs.declared.state.Slot.{Slot}
use Rattle.rbs_types.specs.declared.state.Slot.TheVariants as slot
use Rattle.rbs_types.specs.Plains.{and_key, and_arg, no_arg, no_rest_yet, no_key}

-- the name with one more word
abbrev pub grown : TypeName → List ℕ → TypeName
grown n w = record { rooted = n.rooted; path = n.path ++ w ∷ [] }

abbrev pub no_name : TypeName
no_name = record { rooted = false; path = [] }

abbrev pub root : TypeName
root = record { rooted = true; path = [] }

abbrev pub no_parameters : Parameters
no_parameters = record { required = plain.no_args; optional = plain.no_args; rest = plain.no_rest; trailing = plain.no_args; keys = plain.no_keys }

-- the parameters, and no rest of the keywords
abbrev pub closed : Parameters → Listed
closed p = record { parameters = p; key_rest = plain.no_rest }

abbrev pub nothing_listed : Listed
nothing_listed = closed no_parameters

-- Positional parameters stand before the keywords; optional ones and the rest stand before the trailing ones as well.
abbrev pub takes_positional : Parameters → Bool
takes_positional p = no_key p.keys

abbrev pub takes_optional : Parameters → Bool
takes_optional p = no_rest_yet p.rest && (no_arg p.trailing && no_key p.keys)

-- a positional parameter is required, or trailing where an optional one or the rest stands before it
abbrev pub and_positional : Parameters → PlainTy → Option (List ℕ) → Parameters
and_positional p t n =
    if no_arg p.optional && no_rest_yet p.rest
    then record { required = and_arg p.required t n; optional = p.optional; rest = p.rest; trailing = p.trailing; keys = p.keys }
    else record { required = p.required; optional = p.optional; rest = p.rest; trailing = and_arg p.trailing t n; keys = p.keys }

abbrev pub and_optional : Parameters → PlainTy → Option (List ℕ) → Parameters
and_optional p t n = record { required = p.required; optional = and_arg p.optional t n; rest = p.rest; trailing = p.trailing; keys = p.keys }

abbrev pub and_rest : Parameters → PlainTy → Option (List ℕ) → Parameters
and_rest p t n = record { required = p.required; optional = p.optional; rest = plain.rest t n; trailing = p.trailing; keys = p.keys }

abbrev pub and_keyword : Parameters → List ℕ → Bool → PlainTy → Parameters
and_keyword p w needed t = record { required = p.required; optional = p.optional; rest = p.rest; trailing = p.trailing; keys = and_key p.keys w needed t }

-- the parameters, and one more; the rest of the keywords is kept apart
abbrev pub added : Parameters → Slot → PlainTy → Option (List ℕ) → Parameters
added p slot.Positional t n = and_positional p t n
added p slot.Optional t n = and_optional p t n
added p slot.Rest t n = and_rest p t n
added p slot.KeyRest t n = p
added p (slot.Key w needed) t n = and_keyword p w needed t

abbrev pub all_of : Parameters → Slot → PlainTy → Option (List ℕ) → Listed
all_of p slot.KeyRest t n = record { parameters = p; key_rest = plain.rest t n }
all_of p x t n = closed (added p x t n)

-- the function of these parameters with this block and this result
abbrev pub function_of : Listed → PlainBlock → PlainTy → PlainFun
function_of l b t = plain.function l.parameters.required l.parameters.optional l.parameters.rest l.parameters.trailing l.parameters.keys l.key_rest b t

abbrev pub no_head : FunctionHead
no_head = record { parameters = no_parameters; key_rest = plain.no_rest; block = plain.no_block }

-- all parameters that stand in a head
abbrev pub listed_in : FunctionHead → Listed
listed_in h = record { parameters = h.parameters; key_rest = h.key_rest }

-- the function with this head and this result
abbrev pub function_with : FunctionHead → PlainTy → PlainFun
function_with h t = function_of (listed_in h) h.block t

abbrev pub ended : Head → PlainTy → PlainTy
ended h t = plain.fun (function_of h.listed h.block t)

-- the function that a type is, if it is one
abbrev pub function_in : PlainTy → Option PlainFun
function_in (plain.fun f) = Some f
function_in _ = None
