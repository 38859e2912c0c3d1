-- The parts of types, as their texts are listed.
use Rattle.std.proofs.Common.{◌≡◌, refl, ap, ℕ, suc, arith, List, [], ◌∷◌, ◌++◌, false}
use Rattle.std.specs.Prelude.{codes, length, map, not, ◌==◌}
use Rattle.sig_model.specs.declared.ty.Ty.{Ty}
use Rattle.sig_model.specs.declared.ty.RecKey.{RecKey}
use Rattle.sig_model.specs.PlainTy.{plain_tys, plain_keys}
use Rattle.sig_model.specs.declared.decl.TyParam.{TyParam}
use Rattle.sig_model.specs.PlainMember.{plain_params}
use Rattle.rbs_printer.specs.Texts.{joined, where_set}
use Rattle.rbs_printer.specs.Types.{whole, texts_at, key_texts, arguments_text, record_text}
use Rattle.rbs_printer.specs.Declarations.{parameter_text, parameters_text, overload_parameters, selves_text}
use Rattle.rbs_printer.specs.Listed.{listed}
use Rattle.rbs_printer.proofs.Joined.{joined_listed, listed_append}

-- the arguments of a name, where it has some
pub arguments_some : (ts : List Ty) → (length ts == 0) ≡ false → arguments_text (plain_tys ts) ≡ codes "[" ++ joined (codes ", ") (texts_at whole (plain_tys ts)) ++ codes "]"
arguments_some [] h = absurd (cc)
arguments_some (t ∷ ts) h = refl

-- a record type with keys
pub record_some : (ks : List RecKey) → (length ks == 0) ≡ false → record_text (plain_keys ks) ≡ codes "{ " ++ listed false (codes ", ") (key_texts (plain_keys ks)) ++ codes " }"
record_some [] h = absurd (cc)
record_some (k ∷ ks) h = ap (λ w. codes "{ " ++ w ++ codes " }") (joined_listed (codes ", ") (key_texts (plain_keys (k ∷ ks))))

-- type parameters, where there are some
pub parameters_some : (ps : List TyParam) → (length ps == 0) ≡ false → parameters_text (plain_params ps) ≡ codes "[" ++ joined (codes ", ") (map parameter_text (plain_params ps)) ++ codes "]"
parameters_some [] h = absurd (cc)
parameters_some (p ∷ ps) h = refl

not_none : (n : ℕ) → (suc n == 0) ≡ false
not_none n = grind arith

-- the type parameters of an overload
pub overload_parameters_are : (ps : List TyParam) → overload_parameters (plain_params ps) ≡ parameters_text (plain_params ps) ++ where_set (not (length ps == 0)) (codes " ")
overload_parameters_are [] = refl
overload_parameters_are (p ∷ ps) = rw (not_none (length ps)) refl

-- the self types of a module, where it has some
pub selves_some : (ts : List Ty) → (length ts == 0) ≡ false → selves_text (plain_tys ts) ≡ codes ": " ++ joined (codes ", ") (texts_at whole (plain_tys ts))
selves_some [] h = absurd (cc)
selves_some (t ∷ ts) h = refl

pub ruleset listing = (joined_listed, listed_append)
