-- A name is new among plain type parameters exactly where it isn't among the names of the parameters.
use Rattle.std.proofs.Common.{ℕ, ◌≡◌, refl, sym, ◌∙◌, ap, ◌&&◌, List, [], ◌∷◌, map}
use Rattle.std.specs.Prelude.{not}
use Rattle.names.specs.Places.{same_name, is_among}
use Rattle.names.proofs.Places.{not_among}
use Rattle.sig_model.specs.declared.decl.TyParam.{TyParam}
use Rattle.sig_model.specs.PlainMember.{PlainParam, plain_params}
use Rattle.rbs_declarations.specs.Grammar.{is_new_param}

abbrev pub param_names : List PlainParam → List (List ℕ)
param_names ps = map (λ p. p.name) ps

pub new_among : (w : List ℕ) (ps : List PlainParam) → is_new_param w ps ≡ not (is_among w (param_names ps))
new_among w [] = refl
new_among w (p ∷ ps) = ap (λ b. not (same_name w p.name) && b) (new_among w ps) ∙ sym (not_among w p.name (param_names ps))

names_of_params : (ps : List TyParam) → param_names (plain_params ps) ≡ map (λ p. p.name) ps
names_of_params [] = refl
names_of_params (p ∷ ps) = ap (λ names. p.name ∷ names) (names_of_params ps)

pub new_param : (w : List ℕ) (ps : List TyParam) → is_new_param w (plain_params ps) ≡ not (is_among w (map (λ p. p.name) ps))
new_param w ps = new_among w (plain_params ps) ∙ ap (λ names. not (is_among w names)) (names_of_params ps)
