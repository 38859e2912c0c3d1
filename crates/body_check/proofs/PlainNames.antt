-- The names in a plain twin are those of the program.
use Rattle.std.proofs.Common.{◌≡◌, List, [], ◌∷◌, map, refl, ap}
use Rattle.ruby_reader.specs.declared.tree.Definition.{Definition}
use Rattle.ruby_reader.specs.declared.tree.Opening.{Opening}
use Rattle.ruby_reader.specs.PlainLaws.{plain_definitions, plain_openings}
use Rattle.body_check.specs.Matching.{opened_names, defined_names}

pub opened_plain : (os : List Opening) → opened_names (plain_openings os) ≡ map (λ o. o.name) os
opened_plain [] = refl
opened_plain (o ∷ os) = ap (λ ns. o.name ∷ ns) (opened_plain os)

pub defined_plain : (ds : List Definition) → defined_names (plain_definitions ds) ≡ map (λ d. d.name) ds
defined_plain [] = refl
defined_plain (d ∷ ds) = ap (λ ns. d.name ∷ ns) (defined_plain ds)
