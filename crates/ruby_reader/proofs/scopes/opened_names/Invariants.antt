use Rattle.std.proofs.Common.{◌≡◌, ℕ, List, map, take}
use Rattle.names.specs.Places.{is_among}
use Rattle.ruby_reader.specs.declared.tree.Opening.{Opening}
use Rattle.ruby_reader.proofs.scopes.opened_names.Given as goal

abbrev pub invariant-loop-opening : goal.invariant-loop-opening
invariant-loop-opening l = (n : List ℕ) → is_among n l.names ≡ is_among n (map (λ (o : Opening). o.name) (take l.opening-index l.openings))
