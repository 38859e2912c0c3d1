use Rattle.std.proofs.Common.{◌≡◌, ◌++◌, map, drop}
use Rattle.std.specs.List.{IsDistinct}
use Rattle.names.specs.Places.{same_name}
use Rattle.names.proofs.named.names_of.Given as goal

abbrev pub invariant-loop-item : goal.invariant-loop-item
invariant-loop-item g l = record {
  names : l.names ++ map g.T.Named.name_of (drop l.item-index l.items) ≡ map g.T.Named.name_of l.items;
  distinct : IsDistinct same_name l.names;
}
