use Rattle.std.proofs.Common.{◌≡◌, map, drop, true}
use Rattle.std.specs.List.{AllByRecursion}
use Rattle.names.specs.Places.{is_among}
use Rattle.names.proofs.named.all_among.Given as goal

abbrev pub invariant-loop-item : goal.invariant-loop-item
invariant-loop-item g l =
    let all = AllByRecursion (λ n. is_among n l.names ≡ true) in
    record {
      on : all (map g.T.Named.name_of l.items) → all (map g.T.Named.name_of (drop l.item-index l.items));
      back : all (map g.T.Named.name_of (drop l.item-index l.items)) → all (map g.T.Named.name_of l.items);
    }
