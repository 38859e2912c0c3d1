use Rattle.std.proofs.Common.{◌≡◌, ◌≤◌, length, reverse}
use Rattle.rbs_types.specs.Capped.{capped}
use Rattle.rbs_types.specs.Needs.{rise_heads}
use Rattle.rbs_types.proofs.within.ending.Given as goal

abbrev pub invariant-loop-head : goal.invariant-loop-head
invariant-loop-head l = record {
  on : capped (rise_heads (reverse l.left) l.levels) ≡ capped (rise_heads (reverse l.heads) l.fn.levels);
  low : l.levels ≤ 1000;
}

abbrev pub decreases-loop-head : goal.decreases-loop-head
decreases-loop-head l = length l.left
