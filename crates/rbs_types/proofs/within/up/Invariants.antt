use Rattle.std.proofs.Common.{◌≡◌, ◌≤◌, length, reverse}
use Rattle.rbs_types.specs.Capped.{capped}
use Rattle.rbs_types.specs.Needs.{up}
use Rattle.rbs_types.proofs.within.up.Given as goal

abbrev pub invariant-loop-frame : goal.invariant-loop-frame
invariant-loop-frame l = record {
  on : capped (up (reverse l.left) l.levels) ≡ capped (up (reverse l.frames) l.fn.levels);
  low : l.levels ≤ 1000;
}

abbrev pub decreases-loop-frame : goal.decreases-loop-frame
decreases-loop-frame l = length l.left
