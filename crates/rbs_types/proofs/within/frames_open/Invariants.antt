use Rattle.std.proofs.Common.{◌≡◌, ◌≤◌, ◌+◌, length, reverse}
use Rattle.rbs_types.specs.Capped.{capped}
use Rattle.rbs_types.specs.Needs.{frames_open}
use Rattle.rbs_types.proofs.within.frames_open.Given as goal

abbrev pub invariant-loop-frame : goal.invariant-loop-frame
invariant-loop-frame l = record {
  on : capped (l.opened + frames_open (reverse l.left)) ≡ capped (frames_open (reverse l.frames));
  low : l.opened ≤ 1000;
}

abbrev pub decreases-loop-frame : goal.decreases-loop-frame
decreases-loop-frame l = length l.left
