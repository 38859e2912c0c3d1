use Rattle.std.proofs.Common.{◌≡◌, length}
use Rattle.rbs_types.specs.Machine.{all_ended}
use Rattle.rbs_types.proofs.parts.all_ended.Given as goal

abbrev pub invariant-loop-head : goal.invariant-loop-head
invariant-loop-head l = all_ended l.heads l.whole ≡ all_ended l.fn.heads l.fn.outcome

abbrev pub decreases-loop-head : goal.decreases-loop-head
decreases-loop-head l = length l.heads
