use Rattle.std.proofs.Common.{◌≡◌, map}
use Rattle.call_outcomes.specs.Gathers.{shown}
use Rattle.call_outcomes.proofs.gathering.sources_of.Given as goal

abbrev pub invariant-loop-file : goal.invariant-loop-file
invariant-loop-file l = l.sources ≡ map shown l.yielded
