use Rattle.std.proofs.Common.{◌-◌, ◌≤◌, length, take}
use Rattle.rbs_lexer.specs.Pieces.{Repeated}
use Rattle.rbs_lexer.specs.Scanned.{IsPiece}
use Rattle.rbs_lexer.proofs.pieces.run_length.Given as goal

abbrev pub invariant-loop-length : goal.invariant-loop-length
invariant-loop-length l = record { within : l.at ≤ length l.text; pieces : Repeated (IsPiece l.run) (take l.at l.text) }

abbrev pub decreases-loop-length : goal.decreases-loop-length
decreases-loop-length l = length l.text - l.at
