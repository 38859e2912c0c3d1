use Rattle.std.proofs.Common.{◌-◌, ◌≤◌, ◌++◌, List, length, drop}
use Rattle.rbs_lexer.specs.declared.token.SigToken.{SigToken}
use Rattle.rbs_lexer.specs.Division.{End, Divides}
use Rattle.rbs_lexer.proofs.division.divide.Given as goal

abbrev pub invariant-loop-at : goal.invariant-loop-at
invariant-loop-at l = record {
  within : l.at ≤ length l.bytes;
  extends : (us : List SigToken) (e : End) → Divides l.file l.at us e (drop l.at l.bytes) → Divides l.file 0 (l.tokens ++ us) e l.bytes;
}

abbrev pub decreases-loop-at : goal.decreases-loop-at
decreases-loop-at l = length l.bytes - l.at
