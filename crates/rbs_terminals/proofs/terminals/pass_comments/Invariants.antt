use Rattle.std.proofs.Common.{◌≡◌, ◌≤◌, length}
use Rattle.std.specs.Prelude.{IfSome}
use Rattle.rbs_terminals.specs.Terminals.{AllStand, terminals_from}
use Rattle.rbs_terminals.proofs.terminals.pass_comments.Given as goal

abbrev pub invariant-loop-token : goal.invariant-loop-token
invariant-loop-token l = record {
  left : terminals_from l.bytes l.before l.tokens.now ≡ terminals_from l.bytes l.initial.before l.initial.tokens.now;
  order : IfSome l.before.last (λ last. last ≤ l.before.end);
  stand : AllStand l.bytes l.before.end l.tokens.now;
}

abbrev pub decreases-loop-token : goal.decreases-loop-token
decreases-loop-token l = length l.tokens.now
