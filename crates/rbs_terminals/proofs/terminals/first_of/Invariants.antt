use Rattle.std.proofs.Common.{◌≡◌, length}
use Rattle.rbs_terminals.specs.Terminals.{behind_first, first_token}
use Rattle.rbs_terminals.proofs.terminals.first_of.Given as goal

abbrev pub invariant-loop-token : goal.invariant-loop-token
invariant-loop-token l = record {
  first : first_token l.left ≡ first_token l.initial.left;
  rest : behind_first l.left ≡ behind_first l.initial.left;
}

abbrev pub decreases-loop-token : goal.decreases-loop-token
decreases-loop-token l = length l.left
