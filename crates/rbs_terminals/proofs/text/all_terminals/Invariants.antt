use Rattle.std.proofs.Common.{◌≡◌, ◌++◌, length}
use Rattle.rbs_terminals.proofs.text.all_terminals.Given as goal

abbrev pub invariant-loop-all : goal.invariant-loop-all
invariant-loop-all l = record { read : l.all ++ l.rest ≡ l.initial.rest }

abbrev pub decreases-loop-all : goal.decreases-loop-all
decreases-loop-all l = length l.rest
