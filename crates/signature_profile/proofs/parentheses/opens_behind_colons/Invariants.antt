use Rattle.std.proofs.Common.{◌≡◌, length}
use Rattle.signature_profile.specs.Parentheses.{opens_behind_colons}
use Rattle.signature_profile.proofs.parentheses.opens_behind_colons.Given as goal

abbrev pub invariant-loop-terminals : goal.invariant-loop-terminals
invariant-loop-terminals l = record { same : opens_behind_colons l.initial.behind l.initial.terminals ≡ opens_behind_colons l.behind l.terminals }

abbrev pub decreases-loop-terminals : goal.decreases-loop-terminals
decreases-loop-terminals l = length l.terminals
