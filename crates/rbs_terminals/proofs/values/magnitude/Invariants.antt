use Rattle.std.proofs.Common.{◌≡◌, drop}
use Rattle.rbs_lexer.specs.Integers.{value_from}
use Rattle.rbs_terminals.proofs.values.magnitude.Given as goal

abbrev pub invariant-loop-digit : goal.invariant-loop-digit
invariant-loop-digit l = record { run : value_from l.value (drop l.digit-index l.digits) ≡ value_from 0 l.digits }
