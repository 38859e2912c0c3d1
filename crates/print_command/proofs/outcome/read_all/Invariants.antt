use Rattle.std.proofs.Common.{List, take}
use Rattle.diagnostics.specs.declared.lines.Source.{Source}
use Rattle.call_outcomes.specs.Gathers.{AreKept}
use Rattle.print_command.specs.Reads.{AreRead}
use Rattle.print_command.proofs.outcome.read_all.Given as goal

abbrev pub invariant-loop-at : goal.invariant-loop-at
invariant-loop-at l = (sources : List Source) → AreKept sources l.files → AreRead (take l.at sources) l.read
