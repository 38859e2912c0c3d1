use Rattle.std.proofs.Common.{◌≡◌, ◌++◌}
use Rattle.rbs_printer.specs.Texts.{indent}
use Rattle.rbs_printer.proofs.texts.add_indent.Given as goal

abbrev pub invariant-loop : goal.invariant-loop
invariant-loop l = l.out ≡ l.initial.out ++ indent l.counter
