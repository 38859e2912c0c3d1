use Rattle.std.proofs.Common.{◌≡◌, ◌++◌, drop}
use Rattle.std.specs.List.{flat_map}
use Rattle.rbs_printer.specs.Texts.{escaped}
use Rattle.rbs_printer.proofs.texts.add_escapes.Given as goal

abbrev pub invariant-loop-byte : goal.invariant-loop-byte
invariant-loop-byte l = l.out ++ flat_map escaped (drop l.byte-index l.bytes) ≡ l.initial.out ++ flat_map escaped l.bytes
