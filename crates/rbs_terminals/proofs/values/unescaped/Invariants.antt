use Rattle.std.proofs.Common.{◌≡◌, ◌++◌, drop}
use Rattle.rbs_terminals.specs.Values as values
use Rattle.rbs_terminals.proofs.values.unescaped.Given as goal

abbrev pub invariant-loop-byte : goal.invariant-loop-byte
invariant-loop-byte l = record { run : l.value ++ values.unescaped_from l.behind (drop l.byte-index l.text) ≡ values.unescaped l.text }
