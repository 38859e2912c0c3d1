use Rattle.source_text.specs.Lines.{IsCursor}
use Rattle.source_text.proofs.lines.advance.Given as goal

abbrev pub invariant-loop-i : goal.invariant-loop-i
invariant-loop-i l = IsCursor l.text (record { at = l.i; line = l.line; column = l.column })
