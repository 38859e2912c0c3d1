use Rattle.std.proofs.Common.{subst}
use Rattle.bstr.specs.Find.{IsLastByte, is_byte}
use Rattle.diagnostics.proofs.Newlines.{column_behind, column_in_first}
use Rattle.diagnostics.proofs.lines.column_after.Goals as goal

pub returns-in-Some : goal.returns-in-Some
returns-in-Some c = column_behind c.args.before.now c.in-Some.newline (subst (λ r. IsLastByte (is_byte 10) c.args.before.now r) c.in-Some.is c.rfind_byte.ensures)

pub returns-in-None : goal.returns-in-None
returns-in-None c = column_in_first c.args.before.now (subst (λ r. IsLastByte (is_byte 10) c.args.before.now r) c.in-None.is c.rfind_byte.ensures)
