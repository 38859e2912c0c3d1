use Rattle.print_command.proofs.Refusals.{syntax_read, limit_read}
use Rattle.print_command.proofs.reading.read_text.Goals as goal

pub returns-in-Err-Syntax : goal.returns-in-Err-Syntax
returns-in-Err-Syntax c = syntax_read c.args.file c.args.bytes.now c.in-Err-Syntax.place c.refused.result (rw c.in-Err-Syntax.field-0-is at c.in-Err-Syntax.ensures.answer) c.refused.ensures

pub returns-in-Err-Limit : goal.returns-in-Err-Limit
returns-in-Err-Limit c = limit_read c.args.file c.args.bytes.now c.in-Err-Limit.place c.refused-in-Err-Limit.result (rw c.in-Err-Limit.field-0-is at c.in-Err-Limit.ensures.answer) c.refused-in-Err-Limit.ensures
