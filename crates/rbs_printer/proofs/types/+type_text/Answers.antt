use Rattle.std.proofs.Common.{◌∙◌, sym, arith}
use Rattle.std.proofs.lemmas.Grind.{common_steps}
use Rattle.rbs_printer.proofs.Parts.{arguments_some, record_some}
use Rattle.rbs_printer.proofs.types.+type_text.Goals as goal

pub add_record-returns : goal.add_record-returns
add_record-returns t c = rw (record_some c.args.keys.now (sym c.is_empty.ensures ∙ c.if-is_empty.false)) (grind (arith, common_steps))

pub add_type_arguments-returns : goal.add_type_arguments-returns
add_type_arguments-returns t c = rw (arguments_some c.args.types.now (sym c.is_empty.ensures ∙ c.if-is_empty.false)) (grind (arith, common_steps))
