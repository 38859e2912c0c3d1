use Rattle.std.proofs.Common.{◌∙◌, sym, arith}
use Rattle.std.proofs.lemmas.Grind.{common_steps}
use Rattle.rbs_printer.proofs.Parts.{parameters_some}
use Rattle.rbs_printer.proofs.members.add_type_parameters.Goals as goal

pub returns : goal.returns
returns c = rw (parameters_some c.args.params.now (sym c.is_empty.ensures ∙ c.if-is_empty.false)) (grind (arith, common_steps))
