use Rattle.std.proofs.Common.{◌∙◌, sym, arith}
use Rattle.std.proofs.lemmas.Grind.{common_steps}
use Rattle.rbs_printer.proofs.Parts.{selves_some}
use Rattle.rbs_printer.proofs.declarations.add_selves.Goals as goal

pub returns : goal.returns
returns c = rw (selves_some c.args.selves.now (sym c.is_empty.ensures ∙ c.if-is_empty.false)) (grind (arith, common_steps))
