use Rattle.std.proofs.Common.{◌≡◌, subst}
use Rattle.rbs_types.specs.declared.state.Parameters.{Parameters}
use Rattle.rbs_types.specs.Parts.{takes_positional}
use Rattle.rbs_types.proofs.Turns.{parameter_goes_on}
use Rattle.rbs_types.proofs.parameters.parameter_begins.Goals as goal

pub returns-else-is_mark-3 : goal.returns-else-is_mark-3
returns-else-is_mark-3 c =
    parameter_goes_on c.args.before c.args.owner c.args.frames c.args.kind c.takes_positional-takes.result c.argument_begins.result c.is_mark.result c.is_mark-else-is_mark.result c.is_mark-else-is_mark-2.result
    c.is_mark.ensures c.if-is_mark.false c.is_mark-else-is_mark.ensures c.if-is_mark-2.false c.is_mark-else-is_mark-2.ensures c.if-is_mark-3.false (subst (λ (p : Parameters). c.takes_positional-takes.result ≡ takes_positional p) c.get.ensures c.takes_positional-takes.ensures) c.argument_begins.ensures
