use Rattle.rbs_types.proofs.Turns.{parameters_go_on}
use Rattle.rbs_types.proofs.parameters.after_parameters.Goals as goal

pub returns-else-is_mark : goal.returns-else-is_mark
returns-else-is_mark c =
    parameters_go_on c.args.owner c.args.frames c.args.kind c.first_begins.result c.is_mark.result c.is_mark.ensures c.if-is_mark.false c.first_begins.ensures
