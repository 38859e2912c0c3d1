use Rattle.rbs_types.proofs.Turns.{function_goes_on}
use Rattle.rbs_types.proofs.functions.after_function.Goals as goal

pub returns-else-is_mark : goal.returns-else-is_mark
returns-else-is_mark c =
    function_goes_on c.args.level c.args.frames c.args.kind c.after_nothing.result c.is_mark.result c.is_mark.ensures c.if-is_mark.false c.after_nothing.ensures
