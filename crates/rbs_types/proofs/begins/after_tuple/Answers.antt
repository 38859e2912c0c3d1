use Rattle.rbs_types.proofs.Turns.{tuple_goes_on}
use Rattle.rbs_types.proofs.begins.after_tuple.Goals as goal

pub returns-else-is_mark : goal.returns-else-is_mark
returns-else-is_mark c =
    tuple_goes_on c.args.level c.args.frames c.args.kind c.new-done.result c.wants_within.result c.is_mark.result c.is_mark.ensures c.if-is_mark.false c.new-done.ensures c.wants_within.ensures
