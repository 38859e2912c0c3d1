use Rattle.rbs_declarations.proofs.Turns.{refuted, bound_goes_on}
use Rattle.rbs_declarations.proofs.params.bound_first.Goals as goal

pub returns-else-is_keyword : goal.returns-else-is_keyword
returns-else-is_keyword c =
    bound_goes_on c.args.around.file c.args.owner c.args.done c.args.around.decls c.args.around.frames c.args.param c.args.name c.args.kind c.bound_begins.result
    (refuted c.is_keyword.ensures c.if-is_keyword.false) c.bound_begins.ensures
