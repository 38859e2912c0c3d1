use Rattle.rbs_declarations.proofs.Turns.{refuted, param_goes_on}
use Rattle.rbs_declarations.proofs.params.param_begins.Goals as goal

pub returns-else-is_keyword : goal.returns-else-is_keyword
returns-else-is_keyword c =
    param_goes_on c.args.around.file c.args.owner c.args.done c.args.around.decls c.args.around.frames c.args.kind c.after_unchecked.result
    (refuted c.is_keyword.ensures c.if-is_keyword.false) c.after_unchecked.ensures
