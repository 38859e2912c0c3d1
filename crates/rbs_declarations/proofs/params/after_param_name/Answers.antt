use Rattle.rbs_declarations.proofs.Turns.{refuted, param_name_goes_on}
use Rattle.rbs_declarations.proofs.params.after_param_name.Goals as goal

pub returns-else-is_mark : goal.returns-else-is_mark
returns-else-is_mark c =
    param_name_goes_on c.args.around.file c.args.owner c.args.done c.args.around.decls c.args.around.frames c.args.param c.args.kind c.after_bounded.result
    (refuted c.is_mark.ensures c.if-is_mark.false) c.after_bounded.ensures
