use Rattle.rbs_declarations.proofs.Turns.{refuted}
use Rattle.rbs_declarations.proofs.Taken.{mixin_goes_on}
use Rattle.rbs_declarations.proofs.other_members.after_mixin_name.Goals as goal

pub returns-else-is_mark : goal.returns-else-is_mark
returns-else-is_mark c =
    mixin_goes_on c.args.around.file c.args.around.decls c.args.around.frames c.args.begun c.args.kind c.args.name c.args.token.kind c.args.token.spot c.then_mixin.result
    (refuted c.is_mark.ensures c.if-is_mark.false) c.then_mixin.ensures
