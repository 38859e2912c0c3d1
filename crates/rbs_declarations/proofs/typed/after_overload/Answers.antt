use Rattle.rbs_declarations.proofs.Turns.{refuted}
use Rattle.rbs_declarations.proofs.Taken.{overload_goes_on}
use Rattle.rbs_declarations.proofs.typed.after_overload.Goals as goal

pub returns-else-is_mark : goal.returns-else-is_mark
returns-else-is_mark c =
    overload_goes_on c.args.around.file c.args.around.decls c.args.around.frames c.args.signature c.args.done c.args.token.kind c.args.token.spot c.plain_overload.result
    (refuted c.is_mark.ensures c.if-is_mark.false) c.plain_overload.ensures
