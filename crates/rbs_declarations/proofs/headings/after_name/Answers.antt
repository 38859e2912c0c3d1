use Rattle.rbs_declarations.proofs.Turns.{refuted}
use Rattle.rbs_declarations.proofs.Passed.{name_goes_on}
use Rattle.rbs_declarations.proofs.headings.after_name.Goals as goal

pub returns-else-is_mark : goal.returns-else-is_mark
returns-else-is_mark c =
    name_goes_on c.args.around.file c.args.around.decls c.args.around.frames c.args.begun c.args.name c.args.sort c.args.token.kind c.args.token.spot c.after_plain_name.result
    (refuted c.is_mark.ensures c.if-is_mark.false) c.after_plain_name.ensures
