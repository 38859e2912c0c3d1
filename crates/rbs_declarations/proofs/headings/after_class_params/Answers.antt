use Rattle.rbs_declarations.proofs.Turns.{refuted}
use Rattle.rbs_declarations.proofs.Passed.{class_goes_on}
use Rattle.rbs_declarations.proofs.headings.after_class_params.Goals as goal

pub returns-else-is_mark : goal.returns-else-is_mark
returns-else-is_mark c =
    class_goes_on c.args.around.file c.args.around.decls c.args.around.frames c.args.headed.begun c.args.headed.name c.args.headed.params c.args.token.kind c.args.token.spot c.then_opened.result
    (refuted c.is_mark.ensures c.if-is_mark.false) c.then_opened.ensures
