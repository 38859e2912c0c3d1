use Rattle.rbs_declarations.proofs.Turns.{refuted}
use Rattle.rbs_declarations.proofs.Passed.{part_goes_on}
use Rattle.rbs_declarations.proofs.begins.part_begins.Goals as goal

pub returns-else-is_keyword : goal.returns-else-is_keyword
returns-else-is_keyword c =
    part_goes_on c.args.around.file c.args.around.decls c.args.around.frames c.args.token.kind c.args.token.spot c.unnoted_begins.result
    (refuted c.is_keyword.ensures c.if-is_keyword.false) c.unnoted_begins.ensures
