use Rattle.rbs_declarations.proofs.Passed.{unnoted_goes_on}
use Rattle.rbs_declarations.proofs.begins.unnoted_begins.Goals as goal

pub returns : goal.returns
returns c =
    unnoted_goes_on c.args.around.file c.args.around.decls c.args.around.frames c.args.token.kind c.args.token.spot c.new-annotations.result c.carrying_begins.result c.new-annotations.ensures c.carrying_begins.ensures
