use Rattle.rbs_declarations.specs.Sites.{spot_at}
use Rattle.rbs_declarations.proofs.Passed.{member_goes_on}
use Rattle.rbs_declarations.proofs.begins.member_keyword.Goals as goal

pub returns-in_default : goal.returns-in_default
returns-in_default c before gap comments =
    member_goes_on c.args.around.file c.args.around.decls c.args.around.frames c.args.begun c.args.keyword (spot_at before gap c.args.begun.start c.args.end comments) c.vis_begins.result
    c.in_default.not-Def c.in_default.not-Alias c.in_default.not-SelfWord (c.vis_begins.ensures before gap comments)
