use Rattle.rbs_declarations.proofs.Passed.{keyword_goes_on}
use Rattle.rbs_declarations.proofs.begins.begins.Goals as goal

pub returns-in-Keyword : goal.returns-in-Keyword
returns-in-Keyword c before gap comments =
    keyword_goes_on c.args.around.file c.args.around.decls c.args.around.frames c.args.notes c.args.kind c.in-Keyword.keyword c.site_of-site.result before gap c.args.start c.args.end comments c.keyword_begins.result
    c.in-Keyword.is c.site_of-site.ensures (c.keyword_begins.ensures before gap comments)
