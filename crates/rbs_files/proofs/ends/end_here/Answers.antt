use Rattle.std.proofs.Common.{sym, ◌∙◌}
use Rattle.rbs_phrases.specs.Fronts.{whole}
use Rattle.rbs_files.proofs.Following.{end_before, end_of_text}
use Rattle.rbs_files.proofs.ends.end_here.Goals as goal

pub returns-in-Some : goal.returns-in-Some
returns-in-Some c = end_before (whole c.args.cursor.now).last c.in-Some.end c.args.cursor.now.rest (sym c.before-2.ensures ∙ c.in-Some.is)

pub returns-in-None : goal.returns-in-None
returns-in-None c = c.end.ensures ∙ end_of_text c.args.cursor.now (sym c.before-2.ensures ∙ c.in-None.is)
