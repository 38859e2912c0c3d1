use Rattle.std.proofs.Common.{sym, ◌∙◌}
use Rattle.rbs_files.proofs.Following.{variance_found, no_variance}
use Rattle.rbs_files.proofs.params.variance_next.Goals as goal

pub returns-in-Some : goal.returns-in-Some
returns-in-Some c = c.variance_of.ensures ∙ sym (variance_found c.args.cursor.now.rest c.in-Some.keyword (sym c.keyword.ensures ∙ c.in-Some.is))

pub returns-in-None : goal.returns-in-None
returns-in-None c = sym (no_variance c.args.cursor.now.rest (sym c.keyword.ensures ∙ c.in-None.is))
