use Rattle.std.proofs.Common.{sym, ◌∙◌}
use Rattle.rbs_files.proofs.Following.{no_vis}
use Rattle.rbs_files.proofs.members.vis_belongs.Goals as goal

pub returns-in-None : goal.returns-in-None
returns-in-None c = sym (no_vis c.args.cursor.now.rest (sym c.keyword.ensures ∙ c.in-None.is))
