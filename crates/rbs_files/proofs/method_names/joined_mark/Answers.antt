use Rattle.std.proofs.Common.{sym, ◌∙◌}
use Rattle.rbs_files.proofs.Following.{joined_found, no_joined}
use Rattle.rbs_files.proofs.method_names.joined_mark.Goals as goal

pub returns-then-joined_next : goal.returns-then-joined_next
returns-then-joined_next c = c.mark.ensures ∙ sym (joined_found c.args.cursor.now.rest (sym c.joined_next.ensures ∙ c.if-joined_next.true))

pub returns-else-joined_next : goal.returns-else-joined_next
returns-else-joined_next c = sym (no_joined c.args.cursor.now.rest (sym c.joined_next.ensures ∙ c.if-joined_next.false))
