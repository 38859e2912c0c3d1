use Rattle.std.proofs.Common.{sym, ◌∙◌}
use Rattle.rbs_phrases.proofs.AheadRead.{taken_whole, shorter_by}
use Rattle.rbs_phrases.proofs.cursor.Cursor.pass.Goals as goal

pub returns-clause-kept : goal.returns-clause-kept
returns-clause-kept c =
    let next = c.in-Some-pass.ensures in
    rw (← c.self.view_is) (taken_whole (record { rest = c.self.inside.terminals; end = c.self.inside.end; opened = c.self.inside.opened }) next.0 c.pass.new.self c.in-Some.sort c.in-Some-pass.end c.in_ok-opened.opened next.1 (sym c.self.invariant ∙ c.in-Some.is) c.in_ok-opened.ensures.opened c.in_ok-opened.ensures.small next.2)

pub returns-clause-next : goal.returns-clause-next
returns-clause-next c =
    let next = c.in-Some-pass.ensures in
    rw (← c.self.view_is) (next.0, next.1, next.2)

pub returns-clause-shorter : goal.returns-clause-shorter
returns-clause-shorter c =
    let next = c.in-Some-pass.ensures in
    rw (← c.self.view_is) (shorter_by (record { rest = c.self.inside.terminals; end = c.self.inside.end; opened = c.self.inside.opened }) next.0 c.pass.new.self c.in-Some.sort c.in-Some-pass.end c.in_ok-opened.opened next.1)
