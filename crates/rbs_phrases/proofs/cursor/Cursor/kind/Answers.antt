use Rattle.std.proofs.Common.{sym, ◌∙◌, ap, ◌∷◌}
use Rattle.rbs_types.specs.Symbols.{token}
use Rattle.rbs_phrases.proofs.AheadRead.{taken_whole, shorter_by, found_is}
use Rattle.rbs_phrases.proofs.cursor.Cursor.kind.Goals as goal

pub returns-clause-kept : goal.returns-clause-kept
returns-clause-kept c =
    let next = found_is _ _ c.in_ok-kind.field-0 (c.in-Some-2.kind, c.in-Some-2.end) c.in-Some-2.is c.in_ok-kind.ensures.ok in
    rw (← c.self.view_is) (taken_whole (record { rest = c.self.inside.terminals; end = c.self.inside.end; opened = c.self.inside.opened }) next.0 c.take.new.self c.in-Some.sort c.in-Some-2.end c.in_ok-opened.opened next.1 (sym c.self.invariant ∙ c.in-Some.is) c.in_ok-opened.ensures.opened c.in_ok-opened.ensures.small next.3)

pub returns-clause-next : goal.returns-clause-next
returns-clause-next c =
    let next = found_is _ _ c.in_ok-kind.field-0 (c.in-Some-2.kind, c.in-Some-2.end) c.in-Some-2.is c.in_ok-kind.ensures.ok in
    rw (← c.self.view_is) (next.0.spot, next.1 ∙ ap (λ k. token k next.0.spot ∷ c.take.new.self) (sym next.2))

pub returns-clause-shorter : goal.returns-clause-shorter
returns-clause-shorter c =
    let next = found_is _ _ c.in_ok-kind.field-0 (c.in-Some-2.kind, c.in-Some-2.end) c.in-Some-2.is c.in_ok-kind.ensures.ok in
    rw (← c.self.view_is) (shorter_by (record { rest = c.self.inside.terminals; end = c.self.inside.end; opened = c.self.inside.opened }) next.0 c.take.new.self c.in-Some.sort c.in-Some-2.end c.in_ok-opened.opened next.1)
