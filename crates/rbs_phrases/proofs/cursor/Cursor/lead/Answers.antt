use Rattle.std.proofs.Common.{sym, ◌∙◌, ap, ◌∷◌}
use Rattle.rbs_types.specs.Symbols.{token}
use Rattle.rbs_phrases.proofs.AheadRead.{taken_whole, shorter_by, found_is}
use Rattle.rbs_phrases.proofs.cursor.Cursor.lead.Goals as goal

pub returns-clause-kept : goal.returns-clause-kept
returns-clause-kept c =
    let next = found_is _ _ c.in_ok-lead.field-0 c.in-Some-2.lead c.in-Some-2.is c.in_ok-lead.ensures.ok in
    rw (← c.self.view_is) (taken_whole (record { rest = c.self.inside.terminals; end = c.self.inside.end; opened = c.self.inside.opened }) next.0 c.lead.new.self c.in-Some.sort c.in-Some-2.lead.end c.in_ok-opened.opened next.1 (sym c.self.invariant ∙ c.in-Some.is) c.in_ok-opened.ensures.opened c.in_ok-opened.ensures.small next.2.2)

pub returns-clause-next : goal.returns-clause-next
returns-clause-next c =
    let next = found_is _ _ c.in_ok-lead.field-0 c.in-Some-2.lead c.in-Some-2.is c.in_ok-lead.ensures.ok in
    rw (← c.self.view_is) (next.0.spot, next.1 ∙ ap (λ k. token k next.0.spot ∷ c.lead.new.self) (sym next.2.0), next.2.1, next.2.3, next.2.2)

pub returns-clause-shorter : goal.returns-clause-shorter
returns-clause-shorter c =
    let next = found_is _ _ c.in_ok-lead.field-0 c.in-Some-2.lead c.in-Some-2.is c.in_ok-lead.ensures.ok in
    rw (← c.self.view_is) (shorter_by (record { rest = c.self.inside.terminals; end = c.self.inside.end; opened = c.self.inside.opened }) next.0 c.lead.new.self c.in-Some.sort c.in-Some-2.lead.end c.in_ok-opened.opened next.1)
