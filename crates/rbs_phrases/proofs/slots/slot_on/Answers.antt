use Rattle.std.proofs.Common.{sym, ◌∙◌, ap, subst, ◌∷◌}
use Rattle.rbs_types.specs.Symbols.{token}
use Rattle.rbs_phrases.specs.Slots.{Slotted}
use Rattle.rbs_phrases.proofs.Read.{if_ok}
use Rattle.rbs_phrases.proofs.SlotsRead.{rest_slot}
use Rattle.rbs_phrases.proofs.slots.slot_on.Goals as goal

pub returns-in_ok-kind-2-clause-phrase : goal.returns-in_ok-kind-2-clause-phrase
returns-in_ok-kind-2-clause-phrase c =
    let first = c.in_ok-kind.ensures.next in
    let second = c.in_ok-kind-2.ensures.next in
    let is = first.1 ∙ ap (λ k. token k first.0 ∷ c.kind.new.self.rest) (c.is_mark.ensures.0 c.if-is_mark.true) in
    if_ok c.slot_from.result
    (λ found h. (h.0, subst (λ ts. Slotted found.0 c.args.before.now ts (token found.1 h.0 ∷ c.slot_from.new.cursor.rest)) (sym is) (rw second.1 h.1)))
    (c.slot_from.ensures.phrase first.0 second.0)

pub returns-in_ok-kind-3-clause-phrase : goal.returns-in_ok-kind-3-clause-phrase
returns-in_ok-kind-3-clause-phrase c =
    let first = c.in_ok-kind.ensures.next in
    let second = c.in_ok-kind-3.ensures.next in
    (second.0, rw (sym second.1) (rest_slot c.args.before.now c.in_ok-kind.kind first.0 c.args.cursor.now.rest c.kind.new.self.rest (c.is_mark-else-is_mark.ensures.0 c.if-is_mark-2.true) first.1 (sym c.takes_optional.ensures ∙ c.if-not-takes_optional.false)))

pub returns-else-is_mark-2-clause-phrase : goal.returns-else-is_mark-2-clause-phrase
returns-else-is_mark-2-clause-phrase c =
    let first = c.in_ok-kind.ensures.next in
    if_ok c.slot_from-else-is_mark-2.result
    (λ found h. (h.0, rw first.1 h.1))
    (c.slot_from-else-is_mark-2.ensures.phrase first.0 first.0)
