use Rattle.std.proofs.Common.{sym, ◌∙◌, subst, ◌∷◌}
use Rattle.rbs_types.specs.declared.state.Slot.{Slot}
use Rattle.rbs_types.specs.declared.state.Slot.TheVariants as slot
use Rattle.rbs_types.specs.Symbols.{token}
use Rattle.rbs_phrases.specs.Slots.{Slotted, asked}
use Rattle.rbs_phrases.proofs.SlotsRead.{keyword_slot, plain_slot}
use Rattle.rbs_phrases.proofs.slots.slot_from.Goals as goal

pub returns-in_ok-kind-clause-phrase : goal.returns-in_ok-kind-clause-phrase
returns-in_ok-kind-clause-phrase c s s' =
    let next = c.in_ok-kind.ensures.next in (
      next.0,
      subst (λ ts. Slotted (slot.Key c.in_ok-key.key c.args.needed) c.args.before.now (asked c.args.needed s (token c.args.kind s' ∷ c.args.cursor.now.rest)) ts) next.1
          (keyword_slot c.args.before.now c.args.kind c.in_ok-key.key c.args.needed s s' c.args.cursor.now.rest c.key_from.new.cursor.rest c.in_ok-key.ensures.name.0 c.in_ok-key.ensures.name.1 c.in_ok-key.ensures.colon),
    )

pub returns-then-takes-clause-phrase : goal.returns-then-takes-clause-phrase
returns-then-takes-clause-phrase c s s' =
    let ts = token c.args.kind s' ∷ c.args.cursor.now.rest in
    (s', subst (λ (x : Slot). Slotted x c.args.before.now (asked c.args.needed s ts) ts) (sym c.slot_of.ensures) (plain_slot c.args.before.now c.args.needed s ts (sym c.takes.ensures ∙ c.if-takes.true)))
