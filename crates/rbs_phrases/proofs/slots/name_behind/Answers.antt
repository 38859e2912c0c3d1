use Rattle.std.proofs.Common.{sym, ◌∙◌}
use Rattle.rbs_phrases.proofs.SlotsRead.{named_slot, unnamed_slot}
use Rattle.rbs_phrases.proofs.slots.name_behind.Goals as goal

pub returns-then-is_key-clause-phrase : goal.returns-then-is_key-clause-phrase
returns-then-is_key-clause-phrase c t ts d = unnamed_slot c.args.slot.now t ts c.args.cursor.now.rest d

pub returns-then-not-word_next-clause-phrase : goal.returns-then-not-word_next-clause-phrase
returns-then-not-word_next-clause-phrase c t ts d = unnamed_slot c.args.slot.now t ts c.args.cursor.now.rest d

pub returns-clause-phrase : goal.returns-clause-phrase
returns-clause-phrase c t ts d = named_slot c.args.slot.now c.in_ok-kind.kind c.in_ok-word.word t ts c.args.cursor.now.rest c.kind.new.self.rest (sym c.is_key.ensures ∙ c.if-is_key.false) c.in_ok-kind.ensures.next c.in_ok-word.ensures d
