use Rattle.rbs_phrases.proofs.SlotsRead.{key_named}
use Rattle.rbs_phrases.proofs.slots.key_on.Goals as goal

pub returns-clause-phrase : goal.returns-clause-phrase
returns-clause-phrase c =
    key_named c.args.keys.now c.in_ok-kind.kind c.in_ok-word.word c.in_ok-asked.asked c.args.cursor.now.rest c.skip.new.self.rest c.kind.new.self.rest c.key_from.new.cursor.rest
    c.in_ok-asked.ensures.skipped c.in_ok-kind.ensures.next c.in_ok-word.ensures.name.0 c.in_ok-word.ensures.name.1 c.in_ok-word.ensures.colon
