use Rattle.std.proofs.Common.{sym, ◌∙◌}
use Rattle.rbs_phrases.specs.Uses.{use_of}
use Rattle.rbs_phrases.proofs.Read.{if_ok}
use Rattle.rbs_phrases.proofs.NamesRead.{last_word}
use Rattle.rbs_phrases.proofs.type_names.words_from.Goals as goal

pub returns-clause-phrase : goal.returns-clause-phrase
returns-clause-phrase c s =
    if_ok c.ended.result (λ n h. c.loop-cursor.invariant.read (use_of c.args.usage) n c.loop-cursor.cursor.rest (last_word c.loop-cursor.kind h (sym c.goes_on.ensures ∙ c.loop-cursor-test.false)) s) c.ended.ensures
