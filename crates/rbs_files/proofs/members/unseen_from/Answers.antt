use Rattle.std.proofs.Common.{sym, ◌∙◌}
use Rattle.rbs_declarations.specs.Grammar.{unsaid}
use Rattle.rbs_phrases.proofs.Read.{if_ok}
use Rattle.rbs_files.proofs.MembersRead.{mixin_read}
use Rattle.rbs_files.proofs.members.unseen_from.Goals as goal

pub returns-in-Alias-clause-phrase : goal.returns-in-Alias-clause-phrase
returns-in-Alias-clause-phrase c s last = rw c.in-Alias.is (c.alias_on.ensures.phrase c.args.room s last)

pub returns-in-SelfWord-clause-phrase : goal.returns-in-SelfWord-clause-phrase
returns-in-SelfWord-clause-phrase c s last = rw c.in-SelfWord.is (c.own_variable_on.ensures.phrase s last)

pub returns-in-Some-clause-phrase : goal.returns-in-Some-clause-phrase
returns-in-Some-clause-phrase c s last =
    if_ok c.mixin_on.result (λ m h. mixin_read _ h.1 h.2 c.args.keyword (sym c.mixin_of.ensures ∙ c.in-Some.is) s last) c.mixin_on.ensures.phrase

pub returns-in-None-clause-phrase : goal.returns-in-None-clause-phrase
returns-in-None-clause-phrase c s last = c.seen_from.ensures.phrase s _ last unsaid
