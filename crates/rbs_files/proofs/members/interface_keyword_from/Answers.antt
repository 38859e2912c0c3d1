use Rattle.rbs_phrases.proofs.Read.{if_ok}
use Rattle.rbs_files.proofs.MembersRead.{interface_mixin_read}
use Rattle.rbs_files.proofs.members.interface_keyword_from.Goals as goal

pub returns-in-Def-clause-phrase : goal.returns-in-Def-clause-phrase
returns-in-Def-clause-phrase c s last = rw c.in-Def.is (c.interface_method_on.ensures.phrase s last)

pub returns-in-Include-clause-phrase : goal.returns-in-Include-clause-phrase
returns-in-Include-clause-phrase c s last =
    if_ok c.mixin_on.result (λ m h. interface_mixin_read _ h.1 h.2 c.args.keyword c.in-Include.is s last) c.mixin_on.ensures.phrase
