use Rattle.rbs_files.proofs.MembersRead.{alias_read}
use Rattle.rbs_files.proofs.members.alias_on.Goals as goal

pub returns-clause-phrase : goal.returns-clause-phrase
returns-clause-phrase c = alias_read _ c.method_alias.ensures c.in_ok-new.ensures.phrase c.in_ok-old.ensures.phrase
