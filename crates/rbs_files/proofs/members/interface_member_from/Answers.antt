use Rattle.rbs_files.proofs.MembersRead.{interface_member_ended}
use Rattle.rbs_files.proofs.members.interface_member_from.Goals as goal

pub returns-clause-phrase : goal.returns-clause-phrase
returns-clause-phrase c s =
    rw c.in_ok-keyword.ensures (interface_member_ended c.args.cursor.now c.interface_keyword_from.new.cursor _ c.end_here.ensures c.in_ok-member.ensures.kept (c.in_ok-member.ensures.phrase s))
