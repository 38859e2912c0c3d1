use Rattle.rbs_files.proofs.MembersRead.{member_ended}
use Rattle.rbs_files.proofs.members.keyword_from.Goals as goal

pub returns-clause-phrase : goal.returns-clause-phrase
returns-clause-phrase c s ends = member_ended c.args.cursor.now c.unseen_from.new.cursor _ c.end_here.ensures c.in_ok-member.ensures.kept (c.in_ok-member.ensures.phrase s)
