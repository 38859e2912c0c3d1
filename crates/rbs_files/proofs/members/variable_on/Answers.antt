use Rattle.rbs_files.proofs.MembersRead.{variable_read}
use Rattle.rbs_files.proofs.members.variable_on.Goals as goal

pub returns-clause-phrase : goal.returns-clause-phrase
returns-clause-phrase c = variable_read _ c.args.name c.variable.ensures c.in_ok-expect.ensures.marked c.in_ok-ty.ensures.phrase
