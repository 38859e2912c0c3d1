use Rattle.rbs_files.proofs.MembersRead.{interface_method_read}
use Rattle.rbs_files.proofs.methods.interface_method_on.Goals as goal

pub returns-clause-phrase : goal.returns-clause-phrase
returns-clause-phrase c = interface_method_read _ c.method.ensures c.in_ok-name.ensures.phrase c.in_ok-expect.ensures.marked c.in_ok-overloads.ensures.phrase
