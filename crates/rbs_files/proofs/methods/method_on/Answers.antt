use Rattle.rbs_files.proofs.MembersRead.{method_read}
use Rattle.rbs_files.proofs.methods.method_on.Goals as goal

pub returns-clause-phrase : goal.returns-clause-phrase
returns-clause-phrase c =
    let named = c.in_ok-single.ensures.phrase in
    method_read _ c.method.ensures named.1 named.2 c.in_ok-expect.ensures.marked c.in_ok-overloads.ensures.phrase
