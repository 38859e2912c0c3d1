use Rattle.rbs_files.proofs.MembersRead.{attribute_read}
use Rattle.rbs_files.proofs.methods.attribute_on.Goals as goal

pub returns-clause-phrase : goal.returns-clause-phrase
returns-clause-phrase c =
    let next = c.in_ok-kind.ensures.next in
    attribute_read _ _ c.attribute.ensures c.in_ok-kind.kind next.0 next.1 c.in_ok-name.ensures c.in_ok-expect.ensures.marked c.in_ok-ty.ensures.phrase
