use Rattle.rbs_files.proofs.MembersRead.{own_variable}
use Rattle.rbs_files.proofs.members.own_variable_on.Goals as goal

pub returns-in-Variable-clause-phrase : goal.returns-in-Variable-clause-phrase
returns-in-Variable-clause-phrase c s last =
    let next = c.in_ok-name.ensures.next in
    c.variable_on.ensures.phrase next.0 _ last (own_variable c.in-Variable.name c.in_ok-expect.ensures.marked c.in_ok-name.field-0 next.0 next.1 c.in-Variable.is s)
