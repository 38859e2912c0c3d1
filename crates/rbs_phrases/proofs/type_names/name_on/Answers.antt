use Rattle.rbs_phrases.proofs.Read.{if_ok}
use Rattle.rbs_phrases.proofs.type_names.name_on.Goals as goal

pub returns-clause-phrase : goal.returns-clause-phrase
returns-clause-phrase c =
    let next = c.in_ok-kind.ensures.next in
    if_ok c.name_from.result (λ n h. rw next.1 h) (c.name_from.ensures.phrase next.0)
