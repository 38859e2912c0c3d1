use Rattle.rbs_phrases.proofs.Read.{if_ok}
use Rattle.rbs_phrases.proofs.types.type_on.Goals as goal

pub returns-clause-phrase : goal.returns-clause-phrase
returns-clause-phrase c =
    let next = c.in_ok-kind.ensures.next in
    if_ok c.type_from.result (λ t h. rw next.1 h) (c.type_from.ensures.phrase next.0)
