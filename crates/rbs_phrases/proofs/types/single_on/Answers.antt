use Rattle.rbs_phrases.proofs.TypesRead.{single_read}
use Rattle.rbs_phrases.proofs.types.single_on.Goals as goal

pub returns-clause-phrase : goal.returns-clause-phrase
returns-clause-phrase c s = rw c.single.ensures (single_read s c.in_ok-expect.ensures.marked c.in_ok-name.ensures.phrase c.in_ok-expect-2.ensures.marked)
