use Rattle.std.proofs.Common.{sym, ◌∙◌}
use Rattle.rbs_types.specs.Grammar.{base}
use Rattle.rbs_phrases.proofs.types.keyword_from.Goals as goal

pub returns-in-Some-clause-phrase : goal.returns-in-Some-clause-phrase
returns-in-Some-clause-phrase c s = rw c.base.ensures (base c.args.keyword c.in-Some.base s (sym c.base_of.ensures ∙ c.in-Some.is))
