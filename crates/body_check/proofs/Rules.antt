-- The laws of the twins of expressions, with the usual lemmas on lists.
use Rattle.std.proofs.lemmas.Grind.{common_steps}
use Rattle.ruby_reader.specs.PlainLaws.{plain_laws}

pub ruleset plain_steps = (common_steps, plain_laws)
