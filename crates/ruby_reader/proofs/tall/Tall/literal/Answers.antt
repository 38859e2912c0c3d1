use Rattle.ruby_reader.proofs.Heights.{leaf-Literal}
use Rattle.ruby_reader.proofs.tall.Tall.literal.Goals as goal

pub invariant_of-result : goal.invariant_of-result
invariant_of-result c = leaf-Literal c.args.literal
