use Rattle.ruby_reader.proofs.Heights.{leaf-Local}
use Rattle.ruby_reader.proofs.tall.Tall.local.Goals as goal

pub invariant_of-result : goal.invariant_of-result
invariant_of-result c = leaf-Local c.args.name
