use Rattle.diagnostics.proofs.Sorting.{equal_exactly}
use Rattle.diagnostics.proofs.order.is_same.Goals as goal

pub returns : goal.returns
returns c = equal_exactly c.args.left.now c.args.right.now c.compare.result c.is_eq.result c.compare.ensures c.is_eq.ensures
