use Rattle.rbs_types.proofs.Empty.{reverse_empty}
use Rattle.rbs_types.proofs.stack.Stack.is_empty.Goals as goal

pub returns : goal.returns
returns g c = rw (← c.self.view_is) (reverse_empty c.is_empty.result _ c.is_empty.ensures)
