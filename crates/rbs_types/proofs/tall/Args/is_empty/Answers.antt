use Rattle.rbs_types.proofs.Empty.{no_arg_is}
use Rattle.rbs_types.proofs.tall.Args.is_empty.Goals as goal

pub returns : goal.returns
returns c = rw (← c.self.view_is) (no_arg_is c.is_empty.result _ c.is_empty.ensures)
