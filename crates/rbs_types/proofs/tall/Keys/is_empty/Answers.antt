use Rattle.rbs_types.proofs.Empty.{no_key_is}
use Rattle.rbs_types.proofs.tall.Keys.is_empty.Goals as goal

pub returns : goal.returns
returns c = rw (← c.self.view_is) (no_key_is c.is_empty.result _ c.is_empty.ensures)
