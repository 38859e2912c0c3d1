use Rattle.signature_profile.proofs.Shapes.{more_overloads}
use Rattle.signature_profile.proofs.shape.is_one_overload.Goals as goal

pub returns-in_default-2 : goal.returns-in_default-2
returns-in_default-2 c = more_overloads c.args.overloads.now c.in_default.len_at_least
