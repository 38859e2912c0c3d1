use Rattle.signature_profile.proofs.Shapes.{some_args}
use Rattle.signature_profile.proofs.shape.no_arg.Goals as goal

pub returns-in-len1-up : goal.returns-in-len1-up
returns-in-len1-up c = some_args c.args.args.now c.in-len1-up.len_at_least
