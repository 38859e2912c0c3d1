use Rattle.signature_profile.proofs.Shapes.{some_params}
use Rattle.signature_profile.proofs.shape.no_param.Goals as goal

pub returns-in-len1-up : goal.returns-in-len1-up
returns-in-len1-up c = some_params c.args.params.now c.in-len1-up.len_at_least
