use Rattle.signature_profile.proofs.Shapes.{some_keys}
use Rattle.signature_profile.proofs.shape.no_key.Goals as goal

pub returns-in-len1-up : goal.returns-in-len1-up
returns-in-len1-up c = some_keys c.args.keys.now c.in-len1-up.len_at_least
