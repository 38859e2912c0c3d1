use Rattle.rbs_types.proofs.Unended.{unended}
use Rattle.rbs_types.proofs.step.finish.Goals as goal

pub returns-in_default : goal.returns-in_default
returns-in_default c =
    rw c.unfinished.ensures (unended c.args.state.focus c.args.state.frames c.in_default.not-Upper c.in_default.not-Bare c.in_default.not-Simple c.in_default.not-Optional)
