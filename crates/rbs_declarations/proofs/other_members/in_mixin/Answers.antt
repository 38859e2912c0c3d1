use Rattle.rbs_declarations.specs.Machine.{naming_on, mixin_use, site_of}
use Rattle.rbs_declarations.proofs.other_members.in_mixin.Goals as goal

pub returns : goal.returns
returns c =
    c.mixin_goes.ensures (naming_on (mixin_use (site_of c.args.around.frames)) c.args.naming c.args.token.kind c.args.token.spot) c.args.token.kind c.in_ok-progress.ensures
