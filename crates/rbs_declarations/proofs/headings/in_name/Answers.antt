use Rattle.rbs_declarations.specs.Machine.{naming_on, use_of}
use Rattle.rbs_declarations.proofs.headings.in_name.Goals as goal

pub returns : goal.returns
returns c =
    c.name_goes.ensures (naming_on (use_of c.args.sort) c.args.naming c.args.token.kind c.args.token.spot) c.args.token.kind (rw c.use_of.ensures at c.in_ok-progress.ensures)
