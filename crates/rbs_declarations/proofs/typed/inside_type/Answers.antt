use Rattle.rbs_types.specs.Machine as types
use Rattle.rbs_declarations.proofs.typed.inside_type.Goals as goal

pub returns : goal.returns
returns c = c.typed.ensures (types.next c.args.inner c.args.token) c.advance-stepped.ensures
