use Rattle.rbs_types.specs.Machine as types
use Rattle.rbs_declarations.proofs.typed.function_begins.Goals as goal

pub returns : goal.returns
returns c = c.newly_typed.ensures (types.next types.start_function c.args.token) c.function_entered-stepped.ensures
