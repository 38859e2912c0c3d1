use Rattle.rbs_types.specs.Grammar.{of_class_or_interface}
use Rattle.rbs_declarations.specs.Machine.{first_on}
use Rattle.rbs_declarations.proofs.params.bound_begins.Goals as goal

pub returns : goal.returns
returns c = c.bound_goes.ensures (first_on of_class_or_interface c.args.name c.args.kind) c.args.kind c.in_ok-progress.ensures
