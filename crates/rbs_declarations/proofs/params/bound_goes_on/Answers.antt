use Rattle.rbs_types.specs.Grammar.{of_class_or_interface}
use Rattle.rbs_declarations.specs.Machine.{naming_on}
use Rattle.rbs_declarations.proofs.params.bound_goes_on.Goals as goal

pub returns : goal.returns
returns c = c.bound_goes.ensures (naming_on of_class_or_interface c.args.naming c.args.token.kind c.args.token.spot) c.args.token.kind c.in_ok-progress.ensures
