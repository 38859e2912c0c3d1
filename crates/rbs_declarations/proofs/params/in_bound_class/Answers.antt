use Rattle.rbs_types.specs.Grammar.{of_class}
use Rattle.rbs_declarations.specs.Machine.{naming_on}
use Rattle.rbs_declarations.proofs.params.in_bound_class.Goals as goal

pub returns : goal.returns
returns c = c.bound_class_goes.ensures (naming_on of_class c.args.naming c.args.token.kind c.args.token.spot) c.args.token.kind c.in_ok-progress.ensures
