use Rattle.std.proofs.Common.{◌++◌}
use Rattle.std.specs.Option.{option_to_list}
use Rattle.rbs_types.proofs.Main.{types_are_spelled_once}
use Rattle.rbs_types.proofs.text.read_type.Goals as goal

pub returns-in_err-start-clause-once : goal.returns-in_err-start-clause-once
returns-in_err-start-clause-once c = λ t u h k. types_are_spelled_once t u (c.args.terminals ++ option_to_list c.args.stop) h k

pub returns-clause-once : goal.returns-clause-once
returns-clause-once c = λ t u h k. types_are_spelled_once t u (c.args.terminals ++ option_to_list c.args.stop) h k
