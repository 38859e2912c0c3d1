use Rattle.std.proofs.Common.{◌++◌}
use Rattle.std.specs.Option.{option_to_list}
use Rattle.rbs_declarations.proofs.Main.{files_are_spelled_once}
use Rattle.rbs_declarations.proofs.text.read_file.Goals as goal

pub returns-in_err-start-clause-once : goal.returns-in_err-start-clause-once
returns-in_err-start-clause-once c = λ ds es h k. files_are_spelled_once c.args.file ds es (c.args.terminals ++ option_to_list c.args.stop) h k

pub returns-clause-once : goal.returns-clause-once
returns-clause-once c = λ ds es h k. files_are_spelled_once c.args.file ds es (c.args.terminals ++ option_to_list c.args.stop) h k
