use Rattle.signature_profile.proofs.Members.{ArgsRead}
use Rattle.signature_profile.proofs.well_named.are_parameters.Given as goal

abbrev pub invariant-loop-arg : goal.invariant-loop-arg
invariant-loop-arg l = ArgsRead l.classes l.args l.arg-index
