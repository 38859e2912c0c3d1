use Rattle.std.proofs.Common.{◌≡◌, map}
use Rattle.sig_model.proofs.Unnamed.{unnamed_arg}
use Rattle.sig_model.proofs.build.unnamed_args.Given as goal

abbrev pub invariant-loop-ty : goal.invariant-loop-ty
invariant-loop-ty l = l.args ≡ map unnamed_arg l.yielded
