use Rattle.std.proofs.Common.{◌≡◌, ◌++◌, drop}
use Rattle.sig_model.specs.PlainTy.{plain_args}
use Rattle.body_check.specs.Table.{types_of}
use Rattle.body_check.proofs.table.types_of.Given as goal

abbrev pub invariant-loop-arg : goal.invariant-loop-arg
invariant-loop-arg l = l.types ++ types_of (plain_args (drop l.arg-index l.args)) ≡ types_of (plain_args l.args)
