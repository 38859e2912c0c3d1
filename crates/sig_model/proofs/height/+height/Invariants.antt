use Rattle.std.proofs.Common.{◌≡◌, ◌<◌, ◌^◌, max, drop}
use Rattle.sig_model.specs.PlainTy.{plain_tys, plain_keys, plain_args}
use Rattle.sig_model.specs.Height.{tallest, tallest_arg, tallest_key}
use Rattle.sig_model.proofs.height.+height.Given as goal

abbrev pub invariant-tallest_of-loop-ty : goal.invariant-tallest_of-loop-ty
invariant-tallest_of-loop-ty l = tallest (plain_tys l.types) < 2 ^ 32 → max l.most (tallest (plain_tys (drop l.ty-index l.types))) ≡ tallest (plain_tys l.types)

abbrev pub invariant-tallest_key_of-loop-key : goal.invariant-tallest_key_of-loop-key
invariant-tallest_key_of-loop-key l = tallest_key (plain_keys l.keys) < 2 ^ 32 → max l.most (tallest_key (plain_keys (drop l.key-index l.keys))) ≡ tallest_key (plain_keys l.keys)

abbrev pub invariant-tallest_arg_of-loop-arg : goal.invariant-tallest_arg_of-loop-arg
invariant-tallest_arg_of-loop-arg l = tallest_arg (plain_args l.args) < 2 ^ 32 → max l.most (tallest_arg (plain_args (drop l.arg-index l.args))) ≡ tallest_arg (plain_args l.args)
