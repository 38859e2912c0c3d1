use Rattle.std.proofs.Common.{◌-◌, ◌^◌, get_or, refl, arith}
use Rattle.rbs_terminals.proofs.Numbers.{next_digit}
use Rattle.rbs_terminals.proofs.values.magnitude.Goals as goal

pub overflow_mul-value : goal.overflow_mul-value
overflow_mul-value c =
    omega (arith, next_digit (2 ^ 63) c.loop-digit.value c.loop-digit.digit-index (get_or c.args.digits.now c.loop-digit.digit-index 0 - 48) c.args.digits.now c.loop-digit-test.true refl c.loop-digit.invariant.run c.requires)

pub overflow_add-value : goal.overflow_add-value
overflow_add-value c =
    omega (arith, c.from.ensures, c.saturating_sub.ensures, next_digit (2 ^ 63) c.loop-digit.value c.loop-digit.digit-index (get_or c.args.digits.now c.loop-digit.digit-index 0 - 48) c.args.digits.now c.loop-digit-test.true refl c.loop-digit.invariant.run c.requires)
