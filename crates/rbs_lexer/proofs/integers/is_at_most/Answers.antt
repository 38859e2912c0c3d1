use Rattle.std.proofs.Common.{◌∙◌}
use Rattle.rbs_lexer.proofs.Values.{exceeds}
use Rattle.rbs_lexer.proofs.integers.is_at_most.Goals as goal

pub returns-then-value-limit : goal.returns-then-value-limit
returns-then-value-limit c =
    exceeds c.args.limit c.loop-digit.value c.loop-digit.digit-index c.from-digit.result c.args.digits.now c.loop-digit-test.true (c.from-digit.ensures ∙ c.saturating_sub.ensures) c.if-value-limit.true c.loop-digit.invariant.run
