use Rattle.std.proofs.Common.{refl}
use Rattle.signature_profile.proofs.Members.{args_none, args_more, args_stop, args_all}
use Rattle.signature_profile.proofs.well_named.are_parameters.Goals as goal

pub returns-then-not-is_parameter : goal.returns-then-not-is_parameter
returns-then-not-is_parameter c = (
  λ h. absurd (cc),
  λ w. absurd (args_stop c.args.classes.now c.args.args.now c.loop-arg.arg-index c.arg-item.result c.loop-arg.invariant c.loop-arg-test.true c.arg-item.is
      (λ p. let e = c.is_parameter.ensures.1 p in cc) w),
)

pub loop-arg-init : goal.loop-arg-init
loop-arg-init c = args_none c.args.classes.now c.args.args.now

pub loop-arg-preserved : goal.loop-arg-preserved
loop-arg-preserved c =
    args_more c.args.classes.now c.args.args.now c.loop-arg.arg-index c.arg-item.result c.loop-arg.invariant c.loop-arg-test.true c.arg-item.is
    (c.is_parameter.ensures.0 cc)

pub returns : goal.returns
returns c = (λ h. args_all c.args.classes.now c.args.args.now c.loop-arg.arg-index c.loop-arg.invariant c.loop-arg-test.false, λ w. refl)
