use Rattle.std.proofs.Common.{refl}
use Rattle.signature_profile.proofs.Shapes.{methods_more, methods_stop, methods_all}
use Rattle.signature_profile.proofs.shape.are_methods.Goals as goal

pub returns-then-not-is_plain_part : goal.returns-then-not-is_plain_part
returns-then-not-is_plain_part c =
    methods_stop c.args.parts.now c.loop-part.part-index c.part-item.result c.is_plain_part.result c.loop-part.invariant c.loop-part-test.true c.part-item.is c.is_plain_part.ensures c.if-not-is_plain_part.true

pub loop-part-init : goal.loop-part-init
loop-part-init c = record { same = refl }

pub loop-part-preserved : goal.loop-part-preserved
loop-part-preserved c =
    methods_more c.args.parts.now c.loop-part.part-index c.part-item.result c.is_plain_part.result c.loop-part.invariant c.loop-part-test.true c.part-item.is c.is_plain_part.ensures c.if-not-is_plain_part.false

pub returns : goal.returns
returns c = methods_all c.args.parts.now c.loop-part.part-index c.loop-part.invariant c.loop-part-test.false
