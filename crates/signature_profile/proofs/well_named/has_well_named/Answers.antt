use Rattle.signature_profile.proofs.Members.{parts_none, parts_more, parts_stop, parts_all}
use Rattle.std.proofs.Common.{refl}
use Rattle.signature_profile.proofs.well_named.has_well_named.Goals as goal

pub returns-then-not-branch : goal.returns-then-not-branch
returns-then-not-branch c = (
  λ h. absurd (cc),
  λ w. absurd (parts_stop c.args.classes.now c.loop-part.seen c.admits_part.new.seen c.args.parts.now c.loop-part.part-index c.part-item.result c.loop-part.invariant c.loop-part-test.true c.part-item.is
      (rw c.if-not-branch.true at c.in_ok-admits_part.ensures) w),
)

pub loop-part-init : goal.loop-part-init
loop-part-init c = parts_none c.args.classes.now c.args.parts.now c.new-seen.result c.new-seen.ensures

pub loop-part-preserved : goal.loop-part-preserved
loop-part-preserved c =
    parts_more c.args.classes.now c.loop-part.seen c.admits_part.new.seen c.args.parts.now c.loop-part.part-index c.part-item.result c.loop-part.invariant c.loop-part-test.true c.part-item.is
    (rw c.if-not-branch.false at c.in_ok-admits_part.ensures)

pub returns : goal.returns
returns c = (λ h. parts_all c.args.classes.now c.loop-part.seen c.args.parts.now c.loop-part.part-index c.loop-part.invariant c.loop-part-test.false, λ w. refl)
