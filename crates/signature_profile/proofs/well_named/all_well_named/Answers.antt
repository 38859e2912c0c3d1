use Rattle.signature_profile.proofs.Members.{classes_none, classes_more, classes_stop, classes_all}
use Rattle.std.proofs.Common.{refl}
use Rattle.signature_profile.proofs.well_named.all_well_named.Goals as goal

pub returns-then-not-branch : goal.returns-then-not-branch
returns-then-not-branch c = (
  λ h. absurd (cc),
  λ w. absurd (classes_stop c.args.classes.now c.args.decls.now c.loop-decl.decl-index c.decl-item.result c.loop-decl.invariant c.loop-decl-test.true c.decl-item.is
      (rw c.if-not-branch.true at c.in_ok-admits_methods.ensures) w),
)

pub loop-decl-init : goal.loop-decl-init
loop-decl-init c = classes_none c.args.classes.now c.args.decls.now

pub loop-decl-preserved : goal.loop-decl-preserved
loop-decl-preserved c =
    classes_more c.args.classes.now c.args.decls.now c.loop-decl.decl-index c.decl-item.result c.loop-decl.invariant c.loop-decl-test.true c.decl-item.is
    (rw c.if-not-branch.false at c.in_ok-admits_methods.ensures)

pub returns : goal.returns
returns c = (λ h. classes_all c.args.classes.now c.args.decls.now c.loop-decl.decl-index c.loop-decl.invariant c.loop-decl-test.false, λ w. refl)
