use Rattle.std.proofs.Common.{refl, sym, subst}
use Rattle.body_check.specs.Matching.{SameNames, method_names}
use Rattle.body_check.proofs.PlainNames.{defined_plain}
use Rattle.body_check.proofs.matching.defines_just.Goals as goal

pub returns-then-not-branch : goal.returns-then-not-branch
returns-then-not-branch c =
    let same = rw c.if-not-branch.true at c.in_ok-have_names.ensures in
    (λ f. absurd (cc), λ d. same.1 (subst (SameNames (method_names c.args.methods.now)) (defined_plain c.args.definitions.now) d.names))

pub returns : goal.returns
returns c =
    let same = rw c.if-not-branch.false at c.in_ok-have_names.ensures in
    (λ t. record { names = subst (SameNames (method_names c.args.methods.now)) (sym (defined_plain c.args.definitions.now)) (same.0 refl); arities = c.have_arity.ensures.0 t }, λ d. c.have_arity.ensures.1 d.arities)
