use Rattle.std.proofs.Common.{refl, sym, subst, map}
use Rattle.std.specs.Prelude.{IfOk, IsTrue, ◌↔◌}
use Rattle.std.specs.List.{AllByRecursion}
use Rattle.ruby_reader.specs.declared.tree.Opening.{Opening}
use Rattle.ruby_reader.specs.PlainLaws.{plain_openings, plain_program}
use Rattle.body_check.specs.Matching.{SameNames, class_names, IsDefined}
use Rattle.body_check.proofs.PlainNames.{opened_plain}
use Rattle.body_check.proofs.Matched.{matched}
use Rattle.body_check.proofs.matching.matches.Goals as goal

pub returns-then-not-branch : goal.returns-then-not-branch
returns-then-not-branch c =
    let same = rw c.if-not-branch.true at c.in_ok-have_names.ensures in (
      λ f. absurd (cc),
      λ m. same.1 (subst (λ os. SameNames (class_names c.args.classes.now) (map (λ (o : Opening). o.name) os)) (sym c.as_slice-openings.ensures)
          (subst (SameNames (class_names c.args.classes.now)) (opened_plain c.args.program.now.openings) m.opened)),
    )

pub returns : goal.returns
returns c =
    let same = rw c.if-not-branch.false at c.in_ok-have_names.ensures in
    let opened = subst (SameNames (class_names c.args.classes.now)) (sym (opened_plain c.args.program.now.openings))
    (subst (λ os. SameNames (class_names c.args.classes.now) (map (λ (o : Opening). o.name) os)) c.as_slice-openings.ensures (same.0 refl)) in
    matched c.args.classes.now (plain_program c.args.program.now) c.requires.declared opened c.are_defined.result
    (subst (λ os. IfOk c.are_defined.result (λ same. IsTrue same ↔ AllByRecursion (IsDefined c.args.classes.now) (plain_openings os))) c.as_slice-openings.ensures c.are_defined.ensures)
