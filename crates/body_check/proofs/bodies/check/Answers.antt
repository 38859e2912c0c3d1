use Rattle.std.proofs.Common.{◌∙◌, refl, sym, subst}
use Rattle.ruby_reader.specs.PlainLaws.{plain_program}
use Rattle.body_check.specs.Faults.{OfProgram}
use Rattle.body_check.proofs.JudgedFaults.{of_program, only_list}
use Rattle.body_check.proofs.bodies.check.Goals as goal

pub returns-clause-answer : goal.returns-clause-answer
returns-clause-answer c =
    let p = plain_program c.args.program.now in
    let same = rw c.if-not-branch.false at c.in_ok-matches.ensures in
    let m = same.0 refl in
    let is = c.in_ok-check_program.ensures in
    (m, subst (OfProgram c.args.file c.args.classes.now p) (sym is) (of_program c.args.file c.args.classes.now p m), λ other o. only_list c.args.file c.args.classes.now p other o ∙ sym is)
