use Rattle.std.proofs.Common.{◌≡◌, ◌∙◌, ◌++◌, sym, ap, subst, append-nil}
use Rattle.std.specs.Prelude.{OnOk}
use Rattle.ruby_reader.specs.PlainLaws.{plain_definitions}
use Rattle.body_check.specs.Walk.{faults_of_definitions}
use Rattle.body_check.proofs.Indexed.{methods_found, no_methods_found, no_methods_no_faults}
use Rattle.body_check.proofs.expressions.Checker.check_opening.Goals as goal

pub returns-in-Some : goal.returns-in-Some
returns-in-Some c =
    let classes = c.args.self.now.classes.now in
    let methods = c.as_slice.ensures ∙ sym (methods_found classes c.args.self.now.index.now c.requires c.args.opening.now.name c.in-Some.place c.index-self-place.result c.in-Some.ensures) in
    subst (λ ms. OnOk c.check_definitions.result (c.check_definitions.new.list ≡ c.args.list.now ++ faults_of_definitions c.args.self.now.file classes ms (plain_definitions c.args.opening.now.definitions))) methods
    (subst (λ ds. OnOk c.check_definitions.result (c.check_definitions.new.list ≡ c.args.list.now ++ faults_of_definitions c.args.self.now.file classes c.as_slice.result.now (plain_definitions ds))) c.as_slice-in-Some-2.ensures c.check_definitions.ensures)

pub returns-in-None : goal.returns-in-None
returns-in-None c =
    let classes = c.args.self.now.classes.now in
    let none = no_methods_found classes c.args.self.now.index.now c.requires c.args.opening.now.name c.in-None.ensures in
    let ds = plain_definitions c.args.opening.now.definitions in
    sym (append-nil c.args.list.now) ∙ ap (λ fs. c.args.list.now ++ fs) (sym (ap (λ ms. faults_of_definitions c.args.self.now.file classes ms ds) none ∙ no_methods_no_faults c.args.self.now.file classes ds))
