use Rattle.std.proofs.Common.{[], ◌∙◌, sym, subst}
use Rattle.std.specs.Prelude.{IfOk, IsTrue, ◌↔◌}
use Rattle.ruby_reader.specs.PlainLaws.{plain_definitions}
use Rattle.body_check.specs.Matching.{DefinesJust}
use Rattle.body_check.proofs.Indexed.{methods_found, no_methods_found}
use Rattle.body_check.proofs.matching.is_defined.Goals as goal

pub returns-in-Some : goal.returns-in-Some
returns-in-Some c =
    let methods = c.as_slice.ensures ∙ sym (methods_found c.args.classes.now c.args.index.now c.requires.index c.args.opening.now.name c.in-Some.place c.index-classes-place.result c.in-Some.ensures) in
    subst (λ ms. IfOk c.defines_just.result (λ same. IsTrue same ↔ DefinesJust ms (plain_definitions c.args.opening.now.definitions))) methods
    (subst (λ ds. IfOk c.defines_just.result (λ same. IsTrue same ↔ DefinesJust c.as_slice.result.now (plain_definitions ds))) c.as_slice-definitions.ensures c.defines_just.ensures)

pub returns-in-None : goal.returns-in-None
returns-in-None c =
    let none = no_methods_found c.args.classes.now c.args.index.now c.requires.index c.args.opening.now.name c.in-None.ensures in
    subst (λ ms. IfOk c.defines_just-in-None-2.result (λ same. IsTrue same ↔ DefinesJust ms (plain_definitions c.args.opening.now.definitions))) (sym none)
    (subst (λ ds. IfOk c.defines_just-in-None-2.result (λ same. IsTrue same ↔ DefinesJust [] (plain_definitions ds))) c.as_slice-definitions.ensures c.defines_just-in-None-2.ensures)
