use Rattle.std.proofs.Common.{◌↔◌, drop}
use Rattle.std.specs.List.{AllByRecursion}
use Rattle.ruby_reader.specs.PlainTree.{PlainOpening}
use Rattle.ruby_reader.specs.PlainLaws.{plain_openings}
use Rattle.ruby_reader.specs.Scopes.{HasScope}
use Rattle.ruby_reader.proofs.scopes.classes_have_scope.Given as goal

abbrev pub invariant-loop-opening : goal.invariant-loop-opening
invariant-loop-opening l =
    let scoped = λ (o : PlainOpening). AllByRecursion (HasScope l.classes) o.definitions in
    AllByRecursion scoped (plain_openings l.openings) ↔ AllByRecursion scoped (plain_openings (drop l.opening-index l.openings))
