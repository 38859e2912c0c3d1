use Rattle.std.proofs.Common.{◌↔◌, drop}
use Rattle.std.specs.List.{AllByRecursion}
use Rattle.ruby_reader.specs.PlainLaws.{plain_definitions}
use Rattle.ruby_reader.specs.Scopes.{HasScope}
use Rattle.ruby_reader.proofs.scopes.have_scope.Given as goal

abbrev pub invariant-loop-definition : goal.invariant-loop-definition
invariant-loop-definition l = AllByRecursion (HasScope l.classes) (plain_definitions l.definitions) ↔ AllByRecursion (HasScope l.classes) (plain_definitions (drop l.definition-index l.definitions))
