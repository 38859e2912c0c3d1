use Rattle.std.proofs.Common.{◌↔◌, drop}
use Rattle.std.specs.List.{AllByRecursion}
use Rattle.ruby_reader.specs.PlainLaws.{plain_definitions}
use Rattle.body_check.specs.Matching.{HasArity}
use Rattle.body_check.proofs.matching.have_arity.Given as goal

abbrev pub invariant-loop-definition : goal.invariant-loop-definition
invariant-loop-definition l = AllByRecursion (HasArity l.methods) (plain_definitions l.definitions) ↔ AllByRecursion (HasArity l.methods) (plain_definitions (drop l.definition-index l.definitions))
