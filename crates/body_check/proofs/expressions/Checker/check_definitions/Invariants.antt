use Rattle.std.proofs.Common.{◌≡◌, ◌++◌, drop}
use Rattle.ruby_reader.specs.PlainLaws.{plain_definitions}
use Rattle.body_check.specs.Walk.{faults_of_definitions}
use Rattle.body_check.proofs.expressions.Checker.check_definitions.Given as goal

abbrev pub invariant-loop-definition : goal.invariant-loop-definition
invariant-loop-definition l = l.list ++ faults_of_definitions l.self.file l.self.classes.now l.methods (plain_definitions (drop l.definition-index l.definitions)) ≡ l.initial.list ++ faults_of_definitions l.self.file l.self.classes.now l.methods (plain_definitions l.definitions)
