use Rattle.std.proofs.Common.{◌≡◌, ◌++◌, drop}
use Rattle.ruby_reader.specs.PlainLaws.{plain_openings}
use Rattle.body_check.specs.Walk.{faults_of_openings}
use Rattle.body_check.proofs.expressions.Checker.check_openings.Given as goal

abbrev pub invariant-loop-opening : goal.invariant-loop-opening
invariant-loop-opening l = l.list ++ faults_of_openings l.self.file l.self.classes.now (plain_openings (drop l.opening-index l.openings)) ≡ l.initial.list ++ faults_of_openings l.self.file l.self.classes.now (plain_openings l.openings)
