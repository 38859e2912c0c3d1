use Rattle.std.proofs.Common.{◌≡◌, ◌++◌, drop}
use Rattle.ruby_reader.specs.PlainLaws.{plain_expressions}
use Rattle.body_check.specs.Walk.{types_of, joined, faults_of_each}
use Rattle.body_check.proofs.expressions.Checker.+check.Given as goal

abbrev pub invariant-check_each-loop-expression : goal.invariant-check_each-loop-expression
invariant-check_each-loop-expression l =
    (joined l.types (types_of l.self.classes.now l.locals.entries (plain_expressions (drop l.expression-index l.expressions))) ≡ types_of l.self.classes.now l.locals.entries (plain_expressions l.expressions))
    × (l.list ++ faults_of_each l.self.file l.self.classes.now l.locals.entries (plain_expressions (drop l.expression-index l.expressions)) ≡ l.initial.list ++ faults_of_each l.self.file l.self.classes.now l.locals.entries (plain_expressions l.expressions))
