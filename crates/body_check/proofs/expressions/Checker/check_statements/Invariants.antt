use Rattle.std.proofs.Common.{◌≡◌, ◌++◌, drop}
use Rattle.std.specs.Prelude.{Some}
use Rattle.ruby_reader.specs.PlainLaws.{plain_statements}
use Rattle.body_check.specs.declared.ty.ValueType.TheVariants as ty
use Rattle.body_check.specs.Walk.{last_type, faults_in}
use Rattle.body_check.proofs.expressions.Checker.check_statements.Given as goal

abbrev pub invariant-loop-statement : goal.invariant-loop-statement
invariant-loop-statement l =
    (last_type l.self.classes.now l.given l.locals.entries (plain_statements (drop l.statement-index l.statements)) ≡ last_type l.self.classes.now (Some ty.Nil) l.fn.locals.entries (plain_statements l.statements))
    × (l.list ++ faults_in l.self.file l.self.classes.now l.locals.entries (plain_statements (drop l.statement-index l.statements)) ≡ l.initial.list ++ faults_in l.self.file l.self.classes.now l.fn.locals.entries (plain_statements l.statements))
