use Rattle.std.proofs.Common.{◌↔◌, drop}
use Rattle.ruby_reader.specs.PlainLaws.{plain_statements}
use Rattle.ruby_reader.specs.Scopes.{InScope}
use Rattle.ruby_reader.proofs.scopes.in_scope.Given as goal

abbrev pub invariant-loop-statement : goal.invariant-loop-statement
invariant-loop-statement l = InScope l.classes l.fn.locals (plain_statements l.statements) ↔ InScope l.classes l.locals (plain_statements (drop l.statement-index l.statements))
