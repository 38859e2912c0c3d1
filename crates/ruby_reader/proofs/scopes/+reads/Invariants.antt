use Rattle.std.proofs.Common.{◌↔◌, drop}
use Rattle.ruby_reader.specs.PlainLaws.{plain_expressions}
use Rattle.ruby_reader.specs.Scopes.{ReadsEach}
use Rattle.ruby_reader.proofs.scopes.+reads.Given as goal

abbrev pub invariant-reads_each-loop-expression : goal.invariant-reads_each-loop-expression
invariant-reads_each-loop-expression l = ReadsEach l.classes l.locals (plain_expressions l.expressions) ↔ ReadsEach l.classes l.locals (plain_expressions (drop l.expression-index l.expressions))
