use Rattle.std.proofs.Common.{◌≤◌, ◌↔◌, drop}
use Rattle.ruby_reader.specs.Open.{KeepsOpen, KeepsOpenFrom}
use Rattle.ruby_reader.proofs.open.keeps_open.Given as goal

abbrev pub invariant-loop-token : goal.invariant-loop-token
invariant-loop-token l = record {
  low : l.opened ≤ 400;
  same : KeepsOpen l.tokens ↔ KeepsOpenFrom l.opened (drop l.token-index l.tokens);
}
