use Rattle.std.proofs.Common.{arith, rules}
use Rattle.names.proofs.Rest.{not_distinct, names_on, distinct_on}
use Rattle.names.proofs.named.names_of.Goals as goal

pub returns-then-not-branch : goal.returns-then-not-branch
returns-then-not-branch g c = λ distinct. not_distinct g.T.Named.name_of c.args.items.now c.loop-item.item-index c.item-item.result (omega arith) c.item-item.is c.loop-item.names c.loop-item.invariant.names (search rules) distinct

pub loop-item-preserved : goal.loop-item-preserved
loop-item-preserved g c = record {
  names = search (rules, names_on g.T.Named.name_of c.args.items.now c.loop-item.item-index c.item-item.result (omega arith) c.item-item.is c.loop-item.names c.loop-item.invariant.names);
  distinct = search (rules, distinct_on (g.T.Named.name_of c.item-item.result) c.loop-item.names c.loop-item.invariant.distinct);
}
