use Rattle.std.proofs.Common.{arith, rules, ◌≡◌, true, false, List, ℕ}
use Rattle.names.specs.Places.{is_among}
use Rattle.names.proofs.Rest.{all_left, all_back}
use Rattle.names.proofs.named.all_among.Goals as goal

pub returns-then-not-contains : goal.returns-then-not-contains
returns-then-not-contains g c =
    let P : List ℕ → Type 0 = λ n. is_among n c.args.names.now ≡ true in
    let missing : is_among (g.T.Named.name_of c.item-item.result) c.args.names.now ≡ false = search rules in
    (λ e. search rules, λ all. let here : is_among (g.T.Named.name_of c.item-item.result) c.args.names.now ≡ true = (all_left g.T.Named.name_of c.args.items.now c.loop-item.item-index c.item-item.result (omega arith) c.item-item.is P (c.loop-item.invariant.on all)).0 in absurd (cc))

pub loop-item-preserved : goal.loop-item-preserved
loop-item-preserved g c =
    let P : List ℕ → Type 0 = λ n. is_among n c.args.names.now ≡ true in
    let here : is_among (g.T.Named.name_of c.item-item.result) c.args.names.now ≡ true = search rules in
    record {
      on = λ all. (all_left g.T.Named.name_of c.args.items.now c.loop-item.item-index c.item-item.result (omega arith) c.item-item.is P (c.loop-item.invariant.on all)).1;
      back = λ rest. c.loop-item.invariant.back (all_back g.T.Named.name_of c.args.items.now c.loop-item.item-index c.item-item.result (omega arith) c.item-item.is P here rest);
    }
