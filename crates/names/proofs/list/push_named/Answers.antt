use Rattle.std.proofs.Common.{sym, ◌∙◌, subst, arith, map, drop}
use Rattle.names.specs.Places.{AreSameNames}
use Rattle.names.proofs.Later.{same_few, same_with}
use Rattle.names.proofs.list.push_named.Goals as goal

pub returns-then-len-lt-FEW-clause-same : goal.returns-then-len-lt-FEW-clause-same
returns-then-len-lt-FEW-clause-same g c =
    subst (λ items. AreSameNames c.args.later.now (map g.T.Named.name_of (drop 16 items))) (sym c.in_ok-push.ensures.ok)
    (same_few g.T.Named.name_of c.args.later.now c.args.items.now c.args.item c.requires (omega (arith, c.len.ensures, c.if-len-lt-FEW.true)))

pub returns-in-Ok-clause-same : goal.returns-in-Ok-clause-same
returns-in-Ok-clause-same g c =
    subst (λ items. AreSameNames c.add.new.self (map g.T.Named.name_of (drop 16 items))) (sym c.in_ok-push-2.ensures.ok)
    (same_with g.T.Named.name_of c.args.later.now c.args.items.now c.args.item c.requires c.add.new.self c.in_ok-name.name c.in-Ok.field-0 (c.in_ok-name.ensures.cases ∙ c.name.ensures) (omega (arith, c.len.ensures, c.if-len-lt-FEW.false)) c.in-Ok.ensures.added)
