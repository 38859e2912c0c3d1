use Rattle.std.proofs.Common.{rules, ◌≡◌}
use Rattle.ruby_reader.proofs.ClassNames.{one_more}
use Rattle.ruby_reader.proofs.scopes.opened_names.Goals as goal

pub loop-opening-preserved : goal.loop-opening-preserved
loop-opening-preserved c =
    let named : c.in_ok-clone.field-0 ≡ c.opening-item.result.name = search rules in
    one_more c.args.openings.now c.loop-opening.opening-index c.opening-item.result c.loop-opening-test.true c.opening-item.is c.in_ok-clone.field-0 named c.loop-opening.names c.loop-opening.invariant c.in_ok-add.field-0 c.add.new.self c.in_ok-add.ensures.added
