use Rattle.steep_cli.proofs.OnlyOutcomes.{second_read}
use Rattle.steep_cli.proofs.plan.second.Goals as goal

pub returns-in_ok-checked-in-Ok-clause-outcome : goal.returns-in_ok-checked-in-Ok-clause-outcome
returns-in_ok-checked-in-Ok-clause-outcome g c =
    second_read (g.F.Files.told c.args.files.now) c.args.a.now c.args.b.now c.args.signature c.in-Ok.ruby c.in_ok-checked-in-Ok.field-0 c.in-Ok.ensures.answer c.in_ok-checked-in-Ok.ensures.outcome
