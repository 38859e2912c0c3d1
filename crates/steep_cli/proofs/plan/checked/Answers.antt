use Rattle.std.proofs.Common.{◌≡◌, ◌∙◌, ap, List, ℕ}
use Rattle.call_outcomes.specs.Only.{IsOnly}
use Rattle.call_outcomes.specs.Loads.{IsLoaded}
use Rattle.call_outcomes.specs.Outcomes.{listed}
use Rattle.steep_cli.specs.Answer.{IsList}
use Rattle.steep_cli.proofs.OnlyLists.{ok_on}
use Rattle.steep_cli.proofs.OnlyOutcomes.{only_listed_of}
use Rattle.steep_cli.proofs.plan.checked.Goals as goal

pub returns-clause-outcome : goal.returns-clause-outcome
returns-clause-outcome c =
    ok_on c.listed.result (λ outcome. outcome ≡ listed c.as_slice.result.now c.as_slice-2.result.now)
    (λ outcome. (x y : List ℕ) → IsLoaded x c.args.signature → IsLoaded y c.args.ruby → IsOnly (IsList c.args.a.now x c.args.b.now y) outcome) c.listed.ensures.outcome
    (λ outcome is x y is_x is_y. only_listed_of c.args.a.now c.args.b.now x y c.args.signature c.args.ruby c.as_slice.result.now c.in_ok-list.list outcome
    (c.as_slice.ensures ∙ c.in_ok-sources.ensures.sources) (is ∙ ap (listed c.as_slice.result.now) c.as_slice-2.ensures) is_x is_y (c.in_ok-list.ensures x y is_x is_y))
