use Rattle.std.proofs.Common.{◌≡◌, refl}
use Rattle.rbs_types.specs.declared.state.Focus.TheVariants as focus
use Rattle.rbs_types.specs.Does.{IsInHead}
use Rattle.rbs_types.proofs.step.next.Goals as goal

pub returns-in_default : goal.returns-in_default
returns-in_default c =
    c.next_in_head.ensures c.args.token.spot (elim c.args.state.focus as (λ f. c.args.state.focus ≡ f → IsInHead f) [
      | focus.Type level ↦ λ e. absurd (c.in_default.not-Type level e)
      | focus.Scope n level ↦ λ e. absurd (c.in_default.not-Scope n level e)
      | focus.Upper n level ↦ λ e. absurd (c.in_default.not-Upper n level e)
      | focus.Bare n level ↦ λ e. absurd (c.in_default.not-Bare n level e)
      | focus.Singleton level ↦ λ e. absurd (c.in_default.not-Singleton level e)
      | focus.SingletonOpen level ↦ λ e. absurd (c.in_default.not-SingletonOpen level e)
      | focus.SingletonScope n level ↦ λ e. absurd (c.in_default.not-SingletonScope n level e)
      | focus.SingletonUpper n level ↦ λ e. absurd (c.in_default.not-SingletonUpper n level e)
      | focus.Paren level ↦ λ e. absurd (c.in_default.not-Paren level e)
      | focus.Tuple level ↦ λ e. absurd (c.in_default.not-Tuple level e)
      | focus.Record level ↦ λ e. absurd (c.in_default.not-Record level e)
      | focus.Key done level ↦ λ e. absurd (c.in_default.not-Key done level e)
      | focus.KeyQuestion done level ↦ λ e. absurd (c.in_default.not-KeyQuestion done level e)
      | focus.KeyName done key needed level ↦ λ e. absurd (c.in_default.not-KeyName done key needed level e)
      | focus.Simple t level ↦ λ e. absurd (c.in_default.not-Simple t level e)
      | focus.Optional t ms ↦ λ e. absurd (c.in_default.not-Optional t ms e)
      | focus.Function level ↦ λ e. absurd (c.in_default.not-Function level e)
      | focus.Listed l owner ↦ λ e. absurd (c.in_default.not-Listed l owner e)
      | focus.Headed h level ↦ λ e. absurd (c.in_default.not-Headed h level e)
      | _ ↦ λ e. tt
    ] refl)
