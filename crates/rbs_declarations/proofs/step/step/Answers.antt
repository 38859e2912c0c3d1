use Rattle.std.proofs.Common.{◌≡◌, refl}
use Rattle.rbs_declarations.specs.declared.state.Focus.{Focus}
use Rattle.rbs_declarations.specs.declared.state.Focus.TheVariants as focus
use Rattle.rbs_declarations.specs.Groups.{IsFromHeading}
use Rattle.rbs_declarations.proofs.step.step.Goals as goal

pub returns-in_default : goal.returns-in_default
returns-in_default c =
    c.in_heading.ensures (elim c.args.focus as (λ (f : Focus). c.args.focus ≡ f → IsFromHeading f) [
      | focus.Parts ↦ λ e. absurd (c.in_default.not-Parts e)
      | focus.Noted begun ↦ λ e. absurd (c.in_default.not-Noted begun e)
      | focus.Visible begun v last ↦ λ e. absurd (c.in_default.not-Visible begun v last e)
      | focus.Typed p i ↦ λ e. absurd (c.in_default.not-Typed p i e)
      | _ ↦ λ e. tt
    ] refl)
