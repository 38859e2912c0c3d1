use Rattle.std.proofs.Common.{◌≡◌, refl, subst}
use Rattle.rbs_declarations.specs.declared.state.Focus.{Focus}
use Rattle.rbs_declarations.specs.declared.state.Focus.TheVariants as focus
use Rattle.rbs_declarations.specs.Groups.{IsFromBound, IsFromMethod}
use Rattle.rbs_declarations.proofs.step.in_bounds.Goals as goal

pub returns-in_default : goal.returns-in_default
returns-in_default c within =
    c.in_method.ensures (elim c.args.focus as (λ (f : Focus). c.args.focus ≡ f → IsFromMethod f) [
      | focus.Bound o done p naming ↦ λ e. absurd (c.in_default.not-Bound o done p naming e)
      | focus.BoundNamed o done p m ↦ λ e. absurd (c.in_default.not-BoundNamed o done p m e)
      | focus.BoundSingleton o done p ↦ λ e. absurd (c.in_default.not-BoundSingleton o done p e)
      | focus.BoundClass o done p naming ↦ λ e. absurd (c.in_default.not-BoundClass o done p naming e)
      | _ ↦ λ e. subst IsFromBound e within
    ] refl)
