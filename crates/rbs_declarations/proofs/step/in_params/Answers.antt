use Rattle.std.proofs.Common.{◌≡◌, refl, subst}
use Rattle.rbs_declarations.specs.declared.state.Focus.{Focus}
use Rattle.rbs_declarations.specs.declared.state.Focus.TheVariants as focus
use Rattle.rbs_declarations.specs.Groups.{IsFromParam, IsFromBound}
use Rattle.rbs_declarations.proofs.step.in_params.Goals as goal

pub returns-in_default : goal.returns-in_default
returns-in_default c within =
    c.in_bounds.ensures (elim c.args.focus as (λ (f : Focus). c.args.focus ≡ f → IsFromBound f) [
      | focus.Param o done ↦ λ e. absurd (c.in_default.not-Param o done e)
      | focus.Unchecked o done ↦ λ e. absurd (c.in_default.not-Unchecked o done e)
      | focus.Varied o done unchecked v ↦ λ e. absurd (c.in_default.not-Varied o done unchecked v e)
      | focus.ParamName o done p ↦ λ e. absurd (c.in_default.not-ParamName o done p e)
      | focus.Bounded o ps ↦ λ e. absurd (c.in_default.not-Bounded o ps e)
      | focus.Parameterized o ps ↦ λ e. absurd (c.in_default.not-Parameterized o ps e)
      | _ ↦ λ e. subst IsFromParam e within
    ] refl)
