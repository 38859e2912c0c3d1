use Rattle.std.proofs.Common.{◌≡◌, refl, subst}
use Rattle.rbs_declarations.specs.declared.state.Focus.{Focus}
use Rattle.rbs_declarations.specs.declared.state.Focus.TheVariants as focus
use Rattle.rbs_declarations.specs.Groups.{IsFromHeading, IsFromParam}
use Rattle.rbs_declarations.proofs.step.in_heading.Goals as goal

pub returns-in_default : goal.returns-in_default
returns-in_default c within =
    c.in_params.ensures (elim c.args.focus as (λ (f : Focus). c.args.focus ≡ f → IsFromParam f) [
      | focus.Name begun x naming ↦ λ e. absurd (c.in_default.not-Name begun x naming e)
      | focus.Named begun x n ↦ λ e. absurd (c.in_default.not-Named begun x n e)
      | focus.Parent begun n ps naming ↦ λ e. absurd (c.in_default.not-Parent begun n ps naming e)
      | focus.SelfType begun n ps us naming ↦ λ e. absurd (c.in_default.not-SelfType begun n ps us naming e)
      | focus.SelfNamed begun n ps us m ↦ λ e. absurd (c.in_default.not-SelfNamed begun n ps us m e)
      | _ ↦ λ e. subst IsFromHeading e within
    ] refl)
