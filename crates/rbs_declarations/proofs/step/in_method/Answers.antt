use Rattle.std.proofs.Common.{◌≡◌, refl, subst}
use Rattle.rbs_declarations.specs.declared.state.Focus.{Focus}
use Rattle.rbs_declarations.specs.declared.state.Focus.TheVariants as focus
use Rattle.rbs_declarations.specs.Groups.{IsFromMethod, IsFromNewName}
use Rattle.rbs_declarations.proofs.step.in_method.Goals as goal

pub returns-in_default : goal.returns-in_default
returns-in_default c within =
    c.in_new_name.ensures (elim c.args.focus as (λ (f : Focus). c.args.focus ≡ f → IsFromNewName f) [
      | focus.Def begun v ↦ λ e. absurd (c.in_default.not-Def begun v e)
      | focus.DefSelf begun v ↦ λ e. absurd (c.in_default.not-DefSelf begun v e)
      | focus.MethodStart begun v single ↦ λ e. absurd (c.in_default.not-MethodStart begun v single e)
      | focus.MethodWord sig ↦ λ e. absurd (c.in_default.not-MethodWord sig e)
      | focus.MethodOperator begun v single o ↦ λ e. absurd (c.in_default.not-MethodOperator begun v single o e)
      | focus.MethodName sig ↦ λ e. absurd (c.in_default.not-MethodName sig e)
      | focus.Overload sig done ↦ λ e. absurd (c.in_default.not-Overload sig done e)
      | _ ↦ λ e. subst IsFromMethod e within
    ] refl)
