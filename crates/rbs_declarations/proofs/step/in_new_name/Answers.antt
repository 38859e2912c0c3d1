use Rattle.std.proofs.Common.{◌≡◌, refl, subst}
use Rattle.rbs_declarations.specs.declared.state.Focus.{Focus}
use Rattle.rbs_declarations.specs.declared.state.Focus.TheVariants as focus
use Rattle.rbs_declarations.specs.Groups.{IsFromNewName, IsFromOldName}
use Rattle.rbs_declarations.proofs.step.in_new_name.Goals as goal

pub returns-in_default : goal.returns-in_default
returns-in_default c within =
    c.in_old_name.ensures (elim c.args.focus as (λ (f : Focus). c.args.focus ≡ f → IsFromOldName f) [
      | focus.Alias begun ↦ λ e. absurd (c.in_default.not-Alias begun e)
      | focus.NewWord begun w ↦ λ e. absurd (c.in_default.not-NewWord begun w e)
      | focus.NewEquals begun w ↦ λ e. absurd (c.in_default.not-NewEquals begun w e)
      | focus.NewEqualsEquals begun w ↦ λ e. absurd (c.in_default.not-NewEqualsEquals begun w e)
      | focus.NewOperator begun o ↦ λ e. absurd (c.in_default.not-NewOperator begun o e)
      | focus.NewName begun new ↦ λ e. absurd (c.in_default.not-NewName begun new e)
      | _ ↦ λ e. subst IsFromNewName e within
    ] refl)
