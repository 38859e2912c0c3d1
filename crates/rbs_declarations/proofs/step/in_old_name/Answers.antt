use Rattle.std.proofs.Common.{◌≡◌, refl, subst}
use Rattle.rbs_declarations.specs.declared.state.Focus.{Focus}
use Rattle.rbs_declarations.specs.declared.state.Focus.TheVariants as focus
use Rattle.rbs_declarations.specs.Groups.{IsFromOldName, IsOther}
use Rattle.rbs_declarations.proofs.step.in_old_name.Goals as goal

pub returns-in_default : goal.returns-in_default
returns-in_default c within =
    c.in_other.ensures (elim c.args.focus as (λ (f : Focus). c.args.focus ≡ f → IsOther f) [
      | focus.OldWord begun new w capital ↦ λ e. absurd (c.in_default.not-OldWord begun new w capital e)
      | focus.OldOperator begun new o ↦ λ e. absurd (c.in_default.not-OldOperator begun new o e)
      | focus.OldName begun new old ↦ λ e. absurd (c.in_default.not-OldName begun new old e)
      | _ ↦ λ e. subst IsFromOldName e within
    ] refl)
