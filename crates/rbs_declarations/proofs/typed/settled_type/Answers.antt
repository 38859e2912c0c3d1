use Rattle.std.proofs.Common.{◌≡◌, refl}
use Rattle.rbs_declarations.specs.declared.state.Purpose.{Purpose}
use Rattle.rbs_declarations.specs.declared.state.Purpose.TheVariants as purpose
use Rattle.rbs_declarations.specs.Groups.{IsFromParent}
use Rattle.rbs_declarations.proofs.typed.settled_type.Goals as goal

pub returns-in_default : goal.returns-in_default
returns-in_default c =
    c.settled_heading.ensures (elim c.args.purpose as (λ (p : Purpose). c.args.purpose ≡ p → IsFromParent p) [
      | purpose.Alias begun n ps ↦ λ e. absurd (c.in_default.not-Alias begun n ps e)
      | purpose.Constant begun n ↦ λ e. absurd (c.in_default.not-Constant begun n e)
      | _ ↦ λ e. tt
    ] refl)
