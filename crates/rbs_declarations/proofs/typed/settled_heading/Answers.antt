use Rattle.std.proofs.Common.{◌≡◌, refl, subst}
use Rattle.rbs_declarations.specs.declared.state.Purpose.{Purpose}
use Rattle.rbs_declarations.specs.declared.state.Purpose.TheVariants as purpose
use Rattle.rbs_declarations.specs.Groups.{IsFromParent, IsFromAttribute}
use Rattle.rbs_declarations.proofs.typed.settled_heading.Goals as goal

pub returns-in_default : goal.returns-in_default
returns-in_default c within =
    c.settled_member.ensures (elim c.args.purpose as (λ (p : Purpose). c.args.purpose ≡ p → IsFromAttribute p) [
      | purpose.Parent begun n ps ↦ λ e. absurd (c.in_default.not-Parent begun n ps e)
      | purpose.SelfType begun n ps us ↦ λ e. absurd (c.in_default.not-SelfType begun n ps us e)
      | _ ↦ λ e. subst IsFromParent e within
    ] refl)
