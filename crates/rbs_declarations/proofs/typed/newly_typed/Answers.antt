use Rattle.std.proofs.Common.{subst}
use Rattle.rbs_declarations.specs.declared.state.Purpose.{Purpose}
use Rattle.rbs_declarations.specs.Machine.{typed}
use Rattle.rbs_declarations.specs.Does.{Does}
use Rattle.rbs_declarations.proofs.typed.newly_typed.Goals as goal

pub returns : goal.returns
returns c inner is =
    subst (λ (p : Purpose). Does (typed c.args.around.file p c.args.around.decls c.args.around.frames inner) c.typed.result) c.in_ok-purpose.ensures (c.typed.ensures inner is)
