use Rattle.std.proofs.Common.{subst}
use Rattle.sig_model.specs.declared.decl.Notes.{Notes}
use Rattle.rbs_declarations.specs.Machine.{begins}
use Rattle.rbs_declarations.specs.Does.{Does}
use Rattle.rbs_declarations.specs.Sites.{spot_at}
use Rattle.rbs_declarations.proofs.begins.carrying_begins.Goals as goal

pub returns : goal.returns
returns c before gap comments =
    subst (λ (notes : Notes). Does (begins c.args.around.file notes c.args.around.decls c.args.around.frames c.args.kind (spot_at before gap c.args.start c.args.end comments)) c.begins.result) c.in_ok-notes.ensures (c.begins.ensures before gap comments)
