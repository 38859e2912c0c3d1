use Rattle.std.proofs.Common.{◌∙◌, sym, ap, subst}
use Rattle.rbs_declarations.specs.Machine.{whole_file}
use Rattle.rbs_declarations.specs.Does.{Does}
use Rattle.rbs_declarations.proofs.step.whole_file.Goals as goal

pub returns-in-Ok : goal.returns-in-Ok
returns-in-Ok c file o does = c.decls_of.ensures file ∙ sym (ap (whole_file file) (subst (Does o) c.in-Ok.is does))
