use Rattle.std.proofs.Common.{Option, subst}
use Rattle.sig_model.specs.declared.decl.AttrKind.{AttrKind}
use Rattle.rbs_declarations.specs.Machine.{visible_attribute}
use Rattle.rbs_declarations.specs.Does.{Does}
use Rattle.rbs_declarations.proofs.Taken.{visible_goes_on}
use Rattle.rbs_declarations.proofs.other_members.visible_keyword.Goals as goal

pub returns-in_default : goal.returns-in_default
returns-in_default c =
    visible_goes_on c.args.around.file c.args.around.decls c.args.around.frames c.args.begun c.args.vis c.args.keyword c.visible_attribute.result c.in_default.not-Def
    (subst (λ (a : Option AttrKind). Does (visible_attribute c.args.around.file c.args.begun c.args.vis c.args.around.decls c.args.around.frames a) c.visible_attribute.result) c.attribute_of.ensures c.visible_attribute.ensures)
