use Rattle.rbs_types.specs.Machine.{final}
use Rattle.rbs_declarations.specs.Machine.{type_ended}
use Rattle.rbs_declarations.proofs.step.finish_type.Goals as goal

pub returns : goal.returns
returns c =
    c.whole_file.ensures c.args.around.file (type_ended c.args.around.file c.args.purpose (final c.args.inner) c.args.end c.args.around.decls c.args.around.frames) c.type_ended.ensures
