use Rattle.std.proofs.Common.{◌≡◌, ap, sym, ◌∙◌}
use Rattle.rbs_declarations.specs.Machine.{method_start, method_begins, operator_begins}
use Rattle.rbs_declarations.proofs.methods.method_start.Goals as goal

pub returns-in-None : goal.returns-in-None
returns-in-None c =
    let file = c.args.around.file in
    let ds = c.args.around.decls in
    let fs = c.args.around.frames in
    let begins : method_start file c.args.begun c.args.vis c.args.single ds fs c.args.kind ≡ operator_begins file c.args.begun c.args.vis c.args.single ds fs c.operator_at-operator.result =
    ap (method_begins file c.args.begun c.args.vis c.args.single ds fs c.args.kind) (sym c.in_ok-name.ensures ∙ c.in-None.is)
    ∙ ap (operator_begins file c.args.begun c.args.vis c.args.single ds fs) (sym (c.operator_at-operator.ensures file))
    in rw begins c.operator_begins.ensures
