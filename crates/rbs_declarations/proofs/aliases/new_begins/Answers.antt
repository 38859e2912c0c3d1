use Rattle.std.proofs.Common.{◌≡◌, ap, sym, ◌∙◌}
use Rattle.rbs_declarations.specs.Words.{method_word}
use Rattle.rbs_declarations.specs.Machine.{new_begins, new_operator}
use Rattle.rbs_declarations.proofs.aliases.new_begins.Goals as goal

pub returns-in-None : goal.returns-in-None
returns-in-None c =
    let file = c.args.around.file in
    let ds = c.args.around.decls in
    let fs = c.args.around.frames in
    let begins : new_begins file c.args.begun ds fs c.args.kind (method_word c.args.kind) ≡ new_operator file c.args.begun ds fs c.operator_at-operator.result =
    ap (new_begins file c.args.begun ds fs c.args.kind) (sym c.in_ok-word.ensures ∙ c.in-None.is)
    ∙ ap (new_operator file c.args.begun ds fs) (sym (c.operator_at-operator.ensures file))
    in rw begins c.new_operator.ensures
