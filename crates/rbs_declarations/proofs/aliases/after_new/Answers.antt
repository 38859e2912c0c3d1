use Rattle.std.proofs.Common.{◌≡◌, ap, sym, ◌∙◌}
use Rattle.rbs_declarations.specs.Machine.{after_new, old_begins, old_operator}
use Rattle.rbs_declarations.proofs.aliases.after_new.Goals as goal

pub returns-in-None : goal.returns-in-None
returns-in-None c =
    let file = c.args.around.file in
    let ds = c.args.around.decls in
    let fs = c.args.around.frames in
    let begins : after_new file c.args.begun c.args.new ds fs c.args.kind ≡ old_operator file c.args.begun c.args.new ds fs c.operator_at-operator.result =
    ap (old_begins file c.args.begun c.args.new ds fs c.args.kind) (sym c.in_ok-word.ensures ∙ c.in-None.is)
    ∙ ap (old_operator file c.args.begun c.args.new ds fs) (sym (c.operator_at-operator.ensures file))
    in rw begins c.old_operator.ensures
