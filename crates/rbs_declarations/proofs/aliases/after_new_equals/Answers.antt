use Rattle.std.proofs.Common.{if◌then◌else◌, ap, subst, sym, ◌∙◌}
use Rattle.rbs_declarations.specs.declared.state.Focus.TheVariants as focus
use Rattle.rbs_declarations.specs.Machine.{at, with_equals, after_new}
use Rattle.rbs_declarations.specs.Does.{Does}
use Rattle.rbs_declarations.proofs.aliases.after_new_equals.Goals as goal

pub returns-then-joined_equals : goal.returns-then-joined_equals
returns-then-joined_equals c =
    let file = c.args.around.file in
    let ds = c.args.around.decls in
    let fs = c.args.around.frames in
    ap (λ b. if b then at (focus.NewEqualsEquals c.args.begun c.args.word) ds fs else after_new file c.args.begun (with_equals c.args.word) ds fs c.args.token.kind)
    (sym (c.joined_equals.ensures file) ∙ c.if-joined_equals.true)
    ∙ c.at.ensures

pub returns-in_ok-new : goal.returns-in_ok-new
returns-in_ok-new c =
    let file = c.args.around.file in
    let ds = c.args.around.decls in
    let fs = c.args.around.frames in
    let unjoined =
    ap (λ b. if b then at (focus.NewEqualsEquals c.args.begun c.args.word) ds fs else after_new file c.args.begun (with_equals c.args.word) ds fs c.args.token.kind)
    (sym (c.joined_equals.ensures file) ∙ c.if-joined_equals.false)
    ∙ ap (λ new. after_new file c.args.begun new ds fs c.args.token.kind) (sym c.in_ok-new.ensures)
    in subst (λ o. Does o c.after_new.result) (sym unjoined) c.after_new.ensures
