use Rattle.std.proofs.Common.{Some, if◌then◌else◌, ap, subst, sym, ◌∙◌}
use Rattle.rbs_declarations.specs.declared.state.Focus.TheVariants as focus
use Rattle.rbs_declarations.specs.Machine.{at, double_equals, with_equals, then_part, with_alias}
use Rattle.rbs_declarations.specs.Does.{Does}
use Rattle.rbs_declarations.proofs.aliases.after_new_equals_equals.Goals as goal

pub returns-in_ok-new : goal.returns-in_ok-new
returns-in_ok-new c =
    let file = c.args.around.file in
    let ds = c.args.around.decls in
    let fs = c.args.around.frames in
    let k = c.args.token.kind in
    let s = c.args.token.spot in
    ap (λ b. if b then at (focus.OldName c.args.begun (with_equals c.args.word) double_equals) ds fs else then_part file (Some (with_alias file c.args.begun c.args.word double_equals s.before ds fs)) k s)
    (sym (c.joined_equals.ensures file) ∙ c.if-joined_equals.true)
    ∙ (λ i. at (focus.OldName c.args.begun (sym c.in_ok-new.ensures i) (sym c.in_ok-old.ensures i)) ds fs)
    ∙ c.at.ensures

pub returns-else-joined_equals : goal.returns-else-joined_equals
returns-else-joined_equals c =
    let file = c.args.around.file in
    let ds = c.args.around.decls in
    let fs = c.args.around.frames in
    let k = c.args.token.kind in
    let s = c.args.token.spot in
    let unjoined =
    ap (λ b. if b then at (focus.OldName c.args.begun (with_equals c.args.word) double_equals) ds fs else then_part file (Some (with_alias file c.args.begun c.args.word double_equals s.before ds fs)) k s)
    (sym (c.joined_equals.ensures file) ∙ c.if-joined_equals.false)
    ∙ ap (λ old. then_part file (Some (with_alias file c.args.begun c.args.word old s.before ds fs)) k s) (sym c.in_ok-old.ensures)
    in subst (λ o. Does o c.after_alias.result) (sym unjoined) c.after_alias.ensures
