use Rattle.std.proofs.Common.{ap, sym, ◌∙◌}
use Rattle.std.specs.Option.{option_copied}
use Rattle.rbs_declarations.specs.declared.state.Focus.TheVariants as focus
use Rattle.rbs_declarations.specs.Machine.{at, method_ending}
use Rattle.rbs_declarations.proofs.methods.after_method_word.Goals as goal

pub returns-in_ok-signature-in-Some : goal.returns-in_ok-signature-in-Some
returns-in_ok-signature-in-Some c =
    let file = c.args.around.file in
    let ds = c.args.around.decls in
    let fs = c.args.around.frames in
    ap (method_ending file c.args.signature ds fs c.args.kind) (c.ending_at.ensures file ∙ ap option_copied c.in-Some.is)
    ∙ ap (λ s. at (focus.MethodName s) ds fs) (sym (c.in_ok-signature-in-Some.ensures file))
    ∙ c.at.ensures
