use Rattle.std.proofs.Common.{ℕ, ◌≡◌, refl, List, Result}
use Rattle.rbs_terminals.specs.declared.token.Mark.{Mark}
use Rattle.rbs_terminals.specs.declared.token.Mark.TheVariants as mark
use Rattle.rbs_terminals.specs.declared.token.Kind.TheVariants as kind
use Rattle.sig_model.specs.PlainDecl.{PlainDecls}
use Rattle.rbs_declarations.specs.declared.refused.Stuck.{Stuck}
use Rattle.rbs_declarations.specs.declared.state.Begun.{Begun}
use Rattle.rbs_declarations.specs.declared.state.Frame.{Frame}
use Rattle.rbs_declarations.specs.declared.state.State.{State}
use Rattle.rbs_declarations.specs.Machine.{after_new, new_marked}
use Rattle.rbs_declarations.specs.Does.{Does}
use Rattle.rbs_declarations.proofs.aliases.new_marked.Goals as goal

-- a mark that ends no name goes on to the old name
unended : (file : ℕ) (begun : Begun) (w : List ℕ) (ds : PlainDecls) (fs : List Frame) (m : Mark) (r : Result State Stuck) → (m ≡ mark.Question → ⊥) → (m ≡ mark.Bang → ⊥) → (m ≡ mark.Equals → ⊥)
    → Does (after_new file begun w ds fs (kind.Mark m)) r → Does (new_marked file begun w ds fs m) r
unended file begun w ds fs mark.Question r question bang equals d = absurd (question refl)
unended file begun w ds fs mark.Bang r question bang equals d = absurd (bang refl)
unended file begun w ds fs mark.Equals r question bang equals d = absurd (equals refl)
unended file begun w ds fs m r question bang equals d = d

pub returns-in_default : goal.returns-in_default
returns-in_default c =
    unended c.args.around.file c.args.begun c.args.word c.args.around.decls c.args.around.frames c.args.mark c.after_new.result c.in_default.not-Question c.in_default.not-Bang c.in_default.not-Equals c.after_new.ensures
