-- No text ends in a member or a heading.
use Rattle.std.proofs.Common.{ℕ, ◌≡◌, refl, List, None}
use Rattle.sig_model.specs.PlainDecl.{PlainDecls}
use Rattle.rbs_types.specs.declared.state.State.{State as TypeState}
use Rattle.rbs_declarations.specs.declared.state.Purpose.{Purpose}
use Rattle.rbs_declarations.specs.declared.state.Frame.{Frame}
use Rattle.rbs_declarations.specs.declared.state.Focus.{Focus}
use Rattle.rbs_declarations.specs.declared.state.Focus.TheVariants as focus
use Rattle.rbs_declarations.specs.Machine.{settled, whole_file}

pub unsettled : (file : ℕ) (f : Focus) (e : ℕ) (ds : PlainDecls) (fs : List Frame) → (f ≡ focus.Parts → ⊥) → ((p : Purpose) (i : TypeState) → f ≡ focus.Typed p i → ⊥)
    → None ≡ whole_file file (settled file f e ds fs)
unsettled file focus.Parts e ds fs n m = absurd (n refl)
unsettled file (focus.Typed p i) e ds fs n m = absurd (m p i refl)
unsettled file _ e ds fs n m = refl
