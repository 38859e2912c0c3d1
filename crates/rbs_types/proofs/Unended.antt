-- No text ends where no type stands.
use Rattle.std.proofs.Common.{◌≡◌, refl, List, None}
use Rattle.sig_model.specs.declared.ty.TypeName.{TypeName}
use Rattle.sig_model.specs.PlainTy.{PlainTy}
use Rattle.rbs_types.specs.declared.state.Level.{Level}
use Rattle.rbs_types.specs.declared.state.Members.{Members}
use Rattle.rbs_types.specs.declared.state.Frame.{Frame}
use Rattle.rbs_types.specs.declared.state.Focus.{Focus}
use Rattle.rbs_types.specs.declared.state.Focus.TheVariants as focus
use Rattle.rbs_types.specs.Machine.{ends}

pub unended : (f : Focus) (frames : List Frame) → ((n : TypeName) (level : Level) → f ≡ focus.Upper n level → ⊥) → ((n : TypeName) (level : Level) → f ≡ focus.Bare n level → ⊥)
    → ((t : PlainTy) (level : Level) → f ≡ focus.Simple t level → ⊥) → ((t : PlainTy) (ms : Members) → f ≡ focus.Optional t ms → ⊥) → None ≡ ends f frames
unended (focus.Upper n level) frames u b s o = absurd (u n level refl)
unended (focus.Bare n level) frames u b s o = absurd (b n level refl)
unended (focus.Simple t level) frames u b s o = absurd (s t level refl)
unended (focus.Optional t ms) frames u b s o = absurd (o t ms refl)
unended _ frames u b s o = refl
