-- How high what is whole in a state is, apart from the type that is read at its place.
use Rattle.std.specs.Prelude.{ℕ, max}
use Rattle.rbs_types.specs.Needs as types
use Rattle.rbs_declarations.specs.declared.state.Focus.{Focus}
use Rattle.rbs_declarations.specs.declared.state.Focus.TheVariants as focus
use Rattle.rbs_declarations.specs.declared.state.State.{State}
use Rattle.rbs_declarations.specs.Heights.{decls_height}
use Rattle.rbs_declarations.specs.Needs.{frames_height, purpose_height, phrase_height, focus_height}

abbrev pub whole_at : Focus → ℕ
whole_at (focus.Typed p i) = purpose_height p
whole_at f = focus_height f

-- the height of the highest type that is whole
abbrev pub whole_height : State → ℕ
whole_height m = max (decls_height m.decls) (max (frames_height m.frames) (whole_at m.focus))

-- the height of the highest type that the type at the focus, if one is read there, becomes
abbrev pub inner_height : Focus → ℕ
inner_height (focus.Typed p i) = phrase_height p (types.need i)
inner_height _ = 0
