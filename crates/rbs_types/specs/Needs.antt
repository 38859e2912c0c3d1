-- What a state needs: the height of the least phrase that goes on from it, and how many brackets are open at some place of each.
use Rattle.std.specs.Prelude.{ℕ, ◌+◌, max, Bool, true, false, List, [], ◌∷◌}
use Rattle.sig_model.specs.PlainTy as plain
use Rattle.sig_model.specs.PlainTy.{PlainTy, PlainTys}
use Rattle.sig_model.specs.Height.{height, tallest, tallest_key, tallest_arg, rest_height, block_height}
use Rattle.rbs_types.specs.declared.state.Members.{Members}
use Rattle.rbs_types.specs.declared.state.Members.TheVariants as members
use Rattle.rbs_types.specs.declared.state.Parameters.{Parameters}
use Rattle.rbs_types.specs.declared.state.Listed.{Listed}
use Rattle.rbs_types.specs.declared.state.Head.{Head}
use Rattle.rbs_types.specs.declared.state.Slot.{Slot}
use Rattle.rbs_types.specs.declared.state.Slot.TheVariants as slot
use Rattle.rbs_types.specs.declared.state.Level.{Level}
use Rattle.rbs_types.specs.declared.state.Owner.{Owner}
use Rattle.rbs_types.specs.declared.state.Owner.TheVariants as owner
use Rattle.rbs_types.specs.declared.state.Frame.{Frame}
use Rattle.rbs_types.specs.declared.state.Frame.TheVariants as frame
use Rattle.rbs_types.specs.declared.state.Focus.{Focus}
use Rattle.rbs_types.specs.declared.state.Focus.TheVariants as focus
use Rattle.rbs_types.specs.declared.state.State.{State}
use Rattle.rbs_types.specs.Depth.{Depth}

-- the height of a union or an intersection of these members and one of the height `h`
abbrev pub rise_over : PlainTys → ℕ → ℕ
rise_over plain.no_tys h = h
rise_over us h = max (tallest us) h + 1

abbrev pub rise_among : Members → ℕ → ℕ
rise_among (members.Operands us is) h = rise_over us (rise_over is h)
rise_among members.Result h = h
rise_among members.Closed h = h

abbrev pub parameters_height : Parameters → ℕ
parameters_height p = max (max (max (tallest_arg p.required) (tallest_arg p.optional)) (rest_height p.rest)) (max (tallest_arg p.trailing) (tallest_key p.keys))

-- the height of those parameters that stay beside one more of this slot: a rest takes the place of a rest
abbrev pub kept_height : Parameters → Slot → ℕ
kept_height p slot.Rest = max (max (tallest_arg p.required) (tallest_arg p.optional)) (max (tallest_arg p.trailing) (tallest_key p.keys))
kept_height p _ = parameters_height p

abbrev pub listed_height : Listed → ℕ
listed_height l = max (parameters_height l.parameters) (rest_height l.key_rest)

abbrev pub head_height : Head → ℕ
head_height h = max (listed_height h.listed) (block_height h.block)

-- the height of the functions whose results end with a type of the height `h`
abbrev pub rise_heads : List Head → ℕ → ℕ
rise_heads [] h = h
rise_heads (f ∷ hs) h = rise_heads hs (max (head_height f) h + 1)

-- the height of what the level holds, where the simple type at its place has the height `h`
abbrev pub rise : Level → ℕ → ℕ
rise level h = rise_among level.members (rise_heads level.heads h)

-- the height of what an owner's level holds, where its parameters have the height `h`
abbrev pub owned : Owner → ℕ → ℕ
owned (owner.Function level) h = rise level (max h 1 + 1)
owned (owner.Block needed outer level) h = rise level (max (listed_height outer) (max h 1) + 1)

-- the height of what is around a bracket, where the type in it has the height `h`
abbrev pub held : Frame → ℕ → ℕ
held (frame.Paren outer) h = rise outer h
held (frame.Arguments n done outer) h = rise outer (max (tallest done) h + 1)
held (frame.Tuple done outer) h = rise outer (max (tallest done) h + 1)
held (frame.Record done key needed outer) h = rise outer (max (tallest_key done) h + 1)
held (frame.Parameter before x owner) h = owned owner (max (kept_height before x) h)
held (frame.Block needed inner outer level) h = rise level (max (listed_height outer) (max (max (listed_height inner) h) 1) + 1)

abbrev pub up : List Frame → ℕ → ℕ
up [] h = h
up (f ∷ frames) h = up frames (held f h)

-- the least height of what stands around the focus, in its bracket
abbrev pub need_at : Focus → ℕ
need_at (focus.Type level) = rise level 1
need_at (focus.Scope n level) = rise level 1
need_at (focus.Upper n level) = rise level 1
need_at (focus.Bare n level) = rise level 1
need_at (focus.Singleton level) = rise level 1
need_at (focus.SingletonOpen level) = rise level 1
need_at (focus.SingletonScope n level) = rise level 1
need_at (focus.SingletonUpper n level) = rise level 1
need_at (focus.Paren level) = rise level 1
need_at (focus.Tuple level) = rise level 1
need_at (focus.Record level) = rise level 1
need_at (focus.Key done level) = rise level (max (tallest_key done) 1 + 1)
need_at (focus.KeyQuestion done level) = rise level (max (tallest_key done) 1 + 1)
need_at (focus.KeyName done key needed level) = rise level (max (tallest_key done) 1 + 1)
need_at (focus.Simple t level) = rise level (height t)
need_at (focus.Optional t ms) = rise_among ms (height t)
need_at (focus.Function level) = owned (owner.Function level) 0
need_at (focus.Parameters owner) = owned owner 0
need_at (focus.Parameter before owner) = owned owner (max (parameters_height before) 1)
need_at (focus.ParameterQuestion before owner) = owned owner (max (parameters_height before) 1)
need_at (focus.ParameterWord before needed w o owner) = owned owner (max (parameters_height before) 1)
need_at (focus.ParameterKey before needed w owner) = owned owner (max (parameters_height before) 1)
need_at (focus.ParameterNamed p owner) = owned owner (parameters_height p)
need_at (focus.KeyRestNamed l owner) = owned owner (listed_height l)
need_at (focus.Listed l owner) = owned owner (listed_height l)
need_at (focus.BlockQuestion outer level) = owned (owner.Block false outer level) 0
need_at (focus.Block needed outer level) = owned (owner.Block needed outer level) 0
need_at (focus.Headed h level) = rise level (max (head_height h) 1 + 1)

abbrev pub need : State → ℕ
need s = up s.frames (need_at s.focus)

-- how many brackets a frame, an owner and a focus open

abbrev pub owner_open : Owner → ℕ
owner_open (owner.Function level) = 0
owner_open (owner.Block needed outer level) = 1

abbrev pub frame_open : Frame → ℕ
frame_open (frame.Parameter before slot owner) = owner_open owner + 1
frame_open _ = 1

abbrev pub frames_open : List Frame → ℕ
frames_open [] = 0
frames_open (f ∷ frames) = frame_open f + frames_open frames

abbrev pub focus_open : Focus → ℕ
focus_open (focus.SingletonScope n level) = 1
focus_open (focus.SingletonUpper n level) = 1
focus_open (focus.Tuple level) = 1
focus_open (focus.Record level) = 1
focus_open (focus.Key done level) = 1
focus_open (focus.KeyQuestion done level) = 1
focus_open (focus.KeyName done key needed level) = 1
focus_open (focus.Parameters owner) = owner_open owner
focus_open (focus.Parameter before owner) = owner_open owner + 1
focus_open (focus.ParameterQuestion before owner) = owner_open owner + 1
focus_open (focus.ParameterWord before needed w o owner) = owner_open owner + 1
focus_open (focus.ParameterKey before needed w owner) = owner_open owner + 1
focus_open (focus.ParameterNamed p owner) = owner_open owner + 1
focus_open (focus.KeyRestNamed l owner) = owner_open owner + 1
focus_open (focus.Listed l owner) = owner_open owner
focus_open (focus.Block needed outer level) = 1
focus_open _ = 0

-- an opening parenthesis stands directly before the place
abbrev pub is_fresh : Focus → Bool
is_fresh (focus.SingletonOpen level) = true
is_fresh (focus.Paren level) = true
is_fresh (focus.Parameters owner) = true
is_fresh _ = false

-- what must be opened still
abbrev pub forced : Focus → ℕ
forced (focus.Singleton level) = 1
forced (focus.SingletonOpen level) = 1
forced (focus.Paren level) = 1
forced (focus.BlockQuestion outer level) = 1
forced _ = 0

abbrev pub depth : State → Depth
depth s = record { sure = focus_open s.focus + frames_open s.frames; fresh = is_fresh s.focus }

-- the least number of brackets that are open at once at some place of a phrase that goes on from the state
abbrev pub reach : State → ℕ
reach s = forced s.focus + (focus_open s.focus + frames_open s.frames)
