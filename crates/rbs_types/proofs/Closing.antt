-- Behind a whole type a state is finished by what closes the brackets around it, from the innermost on.
use Rattle.std.proofs.Common.{◌+◌, ◌≤◌, ◌≡◌, refl, sym, ◌∙◌, ap, Bool, false, if◌then◌else◌, List, [], ◌∷◌, None, arith}
use Rattle.rbs_terminals.specs.declared.token.Token.{Token}
use Rattle.rbs_terminals.specs.declared.token.Spot.{Spot}
use Rattle.rbs_terminals.specs.declared.token.Gap.TheVariants as gap
use Rattle.rbs_terminals.specs.declared.token.Mark.{Mark}
use Rattle.rbs_terminals.specs.declared.token.Mark.TheVariants as mark
use Rattle.rbs_terminals.specs.declared.token.Keyword.TheVariants as keyword
use Rattle.rbs_terminals.specs.declared.token.Kind.{Kind}
use Rattle.rbs_terminals.specs.declared.token.Kind.TheVariants as kind
use Rattle.sig_model.specs.declared.ty.TypeName.{TypeName}
use Rattle.sig_model.specs.declared.ty.BaseTy.TheVariants as base
use Rattle.sig_model.specs.PlainTy as plain
use Rattle.sig_model.specs.PlainTy.{PlainTy, PlainTys, PlainKeys}
use Rattle.sig_model.specs.Height.{height}
use Rattle.rbs_types.specs.declared.state.Members.{Members}
use Rattle.rbs_types.specs.declared.state.Members.TheVariants as members
use Rattle.rbs_types.specs.declared.state.Listed.{Listed}
use Rattle.rbs_types.specs.declared.state.Head.{Head}
use Rattle.rbs_types.specs.declared.state.Level.{Level}
use Rattle.rbs_types.specs.declared.state.Owner.{Owner}
use Rattle.rbs_types.specs.declared.state.Owner.TheVariants as owner
use Rattle.rbs_types.specs.declared.state.Frame.{Frame}
use Rattle.rbs_types.specs.declared.state.Frame.TheVariants as frame
use Rattle.rbs_types.specs.declared.state.Focus.{Focus}
use Rattle.rbs_types.specs.declared.state.Focus.TheVariants as focus
use Rattle.rbs_types.specs.declared.state.State.{State}
use Rattle.rbs_types.specs.Symbols.{token, sign, word, scope_at}
use Rattle.rbs_types.specs.Plains.{and_ty, and_key}
use Rattle.rbs_types.specs.Parts.{all_of, function_of}
use Rattle.rbs_types.specs.Machine.{at, result_level, joined, all_ended, headed, in_bracket, after_type, after_inter, after_operand, after_opt, after_simple, after_bare, end_type, end_opt, next, final}
use Rattle.rbs_types.specs.Depth.{surely, deepened}
use Rattle.rbs_types.specs.Needs.{rise, rise_over, rise_among, held, owned, up, need, need_at, depth, reach, focus_open, frames_open, is_fresh, forced}
use Rattle.rbs_types.proofs.Through.{through, rests, taken}
use Rattle.rbs_types.proofs.Heights.{tallest_and, tallest_key_and, all_height, all_ended_height, joined_union, joined_inter, block_function_height}
use Rattle.rbs_types.proofs.Finishes.{stops, stops_mark, FollowsAll, Finishes, Step, first}
use Rattle.viable_prefixes.specs.Runs.{reads}

-- the spot of each finishing token
abbrev pub here : Spot
here = record { before = 0; gap = gap.Joined; start = 0; end = 0; comments = [] }

abbrev pub placed : Focus → List Frame → State
placed f frames = record { frames = frames; focus = f }

-- ---- the type that is whole at a place

abbrev pub whole_among : Members → PlainTy → PlainTy
whole_among (members.Operands us is) t = joined plain.union us (joined plain.inter is t)
whole_among members.Result t = t
whole_among members.Closed t = t

abbrev pub whole_of : Level → PlainTy → PlainTy
whole_of level t = whole_among level.members (all_ended level.heads t)

among_height : (ms : Members) (t : PlainTy) → height (whole_among ms t) ≡ rise_among ms (height t)
among_height (members.Operands us is) t = joined_union us (joined plain.inter is t) ∙ ap (rise_over us) (joined_inter is t)
among_height members.Result t = refl
among_height members.Closed t = refl

whole_height : (level : Level) (t : PlainTy) → height (whole_of level t) ≡ rise level (height t)
whole_height level t = among_height level.members (all_ended level.heads t) ∙ ap (rise_among level.members) (all_ended_height level.heads t)

-- ---- what a token does behind it that goes on with no type

inter_stops : (t : PlainTy) (us : PlainTys) (frames : List Frame) (k : Kind) → stops k → after_inter t us frames k ≡ after_type (joined plain.union us t) frames k
inter_stops t us frames (kind.Mark mark.Bar) h = absurd h
inter_stops t us frames _ h = refl

operand_stops : (t : PlainTy) (us is : PlainTys) (frames : List Frame) (k : Kind) → stops k → after_operand t us is frames k ≡ after_inter (joined plain.inter is t) us frames k
operand_stops t us is frames (kind.Mark mark.Amp) h = absurd h
operand_stops t us is frames _ h = refl

opt_stops : (t : PlainTy) (ms : Members) (frames : List Frame) (k : Kind) → stops k → after_opt t ms frames k ≡ after_type (whole_among ms t) frames k
opt_stops t (members.Operands us is) frames k h = operand_stops t us is frames k h ∙ inter_stops (joined plain.inter is t) us frames k h
opt_stops t members.Result frames k h = refl
opt_stops t members.Closed frames k h = refl

asks : (t : PlainTy) (level : Level) (frames : List Frame) (k : Kind) → stops k → after_simple t level frames k ≡ after_opt (all_ended level.heads t) level.members frames k
asks t level frames (kind.Mark mark.Question) h = absurd h
asks t level frames _ h = refl

simple_stops : (t : PlainTy) (level : Level) (frames : List Frame) (k : Kind) → stops k → after_simple t level frames k ≡ after_type (whole_of level t) frames k
simple_stops t level frames k h = asks t level frames k h ∙ opt_stops (all_ended level.heads t) level.members frames k h

applies : (n : TypeName) (level : Level) (frames : List Frame) (k : Kind) → stops k → after_bare n level frames k ≡ after_simple (plain.name n plain.no_tys) level frames k
applies n level frames (kind.Mark mark.OpenSquare) h = absurd h
applies n level frames _ h = refl

bare_stops : (n : TypeName) (level : Level) (frames : List Frame) (k : Kind) → stops k → after_bare n level frames k ≡ after_type (whole_of level (plain.name n plain.no_tys)) frames k
bare_stops n level frames k h = applies n level frames k h ∙ simple_stops (plain.name n plain.no_tys) level frames k h

opt_ends : (t : PlainTy) (ms : Members) (frames : List Frame) → end_opt t ms frames ≡ end_type (whole_among ms t) frames
opt_ends t (members.Operands us is) frames = refl
opt_ends t members.Result frames = refl
opt_ends t members.Closed frames = refl

-- ---- states behind a whole type

-- the type `t` is whole at this place
pub record Behind (f : Focus) (t : PlainTy) (frames : List Frame) : Type 0 where
  pub goes : (k : Kind) (s : Spot) → stops k → scope_at k s ≡ false → next (placed f frames) (token k s) ≡ after_type t frames k
  pub final_is : final (placed f frames) ≡ end_type t frames
  pub tall : up frames (height t) ≡ need (placed f frames)
  pub none_open : focus_open f ≡ 0
  pub not_fresh : is_fresh f ≡ false
  pub none_forced : forced f ≡ 0

pub behind_simple : (t : PlainTy) (level : Level) (frames : List Frame) → Behind (focus.Simple t level) (whole_of level t) frames
behind_simple t level frames = record {
  goes = λ k s h e. simple_stops t level frames k h;
  final_is = opt_ends (all_ended level.heads t) level.members frames;
  tall = ap (up frames) (whole_height level t);
  none_open = refl;
  not_fresh = refl;
  none_forced = refl;
}

pub behind_optional : (t : PlainTy) (ms : Members) (frames : List Frame) → Behind (focus.Optional t ms) (whole_among ms t) frames
behind_optional t ms frames = record {
  goes = λ k s h e. opt_stops t ms frames k h;
  final_is = opt_ends t ms frames;
  tall = ap (up frames) (among_height ms t);
  none_open = refl;
  not_fresh = refl;
  none_forced = refl;
}

pub behind_bare : (n : TypeName) (level : Level) (frames : List Frame) → Behind (focus.Bare n level) (whole_of level (plain.name n plain.no_tys)) frames
behind_bare n level frames = record {
  goes = λ k s h e. bare_stops n level frames k h;
  final_is = opt_ends (all_ended level.heads (plain.name n plain.no_tys)) level.members frames;
  tall = ap (up frames) (whole_height level (plain.name n plain.no_tys));
  none_open = refl;
  not_fresh = refl;
  none_forced = refl;
}

pub behind_upper : (n : TypeName) (level : Level) (frames : List Frame) → Behind (focus.Upper n level) (whole_of level (plain.name n plain.no_tys)) frames
behind_upper n level frames = record {
  goes = λ k s h e. ap (λ b. if b then at (focus.Scope n level) frames else after_bare n level frames k) e ∙ bare_stops n level frames k h;
  final_is = opt_ends (all_ended level.heads (plain.name n plain.no_tys)) level.members frames;
  tall = ap (up frames) (whole_height level (plain.name n plain.no_tys));
  none_open = refl;
  not_fresh = refl;
  none_forced = refl;
}

-- ---- what closes a bracket

-- `nil` where a type must come
pub by_nil : (level : Level) (frames : List Frame) → Finishes (placed (focus.Simple (plain.base base.Nil) level) frames) → Finishes (placed (focus.Type level) frames)
by_nil level frames e = first (word keyword.Nil here) (record { goes = refl; tall = refl; deep = refl; far = omega arith; small = tt }) e

-- the arrow, and a result
pub by_arrow : (h : Head) (level : Level) (frames : List Frame) → Finishes (placed (focus.Simple (plain.base base.Nil) (headed h level)) frames) → Finishes (placed (focus.Headed h level) frames)
by_arrow h level frames e = first (sign mark.Arrow here) (record { goes = refl; tall = refl; deep = refl; far = omega arith; small = tt }) (by_nil (headed h level) frames e)

opens_none : (f : Focus) (t : PlainTy) (frames : List Frame) → Behind f t frames → depth (placed f frames) ≡ surely (frames_open frames)
opens_none f t frames b = λ i. record { sure = sum i; fresh = b.not_fresh i }
  where
    sum : focus_open f + frames_open frames ≡ frames_open frames
    sum = omega (arith, b.none_open)

-- a mark that closes the innermost bracket
closes : (f : Focus) (t : PlainTy) (g : Frame) (frames : List Frame) → Behind f t (g ∷ frames) → (m : Mark) (u : Focus)
    → stops_mark m → scope_at (kind.Mark m) here ≡ false → in_bracket t g frames (kind.Mark m) ≡ at u frames → need_at u ≡ held g (height t)
    → depth (placed u frames) ≡ deepened (surely (frames_open (g ∷ frames))) (kind.Mark m) → reach (placed u frames) ≤ frames_open (g ∷ frames)
    → Finishes (placed u frames) → Finishes (placed f (g ∷ frames))
closes f t g frames b m u h no_scope goes tall deep far e = first (sign m here) step e
  where
    step : Step (placed f (g ∷ frames)) (sign m here) (placed u frames)
    step = record {
      goes = b.goes (kind.Mark m) here h no_scope ∙ goes;
      tall = ap (up frames) tall ∙ b.tall;
      deep = deep ∙ ap (λ d. deepened d (kind.Mark m)) (sym (opens_none f t (g ∷ frames) b));
      far = omega arith;
      small = tt;
    }

-- states behind a simple type can be finished, whatever stands around it
abbrev pub SimplesEnd : List Frame → Type 1
SimplesEnd frames = (t : PlainTy) (level : Level) → Finishes (placed (focus.Simple t level) frames)

-- the braces of a block, and then the result of its function
close_block : (f : Focus) (t : PlainTy) (needed : Bool) (inner outer : Listed) (level : Level) (frames : List Frame)
    → Behind f t (frame.Block needed inner outer level ∷ frames) → SimplesEnd frames → Finishes (placed f (frame.Block needed inner outer level ∷ frames))
close_block f t needed inner outer level frames b e =
    let h : Head = record { listed = outer; block = plain.block needed (function_of inner plain.no_block t) } in
    closes f t (frame.Block needed inner outer level) frames b mark.CloseBrace (focus.Headed h level) tt refl refl
    (ap (rise level) (omega (arith, block_function_height inner needed t))) (ap surely (omega arith)) (omega arith) (by_arrow h level frames (e _ _))

-- behind parameters, the result of their function or block
pub by_result : (l : Listed) (o : Owner) (frames : List Frame) → SimplesEnd frames → Finishes (placed (focus.Listed l o) frames)
by_result l (owner.Function level) frames e =
    let h : Head = record { listed = l; block = plain.no_block } in
    first (sign mark.Arrow here) (record { goes = refl; tall = ap (λ n. up frames (rise level n)) (omega arith); deep = refl; far = omega arith; small = tt }) (by_nil (headed h level) frames (e _ _))
by_result l (owner.Block needed outer level) frames e =
    let inside : List Frame = frame.Block needed l outer level ∷ frames in
    first (sign mark.Arrow here) (record { goes = refl; tall = ap (λ n. up frames (rise level n)) (omega arith); deep = ap surely (omega arith); far = omega arith; small = tt })
    (by_nil result_level inside (close_block (focus.Simple (plain.base base.Nil) result_level) (plain.base base.Nil) needed l outer level frames (behind_simple (plain.base base.Nil) result_level inside) e))

close_frame : (g : Frame) (frames : List Frame) (f : Focus) (t : PlainTy) → Behind f t (g ∷ frames) → SimplesEnd frames → Finishes (placed f (g ∷ frames))
close_frame (frame.Paren outer) frames f t b e =
    closes f t (frame.Paren outer) frames b mark.Close (focus.Simple t outer) tt refl refl refl (ap surely (omega arith)) (omega arith) (e _ _)
close_frame (frame.Arguments n done outer) frames f t b e =
    closes f t (frame.Arguments n done outer) frames b mark.CloseSquare (focus.Simple (plain.name n (and_ty done t)) outer) tt refl refl
    (ap (λ h. rise outer (h + 1)) (tallest_and done t)) (ap surely (omega arith)) (omega arith) (e _ _)
close_frame (frame.Tuple done outer) frames f t b e =
    closes f t (frame.Tuple done outer) frames b mark.CloseSquare (focus.Simple (plain.tuple (and_ty done t)) outer) tt refl refl
    (ap (λ h. rise outer (h + 1)) (tallest_and done t)) (ap surely (omega arith)) (omega arith) (e _ _)
close_frame (frame.Record done key needed outer) frames f t b e =
    closes f t (frame.Record done key needed outer) frames b mark.CloseBrace (focus.Simple (plain.rec (and_key done key needed t)) outer) tt refl refl
    (ap (λ h. rise outer (h + 1)) (tallest_key_and done key needed t)) (ap surely (omega arith)) (omega arith) (e _ _)
close_frame (frame.Parameter before x owner) frames f t b e =
    closes f t (frame.Parameter before x owner) frames b mark.Close (focus.Listed (all_of before x t None) owner) tt refl refl
    (ap (owned owner) (all_height before x t None)) (ap surely (omega arith)) (omega arith) (by_result (all_of before x t None) owner frames e)
close_frame (frame.Block needed inner outer level) frames f t b e = close_block f t needed inner outer level frames b e

-- no bracket is left open
refused : (f : Focus) (t : PlainTy) → Behind f t [] → {R : Type 0} (K : PlainTy → List Token → R) (fail : R) (rest : List Token) → FollowsAll rest → through K fail (placed f []) rest ≡ K t rest
unfolding through
refused f t b K fail [] h = ap (λ o. rests K fail o []) b.final_is
refused f t b K fail (c ∷ ts) h =
    ap (λ o. taken o (λ m. through K fail m ts) (rests K fail (final (placed f [])) (c ∷ ts))) (b.goes c.kind c.spot h.0 h.1) ∙ ap (λ o. rests K fail o (c ∷ ts)) b.final_is

at_end : (f : Focus) (t : PlainTy) → Behind f t [] → Finishes (placed f [])
unfolding reads
at_end f t b = record {
  w = [];
  t = t;
  whole = λ K fail rest h. refused f t b K fail rest h;
  alone = b.final_is;
  tall = b.tall;
  within = λ limit h. tt;
  shut = opens_none f t [] b;
  small = tt;
}

pub closing : (frames : List Frame) (f : Focus) (t : PlainTy) → Behind f t frames → Finishes (placed f frames)
closing [] f t b = at_end f t b
closing (g ∷ frames) f t b = close_frame g frames f t b (λ u level. closing frames (focus.Simple u level) (whole_of level u) (behind_simple u level frames))

pub simples_end : (frames : List Frame) → SimplesEnd frames
simples_end frames t level = closing frames (focus.Simple t level) (whole_of level t) (behind_simple t level frames)
