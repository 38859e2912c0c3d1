-- The least height of a phrase that goes on from a state only grows, and at the end it is the height of the phrase.
use Rattle.std.proofs.Common.{max, ℕ, ◌+◌, ◌≤◌, ◌≡◌, refl, ◌∙◌, ap, subst, Bool, true, false, if◌then◌else◌, ◌&&◌, List, [], ◌∷◌, Option, Some, None, arith}
use Rattle.rbs_terminals.specs.declared.token.Token.{Token}
use Rattle.rbs_terminals.specs.declared.token.Spot.{Spot}
use Rattle.rbs_terminals.specs.declared.token.Kind.{Kind}
use Rattle.rbs_terminals.specs.declared.token.Kind.TheVariants as kind
use Rattle.rbs_terminals.specs.declared.token.Mark.{Mark}
use Rattle.rbs_terminals.specs.declared.token.Mark.TheVariants as mark
use Rattle.rbs_terminals.specs.declared.token.Keyword.{Keyword}
use Rattle.rbs_terminals.specs.declared.token.Keyword.TheVariants as keyword
use Rattle.rbs_terminals.specs.Keywords.{base_of}
use Rattle.rbs_terminals.specs.Kinds.{lower_of}
use Rattle.sig_model.specs.declared.ty.BaseTy.{BaseTy}
use Rattle.sig_model.specs.declared.ty.TypeName.{TypeName}
use Rattle.sig_model.specs.PlainTy as plain
use Rattle.sig_model.specs.PlainTy.{PlainTy, PlainTys, PlainKeys, PlainArgs, PlainRest}
use Rattle.sig_model.specs.Height.{height, tallest, tallest_key}
use Rattle.rbs_types.specs.declared.state.Members.{Members}
use Rattle.rbs_types.specs.declared.state.Members.TheVariants as members
use Rattle.rbs_types.specs.declared.state.Parameters.{Parameters}
use Rattle.rbs_types.specs.declared.state.Listed.{Listed}
use Rattle.rbs_types.specs.declared.state.Head.{Head}
use Rattle.rbs_types.specs.declared.state.Level.{Level}
use Rattle.rbs_types.specs.declared.state.Owner.{Owner}
use Rattle.rbs_types.specs.declared.state.Owner.TheVariants as owner
use Rattle.rbs_types.specs.declared.state.Slot.{Slot}
use Rattle.rbs_types.specs.declared.state.Slot.TheVariants as slot
use Rattle.rbs_types.specs.declared.state.Frame.{Frame}
use Rattle.rbs_types.specs.declared.state.Frame.TheVariants as frame
use Rattle.rbs_types.specs.declared.state.Opening.{Opening}
use Rattle.rbs_types.specs.declared.state.Opening.TheVariants as opening
use Rattle.rbs_types.specs.declared.state.Focus.{Focus}
use Rattle.rbs_types.specs.declared.state.Focus.TheVariants as focus
use Rattle.rbs_types.specs.declared.state.State.{State}
use Rattle.rbs_types.specs.Symbols.{scope_at}
use Rattle.rbs_types.specs.Plains.{and_ty, and_key, is_new, no_arg, no_key}
use Rattle.rbs_types.specs.Parts.{grown, no_name, no_parameters, nothing_listed, takes_positional, takes_optional, function_of, ended}
use Rattle.rbs_types.specs.Machine.{next, final, step, ends, ground, joined, all_ended, slot_of, opening_of, wants_mark, wants_keyword, wants, key_named, key_begins, after_key_name, after_record, keyword_begins, word_begins, argument_begins, parameter_begins, after_parameters, after_parameter_key, after_parameter_named, after_key_rest_named, parameter_named, in_parameter, after_headed, after_outer, after_inner, after_listed, after_function, after_block_question, after_block, in_arguments, in_tuple, in_record, in_paren, in_block, in_bracket, after_type, after_inter, after_operand, after_opt, asked, question, after_simple, after_bare, after_upper, after_scope, after_singleton, after_singleton_scope, after_singleton_open, single_closed, after_singleton_upper, after_opening, after_parameter_word, after_tuple, end_type, end_opt, end_simple}
use Rattle.rbs_types.specs.Needs.{need, need_at, rise_over, rise_among, rise_heads, rise, owned, held, kept_height, parameters_height, listed_height, head_height, up}
use Rattle.rbs_types.proofs.Heights.{tallest_and, tallest_key_and, ended_height, all_height, positional_height, optional_height, rest_height_and, keyword_height, block_function_height, all_ended_height, joined_union, joined_inter, rise_over_and, rise_over_mono, rise_among_mono, rise_heads_mono, rise_mono, owned_mono, up_mono}

-- what the next state needs is at least that
abbrev pub AtLeast : ℕ → Option State → Type 0
AtLeast n None = Unit {0}
AtLeast n (Some s) = n ≤ need s

alike : (a : ℕ) → a ≤ a
alike a = omega arith

same : (a b : ℕ) → a ≡ b → a ≤ b
same a b e = omega arith

at_least : (a b : ℕ) (o : Option State) → a ≤ b → AtLeast b o → AtLeast a o
at_least a b None h l = tt
at_least a b (Some s) h l = omega arith

if_least : (b : Bool) (n : ℕ) (o : Option State) → AtLeast n o → AtLeast n (if b then o else None)
if_least true n o h = h
if_least false n o h = tt

either_least : (b : Bool) (n : ℕ) (o p : Option State) → AtLeast n o → AtLeast n p → AtLeast n (if b then o else p)
either_least true n o p h l = h
either_least false n o p h l = l

rises : (level : Level) (frames : List Frame) (a b : ℕ) → a ≤ b → up frames (rise level a) ≤ up frames (rise level b)
rises level frames a b h = up_mono frames (rise level a) (rise level b) (rise_mono level a b h)

-- ---- where a type must begin

wants_mark_need : (level : Level) (frames : List Frame) (m : Mark) → AtLeast (up frames (rise level 1)) (wants_mark level frames m)
wants_mark_need level frames mark.Open = alike _
wants_mark_need level frames mark.OpenSquare = alike _
wants_mark_need level frames mark.OpenBrace = alike _
wants_mark_need level frames mark.Caret = rises level frames 1 2 (omega arith)
wants_mark_need level frames mark.Scope = alike _
wants_mark_need level frames _ = tt

wants_keyword_need : (level : Level) (frames : List Frame) (k : Keyword) (b : Option BaseTy) → AtLeast (up frames (rise level 1)) (wants_keyword level frames k b)
wants_keyword_need level frames k (Some b) = alike _
wants_keyword_need level frames keyword.Singleton None = alike _
wants_keyword_need level frames _ None = tt

wants_need : (level : Level) (frames : List Frame) (k : Kind) → AtLeast (up frames (rise level 1)) (wants level frames k)
wants_need level frames (kind.Mark m) = wants_mark_need level frames m
wants_need level frames (kind.Keyword k) = wants_keyword_need level frames k (base_of k)
wants_need level frames (kind.Lower w) = alike _
wants_need level frames (kind.Interface w) = alike _
wants_need level frames (kind.Upper w) = alike _
wants_need level frames (kind.Integer n) = alike _
wants_need level frames kind.PastInteger = alike _
wants_need level frames (kind.Text w) = alike _
wants_need level frames (kind.Symbol w) = alike _
wants_need level frames _ = tt

-- ---- keys of a record

key_named_need : (done : PlainKeys) (needed : Bool) (level : Level) (frames : List Frame) (w : Option (List ℕ))
    → AtLeast (up frames (rise level (max (tallest_key done) 1 + 1))) (key_named done needed level frames w)
key_named_need done needed level frames None = tt
key_named_need done needed level frames (Some w) = if_least (is_new w done) _ _ (alike _)

key_begins_need : (done : PlainKeys) (level : Level) (frames : List Frame) (k : Kind)
    → AtLeast (up frames (rise level (max (tallest_key done) 1 + 1))) (key_begins done level frames k)
key_begins_need done level frames (kind.Mark mark.Question) = alike _
key_begins_need done level frames k = key_named_need done true level frames (lower_of k)

key_name_need : (done : PlainKeys) (key : List ℕ) (needed : Bool) (level : Level) (frames : List Frame) (k : Kind)
    → AtLeast (up frames (rise level (max (tallest_key done) 1 + 1))) (after_key_name done key needed level frames k)
key_name_need done key needed level frames (kind.Mark mark.Colon) = alike _
key_name_need done key needed level frames _ = tt

record_need : (level : Level) (frames : List Frame) (k : Kind) → AtLeast (up frames (rise level 1)) (after_record level frames k)
record_need level frames (kind.Mark mark.CloseBrace) = alike _
record_need level frames k = at_least _ (up frames (rise level 2)) (key_begins plain.no_keys level frames k) (rises level frames 1 2 (omega arith)) (key_begins_need plain.no_keys level frames k)

-- ---- parameters

-- a type behind others in the parameters of a function
grows : (o : Owner) (frames : List Frame) (a b : ℕ) → a ≤ b → up frames (owned o a) ≤ up frames (owned o b)
grows o frames a b h = up_mono frames _ _ (owned_mono o a b h)

named_need : (t : PlainTy) (before : Parameters) (x : Slot) (o : Owner) (frames : List Frame) (w : Option (List ℕ))
    → AtLeast (up frames (owned o (max (kept_height before x) (height t)))) (parameter_named t before x o frames w)
named_need t before x o frames None = tt
named_need t before slot.KeyRest o frames (Some w) = grows o frames _ _ (omega (arith, all_height before slot.KeyRest t (Some w)))
named_need t before (slot.Key k needed) o frames (Some w) = tt
named_need t before slot.Positional o frames (Some w) = grows o frames _ _ (omega (arith, positional_height before t (Some w)))
named_need t before slot.Optional o frames (Some w) = grows o frames _ _ (omega (arith, optional_height before t (Some w)))
named_need t before slot.Rest o frames (Some w) = grows o frames _ _ (omega (arith, rest_height_and before t (Some w)))

parameter_need : (t : PlainTy) (before : Parameters) (x : Slot) (o : Owner) (frames : List Frame) (k : Kind)
    → AtLeast (up frames (owned o (max (kept_height before x) (height t)))) (in_parameter t before x o frames k)
parameter_need t before slot.KeyRest o frames (kind.Mark mark.Comma) = tt
parameter_need t before slot.Positional o frames (kind.Mark mark.Comma) = grows o frames _ _ (omega (arith, positional_height before t None))
parameter_need t before slot.Optional o frames (kind.Mark mark.Comma) = grows o frames _ _ (omega (arith, optional_height before t None))
parameter_need t before slot.Rest o frames (kind.Mark mark.Comma) = grows o frames _ _ (omega (arith, rest_height_and before t None))
parameter_need t before (slot.Key w needed) o frames (kind.Mark mark.Comma) = grows o frames _ _ (omega (arith, keyword_height before w needed t))
parameter_need t before x o frames (kind.Mark mark.Close) = grows o frames _ _ (omega (arith, all_height before x t None))
parameter_need t before x o frames k = named_need t before x o frames (lower_of k)

-- a rest comes only where there is none
star_among : (r p : PlainArgs) (e : PlainRest) (t : PlainArgs) (ks : PlainKeys) (o : Owner) (frames : List Frame)
    → let before : Parameters = record { required = r; optional = p; rest = e; trailing = t; keys = ks } in
    AtLeast (up frames (owned o (max (parameters_height before) 1))) (parameter_begins before o frames (kind.Mark mark.Star))
star_among r p plain.no_rest t ks o frames = if_least (no_arg t && no_key ks) _ _ (grows o frames _ _ (omega arith))
star_among r p (plain.rest u n) t ks o frames = tt

star_need : (before : Parameters) (o : Owner) (frames : List Frame) → AtLeast (up frames (owned o (max (parameters_height before) 1))) (parameter_begins before o frames (kind.Mark mark.Star))
star_need before o frames = star_among before.required before.optional before.rest before.trailing before.keys o frames

-- what is needed where one more parameter must come
abbrev one_more : Parameters → Owner → List Frame → ℕ
one_more before o frames = up frames (owned o (max (parameters_height before) 1))

keyword_need : (before : Parameters) (needed : Bool) (w : List ℕ) (o : Owner) (frames : List Frame) → AtLeast (one_more before o frames) (keyword_begins before needed w o frames)
keyword_need before needed w o frames = if_least (is_new w before.keys) _ _ (alike _)

word_need : (before : Parameters) (needed takes : Bool) (w : List ℕ) (op : Option Opening) (o : Owner) (frames : List Frame)
    → AtLeast (one_more before o frames) (word_begins before needed takes w op o frames)
word_need before needed true w (Some p) o frames = alike _
word_need before needed true w None o frames = keyword_need before needed w o frames
word_need before needed false w op o frames = keyword_need before needed w o frames

slot_height : (before : Parameters) (needed : Bool) → kept_height before (slot_of needed) ≡ parameters_height before
slot_height before true = refl
slot_height before false = refl

-- a type inside the frame of a parameter
inside_parameter : (before : Parameters) (needed : Bool) (o : Owner) (frames : List Frame) → one_more before o frames ≤ up frames (owned o (max (kept_height before (slot_of needed)) 1))
inside_parameter before needed o frames = grows o frames (max (parameters_height before) 1) (max (kept_height before (slot_of needed)) 1) (omega (arith, slot_height before needed))

argument_need : (before : Parameters) (needed takes : Bool) (w : Option (List ℕ)) (o : Owner) (frames : List Frame) (k : Kind)
    → AtLeast (one_more before o frames) (argument_begins before needed takes w o frames k)
argument_need before needed takes (Some w) o frames k = word_need before needed takes w (opening_of k) o frames
argument_need before needed true None o frames k =
    let inside : List Frame = frame.Parameter before (slot_of needed) o ∷ frames in
    at_least _ (up inside (rise ground 1)) (wants ground inside k) (inside_parameter before needed o frames) (wants_need ground inside k)
argument_need before needed false None o frames k = tt

begins_need : (before : Parameters) (o : Owner) (frames : List Frame) (k : Kind) → AtLeast (one_more before o frames) (parameter_begins before o frames k)
begins_need before o frames (kind.Mark mark.Question) = alike _
begins_need before o frames (kind.Mark mark.Star) = star_need before o frames
begins_need before o frames (kind.Mark mark.DoubleStar) = alike _
begins_need before o frames k = argument_need before true (takes_positional before) (lower_of k) o frames k

parameters_need : (o : Owner) (frames : List Frame) (k : Kind) → AtLeast (up frames (owned o 0)) (after_parameters o frames k)
parameters_need o frames (kind.Mark mark.Close) = alike _
parameters_need o frames k = at_least _ (up frames (owned o 1)) (parameter_begins no_parameters o frames k) (grows o frames 0 1 (omega arith)) (begins_need no_parameters o frames k)

parameter_key_need : (before : Parameters) (needed : Bool) (w : List ℕ) (o : Owner) (frames : List Frame) (k : Kind)
    → AtLeast (one_more before o frames) (after_parameter_key before needed w o frames k)
parameter_key_need before needed w o frames (kind.Mark mark.Colon) = alike _
parameter_key_need before needed w o frames _ = tt

parameter_named_need : (p : Parameters) (o : Owner) (frames : List Frame) (k : Kind) → AtLeast (up frames (owned o (parameters_height p))) (after_parameter_named p o frames k)
parameter_named_need p o frames (kind.Mark mark.Comma) = grows o frames (parameters_height p) (max (parameters_height p) 1) (omega arith)
parameter_named_need p o frames (kind.Mark mark.Close) = grows o frames (parameters_height p) (max (parameters_height p) 0) (omega arith)
parameter_named_need p o frames _ = tt

key_rest_named_need : (l : Listed) (o : Owner) (frames : List Frame) (k : Kind) → AtLeast (up frames (owned o (listed_height l))) (after_key_rest_named l o frames k)
key_rest_named_need l o frames (kind.Mark mark.Close) = alike _
key_rest_named_need l o frames _ = tt

-- ---- functions

headed_need : (h : Head) (level : Level) (frames : List Frame) (k : Kind) → AtLeast (up frames (rise level (max (head_height h) 1 + 1))) (after_headed h level frames k)
headed_need h level frames (kind.Mark mark.Arrow) = alike _
headed_need h level frames _ = tt

outer_need : (l : Listed) (level : Level) (frames : List Frame) (k : Kind) → AtLeast (up frames (rise level (max (listed_height l) 1 + 1))) (after_outer l level frames k)
outer_need l level frames (kind.Mark mark.Question) = alike _
outer_need l level frames (kind.Mark mark.OpenBrace) = alike _
outer_need l level frames (kind.Mark mark.Arrow) = rises level frames (max (listed_height l) 1 + 1) (max (max (listed_height l) 0) 1 + 1) (omega arith)
outer_need l level frames _ = tt

inner_need : (needed : Bool) (inner outer : Listed) (level : Level) (frames : List Frame) (k : Kind)
    → AtLeast (up frames (rise level (max (listed_height outer) (max (listed_height inner) 1) + 1))) (after_inner needed inner outer level frames k)
inner_need needed inner outer level frames (kind.Mark mark.Arrow) =
    rises level frames (max (listed_height outer) (max (listed_height inner) 1) + 1) (max (listed_height outer) (max (max (listed_height inner) 1) 1) + 1) (omega arith)
inner_need needed inner outer level frames _ = tt

listed_need : (l : Listed) (o : Owner) (frames : List Frame) (k : Kind) → AtLeast (up frames (owned o (listed_height l))) (after_listed l o frames k)
listed_need l (owner.Function level) frames k = outer_need l level frames k
listed_need l (owner.Block needed outer level) frames k = inner_need needed l outer level frames k

function_need : (level : Level) (frames : List Frame) (k : Kind) → AtLeast (up frames (rise level 2)) (after_function level frames k)
function_need level frames (kind.Mark mark.Open) = alike _
function_need level frames k = outer_need nothing_listed level frames k

block_question_need : (outer : Listed) (level : Level) (frames : List Frame) (k : Kind)
    → AtLeast (up frames (rise level (max (listed_height outer) 1 + 1))) (after_block_question outer level frames k)
block_question_need outer level frames (kind.Mark mark.OpenBrace) = alike _
block_question_need outer level frames _ = tt

block_need : (needed : Bool) (outer : Listed) (level : Level) (frames : List Frame) (k : Kind)
    → AtLeast (up frames (rise level (max (listed_height outer) 1 + 1))) (after_block needed outer level frames k)
block_need needed outer level frames (kind.Mark mark.Open) = alike _
block_need needed outer level frames k = inner_need needed nothing_listed outer level frames k

-- ---- behind a type in a bracket

arguments_need : (t : PlainTy) (n : TypeName) (done : PlainTys) (outer : Level) (frames : List Frame) (k : Kind)
    → AtLeast (up frames (rise outer (max (tallest done) (height t) + 1))) (in_arguments t n done outer frames k)
arguments_need t n done outer frames (kind.Mark mark.Comma) =
    rises outer frames (max (tallest done) (height t) + 1) (max (tallest (and_ty done t)) 1 + 1) (omega (arith, tallest_and done t))
arguments_need t n done outer frames (kind.Mark mark.CloseSquare) =
    rises outer frames (max (tallest done) (height t) + 1) (tallest (and_ty done t) + 1) (omega (arith, tallest_and done t))
arguments_need t n done outer frames _ = tt

tuple_need : (t : PlainTy) (done : PlainTys) (outer : Level) (frames : List Frame) (k : Kind)
    → AtLeast (up frames (rise outer (max (tallest done) (height t) + 1))) (in_tuple t done outer frames k)
tuple_need t done outer frames (kind.Mark mark.Comma) =
    rises outer frames (max (tallest done) (height t) + 1) (max (tallest (and_ty done t)) 1 + 1) (omega (arith, tallest_and done t))
tuple_need t done outer frames (kind.Mark mark.CloseSquare) =
    rises outer frames (max (tallest done) (height t) + 1) (tallest (and_ty done t) + 1) (omega (arith, tallest_and done t))
tuple_need t done outer frames _ = tt

in_record_need : (t : PlainTy) (done : PlainKeys) (key : List ℕ) (needed : Bool) (outer : Level) (frames : List Frame) (k : Kind)
    → AtLeast (up frames (rise outer (max (tallest_key done) (height t) + 1))) (in_record t done key needed outer frames k)
in_record_need t done key needed outer frames (kind.Mark mark.Comma) =
    rises outer frames (max (tallest_key done) (height t) + 1) (max (tallest_key (and_key done key needed t)) 1 + 1) (omega (arith, tallest_key_and done key needed t))
in_record_need t done key needed outer frames (kind.Mark mark.CloseBrace) =
    rises outer frames (max (tallest_key done) (height t) + 1) (tallest_key (and_key done key needed t) + 1) (omega (arith, tallest_key_and done key needed t))
in_record_need t done key needed outer frames _ = tt

in_paren_need : (t : PlainTy) (outer : Level) (frames : List Frame) (k : Kind) → AtLeast (up frames (rise outer (height t))) (in_paren t outer frames k)
in_paren_need t outer frames (kind.Mark mark.Close) = alike _
in_paren_need t outer frames _ = tt

in_block_need : (t : PlainTy) (needed : Bool) (inner outer : Listed) (level : Level) (frames : List Frame) (k : Kind)
    → AtLeast (up frames (rise level (max (listed_height outer) (max (max (listed_height inner) (height t)) 1) + 1))) (in_block t needed inner outer level frames k)
in_block_need t needed inner outer level frames (kind.Mark mark.CloseBrace) =
    rises level frames
    (max (listed_height outer) (max (max (listed_height inner) (height t)) 1) + 1)
    (max (head_height (record { listed = outer; block = plain.block needed (function_of inner plain.no_block t) })) 1 + 1)
    (omega (arith, block_function_height inner needed t))
in_block_need t needed inner outer level frames _ = tt

bracket_need : (t : PlainTy) (f : Frame) (frames : List Frame) (k : Kind) → AtLeast (up frames (held f (height t))) (in_bracket t f frames k)
bracket_need t (frame.Paren outer) frames k = in_paren_need t outer frames k
bracket_need t (frame.Arguments n done outer) frames k = arguments_need t n done outer frames k
bracket_need t (frame.Tuple done outer) frames k = tuple_need t done outer frames k
bracket_need t (frame.Record done key needed outer) frames k = in_record_need t done key needed outer frames k
bracket_need t (frame.Parameter before x o) frames k = parameter_need t before x o frames k
bracket_need t (frame.Block needed inner outer level) frames k = in_block_need t needed inner outer level frames k

-- ---- behind a type

type_need : (t : PlainTy) (frames : List Frame) (k : Kind) → AtLeast (up frames (height t)) (after_type t frames k)
type_need t [] k = tt
type_need t (f ∷ frames) k = bracket_need t f frames k

-- the same, of a type whose height is known
type_of : (t : PlainTy) (h : ℕ) (frames : List Frame) (k : Kind) → height t ≡ h → AtLeast (up frames h) (after_type t frames k)
type_of t h frames k e = subst (λ h. AtLeast (up frames h) (after_type t frames k)) e (type_need t frames k)

inter_need : (t : PlainTy) (us : PlainTys) (frames : List Frame) (k : Kind) → AtLeast (up frames (rise_over us (height t))) (after_inter t us frames k)
inter_need t us frames (kind.Mark mark.Bar) = up_mono frames (rise_over us (height t)) (rise_over (and_ty us t) 1) (rise_over_and us t)
inter_need t us frames k = type_of (joined plain.union us t) (rise_over us (height t)) frames k (joined_union us t)

inter_of : (t : PlainTy) (h : ℕ) (us : PlainTys) (frames : List Frame) (k : Kind) → height t ≡ h → AtLeast (up frames (rise_over us h)) (after_inter t us frames k)
inter_of t h us frames k e = subst (λ h. AtLeast (up frames (rise_over us h)) (after_inter t us frames k)) e (inter_need t us frames k)

operand_need : (t : PlainTy) (us is : PlainTys) (frames : List Frame) (k : Kind)
    → AtLeast (up frames (rise_over us (rise_over is (height t)))) (after_operand t us is frames k)
operand_need t us is frames (kind.Mark mark.Amp) =
    up_mono frames (rise_over us (rise_over is (height t))) (rise_over us (rise_over (and_ty is t) 1))
    (rise_over_mono us (rise_over is (height t)) (rise_over (and_ty is t) 1) (rise_over_and is t))
operand_need t us is frames k = inter_of (joined plain.inter is t) (rise_over is (height t)) us frames k (joined_inter is t)

opt_need : (t : PlainTy) (ms : Members) (frames : List Frame) (k : Kind) → AtLeast (up frames (rise_among ms (height t))) (after_opt t ms frames k)
opt_need t (members.Operands us is) frames k = operand_need t us is frames k
opt_need t members.Result frames k = type_need t frames k
opt_need t members.Closed frames k = type_need t frames k

opt_of : (t : PlainTy) (h : ℕ) (ms : Members) (frames : List Frame) (k : Kind) → height t ≡ h → AtLeast (up frames (rise_among ms h)) (after_opt t ms frames k)
opt_of t h ms frames k e = subst (λ h. AtLeast (up frames (rise_among ms h)) (after_opt t ms frames k)) e (opt_need t ms frames k)

among : (ms : Members) (frames : List Frame) (a b : ℕ) → a ≤ b → up frames (rise_among ms a) ≤ up frames (rise_among ms b)
among ms frames a b h = up_mono frames (rise_among ms a) (rise_among ms b) (rise_among_mono ms a b h)

asked_need : (t : PlainTy) (ms : Members) (frames : List Frame) → AtLeast (up frames (rise_among ms (height t))) (asked t ms frames)
asked_need t members.Closed frames = type_need t frames (kind.Mark mark.Question)
asked_need t members.Result frames = among members.Result frames (height t) (height t + 1) (omega arith)
asked_need t (members.Operands us is) frames = among (members.Operands us is) frames (height t) (height t + 1) (omega arith)

question_need : (t : PlainTy) (ms : Members) (hs : List Head) (frames : List Frame) → AtLeast (up frames (rise_among ms (rise_heads hs (height t)))) (question t ms hs frames)
question_need t ms [] frames = asked_need t ms frames
question_need t ms (h ∷ hs) frames =
    let low : ℕ = max (head_height h) (height t) + 1 in
    let high : ℕ = height (ended h (plain.opt t)) in
    among ms frames (rise_heads hs low) (rise_heads hs high) (rise_heads_mono hs low high (omega (arith, ended_height h (plain.opt t))))

simple_need : (t : PlainTy) (level : Level) (frames : List Frame) (k : Kind) → AtLeast (up frames (rise level (height t))) (after_simple t level frames k)
simple_need t level frames (kind.Mark mark.Question) = question_need t level.members level.heads frames
simple_need t level frames k = opt_of (all_ended level.heads t) (rise_heads level.heads (height t)) level.members frames k (all_ended_height level.heads t)

-- ---- names

bare_need : (n : TypeName) (level : Level) (frames : List Frame) (k : Kind) → AtLeast (up frames (rise level 1)) (after_bare n level frames k)
bare_need n level frames (kind.Mark mark.OpenSquare) = rises level frames 1 2 (omega arith)
bare_need n level frames k = simple_need (plain.name n plain.no_tys) level frames k

upper_need : (n : TypeName) (level : Level) (frames : List Frame) (k : Kind) (s : Spot) → AtLeast (up frames (rise level 1)) (after_upper n level frames k s)
upper_need n level frames k s = either_least (scope_at k s) _ _ _ (alike _) (bare_need n level frames k)

scope_need : (n : TypeName) (level : Level) (frames : List Frame) (k : Kind) → AtLeast (up frames (rise level 1)) (after_scope n level frames k)
scope_need n level frames (kind.Upper w) = alike _
scope_need n level frames (kind.Interface w) = alike _
scope_need n level frames (kind.Lower w) = alike _
scope_need n level frames _ = tt

singleton_need : (level : Level) (frames : List Frame) (k : Kind) → AtLeast (up frames (rise level 1)) (after_singleton level frames k)
singleton_need level frames (kind.Mark mark.Open) = alike _
singleton_need level frames _ = tt

singleton_scope_need : (n : TypeName) (level : Level) (frames : List Frame) (k : Kind) → AtLeast (up frames (rise level 1)) (after_singleton_scope n level frames k)
singleton_scope_need n level frames (kind.Upper w) = alike _
singleton_scope_need n level frames _ = tt

singleton_open_need : (level : Level) (frames : List Frame) (k : Kind) → AtLeast (up frames (rise level 1)) (after_singleton_open level frames k)
singleton_open_need level frames (kind.Mark mark.Scope) = alike _
singleton_open_need level frames k = singleton_scope_need no_name level frames k

single_closed_need : (n : TypeName) (level : Level) (frames : List Frame) (k : Kind) → AtLeast (up frames (rise level 1)) (single_closed n level frames k)
single_closed_need n level frames (kind.Mark mark.Close) = alike _
single_closed_need n level frames _ = tt

singleton_upper_need : (n : TypeName) (level : Level) (frames : List Frame) (k : Kind) (s : Spot) → AtLeast (up frames (rise level 1)) (after_singleton_upper n level frames k s)
singleton_upper_need n level frames k s = either_least (scope_at k s) _ _ _ (alike _) (single_closed_need n level frames k)

-- ---- behind what may be a keyword's name

opening_need : (op : Opening) (w : List ℕ) (frames : List Frame) (k : Kind) → AtLeast (up frames 1) (after_opening op w frames k)
opening_need opening.Alias w frames k = bare_need (grown no_name w) ground frames k
opening_need (opening.Base b) w frames k = simple_need (plain.base b) ground frames k
opening_need opening.Singleton w frames k = singleton_need ground frames k

word_or_key_need : (before : Parameters) (needed : Bool) (w : List ℕ) (op : Opening) (o : Owner) (frames : List Frame) (k : Kind)
    → AtLeast (one_more before o frames) (after_parameter_word before needed w op o frames k)
word_or_key_need before needed w op o frames (kind.Mark mark.Colon) = alike _
word_or_key_need before needed w op o frames k =
    let inside : List Frame = frame.Parameter before (slot_of needed) o ∷ frames in
    at_least _ (up inside 1) (after_opening op w inside k) (inside_parameter before needed o frames) (opening_need op w inside k)

-- ---- brackets that may close at once

after_tuple_need : (level : Level) (frames : List Frame) (k : Kind) → AtLeast (up frames (rise level 1)) (after_tuple level frames k)
after_tuple_need level frames (kind.Mark mark.CloseSquare) = alike _
after_tuple_need level frames k =
    let inside : List Frame = frame.Tuple plain.no_tys level ∷ frames in
    at_least _ (up inside (rise ground 1)) (wants ground inside k) (rises level frames 1 2 (omega arith)) (wants_need ground inside k)

-- ---- all

step_need : (f : Focus) (frames : List Frame) (k : Kind) (s : Spot) → AtLeast (up frames (need_at f)) (step f frames k s)
step_need (focus.Type level) frames k s = wants_need level frames k
step_need (focus.Scope n level) frames k s = scope_need n level frames k
step_need (focus.Upper n level) frames k s = upper_need n level frames k s
step_need (focus.Bare n level) frames k s = bare_need n level frames k
step_need (focus.Singleton level) frames k s = singleton_need level frames k
step_need (focus.SingletonOpen level) frames k s = singleton_open_need level frames k
step_need (focus.SingletonScope n level) frames k s = singleton_scope_need n level frames k
step_need (focus.SingletonUpper n level) frames k s = singleton_upper_need n level frames k s
step_need (focus.Paren level) frames k s = wants_need ground (frame.Paren level ∷ frames) k
step_need (focus.Tuple level) frames k s = after_tuple_need level frames k
step_need (focus.Record level) frames k s = record_need level frames k
step_need (focus.Key done level) frames k s = key_begins_need done level frames k
step_need (focus.KeyQuestion done level) frames k s = key_named_need done false level frames (lower_of k)
step_need (focus.KeyName done key needed level) frames k s = key_name_need done key needed level frames k
step_need (focus.Simple t level) frames k s = simple_need t level frames k
step_need (focus.Optional t ms) frames k s = opt_need t ms frames k
step_need (focus.Function level) frames k s = function_need level frames k
step_need (focus.Parameters o) frames k s = parameters_need o frames k
step_need (focus.Parameter before o) frames k s = begins_need before o frames k
step_need (focus.ParameterQuestion before o) frames k s = argument_need before false (takes_optional before) (lower_of k) o frames k
step_need (focus.ParameterWord before needed w op o) frames k s = word_or_key_need before needed w op o frames k
step_need (focus.ParameterKey before needed w o) frames k s = parameter_key_need before needed w o frames k
step_need (focus.ParameterNamed p o) frames k s = parameter_named_need p o frames k
step_need (focus.KeyRestNamed l o) frames k s = key_rest_named_need l o frames k
step_need (focus.Listed l o) frames k s = listed_need l o frames k
step_need (focus.BlockQuestion outer level) frames k s = block_question_need outer level frames k
step_need (focus.Block needed outer level) frames k s = block_need needed outer level frames k
step_need (focus.Headed h level) frames k s = headed_need h level frames k

pub need_next : (s : State) (c : Token) (m : State) → next s c ≡ Some m → need s ≤ need m
need_next s c m e = subst (AtLeast (need s)) e (step_need s.focus s.frames c.kind c.spot)

-- ---- a whole phrase has the height that its state needs

abbrev HasHeight : ℕ → Option PlainTy → Type 0
HasHeight n None = Unit {0}
HasHeight n (Some t) = n ≡ height t

end_type_need : (t : PlainTy) (frames : List Frame) → HasHeight (up frames (height t)) (end_type t frames)
end_type_need t [] = refl
end_type_need t (f ∷ frames) = tt

end_opt_need : (t : PlainTy) (ms : Members) (frames : List Frame) → HasHeight (up frames (rise_among ms (height t))) (end_opt t ms frames)
end_opt_need t (members.Operands us is) frames =
    let whole : PlainTy = joined plain.union us (joined plain.inter is t) in
    subst (λ h. HasHeight (up frames h) (end_type whole frames)) (joined_union us (joined plain.inter is t) ∙ ap (rise_over us) (joined_inter is t)) (end_type_need whole frames)
end_opt_need t members.Result frames = end_type_need t frames
end_opt_need t members.Closed frames = end_type_need t frames

end_simple_need : (t : PlainTy) (level : Level) (frames : List Frame) → HasHeight (up frames (rise level (height t))) (end_simple t level frames)
end_simple_need t level frames =
    let whole : PlainTy = all_ended level.heads t in
    subst (λ h. HasHeight (up frames (rise_among level.members h)) (end_opt whole level.members frames)) (all_ended_height level.heads t) (end_opt_need whole level.members frames)

end_need : (f : Focus) (frames : List Frame) → HasHeight (up frames (need_at f)) (ends f frames)
end_need (focus.Upper n level) frames = end_simple_need (plain.name n plain.no_tys) level frames
end_need (focus.Bare n level) frames = end_simple_need (plain.name n plain.no_tys) level frames
end_need (focus.Simple t level) frames = end_simple_need t level frames
end_need (focus.Optional t ms) frames = end_opt_need t ms frames
end_need _ frames = tt

pub need_final : (s : State) (t : PlainTy) → final s ≡ Some t → need s ≡ height t
need_final s t e = subst (HasHeight (need s)) e (end_need s.focus s.frames)
