-- How many brackets are open behind a token, and that a state reaches no deeper than each phrase that goes on from it.
use Rattle.std.proofs.Common.{max, ℕ, ◌+◌, ◌≤◌, ◌≡◌, refl, sym, subst, Bool, true, false, if◌then◌else◌, List, [], ◌∷◌, Option, Some, None, arith}
use Rattle.rbs_terminals.specs.declared.token.Token.{Token}
use Rattle.rbs_terminals.specs.declared.token.Spot.{Spot}
use Rattle.rbs_terminals.specs.declared.token.Kind.{Kind}
use Rattle.rbs_terminals.specs.declared.token.Kind.TheVariants as kind
use Rattle.rbs_terminals.specs.declared.token.Mark.{Mark}
use Rattle.rbs_terminals.specs.declared.token.Mark.TheVariants as mark
use Rattle.rbs_terminals.specs.declared.token.Keyword.{Keyword}
use Rattle.rbs_terminals.specs.declared.token.Keyword.TheVariants as keyword
use Rattle.rbs_terminals.specs.Keywords.{base_of, keyword_text}
use Rattle.rbs_terminals.specs.Kinds.{lower_of}
use Rattle.sig_model.specs.declared.ty.BaseTy.{BaseTy}
use Rattle.sig_model.specs.declared.ty.TypeName.{TypeName}
use Rattle.sig_model.specs.PlainTy as plain
use Rattle.sig_model.specs.PlainTy.{PlainTy, PlainTys, PlainKeys}
use Rattle.rbs_types.specs.declared.state.Members.{Members}
use Rattle.rbs_types.specs.declared.state.Members.TheVariants as members
use Rattle.rbs_types.specs.declared.state.Parameters.{Parameters}
use Rattle.rbs_types.specs.declared.state.Listed.{Listed}
use Rattle.rbs_types.specs.declared.state.Head.{Head}
use Rattle.rbs_types.specs.declared.state.Level.{Level}
use Rattle.rbs_types.specs.declared.state.Owner.{Owner}
use Rattle.rbs_types.specs.declared.state.Owner.TheVariants as owner
use Rattle.rbs_types.specs.declared.state.Slot.{Slot}
use Rattle.rbs_types.specs.declared.state.Slot.TheVariants as slot
use Rattle.rbs_types.specs.declared.state.Frame.{Frame}
use Rattle.rbs_types.specs.declared.state.Frame.TheVariants as frame
use Rattle.rbs_types.specs.declared.state.Opening.{Opening}
use Rattle.rbs_types.specs.declared.state.Opening.TheVariants as opening
use Rattle.rbs_types.specs.declared.state.Focus.{Focus}
use Rattle.rbs_types.specs.declared.state.Focus.TheVariants as focus
use Rattle.rbs_types.specs.declared.state.State.{State}
use Rattle.rbs_types.specs.Symbols.{on_line}
use Rattle.rbs_types.specs.Plains.{is_new}
use Rattle.rbs_types.specs.Parts.{grown, no_name, no_parameters, nothing_listed, takes_positional, takes_optional}
use Rattle.rbs_types.specs.Machine.{next, final, step, ends, ground, joined, all_ended, slot_of, opening_of, wants_mark, wants_keyword, wants, key_named, key_begins, after_key_name, after_record, keyword_begins, word_begins, argument_begins, parameter_begins, after_parameters, after_parameter_key, after_parameter_named, after_key_rest_named, parameter_named, comma_after, in_parameter, after_headed, after_outer, after_inner, after_listed, after_function, after_block_question, after_block, in_arguments, in_tuple, in_record, in_paren, in_block, in_bracket, after_type, after_inter, after_operand, after_opt, asked, question, after_simple, after_bare, after_upper, after_scope, after_singleton, after_singleton_scope, after_singleton_open, single_closed, after_singleton_upper, after_opening, after_parameter_word, after_tuple}
use Rattle.rbs_types.specs.Depth.{Depth, surely, deepened, behind}
use Rattle.rbs_types.specs.Needs.{owner_open, frames_open, focus_open, is_fresh, forced, depth, reach}

-- what is open in the next state is just that
abbrev Deep : Depth → Option State → Type 0
Deep d None = Unit {0}
Deep d (Some m) = (focus_open m.focus + frames_open m.frames ≡ d.sure) × (is_fresh m.focus ≡ d.fresh)

if_deep : (b : Bool) (d : Depth) (o : Option State) → Deep d o → Deep d (if b then o else None)
if_deep true d o h = h
if_deep false d o h = tt

either_deep : (b : Bool) (d : Depth) (o p : Option State) → Deep d o → Deep d p → Deep d (if b then o else p)
either_deep true d o p h l = h
either_deep false d o p h l = l

-- behind an opening parenthesis each token counts it that doesn't close it
fresh_deep : (n : ℕ) (k : Kind) (o : Kind → Option State) → o (kind.Mark mark.Close) ≡ None → Deep (deepened (surely (n + 1)) k) (o k)
    → Deep (deepened (record { sure = n; fresh = true }) k) (o k)
fresh_deep n (kind.Mark mark.Close) o e h = subst (Deep (surely n)) (sym e) tt
fresh_deep n k o e h = h

plus_zero : (n : ℕ) → n ≡ 0 + n
plus_zero n = omega arith

-- a focus that opens nothing
none_open : (n : ℕ) (fresh : Bool) (k : Kind) (o : Option State) → Deep (deepened (record { sure = n; fresh = fresh }) k) o → Deep (deepened (record { sure = 0 + n; fresh = fresh }) k) o
none_open n fresh k o h = subst (λ a. Deep (deepened (record { sure = a; fresh = fresh }) k) o) (plus_zero n) h

-- ---- where a type must begin

wants_mark_deep : (level : Level) (frames : List Frame) (n : ℕ) (m : Mark) → n ≡ frames_open frames → Deep (deepened (surely n) (kind.Mark m)) (wants_mark level frames m)
wants_mark_deep level frames n mark.Open e = (omega arith, refl)
wants_mark_deep level frames n mark.OpenSquare e = (omega arith, refl)
wants_mark_deep level frames n mark.OpenBrace e = (omega arith, refl)
wants_mark_deep level frames n mark.Caret e = (omega arith, refl)
wants_mark_deep level frames n mark.Scope e = (omega arith, refl)
wants_mark_deep level frames n _ e = tt

wants_keyword_deep : (level : Level) (frames : List Frame) (n : ℕ) (k : Keyword) (b : Option BaseTy) → n ≡ frames_open frames → Deep (surely n) (wants_keyword level frames k b)
wants_keyword_deep level frames n k (Some b) e = (omega arith, refl)
wants_keyword_deep level frames n keyword.Singleton None e = (omega arith, refl)
wants_keyword_deep level frames n _ None e = tt

wants_deep : (level : Level) (frames : List Frame) (n : ℕ) (k : Kind) → n ≡ frames_open frames → Deep (deepened (surely n) k) (wants level frames k)
wants_deep level frames n (kind.Mark m) e = wants_mark_deep level frames n m e
wants_deep level frames n (kind.Keyword k) e = wants_keyword_deep level frames n k (base_of k) e
wants_deep level frames n (kind.Lower w) e = (omega arith, refl)
wants_deep level frames n (kind.Interface w) e = (omega arith, refl)
wants_deep level frames n (kind.Upper w) e = (omega arith, refl)
wants_deep level frames n (kind.Integer i) e = (omega arith, refl)
wants_deep level frames n kind.PastInteger e = (omega arith, refl)
wants_deep level frames n (kind.Text w) e = (omega arith, refl)
wants_deep level frames n (kind.Symbol w) e = (omega arith, refl)
wants_deep level frames n _ e = tt

-- ---- keys of a record

key_word_deep : (done : PlainKeys) (needed : Bool) (level : Level) (frames : List Frame) (w : List ℕ)
    → Deep (surely (1 + frames_open frames)) (key_named done needed level frames (Some w))
key_word_deep done needed level frames w = if_deep (is_new w done) _ _ (omega arith, refl)

key_named_deep : (done : PlainKeys) (needed : Bool) (level : Level) (frames : List Frame) (k : Kind)
    → Deep (deepened (surely (1 + frames_open frames)) k) (key_named done needed level frames (lower_of k))
key_named_deep done needed level frames (kind.Lower w) = key_word_deep done needed level frames w
key_named_deep done needed level frames (kind.Keyword k) = key_word_deep done needed level frames (keyword_text k)
key_named_deep done needed level frames _ = tt

key_begins_deep : (done : PlainKeys) (level : Level) (frames : List Frame) (k : Kind)
    → Deep (deepened (surely (1 + frames_open frames)) k) (key_begins done level frames k)
key_begins_deep done level frames (kind.Mark mark.Question) = (omega arith, refl)
key_begins_deep done level frames k = key_named_deep done true level frames k

key_name_deep : (done : PlainKeys) (key : List ℕ) (needed : Bool) (level : Level) (frames : List Frame) (k : Kind)
    → Deep (deepened (surely (1 + frames_open frames)) k) (after_key_name done key needed level frames k)
key_name_deep done key needed level frames (kind.Mark mark.Colon) = (omega arith, refl)
key_name_deep done key needed level frames _ = tt

record_deep : (level : Level) (frames : List Frame) (k : Kind) → Deep (deepened (surely (1 + frames_open frames)) k) (after_record level frames k)
record_deep level frames (kind.Mark mark.CloseBrace) = (omega arith, refl)
record_deep level frames k = key_begins_deep plain.no_keys level frames k

-- ---- parameters

-- what is open among parameters
abbrev among : Owner → List Frame → ℕ
among o frames = owner_open o + 1 + frames_open frames

keyword_deep : (before : Parameters) (needed : Bool) (w : List ℕ) (o : Owner) (frames : List Frame) (n : ℕ)
    → n ≡ among o frames → Deep (surely n) (keyword_begins before needed w o frames)
keyword_deep before needed w o frames n e = if_deep (is_new w before.keys) _ _ (omega arith, refl)

word_deep : (before : Parameters) (needed takes : Bool) (w : List ℕ) (op : Option Opening) (o : Owner) (frames : List Frame) (n : ℕ)
    → n ≡ among o frames → Deep (surely n) (word_begins before needed takes w op o frames)
word_deep before needed true w (Some p) o frames n e = (omega arith, refl)
word_deep before needed true w None o frames n e = keyword_deep before needed w o frames n e
word_deep before needed false w op o frames n e = keyword_deep before needed w o frames n e

argument_deep : (before : Parameters) (needed takes : Bool) (o : Owner) (frames : List Frame) (n : ℕ) (k : Kind)
    → n ≡ among o frames → Deep (deepened (surely n) k) (argument_begins before needed takes (lower_of k) o frames k)
argument_deep before needed takes o frames n (kind.Lower w) e = word_deep before needed takes w (opening_of (kind.Lower w)) o frames n e
argument_deep before needed takes o frames n (kind.Keyword k) e = word_deep before needed takes (keyword_text k) (opening_of (kind.Keyword k)) o frames n e
argument_deep before needed true o frames n k e = wants_deep ground (frame.Parameter before (slot_of needed) o ∷ frames) n k e
argument_deep before needed false o frames n k e = tt

begins_deep : (before : Parameters) (o : Owner) (frames : List Frame) (n : ℕ) (k : Kind)
    → n ≡ among o frames → Deep (deepened (surely n) k) (parameter_begins before o frames k)
begins_deep before o frames n (kind.Mark mark.Question) e = (omega arith, refl)
begins_deep before o frames n (kind.Mark mark.Star) e = if_deep (takes_optional before) _ _ (omega arith, refl)
begins_deep before o frames n (kind.Mark mark.DoubleStar) e = (omega arith, refl)
begins_deep before o frames n k e = argument_deep before true (takes_positional before) o frames n k e

parameters_deep : (o : Owner) (frames : List Frame) (k : Kind)
    → Deep (deepened (record { sure = owner_open o + frames_open frames; fresh = true }) k) (after_parameters o frames k)
parameters_deep o frames (kind.Mark mark.Close) = (omega arith, refl)
parameters_deep o frames k =
    let n : ℕ = owner_open o + frames_open frames in
    fresh_deep n k (λ k. parameter_begins no_parameters o frames k) refl (begins_deep no_parameters o frames (n + 1) k (omega arith))

parameter_key_deep : (before : Parameters) (needed : Bool) (w : List ℕ) (o : Owner) (frames : List Frame) (k : Kind)
    → Deep (deepened (surely (among o frames)) k) (after_parameter_key before needed w o frames k)
parameter_key_deep before needed w o frames (kind.Mark mark.Colon) = (omega arith, refl)
parameter_key_deep before needed w o frames _ = tt

parameter_named_deep : (p : Parameters) (o : Owner) (frames : List Frame) (k : Kind) → Deep (deepened (surely (among o frames)) k) (after_parameter_named p o frames k)
parameter_named_deep p o frames (kind.Mark mark.Comma) = (omega arith, refl)
parameter_named_deep p o frames (kind.Mark mark.Close) = (omega arith, refl)
parameter_named_deep p o frames _ = tt

key_rest_named_deep : (l : Listed) (o : Owner) (frames : List Frame) (k : Kind) → Deep (deepened (surely (among o frames)) k) (after_key_rest_named l o frames k)
key_rest_named_deep l o frames (kind.Mark mark.Close) = (omega arith, refl)
key_rest_named_deep l o frames _ = tt

named_deep : (t : PlainTy) (before : Parameters) (x : Slot) (o : Owner) (frames : List Frame) (w : List ℕ)
    → Deep (surely (among o frames)) (parameter_named t before x o frames (Some w))
named_deep t before slot.KeyRest o frames w = (omega arith, refl)
named_deep t before (slot.Key k needed) o frames w = tt
named_deep t before slot.Positional o frames w = (omega arith, refl)
named_deep t before slot.Optional o frames w = (omega arith, refl)
named_deep t before slot.Rest o frames w = (omega arith, refl)

comma_deep : (t : PlainTy) (before : Parameters) (x : Slot) (o : Owner) (frames : List Frame) → Deep (surely (among o frames)) (comma_after t before x o frames)
comma_deep t before slot.KeyRest o frames = tt
comma_deep t before slot.Positional o frames = (omega arith, refl)
comma_deep t before slot.Optional o frames = (omega arith, refl)
comma_deep t before slot.Rest o frames = (omega arith, refl)
comma_deep t before (slot.Key w needed) o frames = (omega arith, refl)

parameter_deep : (t : PlainTy) (before : Parameters) (x : Slot) (o : Owner) (frames : List Frame) (k : Kind)
    → Deep (deepened (surely (among o frames)) k) (in_parameter t before x o frames k)
parameter_deep t before x o frames (kind.Mark mark.Comma) = comma_deep t before x o frames
parameter_deep t before x o frames (kind.Mark mark.Close) = (omega arith, refl)
parameter_deep t before x o frames (kind.Lower w) = named_deep t before x o frames w
parameter_deep t before x o frames (kind.Keyword k) = named_deep t before x o frames (keyword_text k)
parameter_deep t before x o frames _ = tt

-- ---- functions

outer_deep : (l : Listed) (level : Level) (frames : List Frame) (k : Kind) → Deep (deepened (surely (frames_open frames)) k) (after_outer l level frames k)
outer_deep l level frames (kind.Mark mark.Question) = (omega arith, refl)
outer_deep l level frames (kind.Mark mark.OpenBrace) = (omega arith, refl)
outer_deep l level frames (kind.Mark mark.Arrow) = (omega arith, refl)
outer_deep l level frames _ = tt

headed_deep : (h : Head) (level : Level) (frames : List Frame) (k : Kind) → Deep (deepened (surely (frames_open frames)) k) (after_headed h level frames k)
headed_deep h level frames (kind.Mark mark.Arrow) = (omega arith, refl)
headed_deep h level frames _ = tt

inner_deep : (needed : Bool) (inner outer : Listed) (level : Level) (frames : List Frame) (k : Kind)
    → Deep (deepened (surely (1 + frames_open frames)) k) (after_inner needed inner outer level frames k)
inner_deep needed inner outer level frames (kind.Mark mark.Arrow) = (omega arith, refl)
inner_deep needed inner outer level frames _ = tt

listed_deep : (l : Listed) (o : Owner) (frames : List Frame) (k : Kind) → Deep (deepened (surely (owner_open o + frames_open frames)) k) (after_listed l o frames k)
listed_deep l (owner.Function level) frames k = none_open (frames_open frames) false k (after_outer l level frames k) (outer_deep l level frames k)
listed_deep l (owner.Block needed outer level) frames k = inner_deep needed l outer level frames k

function_deep : (level : Level) (frames : List Frame) (k : Kind) → Deep (deepened (surely (frames_open frames)) k) (after_function level frames k)
function_deep level frames (kind.Mark mark.Open) = (omega arith, refl)
function_deep level frames k = outer_deep nothing_listed level frames k

block_question_deep : (outer : Listed) (level : Level) (frames : List Frame) (k : Kind) → Deep (deepened (surely (frames_open frames)) k) (after_block_question outer level frames k)
block_question_deep outer level frames (kind.Mark mark.OpenBrace) = (omega arith, refl)
block_question_deep outer level frames _ = tt

block_deep : (needed : Bool) (outer : Listed) (level : Level) (frames : List Frame) (k : Kind)
    → Deep (deepened (surely (1 + frames_open frames)) k) (after_block needed outer level frames k)
block_deep needed outer level frames (kind.Mark mark.Open) = (omega arith, refl)
block_deep needed outer level frames k = inner_deep needed nothing_listed outer level frames k

-- ---- behind a type in a bracket

arguments_deep : (t : PlainTy) (n : TypeName) (done : PlainTys) (outer : Level) (frames : List Frame) (k : Kind)
    → Deep (deepened (surely (1 + frames_open frames)) k) (in_arguments t n done outer frames k)
arguments_deep t n done outer frames (kind.Mark mark.Comma) = (omega arith, refl)
arguments_deep t n done outer frames (kind.Mark mark.CloseSquare) = (omega arith, refl)
arguments_deep t n done outer frames _ = tt

in_tuple_deep : (t : PlainTy) (done : PlainTys) (outer : Level) (frames : List Frame) (k : Kind)
    → Deep (deepened (surely (1 + frames_open frames)) k) (in_tuple t done outer frames k)
in_tuple_deep t done outer frames (kind.Mark mark.Comma) = (omega arith, refl)
in_tuple_deep t done outer frames (kind.Mark mark.CloseSquare) = (omega arith, refl)
in_tuple_deep t done outer frames _ = tt

in_record_deep : (t : PlainTy) (done : PlainKeys) (key : List ℕ) (needed : Bool) (outer : Level) (frames : List Frame) (k : Kind)
    → Deep (deepened (surely (1 + frames_open frames)) k) (in_record t done key needed outer frames k)
in_record_deep t done key needed outer frames (kind.Mark mark.Comma) = (omega arith, refl)
in_record_deep t done key needed outer frames (kind.Mark mark.CloseBrace) = (omega arith, refl)
in_record_deep t done key needed outer frames _ = tt

in_paren_deep : (t : PlainTy) (outer : Level) (frames : List Frame) (k : Kind) → Deep (deepened (surely (1 + frames_open frames)) k) (in_paren t outer frames k)
in_paren_deep t outer frames (kind.Mark mark.Close) = (omega arith, refl)
in_paren_deep t outer frames _ = tt

in_block_deep : (t : PlainTy) (needed : Bool) (inner outer : Listed) (level : Level) (frames : List Frame) (k : Kind)
    → Deep (deepened (surely (1 + frames_open frames)) k) (in_block t needed inner outer level frames k)
in_block_deep t needed inner outer level frames (kind.Mark mark.CloseBrace) = (omega arith, refl)
in_block_deep t needed inner outer level frames _ = tt

bracket_deep : (t : PlainTy) (f : Frame) (frames : List Frame) (k : Kind) → Deep (deepened (surely (frames_open (f ∷ frames))) k) (in_bracket t f frames k)
bracket_deep t (frame.Paren outer) frames k = in_paren_deep t outer frames k
bracket_deep t (frame.Arguments n done outer) frames k = arguments_deep t n done outer frames k
bracket_deep t (frame.Tuple done outer) frames k = in_tuple_deep t done outer frames k
bracket_deep t (frame.Record done key needed outer) frames k = in_record_deep t done key needed outer frames k
bracket_deep t (frame.Parameter before x o) frames k = parameter_deep t before x o frames k
bracket_deep t (frame.Block needed inner outer level) frames k = in_block_deep t needed inner outer level frames k

-- ---- behind a type

type_deep : (t : PlainTy) (frames : List Frame) (k : Kind) → Deep (deepened (surely (frames_open frames)) k) (after_type t frames k)
type_deep t [] k = tt
type_deep t (f ∷ frames) k = bracket_deep t f frames k

inter_deep : (t : PlainTy) (us : PlainTys) (frames : List Frame) (k : Kind) → Deep (deepened (surely (frames_open frames)) k) (after_inter t us frames k)
inter_deep t us frames (kind.Mark mark.Bar) = (omega arith, refl)
inter_deep t us frames k = type_deep (joined plain.union us t) frames k

operand_deep : (t : PlainTy) (us is : PlainTys) (frames : List Frame) (k : Kind) → Deep (deepened (surely (frames_open frames)) k) (after_operand t us is frames k)
operand_deep t us is frames (kind.Mark mark.Amp) = (omega arith, refl)
operand_deep t us is frames k = inter_deep (joined plain.inter is t) us frames k

opt_deep : (t : PlainTy) (ms : Members) (frames : List Frame) (k : Kind) → Deep (deepened (surely (frames_open frames)) k) (after_opt t ms frames k)
opt_deep t (members.Operands us is) frames k = operand_deep t us is frames k
opt_deep t members.Result frames k = type_deep t frames k
opt_deep t members.Closed frames k = type_deep t frames k

asked_deep : (t : PlainTy) (ms : Members) (frames : List Frame) → Deep (surely (frames_open frames)) (asked t ms frames)
asked_deep t members.Closed frames = type_deep t frames (kind.Mark mark.Question)
asked_deep t members.Result frames = (omega arith, refl)
asked_deep t (members.Operands us is) frames = (omega arith, refl)

question_deep : (t : PlainTy) (ms : Members) (hs : List Head) (frames : List Frame) → Deep (surely (frames_open frames)) (question t ms hs frames)
question_deep t ms [] frames = asked_deep t ms frames
question_deep t ms (h ∷ hs) frames = (omega arith, refl)

simple_deep : (t : PlainTy) (level : Level) (frames : List Frame) (k : Kind) → Deep (deepened (surely (frames_open frames)) k) (after_simple t level frames k)
simple_deep t level frames (kind.Mark mark.Question) = question_deep t level.members level.heads frames
simple_deep t level frames k = opt_deep (all_ended level.heads t) level.members frames k

-- ---- names

bare_deep : (n : TypeName) (level : Level) (frames : List Frame) (k : Kind) → Deep (deepened (surely (frames_open frames)) k) (after_bare n level frames k)
bare_deep n level frames (kind.Mark mark.OpenSquare) = (omega arith, refl)
bare_deep n level frames k = simple_deep (plain.name n plain.no_tys) level frames k

upper_deep : (n : TypeName) (level : Level) (frames : List Frame) (k : Kind) (s : Spot) → Deep (deepened (surely (frames_open frames)) k) (after_upper n level frames k s)
upper_deep n level frames (kind.Mark mark.Scope) s = either_deep (on_line s) _ _ _ (omega arith, refl) (bare_deep n level frames (kind.Mark mark.Scope))
upper_deep n level frames k s = bare_deep n level frames k

scope_deep : (n : TypeName) (level : Level) (frames : List Frame) (k : Kind) → Deep (deepened (surely (frames_open frames)) k) (after_scope n level frames k)
scope_deep n level frames (kind.Upper w) = (omega arith, refl)
scope_deep n level frames (kind.Interface w) = (omega arith, refl)
scope_deep n level frames (kind.Lower w) = (omega arith, refl)
scope_deep n level frames _ = tt

singleton_deep : (level : Level) (frames : List Frame) (k : Kind) → Deep (deepened (surely (frames_open frames)) k) (after_singleton level frames k)
singleton_deep level frames (kind.Mark mark.Open) = (omega arith, refl)
singleton_deep level frames _ = tt

singleton_scope_deep : (n : TypeName) (level : Level) (frames : List Frame) (m : ℕ) (k : Kind) → m ≡ 1 + frames_open frames → Deep (deepened (surely m) k) (after_singleton_scope n level frames k)
singleton_scope_deep n level frames m (kind.Upper w) e = (omega arith, refl)
singleton_scope_deep n level frames m _ e = tt

singleton_open_deep : (level : Level) (frames : List Frame) (k : Kind) → Deep (deepened (record { sure = frames_open frames; fresh = true }) k) (after_singleton_open level frames k)
singleton_open_deep level frames (kind.Mark mark.Scope) = (omega arith, refl)
singleton_open_deep level frames k =
    fresh_deep (frames_open frames) k (λ k. after_singleton_scope no_name level frames k) refl (singleton_scope_deep no_name level frames (frames_open frames + 1) k (omega arith))

single_closed_deep : (n : TypeName) (level : Level) (frames : List Frame) (k : Kind) → Deep (deepened (surely (1 + frames_open frames)) k) (single_closed n level frames k)
single_closed_deep n level frames (kind.Mark mark.Close) = (omega arith, refl)
single_closed_deep n level frames _ = tt

singleton_upper_deep : (n : TypeName) (level : Level) (frames : List Frame) (k : Kind) (s : Spot)
    → Deep (deepened (surely (1 + frames_open frames)) k) (after_singleton_upper n level frames k s)
singleton_upper_deep n level frames (kind.Mark mark.Scope) s = either_deep (on_line s) _ _ _ (omega arith, refl) tt
singleton_upper_deep n level frames k s = single_closed_deep n level frames k

-- ---- behind what may be a keyword's name

opening_deep : (op : Opening) (w : List ℕ) (frames : List Frame) (k : Kind) → Deep (deepened (surely (frames_open frames)) k) (after_opening op w frames k)
opening_deep opening.Alias w frames k = bare_deep (grown no_name w) ground frames k
opening_deep (opening.Base b) w frames k = simple_deep (plain.base b) ground frames k
opening_deep opening.Singleton w frames k = singleton_deep ground frames k

word_or_key_deep : (before : Parameters) (needed : Bool) (w : List ℕ) (op : Opening) (o : Owner) (frames : List Frame) (k : Kind)
    → Deep (deepened (surely (among o frames)) k) (after_parameter_word before needed w op o frames k)
word_or_key_deep before needed w op o frames (kind.Mark mark.Colon) = (omega arith, refl)
word_or_key_deep before needed w op o frames k = opening_deep op w (frame.Parameter before (slot_of needed) o ∷ frames) k

-- ---- brackets that may close at once

tuple_deep : (level : Level) (frames : List Frame) (k : Kind) → Deep (deepened (surely (1 + frames_open frames)) k) (after_tuple level frames k)
tuple_deep level frames (kind.Mark mark.CloseSquare) = (omega arith, refl)
tuple_deep level frames k = wants_deep ground (frame.Tuple plain.no_tys level ∷ frames) (1 + frames_open frames) k refl

paren_deep : (level : Level) (frames : List Frame) (k : Kind)
    → Deep (deepened (record { sure = frames_open frames; fresh = true }) k) (wants ground (frame.Paren level ∷ frames) k)
paren_deep level frames k =
    let inside : List Frame = frame.Paren level ∷ frames in
    fresh_deep (frames_open frames) k (λ k. wants ground inside k) refl (wants_deep ground inside (frames_open frames + 1) k (omega arith))

-- ---- all

step_deep : (f : Focus) (frames : List Frame) (k : Kind) (s : Spot)
    → Deep (deepened (record { sure = focus_open f + frames_open frames; fresh = is_fresh f }) k) (step f frames k s)
step_deep (focus.Type level) frames k s = none_open (frames_open frames) false k (wants level frames k) (wants_deep level frames (frames_open frames) k refl)
step_deep (focus.Scope n level) frames k s = none_open (frames_open frames) false k (after_scope n level frames k) (scope_deep n level frames k)
step_deep (focus.Upper n level) frames k s = none_open (frames_open frames) false k (after_upper n level frames k s) (upper_deep n level frames k s)
step_deep (focus.Bare n level) frames k s = none_open (frames_open frames) false k (after_bare n level frames k) (bare_deep n level frames k)
step_deep (focus.Singleton level) frames k s = none_open (frames_open frames) false k (after_singleton level frames k) (singleton_deep level frames k)
step_deep (focus.SingletonOpen level) frames k s = none_open (frames_open frames) true k (after_singleton_open level frames k) (singleton_open_deep level frames k)
step_deep (focus.SingletonScope n level) frames k s = singleton_scope_deep n level frames (1 + frames_open frames) k refl
step_deep (focus.SingletonUpper n level) frames k s = singleton_upper_deep n level frames k s
step_deep (focus.Paren level) frames k s = none_open (frames_open frames) true k (wants ground (frame.Paren level ∷ frames) k) (paren_deep level frames k)
step_deep (focus.Tuple level) frames k s = tuple_deep level frames k
step_deep (focus.Record level) frames k s = record_deep level frames k
step_deep (focus.Key done level) frames k s = key_begins_deep done level frames k
step_deep (focus.KeyQuestion done level) frames k s = key_named_deep done false level frames k
step_deep (focus.KeyName done key needed level) frames k s = key_name_deep done key needed level frames k
step_deep (focus.Simple t level) frames k s = none_open (frames_open frames) false k (after_simple t level frames k) (simple_deep t level frames k)
step_deep (focus.Optional t ms) frames k s = none_open (frames_open frames) false k (after_opt t ms frames k) (opt_deep t ms frames k)
step_deep (focus.Function level) frames k s = none_open (frames_open frames) false k (after_function level frames k) (function_deep level frames k)
step_deep (focus.Parameters o) frames k s = parameters_deep o frames k
step_deep (focus.Parameter before o) frames k s = begins_deep before o frames (among o frames) k refl
step_deep (focus.ParameterQuestion before o) frames k s = argument_deep before false (takes_optional before) o frames (among o frames) k refl
step_deep (focus.ParameterWord before needed w op o) frames k s = word_or_key_deep before needed w op o frames k
step_deep (focus.ParameterKey before needed w o) frames k s = parameter_key_deep before needed w o frames k
step_deep (focus.ParameterNamed p o) frames k s = parameter_named_deep p o frames k
step_deep (focus.KeyRestNamed l o) frames k s = key_rest_named_deep l o frames k
step_deep (focus.Listed l o) frames k s = listed_deep l o frames k
step_deep (focus.BlockQuestion outer level) frames k s = none_open (frames_open frames) false k (after_block_question outer level frames k) (block_question_deep outer level frames k)
step_deep (focus.Block needed outer level) frames k s = block_deep needed outer level frames k
step_deep (focus.Headed h level) frames k s = none_open (frames_open frames) false k (after_headed h level frames k) (headed_deep h level frames k)

abbrev depth_of : ℕ → Bool → Depth
depth_of n fresh = record { sure = n; fresh = fresh }

depth_is : (a b : ℕ) (x y : Bool) → a ≡ b → x ≡ y → depth_of a x ≡ depth_of b y
depth_is a b x y d e = cc

pub depth_next : (s : State) (c : Token) (m : State) → next s c ≡ Some m → depth m ≡ behind (depth s) c
depth_next s c m e =
    let d : Deep (behind (depth s) c) (Some m) = subst (Deep (behind (depth s) c)) e (step_deep s.focus s.frames c.kind c.spot) in
    depth_is (focus_open m.focus + frames_open m.frames) (behind (depth s) c).sure (is_fresh m.focus) (behind (depth s) c).fresh d.0 d.1

-- ---- what is reached

pub sure_reach : (s : State) → (depth s).sure ≤ reach s
sure_reach s = omega arith

-- the next state is reached where that many are open, if nothing must be opened still
abbrev Reaches : ℕ → Option State → Type 0
Reaches n None = Unit {0}
Reaches n (Some m) = n ≤ reach m

wants_mark_reach : (level : Level) (frames : List Frame) (m : Mark) → Reaches (frames_open frames) (wants_mark level frames m)
wants_mark_reach level frames mark.Open = omega arith
wants_mark_reach level frames mark.OpenSquare = omega arith
wants_mark_reach level frames mark.OpenBrace = omega arith
wants_mark_reach level frames mark.Caret = omega arith
wants_mark_reach level frames mark.Scope = omega arith
wants_mark_reach level frames _ = tt

wants_keyword_reach : (level : Level) (frames : List Frame) (k : Keyword) (b : Option BaseTy) → Reaches (frames_open frames) (wants_keyword level frames k b)
wants_keyword_reach level frames k (Some b) = omega arith
wants_keyword_reach level frames keyword.Singleton None = omega arith
wants_keyword_reach level frames _ None = tt

wants_reach : (level : Level) (frames : List Frame) (k : Kind) → Reaches (frames_open frames) (wants level frames k)
wants_reach level frames (kind.Mark m) = wants_mark_reach level frames m
wants_reach level frames (kind.Keyword k) = wants_keyword_reach level frames k (base_of k)
wants_reach level frames (kind.Lower w) = omega arith
wants_reach level frames (kind.Interface w) = omega arith
wants_reach level frames (kind.Upper w) = omega arith
wants_reach level frames (kind.Integer i) = omega arith
wants_reach level frames kind.PastInteger = omega arith
wants_reach level frames (kind.Text w) = omega arith
wants_reach level frames (kind.Symbol w) = omega arith
wants_reach level frames _ = tt

singleton_reach : (level : Level) (frames : List Frame) (k : Kind) → Reaches (1 + frames_open frames) (after_singleton level frames k)
singleton_reach level frames (kind.Mark mark.Open) = omega arith
singleton_reach level frames _ = tt

singleton_open_reach : (level : Level) (frames : List Frame) (k : Kind) → Reaches (1 + frames_open frames) (after_singleton_open level frames k)
singleton_open_reach level frames (kind.Mark mark.Scope) = omega arith
singleton_open_reach level frames (kind.Upper w) = omega arith
singleton_open_reach level frames _ = tt

block_question_reach : (outer : Listed) (level : Level) (frames : List Frame) (k : Kind) → Reaches (1 + frames_open frames) (after_block_question outer level frames k)
block_question_reach outer level frames (kind.Mark mark.OpenBrace) = omega arith
block_question_reach outer level frames _ = tt

-- the state reaches no deeper than it is or the next one reaches
abbrev ReachesOr : ℕ → ℕ → Option State → Type 0
ReachesOr a b None = Unit {0}
ReachesOr a b (Some m) = a ≤ max b (reach m)

already : (a b : ℕ) (o : Option State) → a ≤ b → ReachesOr a b o
already a b None h = tt
already a b (Some m) h = omega arith

later : (n : ℕ) (o : Option State) → Reaches (1 + n) o → ReachesOr (1 + (0 + n)) (0 + n) o
later n None h = tt
later n (Some m) h = omega arith

step_reach : (f : Focus) (frames : List Frame) (k : Kind) (s : Spot) → ReachesOr (forced f + (focus_open f + frames_open frames)) (focus_open f + frames_open frames) (step f frames k s)
step_reach (focus.Singleton level) frames k s = later (frames_open frames) (after_singleton level frames k) (singleton_reach level frames k)
step_reach (focus.SingletonOpen level) frames k s = later (frames_open frames) (after_singleton_open level frames k) (singleton_open_reach level frames k)
step_reach (focus.Paren level) frames k s = later (frames_open frames) (wants ground (frame.Paren level ∷ frames) k) (wants_reach ground (frame.Paren level ∷ frames) k)
step_reach (focus.BlockQuestion outer level) frames k s = later (frames_open frames) (after_block_question outer level frames k) (block_question_reach outer level frames k)
step_reach f frames k s = already (forced f + (focus_open f + frames_open frames)) (focus_open f + frames_open frames) (step f frames k s) (omega arith)

pub reach_next : (s : State) (c : Token) (m : State) → next s c ≡ Some m → reach s ≤ max (depth s).sure (reach m)
reach_next s c m e = subst (ReachesOr (reach s) (depth s).sure) e (step_reach s.focus s.frames c.kind c.spot)

-- where a phrase may end nothing must be opened still
abbrev EndsAt : ℕ → ℕ → Option PlainTy → Type 0
EndsAt a b None = Unit {0}
EndsAt a b (Some t) = a ≤ b

no_further : (n : ℕ) (o : Option PlainTy) → EndsAt (0 + (0 + n)) (0 + n) o
no_further n None = tt
no_further n (Some t) = omega arith

end_reach : (f : Focus) (frames : List Frame) → EndsAt (forced f + (focus_open f + frames_open frames)) (focus_open f + frames_open frames) (ends f frames)
end_reach (focus.Upper n level) frames = no_further (frames_open frames) (ends (focus.Upper n level) frames)
end_reach (focus.Bare n level) frames = no_further (frames_open frames) (ends (focus.Bare n level) frames)
end_reach (focus.Simple t level) frames = no_further (frames_open frames) (ends (focus.Simple t level) frames)
end_reach (focus.Optional t ms) frames = no_further (frames_open frames) (ends (focus.Optional t ms) frames)
end_reach _ frames = tt

pub reach_final : (s : State) (t : PlainTy) → final s ≡ Some t → reach s ≤ (depth s).sure
reach_final s t e = subst (EndsAt (reach s) (depth s).sure) e (end_reach s.focus s.frames)
