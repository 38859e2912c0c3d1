-- What the machine takes has a derivation: each step goes from a place of the text to the next, and where no step goes on the phrase is whole.
use Rattle.std.specs.Prelude.{ℕ, ◌≡◌, refl, Bool, true, false, pos, ◌&&◌, if◌then◌else◌, List, [], ◌∷◌, Option, Some, None, option_and_then}
use Rattle.std.proofs.Common.{sym, subst}
use Rattle.rbs_terminals.specs.declared.token.Token.{Token}
use Rattle.rbs_terminals.specs.declared.token.Spot.{Spot}
use Rattle.rbs_terminals.specs.declared.token.Mark.TheVariants as mark
use Rattle.rbs_terminals.specs.declared.token.Keyword.{Keyword}
use Rattle.rbs_terminals.specs.declared.token.Keyword.TheVariants as keyword
use Rattle.rbs_terminals.specs.declared.token.Kind.{Kind}
use Rattle.rbs_terminals.specs.declared.token.Kind.TheVariants as kind
use Rattle.rbs_terminals.specs.Keywords.{base_of, keyword_text}
use Rattle.rbs_terminals.specs.Kinds.{lower_of}
use Rattle.sig_model.specs.declared.ty.BaseTy.{BaseTy}
use Rattle.sig_model.specs.declared.ty.TypeName.{TypeName}
use Rattle.sig_model.specs.PlainTy as plain
use Rattle.sig_model.specs.PlainTy.{PlainTy, PlainTys, PlainKeys, PlainFun}
use Rattle.rbs_types.specs.declared.state.Members.{Members}
use Rattle.rbs_types.specs.declared.state.Members.TheVariants as members
use Rattle.rbs_types.specs.declared.state.Parameters as the_parameters
use Rattle.rbs_types.specs.declared.state.Listed as the_listed
use Rattle.rbs_types.specs.declared.state.Head.{Head}
use Rattle.rbs_types.specs.declared.state.Level.{Level}
use Rattle.rbs_types.specs.declared.state.Owner.{Owner}
use Rattle.rbs_types.specs.declared.state.Owner.TheVariants as owner
use Rattle.rbs_types.specs.declared.state.Slot.{Slot}
use Rattle.rbs_types.specs.declared.state.Slot.TheVariants as slot
use Rattle.rbs_types.specs.declared.state.Frame.{Frame}
use Rattle.rbs_types.specs.declared.state.Frame.TheVariants as frame
use Rattle.rbs_types.specs.declared.state.Opening.{Opening}
use Rattle.rbs_types.specs.declared.state.Opening.TheVariants as opening
use Rattle.rbs_types.specs.declared.state.Focus.{Focus}
use Rattle.rbs_types.specs.declared.state.Focus.TheVariants as focus
use Rattle.rbs_types.specs.declared.state.State.{State}
use Rattle.rbs_types.specs.Symbols.{token, sign, word, on_line, question_follows}
use Rattle.rbs_types.specs.Plains.{and_ty, and_key, is_new, no_key, no_arg, no_rest_yet}
use Rattle.rbs_types.specs.Parts.{grown, no_name, no_parameters, closed, nothing_listed, takes_positional, takes_optional, and_keyword, all_of, function_of, ended}
use Rattle.rbs_types.specs.Grammar.{Use, of_type, of_class, ends_capital, Words, capital, interface, small, outer, Name, relative, rooted, Spells, type, inter, opt, simple, result, lone_inter, union, lone_opt, inter_of, lone_simple, opt_of, lone_result, opt_result, paren, base, integer, past_integer, text, symbol, name, applied, single, unit, tuple, no_record, record_of, proc, one, more, Key, needed_key, optional_key, last_key, more_keys, function, unlisted, empty, listed, no_block, needed_block, optional_block, braced, Parameters, last, key_rest, further, Parameter, positional, optional, rest_of, needed_keyword, optional_keyword, unnamed, named}
use Rattle.rbs_types.specs.Machine.{at, ground, wants, wants_singleton, wants_keyword, key_named, key_begins, after_key_name, after_record, slot_of, opening_of_keyword, word_begins, argument_begins, parameter_begins, after_parameters, after_parameter_key, after_parameter_named, after_key_rest_named, parameter_named, comma_after, in_parameter, after_headed, after_outer, after_inner, after_listed, after_function, after_block_question, after_block, after_type, joined, after_inter, after_operand, after_opt, all_ended, question, after_simple, after_bare, after_upper, after_scope, after_singleton, after_singleton_scope, after_singleton_open, single_closed, after_singleton_upper, after_opening, after_parameter_word, after_tuple, after_paren, step, next, end_type, end_opt, end_simple, ends, final, start}
use Rattle.viable_prefixes.specs.Runs.{reads}
use Rattle.rbs_types.specs.Grammar.{Phrase, a_type, a_function, arguments_of, Spelled}
use Rattle.rbs_types.specs.Machine.{start_of}
use Rattle.rbs_types.specs.Limits.{IsWritten}
use Rattle.rbs_types.proofs.Places.{Want, to_type, to_result, to_end, UnionAt, InterAt, SimpleAt, OptAt, PlaceAt, TypeAt, BehindAt, FunctionAt, HeadedAt, BlockAt, ListedAt, ParametersAt, SlotAt, KeysAt, FramesAt, ScopeAt, UpperAt, marked, takes, OpeningAt, FocusAt, StateAt, StepAt, EndAt, Refuses}

-- ---- parts, at any place

-- the members of a union end with `t`
union_whole : (U : Want → Type 0) (us : PlainTys) (t : PlainTy) (l ts : List Token) → UnionAt U us l → Spells inter t l ts → (k : List Token) × U (to_type k) × Spells type (joined plain.union us t) k ts
union_whole U plain.no_tys t l ts h d = (l, h, lone_inter d)
union_whole U (plain.more_tys u us) t l ts h d = (h.0, h.1, h.2 (and_ty (plain.more_tys u us) t) ts (one d))

-- a `|` goes on with them
union_more : (U : Want → Type 0) (us : PlainTys) (t : PlainTy) (l : List Token) (s : Spot) (ts : List Token) → UnionAt U us l → Spells inter t l (sign mark.Bar s ∷ ts) → UnionAt U (and_ty us t) ts
union_more U plain.no_tys t l s ts h d = (l, h, λ all rest ds. union s d ds)
union_more U (plain.more_tys u us) t l s ts h d = (h.0, h.1, λ all rest ds. h.2 all rest (more s d ds))

-- the members of an intersection end with `t`
inter_whole : (U : Want → Type 0) (us is : PlainTys) (t : PlainTy) (m ts : List Token) → InterAt U us is m → Spells opt t m ts → (l : List Token) × UnionAt U us l × Spells inter (joined plain.inter is t) l ts
inter_whole U us plain.no_tys t m ts h d = (m, h, lone_opt d)
inter_whole U us (plain.more_tys i is) t m ts h d = (h.0, h.1, h.2 (and_ty (plain.more_tys i is) t) ts (one d))

-- an `&` goes on with them
inter_more : (U : Want → Type 0) (us is : PlainTys) (t : PlainTy) (m : List Token) (s : Spot) (ts : List Token) → InterAt U us is m → Spells opt t m (sign mark.Amp s ∷ ts) → InterAt U us (and_ty is t) ts
inter_more U us plain.no_tys t m s ts h d = (m, h, λ all rest ds. inter_of s d ds)
inter_more U us (plain.more_tys i is) t m s ts h d = (h.0, h.1, λ all rest ds. h.2 all rest (more s d ds))

simple_behind : (U : Want → Type 0) (ms : Members) (hs : List Head) (t : PlainTy) (m ts : List Token) → PlaceAt U ms hs m → Spells simple t m ts → SimpleAt U ms hs t ts
simple_behind U (members.Operands us is) [] t m ts h d = (m, h, d)
simple_behind U members.Result [] t m ts h d = (m, h, d)
simple_behind U members.Closed [] t m ts h d = h t ts d
simple_behind U ms (f ∷ fs) t m ts h d = (m, h, d)

-- where no question mark follows, all functions end whose result the type is
ended_at : (U : Want → Type 0) (ms : Members) (hs : List Head) (t : PlainTy) (ts : List Token) → question_follows ts ≡ false → SimpleAt U ms hs t ts → OptAt U ms (all_ended hs t) ts
ended_at U (members.Operands us is) [] t ts e h = (h.0, h.1, lone_simple h.2)
ended_at U members.Result [] t ts e h = (h.0, h.1, lone_result h.2 e)
ended_at U members.Closed [] t ts e h = h
ended_at U ms (f ∷ fs) t ts e h = ended_at U ms fs (ended f t) ts e (h.1 t ts (lone_result h.2 e))

-- a capital word ends the name or goes on with it, by what follows
upper_grown : (u : Use) (n : TypeName) (w : List ℕ) (s : Spot) (m ts : List Token) → ends_capital u ≡ true → ScopeAt u n m (token (kind.Upper w) s ∷ ts) → UpperAt u (grown n w) m ts
upper_grown u n w s m ts c h = (
  λ e. h (grown n w) ts (capital w s c e),
  λ s' rest e line v end d. h v end (subst (λ x. Words u n v (token (kind.Upper w) s ∷ x) end) (sym e) (outer w s s' line d)),
)

-- a key of a record, with its question mark where it is optional
key_of : (done : PlainKeys) (needed : Bool) (k : Kind) (w : List ℕ) (s s' s'' : Spot) (t : PlainTy) (ts rest : List Token) → lower_of k ≡ Some w → is_new w done ≡ true → Spells type t ts rest
    → Key done (and_key done w needed t) (marked needed s' (token k s ∷ sign mark.Colon s'' ∷ ts)) rest
key_of done true k w s s' s'' t ts rest e new d = needed_key k w s s'' e new d
key_of done false k w s s' s'' t ts rest e new d = optional_key k w s' s s'' e new d

-- a keyword, likewise
keyword_of : (before : the_parameters.Parameters) (needed : Bool) (k : Kind) (w : List ℕ) (s s' s'' : Spot) (t : PlainTy) (ts rest : List Token)
    → lower_of k ≡ Some w → is_new w before.keys ≡ true → Spells type t ts rest → Parameter before (and_keyword before w needed t) (marked needed s' (token k s ∷ sign mark.Colon s'' ∷ ts)) rest
keyword_of before true k w s s' s'' t ts rest e new d = needed_keyword k w s s'' e new d
keyword_of before false k w s s' s'' t ts rest e new d = optional_keyword k w s' s s'' e new d

-- a positional parameter, with its question mark where it is optional
slot_at : (needed : Bool) (before : the_parameters.Parameters) (s : Spot) (ts : List Token) → takes needed before ≡ true → SlotAt before (slot_of needed) (marked needed s ts) ts
slot_at true before s ts e = λ t n rest a. positional e a
slot_at false before s ts e = λ t n rest a. optional s e a

-- the last parameter, without a name
parameters_of : (before : the_parameters.Parameters) (x : Slot) (t : PlainTy) (m k ts : List Token) → SlotAt before x m k → Spells type t k ts → Parameters before (all_of before x t None) m ts
parameters_of before slot.KeyRest t m k ts h d = h t None ts (unnamed d)
parameters_of before (slot.Key w needed) t m k ts h d = last (h t ts d)
parameters_of before slot.Positional t m k ts h d = last (h t None ts (unnamed d))
parameters_of before slot.Optional t m k ts h d = last (h t None ts (unnamed d))
parameters_of before slot.Rest t m k ts h d = last (h t None ts (unnamed d))

right_holds : (a b : Bool) → (a && b) ≡ true → b ≡ true
right_holds true b e = e
right_holds false b e = absurd (cc)

no_key_new : (w : List ℕ) (ks : PlainKeys) → no_key ks ≡ true → is_new w ks ≡ true
no_key_new w plain.no_keys e = refl
no_key_new w (plain.more_keys k n t ks) e = absurd (cc)

-- where a positional parameter may stand no keyword stands before
takes_new : (w : List ℕ) (needed : Bool) (p : the_parameters.Parameters) → takes needed p ≡ true → is_new w p.keys ≡ true
takes_new w true p e = no_key_new w p.keys e
takes_new w false p e = no_key_new w p.keys (right_holds (no_arg p.trailing) (no_key p.keys) (right_holds (no_rest_yet p.rest) (no_arg p.trailing && no_key p.keys) e))

-- ---- steps

module _ (End : PlainTy → List Token → Type 0) where
  abbrev In : List Frame → Want → Type 0
  In = FramesAt End

  behind : (frames : List Frame) (level : Level) (t : PlainTy) (m ts : List Token) → TypeAt (In frames) level m → Spells simple t m ts → BehindAt (In frames) level t ts
  behind frames level t m ts h d = simple_behind (In frames) level.members level.heads t m ts h d

  -- only the whole text ends without a bracket that closes
  no_end : (f : Frame) (frames : List Frame) (t : PlainTy) (ts : List Token) → In (f ∷ frames) (to_end t ts) → ⊥
  no_end (frame.Paren _) frames t ts h = h
  no_end (frame.Arguments _ _ _) frames t ts h = h
  no_end (frame.Tuple _ _) frames t ts h = h
  no_end (frame.Record _ _ _ _) frames t ts h = h
  no_end (frame.Parameter _ _ _) frames t ts h = h
  no_end (frame.Block _ _ _ _) frames t ts h = h

  singleton_wanted : (level : Level) (frames : List Frame) (k : Keyword) (s : Spot) (ts : List Token) → TypeAt (In frames) level (word k s ∷ ts) → StepAt End (wants_singleton level frames k) ts
  singleton_wanted level frames keyword.Singleton s ts h = (s, h)
  singleton_wanted level frames _ s ts h = tt

  keyword_wanted : (level : Level) (frames : List Frame) (k : Keyword) (b : Option BaseTy) (s : Spot) (ts : List Token) → base_of k ≡ b → TypeAt (In frames) level (word k s ∷ ts)
      → StepAt End (wants_keyword level frames k b) ts
  keyword_wanted level frames k (Some b) s ts e h = behind frames level (plain.base b) (word k s ∷ ts) ts h (base k b s e)
  keyword_wanted level frames k None s ts e h = singleton_wanted level frames k s ts h

  wants_at : (level : Level) (frames : List Frame) (k : Kind) (s : Spot) (ts : List Token) → TypeAt (In frames) level (token k s ∷ ts) → StepAt End (wants level frames k) ts
  wants_at level frames (kind.Mark mark.Open) s ts h = (s, h)
  wants_at level frames (kind.Mark mark.OpenSquare) s ts h = (s, h)
  wants_at level frames (kind.Mark mark.OpenBrace) s ts h = (s, h)
  wants_at level frames (kind.Mark mark.Caret) s ts h = λ f rest d. behind frames level (plain.fun f) (sign mark.Caret s ∷ ts) rest h (proc s d)
  wants_at level frames (kind.Mark mark.Scope) s ts h = (sign mark.Scope s ∷ ts, h, λ v rest d. rooted s d)
  wants_at level frames (kind.Keyword k) s ts h = keyword_wanted level frames k (base_of k) s ts refl h
  wants_at level frames (kind.Lower w) s ts h = (token (kind.Lower w) s ∷ ts, h, relative (small w s refl))
  wants_at level frames (kind.Interface w) s ts h = (token (kind.Interface w) s ∷ ts, h, relative (interface w s refl))
  wants_at level frames (kind.Upper w) s ts h =
      (token (kind.Upper w) s ∷ ts, h, upper_grown of_type no_name w s (token (kind.Upper w) s ∷ ts) ts refl (λ v rest d. relative d))
  wants_at level frames (kind.Integer n) s ts h = behind frames level (plain.int n) (token (kind.Integer n) s ∷ ts) ts h (integer n s)
  wants_at level frames kind.PastInteger s ts h = behind frames level (plain.int (pos 0)) (token kind.PastInteger s ∷ ts) ts h (past_integer s)
  wants_at level frames (kind.Text w) s ts h = behind frames level (plain.str w) (token (kind.Text w) s ∷ ts) ts h (text w s)
  wants_at level frames (kind.Symbol w) s ts h = behind frames level (plain.sym w) (token (kind.Symbol w) s ∷ ts) ts h (symbol w s)
  wants_at level frames _ s ts h = tt

  -- ---- keys of a record

  new_key : (done : PlainKeys) (needed : Bool) (level : Level) (frames : List Frame) (k : Kind) (w : List ℕ) (s s' : Spot) (ts : List Token) (b : Bool) → is_new w done ≡ b → lower_of k ≡ Some w
      → KeysAt (In frames) done level (marked needed s' (token k s ∷ ts)) → StepAt End (if b then at (focus.KeyName done w needed level) frames else None) ts
  new_key done needed level frames k w s s' ts true new e h = (k, s, s', e, new, h)
  new_key done needed level frames k w s s' ts false new e h = tt

  key_named_at : (done : PlainKeys) (needed : Bool) (level : Level) (frames : List Frame) (k : Kind) (s s' : Spot) (ts : List Token) (o : Option (List ℕ)) → lower_of k ≡ o
      → KeysAt (In frames) done level (marked needed s' (token k s ∷ ts)) → StepAt End (key_named done needed level frames o) ts
  key_named_at done needed level frames k s s' ts None e h = tt
  key_named_at done needed level frames k s s' ts (Some w) e h = new_key done needed level frames k w s s' ts (is_new w done) refl e h

  key_begins_at : (done : PlainKeys) (level : Level) (frames : List Frame) (k : Kind) (s : Spot) (ts : List Token) → KeysAt (In frames) done level (token k s ∷ ts) → StepAt End (key_begins done level frames k) ts
  key_begins_at done level frames (kind.Mark mark.Question) s ts h = (s, h)
  key_begins_at done level frames k s ts h = key_named_at done true level frames k s s ts (lower_of k) refl h

  record_at : (level : Level) (frames : List Frame) (k : Kind) (s : Spot) (ts : List Token) → FocusAt (In frames) (focus.Record level) (token k s ∷ ts) → StepAt End (after_record level frames k) ts
  record_at level frames (kind.Mark mark.CloseBrace) s ts h = behind frames level (plain.rec plain.no_keys) (sign mark.OpenBrace h.0 ∷ sign mark.CloseBrace s ∷ ts) ts h.1 (no_record h.0 s)
  record_at level frames k s ts h =
      key_begins_at plain.no_keys level frames k s ts (λ ks s' rest d. behind frames level (plain.rec ks) (sign mark.OpenBrace h.0 ∷ token k s ∷ ts) rest h.1 (record_of h.0 s' d))

  key_name_at : (done : PlainKeys) (w : List ℕ) (needed : Bool) (level : Level) (frames : List Frame) (k : Kind) (s : Spot) (ts : List Token)
      → FocusAt (In frames) (focus.KeyName done w needed level) (token k s ∷ ts) → StepAt End (after_key_name done w needed level frames k) ts
  key_name_at done w needed level frames (kind.Mark mark.Colon) s ts h =
      (marked needed h.2 (token h.0 h.1 ∷ sign mark.Colon s ∷ ts), h.5, λ t rest d. key_of done needed h.0 w h.1 h.2 s t ts rest h.3 h.4 d)
  key_name_at done w needed level frames _ s ts h = tt

  -- ---- parameters

  keyword_at : (before : the_parameters.Parameters) (needed : Bool) (w : List ℕ) (x : Owner) (frames : List Frame) (k : Kind) (s s' : Spot) (ts : List Token) (b : Bool) → is_new w before.keys ≡ b → lower_of k ≡ Some w
      → ParametersAt (In frames) before x (marked needed s' (token k s ∷ ts)) → StepAt End (if b then at (focus.ParameterKey before needed w x) frames else None) ts
  keyword_at before needed w x frames k s s' ts true new e h = (k, s, s', e, new, h)
  keyword_at before needed w x frames k s s' ts false new e h = tt

  keyword_or_type : (before : the_parameters.Parameters) (needed : Bool) (x : Owner) (frames : List Frame) (k : Keyword) (o : Option BaseTy) (s s' : Spot) (ts : List Token) → base_of k ≡ o → takes needed before ≡ true
      → ParametersAt (In frames) before x (marked needed s' (word k s ∷ ts)) → StepAt End (word_begins before needed true (keyword_text k) (opening_of_keyword k o) x frames) ts
  keyword_or_type before needed x frames k (Some b) s s' ts e t h = (kind.Keyword k, s, s', refl, t, h, base k b s e)
  keyword_or_type before needed x frames keyword.Singleton None s s' ts e t h = (kind.Keyword keyword.Singleton, s, s', refl, t, h, (s, refl))
  keyword_or_type before needed x frames k None s s' ts e t h = keyword_at before needed (keyword_text k) x frames (kind.Keyword k) s s' ts (is_new (keyword_text k) before.keys) refl refl h

  argument_at : (before : the_parameters.Parameters) (needed : Bool) (b : Bool) (x : Owner) (frames : List Frame) (k : Kind) (s s' : Spot) (ts : List Token) → takes needed before ≡ b
      → ParametersAt (In frames) before x (marked needed s' (token k s ∷ ts)) → StepAt End (argument_begins before needed b (lower_of k) x frames k) ts
  argument_at before needed true x frames (kind.Lower w) s s' ts t h = (kind.Lower w, s, s', refl, t, h, relative (small w s refl))
  argument_at before needed true x frames (kind.Keyword k) s s' ts t h = keyword_or_type before needed x frames k (base_of k) s s' ts refl t h
  argument_at before needed true x frames k s s' ts t h =
      wants_at ground (frame.Parameter before (slot_of needed) x ∷ frames) k s ts (marked needed s' (token k s ∷ ts), h, slot_at needed before s' (token k s ∷ ts) t)
  argument_at before needed false x frames (kind.Lower w) s s' ts t h = keyword_at before needed w x frames (kind.Lower w) s s' ts (is_new w before.keys) refl refl h
  argument_at before needed false x frames (kind.Keyword k) s s' ts t h = keyword_at before needed (keyword_text k) x frames (kind.Keyword k) s s' ts (is_new (keyword_text k) before.keys) refl refl h
  argument_at before needed false x frames _ s s' ts t h = tt

  star_at : (before : the_parameters.Parameters) (x : Owner) (frames : List Frame) (s : Spot) (ts : List Token) (b : Bool) → takes_optional before ≡ b → ParametersAt (In frames) before x (sign mark.Star s ∷ ts)
      → StepAt End (if b then at (focus.Type ground) (frame.Parameter before slot.Rest x ∷ frames) else None) ts
  star_at before x frames s ts true t h = (sign mark.Star s ∷ ts, h, λ u n rest a. rest_of s t a)
  star_at before x frames s ts false t h = tt

  parameter_begins_at : (before : the_parameters.Parameters) (x : Owner) (frames : List Frame) (k : Kind) (s : Spot) (ts : List Token) → ParametersAt (In frames) before x (token k s ∷ ts)
      → StepAt End (parameter_begins before x frames k) ts
  parameter_begins_at before x frames (kind.Mark mark.Question) s ts h = (s, h)
  parameter_begins_at before x frames (kind.Mark mark.Star) s ts h = star_at before x frames s ts (takes_optional before) refl h
  parameter_begins_at before x frames (kind.Mark mark.DoubleStar) s ts h = (sign mark.DoubleStar s ∷ ts, h, λ t n rest a. key_rest s a)
  parameter_begins_at before x frames k s ts h = argument_at before true (takes_positional before) x frames k s s ts refl h

  parameters_at : (x : Owner) (frames : List Frame) (k : Kind) (s : Spot) (ts : List Token) → FocusAt (In frames) (focus.Parameters x) (token k s ∷ ts) → StepAt End (after_parameters x frames k) ts
  parameters_at x frames (kind.Mark mark.Close) s ts h = (sign mark.Open h.0 ∷ sign mark.Close s ∷ ts, h.1, empty h.0 s)
  parameters_at x frames k s ts h = parameter_begins_at no_parameters x frames k s ts (λ l s' rest d. (sign mark.Open h.0 ∷ token k s ∷ ts, h.1, listed h.0 s' d))

  parameter_key_at : (before : the_parameters.Parameters) (needed : Bool) (w : List ℕ) (x : Owner) (frames : List Frame) (k : Kind) (s : Spot) (ts : List Token)
      → FocusAt (In frames) (focus.ParameterKey before needed w x) (token k s ∷ ts) → StepAt End (after_parameter_key before needed w x frames k) ts
  parameter_key_at before needed w x frames (kind.Mark mark.Colon) s ts h =
      (marked needed h.2 (token h.0 h.1 ∷ sign mark.Colon s ∷ ts), h.5, λ t rest d. keyword_of before needed h.0 w h.1 h.2 s t ts rest h.3 h.4 d)
  parameter_key_at before needed w x frames _ s ts h = tt

  parameter_named_at : (p : the_parameters.Parameters) (x : Owner) (frames : List Frame) (k : Kind) (s : Spot) (ts : List Token) → FocusAt (In frames) (focus.ParameterNamed p x) (token k s ∷ ts)
      → StepAt End (after_parameter_named p x frames k) ts
  parameter_named_at p x frames (kind.Mark mark.Comma) s ts h = λ l s' rest d. h.2 l s' rest (further s h.3 d)
  parameter_named_at p x frames (kind.Mark mark.Close) s ts h = h.2 (closed p) s ts (last h.3)
  parameter_named_at p x frames _ s ts h = tt

  key_rest_named_at : (l : the_listed.Listed) (x : Owner) (frames : List Frame) (k : Kind) (s : Spot) (ts : List Token) → FocusAt (In frames) (focus.KeyRestNamed l x) (token k s ∷ ts)
      → StepAt End (after_key_rest_named l x frames k) ts
  key_rest_named_at l x frames (kind.Mark mark.Close) s ts h = h.2 l s ts h.3
  key_rest_named_at l x frames _ s ts h = tt

  -- behind the type of a parameter that begins at `m`, and its type at `n`
  name_behind : (t : PlainTy) (before : the_parameters.Parameters) (y : Slot) (x : Owner) (frames : List Frame) (m n : List Token) (k : Kind) (s : Spot) (ts : List Token) (o : Option (List ℕ)) → lower_of k ≡ o
      → ParametersAt (In frames) before x m → SlotAt before y m n → Spells type t n (token k s ∷ ts) → StepAt End (parameter_named t before y x frames o) ts
  name_behind t before y x frames m n k s ts None e h g d = tt
  name_behind t before slot.KeyRest x frames m n k s ts (Some w) e h g d = (before, m, h, g t (Some w) ts (named k w s e d))
  name_behind t before (slot.Key _ _) x frames m n k s ts (Some w) e h g d = tt
  name_behind t before slot.Positional x frames m n k s ts (Some w) e h g d = (before, m, h, g t (Some w) ts (named k w s e d))
  name_behind t before slot.Optional x frames m n k s ts (Some w) e h g d = (before, m, h, g t (Some w) ts (named k w s e d))
  name_behind t before slot.Rest x frames m n k s ts (Some w) e h g d = (before, m, h, g t (Some w) ts (named k w s e d))

  comma_behind : (t : PlainTy) (before : the_parameters.Parameters) (y : Slot) (x : Owner) (frames : List Frame) (m n : List Token) (s : Spot) (ts : List Token)
      → ParametersAt (In frames) before x m → SlotAt before y m n → Spells type t n (sign mark.Comma s ∷ ts) → StepAt End (comma_after t before y x frames) ts
  comma_behind t before slot.KeyRest x frames m n s ts h g d = tt
  comma_behind t before (slot.Key w needed) x frames m n s ts h g d = λ l s' rest ds. h l s' rest (further s (g t (sign mark.Comma s ∷ ts) d) ds)
  comma_behind t before slot.Positional x frames m n s ts h g d = λ l s' rest ds. h l s' rest (further s (g t None (sign mark.Comma s ∷ ts) (unnamed d)) ds)
  comma_behind t before slot.Optional x frames m n s ts h g d = λ l s' rest ds. h l s' rest (further s (g t None (sign mark.Comma s ∷ ts) (unnamed d)) ds)
  comma_behind t before slot.Rest x frames m n s ts h g d = λ l s' rest ds. h l s' rest (further s (g t None (sign mark.Comma s ∷ ts) (unnamed d)) ds)

  in_parameter_at : (t : PlainTy) (before : the_parameters.Parameters) (y : Slot) (x : Owner) (frames : List Frame) (m n : List Token) (k : Kind) (s : Spot) (ts : List Token)
      → ParametersAt (In frames) before x m → SlotAt before y m n → Spells type t n (token k s ∷ ts) → StepAt End (in_parameter t before y x frames k) ts
  in_parameter_at t before y x frames m n (kind.Mark mark.Comma) s ts h g d = comma_behind t before y x frames m n s ts h g d
  in_parameter_at t before y x frames m n (kind.Mark mark.Close) s ts h g d = h (all_of before y t None) s ts (parameters_of before y t m n (sign mark.Close s ∷ ts) g d)
  in_parameter_at t before y x frames m n k s ts h g d = name_behind t before y x frames m n k s ts (lower_of k) refl h g d

  -- ---- functions

  headed_at : (f : Head) (level : Level) (frames : List Frame) (k : Kind) (s : Spot) (ts : List Token) → HeadedAt (In frames) f level (token k s ∷ ts) → StepAt End (after_headed f level frames k) ts
  headed_at f level frames (kind.Mark mark.Arrow) s ts h = λ u rest d. h.2 (function_of f.listed f.block u) rest (function s h.3 h.4 d)
  headed_at f level frames _ s ts h = tt

  outer_at : (l : the_listed.Listed) (level : Level) (frames : List Frame) (k : Kind) (s : Spot) (ts : List Token) → ListedAt (In frames) l (owner.Function level) (token k s ∷ ts)
      → StepAt End (after_outer l level frames k) ts
  outer_at l level frames (kind.Mark mark.Question) s ts h = (s, h)
  outer_at l level frames (kind.Mark mark.OpenBrace) s ts h = λ f rest b. (h.0, sign mark.OpenBrace s ∷ ts, h.1, h.2, needed_block s b)
  outer_at l level frames k s ts h = headed_at (record { listed = l; block = plain.no_block }) level frames k s ts (h.0, token k s ∷ ts, h.1, h.2, no_block)

  inner_at : (needed : Bool) (l around : the_listed.Listed) (level : Level) (frames : List Frame) (k : Kind) (s : Spot) (ts : List Token) → ListedAt (In frames) l (owner.Block needed around level) (token k s ∷ ts)
      → StepAt End (after_inner needed l around level frames k) ts
  inner_at needed l around level frames (kind.Mark mark.Arrow) s ts h = λ t s' rest d. h.1 (function_of l plain.no_block t) rest (braced s s' h.2 d)
  inner_at needed l around level frames _ s ts h = tt

  listed_at : (l : the_listed.Listed) (x : Owner) (frames : List Frame) (k : Kind) (s : Spot) (ts : List Token) → ListedAt (In frames) l x (token k s ∷ ts) → StepAt End (after_listed l x frames k) ts
  listed_at l (owner.Function level) frames k s ts h = outer_at l level frames k s ts h
  listed_at l (owner.Block needed around level) frames k s ts h = inner_at needed l around level frames k s ts h

  function_at : (level : Level) (frames : List Frame) (k : Kind) (s : Spot) (ts : List Token) → FunctionAt (In frames) level (token k s ∷ ts) → StepAt End (after_function level frames k) ts
  function_at level frames (kind.Mark mark.Open) s ts h = (s, h)
  function_at level frames k s ts h = outer_at nothing_listed level frames k s ts (token k s ∷ ts, h, unlisted)

  block_question_at : (l : the_listed.Listed) (level : Level) (frames : List Frame) (k : Kind) (s : Spot) (ts : List Token) → FocusAt (In frames) (focus.BlockQuestion l level) (token k s ∷ ts)
      → StepAt End (after_block_question l level frames k) ts
  block_question_at l level frames (kind.Mark mark.OpenBrace) s ts h = λ f rest b. (h.1.0, sign mark.Question h.0 ∷ sign mark.OpenBrace s ∷ ts, h.1.1, h.1.2, optional_block h.0 s b)
  block_question_at l level frames _ s ts h = tt

  block_at : (needed : Bool) (l : the_listed.Listed) (level : Level) (frames : List Frame) (k : Kind) (s : Spot) (ts : List Token) → BlockAt (In frames) needed l level (token k s ∷ ts)
      → StepAt End (after_block needed l level frames k) ts
  block_at needed l level frames (kind.Mark mark.Open) s ts h = (s, h)
  block_at needed l level frames k s ts h = inner_at needed nothing_listed l level frames k s ts (token k s ∷ ts, h, unlisted)

  -- ---- behind a type

  type_at : (t : PlainTy) (frames : List Frame) (m : List Token) (k : Kind) (s : Spot) (ts : List Token) → In frames (to_type m) → Spells type t m (token k s ∷ ts) → StepAt End (after_type t frames k) ts
  type_at t [] m k s ts h d = tt
  type_at t (frame.Paren level ∷ frames) m (kind.Mark mark.Close) s ts h d = h t s ts d
  type_at t (frame.Paren level ∷ frames) m _ s ts h d = tt
  type_at t (frame.Arguments n done level ∷ frames) m (kind.Mark mark.Comma) s ts h d = λ us s' rest ds. h us s' rest (more s d ds)
  type_at t (frame.Arguments n done level ∷ frames) m (kind.Mark mark.CloseSquare) s ts h d = h (and_ty done t) s ts (one d)
  type_at t (frame.Arguments n done level ∷ frames) m _ s ts h d = tt
  type_at t (frame.Tuple done level ∷ frames) m (kind.Mark mark.Comma) s ts h d = λ us s' rest ds. h us s' rest (more s d ds)
  type_at t (frame.Tuple done level ∷ frames) m (kind.Mark mark.CloseSquare) s ts h d = h (and_ty done t) s ts (one d)
  type_at t (frame.Tuple done level ∷ frames) m _ s ts h d = tt
  type_at t (frame.Record done key needed level ∷ frames) m (kind.Mark mark.Comma) s ts h d = λ ks s' rest ds. h.1 ks s' rest (more_keys s (h.2 t (sign mark.Comma s ∷ ts) d) ds)
  type_at t (frame.Record done key needed level ∷ frames) m (kind.Mark mark.CloseBrace) s ts h d = h.1 (and_key done key needed t) s ts (last_key (h.2 t (sign mark.CloseBrace s ∷ ts) d))
  type_at t (frame.Record done key needed level ∷ frames) m _ s ts h d = tt
  type_at t (frame.Parameter before y x ∷ frames) m k s ts h d = in_parameter_at t before y x frames h.0 m k s ts h.1 h.2 d
  type_at t (frame.Block needed l around level ∷ frames) m k s ts h d = absurd h

  result_at : (t : PlainTy) (frames : List Frame) (m : List Token) (k : Kind) (s : Spot) (ts : List Token) → In frames (to_result m) → Spells result t m (token k s ∷ ts) → StepAt End (after_type t frames k) ts
  result_at t [] m k s ts h d = tt
  result_at t (frame.Paren _ ∷ frames) m k s ts h d = absurd h
  result_at t (frame.Arguments _ _ _ ∷ frames) m k s ts h d = absurd h
  result_at t (frame.Tuple _ _ ∷ frames) m k s ts h d = absurd h
  result_at t (frame.Record _ _ _ _ ∷ frames) m k s ts h d = absurd h
  result_at t (frame.Parameter _ _ _ ∷ frames) m k s ts h d = absurd h
  result_at t (frame.Block needed l around level ∷ frames) m (kind.Mark mark.CloseBrace) s ts h d = h t s ts d
  result_at t (frame.Block needed l around level ∷ frames) m _ s ts h d = tt

  closed_at : (t : PlainTy) (frames : List Frame) (k : Kind) (s : Spot) (ts : List Token) → In frames (to_end t (token k s ∷ ts)) → StepAt End (after_type t frames k) ts
  closed_at t [] k s ts h = tt
  closed_at t (f ∷ frames) k s ts h = absurd (no_end f frames t (token k s ∷ ts) h)

  inter_at : (t : PlainTy) (us : PlainTys) (frames : List Frame) (l : List Token) (k : Kind) (s : Spot) (ts : List Token) → UnionAt (In frames) us l → Spells inter t l (token k s ∷ ts)
      → StepAt End (after_inter t us frames k) ts
  inter_at t us frames l (kind.Mark mark.Bar) s ts h d = union_more (In frames) us t l s ts h d
  inter_at t us frames l k s ts h d =
      let w : (m : List Token) × In frames (to_type m) × Spells type (joined plain.union us t) m (token k s ∷ ts) = union_whole (In frames) us t l (token k s ∷ ts) h d in
      type_at (joined plain.union us t) frames w.0 k s ts w.1 w.2

  operand_at : (t : PlainTy) (us is : PlainTys) (frames : List Frame) (m : List Token) (k : Kind) (s : Spot) (ts : List Token) → InterAt (In frames) us is m → Spells opt t m (token k s ∷ ts)
      → StepAt End (after_operand t us is frames k) ts
  operand_at t us is frames m (kind.Mark mark.Amp) s ts h d = inter_more (In frames) us is t m s ts h d
  operand_at t us is frames m k s ts h d =
      let w : (l : List Token) × UnionAt (In frames) us l × Spells inter (joined plain.inter is t) l (token k s ∷ ts) = inter_whole (In frames) us is t m (token k s ∷ ts) h d in
      inter_at (joined plain.inter is t) us frames w.0 k s ts w.1 w.2

  opt_at : (t : PlainTy) (ms : Members) (frames : List Frame) (k : Kind) (s : Spot) (ts : List Token) → OptAt (In frames) ms t (token k s ∷ ts) → StepAt End (after_opt t ms frames k) ts
  opt_at t (members.Operands us is) frames k s ts h = operand_at t us is frames h.0 k s ts h.1 h.2
  opt_at t members.Result frames k s ts h = result_at t frames h.0 k s ts h.1 h.2
  opt_at t members.Closed frames k s ts h = closed_at t frames k s ts h

  question_at : (t : PlainTy) (ms : Members) (hs : List Head) (frames : List Frame) (s : Spot) (ts : List Token) → SimpleAt (In frames) ms hs t (sign mark.Question s ∷ ts) → StepAt End (question t ms hs frames) ts
  question_at t (members.Operands us is) [] frames s ts h = (h.0, h.1, opt_of s h.2)
  question_at t members.Result [] frames s ts h = (h.0, h.1, opt_result s h.2)
  question_at t members.Closed [] frames s ts h = closed_at t frames (kind.Mark mark.Question) s ts h
  question_at t ms (f ∷ fs) frames s ts h = h.1 (plain.opt t) ts (opt_result s h.2)

  simple_at : (t : PlainTy) (level : Level) (frames : List Frame) (k : Kind) (s : Spot) (ts : List Token) → BehindAt (In frames) level t (token k s ∷ ts) → StepAt End (after_simple t level frames k) ts
  simple_at t level frames (kind.Mark mark.Question) s ts h = question_at t level.members level.heads frames s ts h
  simple_at t level frames k s ts h = opt_at (all_ended level.heads t) level.members frames k s ts (ended_at (In frames) level.members level.heads t (token k s ∷ ts) refl h)

  -- ---- names

  bare_at : (n : TypeName) (level : Level) (frames : List Frame) (k : Kind) (s : Spot) (ts : List Token) → FocusAt (In frames) (focus.Bare n level) (token k s ∷ ts) → StepAt End (after_bare n level frames k) ts
  bare_at n level frames (kind.Mark mark.OpenSquare) s ts h = λ us s' rest ds. behind frames level (plain.name n us) h.0 rest h.1 (applied s s' h.2 ds)
  bare_at n level frames k s ts h = simple_at (plain.name n plain.no_tys) level frames k s ts (behind frames level (plain.name n plain.no_tys) h.0 (token k s ∷ ts) h.1 (name h.2))

  upper_scope : (n : TypeName) (level : Level) (frames : List Frame) (s : Spot) (ts : List Token) (b : Bool) → on_line s ≡ b → FocusAt (In frames) (focus.Upper n level) (sign mark.Scope s ∷ ts)
      → StepAt End (if b then at (focus.Scope n level) frames else after_bare n level frames (kind.Mark mark.Scope)) ts
  upper_scope n level frames s ts true e h = (h.0, h.1, h.2.1 s ts refl e)
  upper_scope n level frames s ts false e h = bare_at n level frames (kind.Mark mark.Scope) s ts (h.0, h.1, h.2.0 e)

  upper_at : (n : TypeName) (level : Level) (frames : List Frame) (k : Kind) (s : Spot) (ts : List Token) → FocusAt (In frames) (focus.Upper n level) (token k s ∷ ts) → StepAt End (after_upper n level frames k s) ts
  upper_at n level frames (kind.Mark mark.Scope) s ts h = upper_scope n level frames s ts (on_line s) refl h
  upper_at n level frames k s ts h = bare_at n level frames k s ts (h.0, h.1, h.2.0 refl)

  name_at : (n : TypeName) (level : Level) (frames : List Frame) (k : Kind) (s : Spot) (ts : List Token) → FocusAt (In frames) (focus.Scope n level) (token k s ∷ ts) → StepAt End (after_scope n level frames k) ts
  name_at n level frames (kind.Upper w) s ts h = (h.0, h.1, upper_grown of_type n w s h.0 ts refl h.2)
  name_at n level frames (kind.Interface w) s ts h = (h.0, h.1, h.2 (grown n w) ts (interface w s refl))
  name_at n level frames (kind.Lower w) s ts h = (h.0, h.1, h.2 (grown n w) ts (small w s refl))
  name_at n level frames _ s ts h = tt

  singleton_at : (level : Level) (frames : List Frame) (k : Kind) (s : Spot) (ts : List Token) → FocusAt (In frames) (focus.Singleton level) (token k s ∷ ts) → StepAt End (after_singleton level frames k) ts
  singleton_at level frames (kind.Mark mark.Open) s ts h = (h.0, s, h.1)
  singleton_at level frames _ s ts h = tt

  singleton_scope_at : (n : TypeName) (level : Level) (frames : List Frame) (k : Kind) (s : Spot) (ts : List Token) → FocusAt (In frames) (focus.SingletonScope n level) (token k s ∷ ts)
      → StepAt End (after_singleton_scope n level frames k) ts
  singleton_scope_at n level frames (kind.Upper w) s ts h = (h.0, h.1, h.2, h.3, upper_grown of_class n w s h.2 ts refl h.4)
  singleton_scope_at n level frames _ s ts h = tt

  singleton_open_at : (level : Level) (frames : List Frame) (k : Kind) (s : Spot) (ts : List Token) → FocusAt (In frames) (focus.SingletonOpen level) (token k s ∷ ts) → StepAt End (after_singleton_open level frames k) ts
  singleton_open_at level frames (kind.Mark mark.Scope) s ts h = (h.0, h.1, sign mark.Scope s ∷ ts, h.2, λ v rest d. rooted s d)
  singleton_open_at level frames k s ts h = singleton_scope_at no_name level frames k s ts (h.0, h.1, token k s ∷ ts, h.2, λ v rest d. relative d)

  single_closed_at : (n : TypeName) (level : Level) (frames : List Frame) (k : Kind) (s : Spot) (ts : List Token) (s0 s1 : Spot) (m : List Token)
      → TypeAt (In frames) level (word keyword.Singleton s0 ∷ sign mark.Open s1 ∷ m) → Name of_class n m (token k s ∷ ts) → StepAt End (single_closed n level frames k) ts
  single_closed_at n level frames (kind.Mark mark.Close) s ts s0 s1 m h d = behind frames level (plain.single n) (word keyword.Singleton s0 ∷ sign mark.Open s1 ∷ m) ts h (single s0 s1 s d)
  single_closed_at n level frames _ s ts s0 s1 m h d = tt

  singleton_upper_scope : (n : TypeName) (level : Level) (frames : List Frame) (s : Spot) (ts : List Token) (b : Bool) → on_line s ≡ b → FocusAt (In frames) (focus.SingletonUpper n level) (sign mark.Scope s ∷ ts)
      → StepAt End (if b then at (focus.SingletonScope n level) frames else single_closed n level frames (kind.Mark mark.Scope)) ts
  singleton_upper_scope n level frames s ts true e h = (h.0, h.1, h.2, h.3, h.4.1 s ts refl e)
  singleton_upper_scope n level frames s ts false e h = tt

  singleton_upper_at : (n : TypeName) (level : Level) (frames : List Frame) (k : Kind) (s : Spot) (ts : List Token) → FocusAt (In frames) (focus.SingletonUpper n level) (token k s ∷ ts)
      → StepAt End (after_singleton_upper n level frames k s) ts
  singleton_upper_at n level frames (kind.Mark mark.Scope) s ts h = singleton_upper_scope n level frames s ts (on_line s) refl h
  singleton_upper_at n level frames k s ts h = single_closed_at n level frames k s ts h.0 h.1 h.2 h.3 (h.4.0 refl)

  -- ---- brackets that may close at once

  tuple_at : (level : Level) (frames : List Frame) (k : Kind) (s : Spot) (ts : List Token) → FocusAt (In frames) (focus.Tuple level) (token k s ∷ ts) → StepAt End (after_tuple level frames k) ts
  tuple_at level frames (kind.Mark mark.CloseSquare) s ts h = behind frames level (plain.tuple plain.no_tys) (sign mark.OpenSquare h.0 ∷ sign mark.CloseSquare s ∷ ts) ts h.1 (unit h.0 s)
  tuple_at level frames k s ts h =
      wants_at ground (frame.Tuple plain.no_tys level ∷ frames) k s ts (λ us s' rest ds. behind frames level (plain.tuple us) (sign mark.OpenSquare h.0 ∷ token k s ∷ ts) rest h.1 (tuple h.0 s' ds))

  paren_at : (level : Level) (frames : List Frame) (k : Kind) (s : Spot) (ts : List Token) → FocusAt (In frames) (focus.Paren level) (token k s ∷ ts) → StepAt End (after_paren level frames k) ts
  paren_at level frames k s ts h =
      wants_at ground (frame.Paren level ∷ frames) k s ts (λ t s' rest d. behind frames level t (sign mark.Open h.0 ∷ token k s ∷ ts) rest h.1 (paren h.0 s' d))

  -- ---- behind what may be a keyword's name

  opening_at : (o : Opening) (w : List ℕ) (frames : List Frame) (m : List Token) (k : Kind) (s : Spot) (ts : List Token) → TypeAt (In frames) ground m → OpeningAt o w m (token k s ∷ ts)
      → StepAt End (after_opening o w frames k) ts
  opening_at opening.Alias w frames m k s ts h d = bare_at (grown no_name w) ground frames k s ts (m, h, d)
  opening_at (opening.Base b) w frames m k s ts h d = simple_at (plain.base b) ground frames k s ts (behind frames ground (plain.base b) m (token k s ∷ ts) h d)
  opening_at opening.Singleton w frames m k s ts h d = singleton_at ground frames k s ts (d.0, subst (λ x. TypeAt (In frames) ground x) d.1 h)

  parameter_word_at : (before : the_parameters.Parameters) (needed : Bool) (w : List ℕ) (o : Opening) (x : Owner) (frames : List Frame) (k : Kind) (s : Spot) (ts : List Token)
      → FocusAt (In frames) (focus.ParameterWord before needed w o x) (token k s ∷ ts) → StepAt End (after_parameter_word before needed w o x frames k) ts
  parameter_word_at before needed w o x frames (kind.Mark mark.Colon) s ts h =
      (marked needed h.2 (token h.0 h.1 ∷ sign mark.Colon s ∷ ts), h.5, λ t rest d. keyword_of before needed h.0 w h.1 h.2 s t ts rest h.3 (takes_new w needed before h.4) d)
  parameter_word_at before needed w o x frames k s ts h =
      opening_at o w (frame.Parameter before (slot_of needed) x ∷ frames) (token h.0 h.1 ∷ token k s ∷ ts) k s ts
      (marked needed h.2 (token h.0 h.1 ∷ token k s ∷ ts), h.5, slot_at needed before h.2 (token h.0 h.1 ∷ token k s ∷ ts) h.4) h.6

  -- ---- all

  step_at : (f : Focus) (frames : List Frame) (k : Kind) (s : Spot) (ts : List Token) → FocusAt (In frames) f (token k s ∷ ts) → StepAt End (step f frames k s) ts
  step_at (focus.Type level) frames k s ts h = wants_at level frames k s ts h
  step_at (focus.Scope n level) frames k s ts h = name_at n level frames k s ts h
  step_at (focus.Upper n level) frames k s ts h = upper_at n level frames k s ts h
  step_at (focus.Bare n level) frames k s ts h = bare_at n level frames k s ts h
  step_at (focus.Singleton level) frames k s ts h = singleton_at level frames k s ts h
  step_at (focus.SingletonOpen level) frames k s ts h = singleton_open_at level frames k s ts h
  step_at (focus.SingletonScope n level) frames k s ts h = singleton_scope_at n level frames k s ts h
  step_at (focus.SingletonUpper n level) frames k s ts h = singleton_upper_at n level frames k s ts h
  step_at (focus.Paren level) frames k s ts h = paren_at level frames k s ts h
  step_at (focus.Tuple level) frames k s ts h = tuple_at level frames k s ts h
  step_at (focus.Record level) frames k s ts h = record_at level frames k s ts h
  step_at (focus.Key done level) frames k s ts h = key_begins_at done level frames k s ts h
  step_at (focus.KeyQuestion done level) frames k s ts h = key_named_at done false level frames k s h.0 ts (lower_of k) refl h.1
  step_at (focus.KeyName done key needed level) frames k s ts h = key_name_at done key needed level frames k s ts h
  step_at (focus.Simple t level) frames k s ts h = simple_at t level frames k s ts h
  step_at (focus.Optional t ms) frames k s ts h = opt_at t ms frames k s ts h
  step_at (focus.Function level) frames k s ts h = function_at level frames k s ts h
  step_at (focus.Parameters x) frames k s ts h = parameters_at x frames k s ts h
  step_at (focus.Parameter before x) frames k s ts h = parameter_begins_at before x frames k s ts h
  step_at (focus.ParameterQuestion before x) frames k s ts h = argument_at before false (takes_optional before) x frames k s h.0 ts refl h.1
  step_at (focus.ParameterWord before needed w o x) frames k s ts h = parameter_word_at before needed w o x frames k s ts h
  step_at (focus.ParameterKey before needed w x) frames k s ts h = parameter_key_at before needed w x frames k s ts h
  step_at (focus.ParameterNamed p x) frames k s ts h = parameter_named_at p x frames k s ts h
  step_at (focus.KeyRestNamed l x) frames k s ts h = key_rest_named_at l x frames k s ts h
  step_at (focus.Listed l x) frames k s ts h = listed_at l x frames k s ts h
  step_at (focus.BlockQuestion l level) frames k s ts h = block_question_at l level frames k s ts h
  step_at (focus.Block needed l level) frames k s ts h = block_at needed l level frames k s ts h
  step_at (focus.Headed f level) frames k s ts h = headed_at f level frames k s ts h

  -- ---- where no token is taken

  end_type_at : (t : PlainTy) (frames : List Frame) (m ts : List Token) → In frames (to_type m) → Spells type t m ts → EndAt End (end_type t frames) ts
  end_type_at t [] m ts h d = h t ts d
  end_type_at t (f ∷ frames) m ts h d = tt

  end_result_at : (t : PlainTy) (frames : List Frame) (m ts : List Token) → In frames (to_result m) → EndAt End (end_type t frames) ts
  end_result_at t [] m ts h = absurd h
  end_result_at t (f ∷ frames) m ts h = tt

  end_closed_at : (t : PlainTy) (frames : List Frame) (ts : List Token) → In frames (to_end t ts) → EndAt End (end_type t frames) ts
  end_closed_at t [] ts h = h
  end_closed_at t (f ∷ frames) ts h = tt

  end_opt_at : (t : PlainTy) (ms : Members) (frames : List Frame) (ts : List Token) → OptAt (In frames) ms t ts → EndAt End (end_opt t ms frames) ts
  end_opt_at t (members.Operands us is) frames ts h =
      let v : (l : List Token) × UnionAt (In frames) us l × Spells inter (joined plain.inter is t) l ts = inter_whole (In frames) us is t h.0 ts h.1 h.2 in
      let w : (m : List Token) × In frames (to_type m) × Spells type (joined plain.union us (joined plain.inter is t)) m ts = union_whole (In frames) us (joined plain.inter is t) v.0 ts v.1 v.2 in
      end_type_at (joined plain.union us (joined plain.inter is t)) frames w.0 ts w.1 w.2
  end_opt_at t members.Result frames ts h = end_result_at t frames h.0 ts h.1
  end_opt_at t members.Closed frames ts h = end_closed_at t frames ts h

  -- a question mark that is not taken stands behind a phrase that ends by itself
  question_refused : (t : PlainTy) (ms : Members) (hs : List Head) (frames : List Frame) (ts : List Token) → question t ms hs frames ≡ None → SimpleAt (In frames) ms hs t ts → OptAt (In frames) ms (all_ended hs t) ts
  question_refused t (members.Operands us is) [] frames ts e h = absurd (cc)
  question_refused t members.Result [] frames ts e h = absurd (cc)
  question_refused t members.Closed [] frames ts e h = h
  question_refused t ms (f ∷ fs) frames ts e h = absurd (cc)

  simple_refused : (t : PlainTy) (level : Level) (frames : List Frame) (k : Kind) (s : Spot) (ts : List Token) → after_simple t level frames k ≡ None → BehindAt (In frames) level t (token k s ∷ ts)
      → EndAt End (end_simple t level frames) (token k s ∷ ts)
  simple_refused t level frames (kind.Mark mark.Question) s ts e h =
      end_opt_at (all_ended level.heads t) level.members frames (sign mark.Question s ∷ ts) (question_refused t level.members level.heads frames (sign mark.Question s ∷ ts) e h)
  simple_refused t level frames k s ts e h =
      end_opt_at (all_ended level.heads t) level.members frames (token k s ∷ ts) (ended_at (In frames) level.members level.heads t (token k s ∷ ts) refl h)

  bare_refused : (n : TypeName) (level : Level) (frames : List Frame) (k : Kind) (s : Spot) (ts : List Token) → after_bare n level frames k ≡ None → FocusAt (In frames) (focus.Bare n level) (token k s ∷ ts)
      → EndAt End (end_simple (plain.name n plain.no_tys) level frames) (token k s ∷ ts)
  bare_refused n level frames (kind.Mark mark.OpenSquare) s ts e h = absurd (cc)
  bare_refused n level frames k s ts e h =
      simple_refused (plain.name n plain.no_tys) level frames k s ts e (behind frames level (plain.name n plain.no_tys) h.0 (token k s ∷ ts) h.1 (name h.2))

  upper_scope_refused : (n : TypeName) (level : Level) (frames : List Frame) (s : Spot) (ts : List Token) (b : Bool) → on_line s ≡ b
      → (if b then at (focus.Scope n level) frames else after_bare n level frames (kind.Mark mark.Scope)) ≡ None → FocusAt (In frames) (focus.Upper n level) (sign mark.Scope s ∷ ts)
      → EndAt End (end_simple (plain.name n plain.no_tys) level frames) (sign mark.Scope s ∷ ts)
  upper_scope_refused n level frames s ts true line e h = absurd (cc)
  upper_scope_refused n level frames s ts false line e h = bare_refused n level frames (kind.Mark mark.Scope) s ts e (h.0, h.1, h.2.0 line)

  upper_refused : (n : TypeName) (level : Level) (frames : List Frame) (k : Kind) (s : Spot) (ts : List Token) → after_upper n level frames k s ≡ None → FocusAt (In frames) (focus.Upper n level) (token k s ∷ ts)
      → EndAt End (end_simple (plain.name n plain.no_tys) level frames) (token k s ∷ ts)
  upper_refused n level frames (kind.Mark mark.Scope) s ts e h = upper_scope_refused n level frames s ts (on_line s) refl e h
  upper_refused n level frames k s ts e h = bare_refused n level frames k s ts e (h.0, h.1, h.2.0 refl)

  end_simple_at : (t : PlainTy) (level : Level) (frames : List Frame) → BehindAt (In frames) level t [] → EndAt End (end_simple t level frames) []
  end_simple_at t level frames h = end_opt_at (all_ended level.heads t) level.members frames [] (ended_at (In frames) level.members level.heads t [] refl h)

  end_bare_at : (n : TypeName) (level : Level) (frames : List Frame) → FocusAt (In frames) (focus.Bare n level) [] → EndAt End (end_simple (plain.name n plain.no_tys) level frames) []
  end_bare_at n level frames h = end_simple_at (plain.name n plain.no_tys) level frames (behind frames level (plain.name n plain.no_tys) h.0 [] h.1 (name h.2))

  end_at : (f : Focus) (frames : List Frame) (ts : List Token) → FocusAt (In frames) f ts → Refuses (record { frames = frames; focus = f }) ts → EndAt End (ends f frames) ts
  end_at (focus.Upper n level) frames [] h e = end_bare_at n level frames (h.0, h.1, h.2.0 refl)
  end_at (focus.Upper n level) frames (c ∷ ts) h e = upper_refused n level frames c.kind c.spot ts e h
  end_at (focus.Bare n level) frames [] h e = end_bare_at n level frames h
  end_at (focus.Bare n level) frames (c ∷ ts) h e = bare_refused n level frames c.kind c.spot ts e h
  end_at (focus.Simple t level) frames [] h e = end_simple_at t level frames h
  end_at (focus.Simple t level) frames (c ∷ ts) h e = simple_refused t level frames c.kind c.spot ts e h
  end_at (focus.Optional t ms) frames ts h e = end_opt_at t ms frames ts h
  end_at _ frames ts h e = tt

-- ---- phrases

-- the state is right where `ts` is left of a phrase that begins where `whole` does
abbrev pub At : Phrase → List Token → State → List Token → Type 0
At p whole = StateAt (λ t rest. Spelled p t whole rest)

abbrev pub NextAt : Phrase → List Token → Option State → List Token → Type 0
NextAt p whole = StepAt (λ t rest. Spelled p t whole rest)

abbrev pub EndsAt : Phrase → List Token → Option PlainTy → List Token → Type 0
EndsAt p whole = EndAt (λ t rest. Spelled p t whole rest)

pub at_start : (p : Phrase) (whole : List Token) → At p whole (start_of p) whole
at_start a_type whole = λ t rest d. d
at_start a_function whole = λ f rest d. (f, refl, d)
at_start (arguments_of n) whole = λ us s rest ds. (us, s, refl, ds)

pub at_next : (p : Phrase) (whole : List Token) (s : State) (c : Token) (ts : List Token) → At p whole s (c ∷ ts) → NextAt p whole (next s c) ts
at_next p whole s c ts h = step_at (λ t rest. Spelled p t whole rest) s.focus s.frames c.kind c.spot ts h

pub at_final : (p : Phrase) (whole : List Token) (s : State) (ts : List Token) → At p whole s ts → Refuses s ts → EndsAt p whole (final s) ts
at_final p whole s ts h e = end_at (λ t rest. Spelled p t whole rest) s.focus s.frames ts h e

reads_at : (p : Phrase) (whole ts : List Token) (s : State) (t : PlainTy) → At p whole s ts → reads next final s ts ≡ Some t → Spelled p t whole []
unfolding reads
reads_at p whole [] s t h e = subst (λ o. EndsAt p whole o []) e (at_final p whole s [] h tt)
reads_at p whole (c ∷ ts) s t h e = go (next s c) (at_next p whole s c ts h) e (λ m. reads_at p whole ts m t)
  where
    go : (o : Option State) → NextAt p whole o ts → option_and_then (λ m. reads next final m ts) o ≡ Some t
        → ((m : State) → At p whole m ts → reads next final m ts ≡ Some t → Spelled p t whole []) → Spelled p t whole []
    go None h e read = absurd (cc)
    go (Some m) h e read = read m h e

-- a text that is read as a phrase, as a whole, spells it
pub sound_phrase : (p : Phrase) (t : PlainTy) (ts : List Token) → reads next final (start_of p) ts ≡ Some t → Spelled p t ts []
sound_phrase p t ts e = reads_at p ts ts (start_of p) t (at_start p ts) e

pub sound : (t : PlainTy) (ts : List Token) → reads next final start ts ≡ Some t → IsWritten t ts
sound t ts e = sound_phrase a_type t ts e
