-- What the reader does with a text from a place on: behind a whole phrase, and where a phrase begins whose first token decides what it is.
use Rattle.std.proofs.Common.{ℕ, ◌≡◌, refl, ◌∙◌, ap, Bool, true, false, if◌then◌else◌, List, [], ◌∷◌, Option, Some, None}
use Rattle.rbs_terminals.specs.declared.token.Token.{Token}
use Rattle.rbs_terminals.specs.declared.token.Spot.{Spot}
use Rattle.rbs_terminals.specs.declared.token.Mark.TheVariants as mark
use Rattle.rbs_terminals.specs.declared.token.Keyword.{Keyword}
use Rattle.rbs_terminals.specs.declared.token.Keyword.TheVariants as keyword
use Rattle.rbs_terminals.specs.declared.token.Kind.{Kind}
use Rattle.rbs_terminals.specs.declared.token.Kind.TheVariants as kind
use Rattle.rbs_terminals.specs.Keywords.{base_of, keyword_text}
use Rattle.rbs_terminals.specs.Kinds.{lower_of}
use Rattle.sig_model.specs.declared.ty.BaseTy.{BaseTy}
use Rattle.sig_model.specs.declared.ty.TypeName.{TypeName}
use Rattle.sig_model.specs.PlainTy as plain
use Rattle.sig_model.specs.PlainTy.{PlainTy, PlainTys, PlainKeys}
use Rattle.rbs_types.specs.declared.state.Members.{Members}
use Rattle.rbs_types.specs.declared.state.Members.TheVariants as members
use Rattle.rbs_types.specs.declared.state.Parameters.{Parameters}
use Rattle.rbs_types.specs.declared.state.Listed.{Listed}
use Rattle.rbs_types.specs.declared.state.Head.{Head}
use Rattle.rbs_types.specs.declared.state.Level.{Level}
use Rattle.rbs_types.specs.declared.state.Owner.{Owner}
use Rattle.rbs_types.specs.declared.state.Owner.TheVariants as owner
use Rattle.rbs_types.specs.declared.state.Slot.{Slot}
use Rattle.rbs_types.specs.declared.state.Slot.TheVariants as slot
use Rattle.rbs_types.specs.declared.state.Frame.{Frame}
use Rattle.rbs_types.specs.declared.state.Frame.TheVariants as frame
use Rattle.rbs_types.specs.declared.state.Opening.{Opening}
use Rattle.rbs_types.specs.declared.state.Opening.TheVariants as opening
use Rattle.rbs_types.specs.declared.state.Focus.{Focus}
use Rattle.rbs_types.specs.declared.state.Focus.TheVariants as focus
use Rattle.rbs_types.specs.declared.state.State.{State}
use Rattle.rbs_types.specs.Symbols.{token, sign, scope_follows, question_follows}
use Rattle.rbs_types.specs.Plains.{is_new}
use Rattle.rbs_types.specs.Parts.{grown, no_name, no_parameters, nothing_listed, takes_positional, takes_optional, added, ended}
use Rattle.rbs_types.specs.Grammar.{type, inter, opt, simple}
use Rattle.rbs_types.specs.Machine.{at, ground, headed, joined, next, final, wants_keyword, wants, key_named, key_begins, after_record, slot_of, opening_of_keyword, opening_of, keyword_begins, word_begins, argument_begins, after_parameter_question, parameter_begins, after_parameters, after_parameter_named, after_type, after_inter, after_opt, after_simple, after_bare, after_opening, after_parameter_word, after_tuple, end_type, end_opt, end_simple}
use Rattle.rbs_types.proofs.Through.{rests, taken, through}
use Rattle.rbs_types.proofs.Followers.{Follows, inter_whole, opt_whole, simple_whole, name_whole, result_whole, is_followed, is_positional, EndsParameter, unnamed_whole, in_named, named_whole}
use Rattle.rbs_types.proofs.Openings.{opens, Opens, is_opening, no_colon, NoColon, opens_key, OpensKey, opens_parameter, OpensParameter, unlisted_before, UnlistedBefore}

abbrev pub place : Focus → List Frame → State
place f frames = record { frames = frames; focus = f }

-- where the parameters of this owner may begin
abbrev pub owner_begins : Owner → Focus
owner_begins (owner.Function level) = focus.Function level
owner_begins (owner.Block needed outer level) = focus.Block needed outer level

-- ---- the step from a place where something else may stand, where the token shows that it doesn't

tuple_goes_on : (level : Level) (frames : List Frame) (k : Kind) (ts : List Token) → opens k ts → after_tuple level frames k ≡ wants ground (frame.Tuple plain.no_tys level ∷ frames) k
tuple_goes_on level frames (kind.Mark mark.CloseSquare) ts h = absurd h
tuple_goes_on level frames _ ts h = refl

record_goes_on : (level : Level) (frames : List Frame) (k : Kind) → opens_key k → after_record level frames k ≡ key_begins plain.no_keys level frames k
record_goes_on level frames (kind.Mark mark.CloseBrace) h = absurd h
record_goes_on level frames _ h = refl

parameters_go_on : (owner : Owner) (frames : List Frame) (k : Kind) → opens_parameter k → after_parameters owner frames k ≡ parameter_begins no_parameters owner frames k
parameters_go_on owner frames (kind.Mark mark.Close) h = absurd h
parameters_go_on owner frames _ h = refl

function_goes_on : (level : Level) (frames : List Frame) (k : Kind) (s : Spot) → unlisted_before k
    → next (place (focus.Function level) frames) (token k s) ≡ next (place (focus.Listed nothing_listed (owner.Function level)) frames) (token k s)
function_goes_on level frames (kind.Mark mark.Open) s h = absurd h
function_goes_on level frames _ s h = refl

block_goes_on : (needed : Bool) (outer : Listed) (level : Level) (frames : List Frame) (k : Kind) (s : Spot) → unlisted_before k
    → next (place (focus.Block needed outer level) frames) (token k s) ≡ next (place (focus.Listed nothing_listed (owner.Block needed outer level)) frames) (token k s)
block_goes_on needed outer level frames (kind.Mark mark.Open) s h = absurd h
block_goes_on needed outer level frames _ s h = refl

-- a word that names a key or a keyword

key_goes_on : (done : PlainKeys) (level : Level) (frames : List Frame) (k : Kind) (w : List ℕ) → lower_of k ≡ Some w → key_begins done level frames k ≡ key_named done true level frames (Some w)
key_goes_on done level frames (kind.Mark m) w h = absurd (cc)
key_goes_on done level frames _ w h = ap (key_named done true level frames) h

new_key : (done : PlainKeys) (needed : Bool) (level : Level) (frames : List Frame) (w : List ℕ) → is_new w done ≡ true
    → key_named done needed level frames (Some w) ≡ at (focus.KeyName done w needed level) frames
new_key done needed level frames w h = ap (λ b. if b then at (focus.KeyName done w needed level) frames else None) h

parameter_goes_on : (p : Parameters) (owner : Owner) (frames : List Frame) (k : Kind) (w : List ℕ) → lower_of k ≡ Some w
    → parameter_begins p owner frames k ≡ argument_begins p true (takes_positional p) (Some w) owner frames k
parameter_goes_on p owner frames (kind.Mark m) w h = absurd (cc)
parameter_goes_on p owner frames (kind.Keyword k) w h = ap (λ o. argument_begins p true (takes_positional p) o owner frames (kind.Keyword k)) h
parameter_goes_on p owner frames (kind.Lower k) w h = ap (λ o. argument_begins p true (takes_positional p) o owner frames (kind.Lower k)) h
parameter_goes_on p owner frames _ w h = absurd (cc)

-- what the word is where no colon follows
abbrev opened : Opening → List ℕ → List Frame → State
opened opening.Alias w frames = place (focus.Bare (grown no_name w) ground) frames
opened (opening.Base b) w frames = place (focus.Simple (plain.base b) ground) frames
opened opening.Singleton w frames = place (focus.Singleton ground) frames

word_goes_on : (p : Parameters) (needed : Bool) (w : List ℕ) (o : Opening) (owner : Owner) (frames : List Frame) (k : Kind) → no_colon k
    → after_parameter_word p needed w o owner frames k ≡ after_opening o w (frame.Parameter p (slot_of needed) owner ∷ frames) k
word_goes_on p needed w o owner frames (kind.Mark mark.Colon) h = absurd h
word_goes_on p needed w o owner frames _ h = refl

-- the type of a positional parameter
positional_goes_on : (p : Parameters) (owner : Owner) (frames : List Frame) (k : Kind) (ts : List Token) → takes_positional p ≡ true → opens k ts
    → parameter_begins p owner frames k ≡ argument_begins p true true (lower_of k) owner frames k
positional_goes_on p owner frames (kind.Mark mark.Question) ts e h = absurd h
positional_goes_on p owner frames (kind.Mark mark.Star) ts e h = absurd h
positional_goes_on p owner frames (kind.Mark mark.DoubleStar) ts e h = absurd h
positional_goes_on p owner frames k ts e h = ap (λ b. argument_begins p true b (lower_of k) owner frames k) e

module _ {R : Type 0} (K : PlainTy → List Token → R) (fail : R) where
  -- the text where it is given what its next token does, and what is whole if the phrase ends here
  abbrev pub feed : Option PlainTy → (Token → Option State) → List Token → R
  feed end step [] = rests K fail end []
  feed end step (c ∷ ts) = taken (step c) (λ m. through K fail m ts) (rests K fail end (c ∷ ts))

  -- behind a phrase of each sort

  abbrev pub behind_type : PlainTy → List Frame → List Token → R
  behind_type t frames = feed (end_type t frames) (λ c. after_type t frames c.kind)

  abbrev pub behind_inter : PlainTy → PlainTys → List Frame → List Token → R
  behind_inter t us frames = feed (end_type (joined plain.union us t) frames) (λ c. after_inter t us frames c.kind)

  abbrev pub behind_opt : PlainTy → Members → List Frame → List Token → R
  behind_opt t ms frames = feed (end_opt t ms frames) (λ c. after_opt t ms frames c.kind)

  abbrev pub behind_simple : PlainTy → Level → List Frame → List Token → R
  behind_simple t level frames = feed (end_simple t level frames) (λ c. after_simple t level frames c.kind)

  abbrev pub behind_name : TypeName → Level → List Frame → List Token → R
  behind_name n level frames = feed (end_simple (plain.name n plain.no_tys) level frames) (λ c. after_bare n level frames c.kind)

  pub through_is : (s : State) (ts : List Token) → through K fail s ts ≡ feed (final s) (next s) ts
  unfolding through
  through_is s [] = refl
  through_is s (c ∷ ts) = refl

  -- a token that the state takes
  pub took : (s : State) (c : Token) (m : State) (ts : List Token) → next s c ≡ Some m → through K fail s (c ∷ ts) ≡ through K fail m ts
  unfolding through
  took s c m ts h = ap (λ o. taken o (λ m. through K fail m ts) (rests K fail (final s) (c ∷ ts))) h

  -- two states that do the same with the first token, where no phrase is whole
  same : (o o' : Option State) (ts : List Token) → o ≡ o' → taken o (λ m. through K fail m ts) fail ≡ taken o' (λ m. through K fail m ts) fail
  same o o' ts h = ap (λ o. taken o (λ m. through K fail m ts) fail) h

  -- ---- behind a whole phrase

  pub inter_read_whole : (t : PlainTy) (us : PlainTys) (frames : List Frame) (ts : List Token) → Follows type ts → behind_inter t us frames ts ≡ behind_type (joined plain.union us t) frames ts
  inter_read_whole t us frames [] h = refl
  inter_read_whole t us frames (c ∷ ts) h =
      ap (λ o. taken o (λ m. through K fail m ts) (rests K fail (end_type (joined plain.union us t) frames) (c ∷ ts))) (inter_whole t us frames c.kind h)

  pub opt_read_whole : (t : PlainTy) (us is : PlainTys) (frames : List Frame) (ts : List Token) → Follows inter ts
      → behind_opt t (members.Operands us is) frames ts ≡ behind_inter (joined plain.inter is t) us frames ts
  opt_read_whole t us is frames [] h = refl
  opt_read_whole t us is frames (c ∷ ts) h =
      ap (λ o. taken o (λ m. through K fail m ts) (rests K fail (end_opt t (members.Operands us is) frames) (c ∷ ts))) (opt_whole t us is frames c.kind h)

  pub simple_read_whole : (t : PlainTy) (ms : Members) (frames : List Frame) (ts : List Token) → Follows opt ts
      → behind_simple t (record { members = ms; heads = [] }) frames ts ≡ behind_opt t ms frames ts
  simple_read_whole t ms frames [] h = refl
  simple_read_whole t ms frames (c ∷ ts) h =
      ap (λ o. taken o (λ m. through K fail m ts) (rests K fail (end_opt t ms frames) (c ∷ ts))) (simple_whole t (record { members = ms; heads = [] }) frames c.kind h)

  pub name_read_whole : (n : TypeName) (level : Level) (frames : List Frame) (ts : List Token) → Follows simple ts
      → behind_name n level frames ts ≡ behind_simple (plain.name n plain.no_tys) level frames ts
  name_read_whole n level frames [] h = refl
  name_read_whole n level frames (c ∷ ts) h =
      ap (λ o. taken o (λ m. through K fail m ts) (rests K fail (end_simple (plain.name n plain.no_tys) level frames) (c ∷ ts))) (name_whole n level frames c.kind h)

  pub result_read_whole : (t : PlainTy) (h : Head) (level : Level) (frames : List Frame) (ts : List Token) → question_follows ts ≡ false
      → behind_simple t (headed h level) frames ts ≡ behind_simple (ended h t) level frames ts
  result_read_whole t h level frames [] q = refl
  result_read_whole t h level frames (c ∷ ts) q =
      ap (λ o. taken o (λ m. through K fail m ts) (rests K fail (end_simple (ended h t) level frames) (c ∷ ts))) (result_whole t h level frames c.kind q)

  -- a capital word that no `::` follows is the end of a name
  pub upper_read_whole : (n : TypeName) (level : Level) (frames : List Frame) (ts : List Token) → scope_follows ts ≡ false → through K fail (place (focus.Upper n level) frames) ts ≡ behind_name n level frames ts
  unfolding through
  upper_read_whole n level frames [] h = refl
  upper_read_whole n level frames (c ∷ ts) h =
      ap
      (λ b. taken (if b then at (focus.Scope n level) frames else after_bare n level frames c.kind) (λ m. through K fail m ts) (rests K fail (end_simple (plain.name n plain.no_tys) level frames) (c ∷ ts)))
      h

  -- ---- behind the type of a parameter

  pub unnamed_read_whole : (t : PlainTy) (p : Parameters) (x : Slot) (owner : Owner) (frames : List Frame) (ts : List Token) → is_followed x → EndsParameter ts
      → behind_type t (frame.Parameter p x owner ∷ frames) ts ≡ through K fail (place (focus.ParameterNamed (added p x t None) owner) frames) ts
  unfolding through
  unnamed_read_whole t p x owner frames [] i h = absurd h
  unnamed_read_whole t p x owner frames (c ∷ ts) i h =
      same (after_type t (frame.Parameter p x owner ∷ frames) c.kind) (after_parameter_named (added p x t None) owner frames c.kind) ts (unnamed_whole t p x owner frames c.kind i h)

  pub named_read_whole : (t : PlainTy) (p : Parameters) (x : Slot) (owner : Owner) (frames : List Frame) (k : Kind) (w : List ℕ) (s : Spot) (ts : List Token) → is_positional x → lower_of k ≡ Some w
      → behind_type t (frame.Parameter p x owner ∷ frames) (token k s ∷ ts) ≡ through K fail (place (focus.ParameterNamed (added p x t (Some w)) owner) frames) ts
  named_read_whole t p x owner frames k w s ts i h =
      same (after_type t (frame.Parameter p x owner ∷ frames) k) (at (focus.ParameterNamed (added p x t (Some w)) owner) frames) ts (in_named t p x owner frames k w h ∙ named_whole t p x owner frames w i)

  pub key_rest_named_read : (t : PlainTy) (p : Parameters) (owner : Owner) (frames : List Frame) (k : Kind) (w : List ℕ) (s : Spot) (ts : List Token) → lower_of k ≡ Some w
      → behind_type t (frame.Parameter p slot.KeyRest owner ∷ frames) (token k s ∷ ts) ≡ through K fail (place (focus.KeyRestNamed (record { parameters = p; key_rest = plain.rest t (Some w) }) owner) frames) ts
  key_rest_named_read t p owner frames k w s ts h =
      same (after_type t (frame.Parameter p slot.KeyRest owner ∷ frames) k) (at (focus.KeyRestNamed (record { parameters = p; key_rest = plain.rest t (Some w) }) owner) frames) ts (in_named t p slot.KeyRest owner frames k w h)

  -- ---- brackets that may close at once

  pub paren_begun : (level : Level) (frames : List Frame) (ts : List Token) → through K fail (place (focus.Paren level) frames) ts ≡ through K fail (place (focus.Type ground) (frame.Paren level ∷ frames)) ts
  unfolding through
  paren_begun level frames [] = refl
  paren_begun level frames (c ∷ ts) = refl

  pub tuple_begun : (level : Level) (frames : List Frame) (ts : List Token) → Opens ts
      → through K fail (place (focus.Tuple level) frames) ts ≡ through K fail (place (focus.Type ground) (frame.Tuple plain.no_tys level ∷ frames)) ts
  unfolding through
  tuple_begun level frames [] h = refl
  tuple_begun level frames (c ∷ ts) h = same (after_tuple level frames c.kind) (wants ground (frame.Tuple plain.no_tys level ∷ frames) c.kind) ts (tuple_goes_on level frames c.kind ts h)

  pub record_begun : (level : Level) (frames : List Frame) (ts : List Token) → OpensKey ts
      → through K fail (place (focus.Record level) frames) ts ≡ through K fail (place (focus.Key plain.no_keys level) frames) ts
  unfolding through
  record_begun level frames [] h = refl
  record_begun level frames (c ∷ ts) h = same (after_record level frames c.kind) (key_begins plain.no_keys level frames c.kind) ts (record_goes_on level frames c.kind h)

  pub parameters_begun : (owner : Owner) (frames : List Frame) (ts : List Token) → OpensParameter ts
      → through K fail (place (focus.Parameters owner) frames) ts ≡ through K fail (place (focus.Parameter no_parameters owner) frames) ts
  unfolding through
  parameters_begun owner frames [] h = refl
  parameters_begun owner frames (c ∷ ts) h = same (after_parameters owner frames c.kind) (parameter_begins no_parameters owner frames c.kind) ts (parameters_go_on owner frames c.kind h)

  -- ---- where the parameters of a function or of a block may begin

  pub unlisted_begun : (o : Owner) (frames : List Frame) (ts : List Token) → UnlistedBefore ts
      → through K fail (place (owner_begins o) frames) ts ≡ through K fail (place (focus.Listed nothing_listed o) frames) ts
  unfolding through
  unlisted_begun (owner.Function level) frames [] h = refl
  unlisted_begun (owner.Block needed outer level) frames [] h = refl
  unlisted_begun (owner.Function level) frames (c ∷ ts) h =
      same (next (place (focus.Function level) frames) c) (next (place (focus.Listed nothing_listed (owner.Function level)) frames) c) ts (function_goes_on level frames c.kind c.spot h)
  unlisted_begun (owner.Block needed outer level) frames (c ∷ ts) h =
      same (next (place (focus.Block needed outer level) frames) c) (next (place (focus.Listed nothing_listed (owner.Block needed outer level)) frames) c) ts (block_goes_on needed outer level frames c.kind c.spot h)

  pub listed_begun : (o : Owner) (frames : List Frame) (s : Spot) (ts : List Token)
      → through K fail (place (owner_begins o) frames) (sign mark.Open s ∷ ts) ≡ through K fail (place (focus.Parameters o) frames) ts
  unfolding through
  listed_begun (owner.Function level) frames s ts = refl
  listed_begun (owner.Block needed outer level) frames s ts = refl

  -- ---- keys

  pub needed_key_begun : (done : PlainKeys) (level : Level) (frames : List Frame) (k : Kind) (w : List ℕ) (s s' : Spot) (ts : List Token) → lower_of k ≡ Some w → is_new w done ≡ true
      → through K fail (place (focus.Key done level) frames) (token k s ∷ sign mark.Colon s' ∷ ts) ≡ through K fail (place (focus.Type ground) (frame.Record done w true level ∷ frames)) ts
  unfolding through
  needed_key_begun done level frames k w s s' ts h n =
      took (place (focus.Key done level) frames) (token k s) (place (focus.KeyName done w true level) frames) (sign mark.Colon s' ∷ ts) (key_goes_on done level frames k w h ∙ new_key done true level frames w n)

  pub optional_key_begun : (done : PlainKeys) (level : Level) (frames : List Frame) (k : Kind) (w : List ℕ) (s s' s'' : Spot) (ts : List Token) → lower_of k ≡ Some w → is_new w done ≡ true
      → through K fail (place (focus.Key done level) frames) (sign mark.Question s ∷ token k s' ∷ sign mark.Colon s'' ∷ ts)
      ≡ through K fail (place (focus.Type ground) (frame.Record done w false level ∷ frames)) ts
  unfolding through
  optional_key_begun done level frames k w s s' s'' ts h n =
      took (place (focus.KeyQuestion done level) frames) (token k s') (place (focus.KeyName done w false level) frames) (sign mark.Colon s'' ∷ ts) (ap (key_named done false level frames) h ∙ new_key done false level frames w n)

  -- ---- keywords

  keyword_begun : (p : Parameters) (needed : Bool) (w : List ℕ) (owner : Owner) (frames : List Frame) (s : Spot) (ts : List Token) → is_new w p.keys ≡ true
      → taken (keyword_begins p needed w owner frames) (λ m. through K fail m (sign mark.Colon s ∷ ts)) fail ≡ through K fail (place (focus.Type ground) (frame.Parameter p (slot.Key w needed) owner ∷ frames)) ts
  unfolding through
  keyword_begun p needed w owner frames s ts n =
      ap (λ b. taken (if b then at (focus.ParameterKey p needed w owner) frames else None) (λ m. through K fail m (sign mark.Colon s ∷ ts)) fail) n

  word_begun : (p : Parameters) (needed takes : Bool) (w : List ℕ) (o : Option Opening) (owner : Owner) (frames : List Frame) (s : Spot) (ts : List Token) → is_new w p.keys ≡ true
      → taken (word_begins p needed takes w o owner frames) (λ m. through K fail m (sign mark.Colon s ∷ ts)) fail ≡ through K fail (place (focus.Type ground) (frame.Parameter p (slot.Key w needed) owner ∷ frames)) ts
  unfolding through
  word_begun p needed true w (Some o) owner frames s ts n = refl
  word_begun p needed true w None owner frames s ts n = keyword_begun p needed w owner frames s ts n
  word_begun p needed false w o owner frames s ts n = keyword_begun p needed w owner frames s ts n

  pub needed_keyword_begun : (p : Parameters) (owner : Owner) (frames : List Frame) (k : Kind) (w : List ℕ) (s s' : Spot) (ts : List Token) → lower_of k ≡ Some w → is_new w p.keys ≡ true
      → through K fail (place (focus.Parameter p owner) frames) (token k s ∷ sign mark.Colon s' ∷ ts) ≡ through K fail (place (focus.Type ground) (frame.Parameter p (slot.Key w true) owner ∷ frames)) ts
  unfolding through
  needed_keyword_begun p owner frames k w s s' ts h n =
      same (parameter_begins p owner frames k) (argument_begins p true (takes_positional p) (Some w) owner frames k) (sign mark.Colon s' ∷ ts) (parameter_goes_on p owner frames k w h)
      ∙ word_begun p true (takes_positional p) w (opening_of k) owner frames s' ts n

  pub optional_keyword_begun : (p : Parameters) (owner : Owner) (frames : List Frame) (k : Kind) (w : List ℕ) (s s' s'' : Spot) (ts : List Token) → lower_of k ≡ Some w → is_new w p.keys ≡ true
      → through K fail (place (focus.Parameter p owner) frames) (sign mark.Question s ∷ token k s' ∷ sign mark.Colon s'' ∷ ts)
      ≡ through K fail (place (focus.Type ground) (frame.Parameter p (slot.Key w false) owner ∷ frames)) ts
  unfolding through
  optional_keyword_begun p owner frames k w s s' s'' ts h n =
      same (after_parameter_question p owner frames k) (argument_begins p false (takes_optional p) (Some w) owner frames k) (sign mark.Colon s'' ∷ ts)
      (ap (λ o. argument_begins p false (takes_optional p) o owner frames k) h)
      ∙ word_begun p false (takes_optional p) w (opening_of k) owner frames s'' ts n

  -- ---- the type of a parameter that may be named by a keyword

  word_opened : (p : Parameters) (needed : Bool) (w : List ℕ) (o : Opening) (owner : Owner) (frames : List Frame) (ts : List Token) → NoColon ts
      → through K fail (place (focus.ParameterWord p needed w o owner) frames) ts ≡ through K fail (opened o w (frame.Parameter p (slot_of needed) owner ∷ frames)) ts
  unfolding through
  word_opened p needed w opening.Alias owner frames [] h = refl
  word_opened p needed w (opening.Base b) owner frames [] h = refl
  word_opened p needed w opening.Singleton owner frames [] h = refl
  word_opened p needed w opening.Alias owner frames (c ∷ ts) h =
      same (after_parameter_word p needed w opening.Alias owner frames c.kind) (after_opening opening.Alias w (frame.Parameter p (slot_of needed) owner ∷ frames) c.kind) ts
      (word_goes_on p needed w opening.Alias owner frames c.kind h)
  word_opened p needed w (opening.Base b) owner frames (c ∷ ts) h =
      same (after_parameter_word p needed w (opening.Base b) owner frames c.kind) (after_opening (opening.Base b) w (frame.Parameter p (slot_of needed) owner ∷ frames) c.kind) ts
      (word_goes_on p needed w (opening.Base b) owner frames c.kind h)
  word_opened p needed w opening.Singleton owner frames (c ∷ ts) h =
      same (after_parameter_word p needed w opening.Singleton owner frames c.kind) (after_opening opening.Singleton w (frame.Parameter p (slot_of needed) owner ∷ frames) c.kind) ts
      (word_goes_on p needed w opening.Singleton owner frames c.kind h)

  keyword_opened : (p : Parameters) (needed : Bool) (owner : Owner) (frames : List Frame) (k : Keyword) (o : Option BaseTy) (ts : List Token) → is_opening (opening_of_keyword k o) → NoColon ts
      → taken (word_begins p needed true (keyword_text k) (opening_of_keyword k o) owner frames) (λ m. through K fail m ts) fail
      ≡ taken (wants_keyword ground (frame.Parameter p (slot_of needed) owner ∷ frames) k o) (λ m. through K fail m ts) fail
  keyword_opened p needed owner frames k (Some b) ts i h = word_opened p needed (keyword_text k) (opening.Base b) owner frames ts h
  keyword_opened p needed owner frames keyword.Singleton None ts i h = word_opened p needed (keyword_text keyword.Singleton) opening.Singleton owner frames ts h
  keyword_opened p needed owner frames _ None ts i h = absurd i

  argument_opened : (p : Parameters) (needed : Bool) (owner : Owner) (frames : List Frame) (k : Kind) (ts : List Token) → opens k ts
      → taken (argument_begins p needed true (lower_of k) owner frames k) (λ m. through K fail m ts) fail
      ≡ taken (wants ground (frame.Parameter p (slot_of needed) owner ∷ frames) k) (λ m. through K fail m ts) fail
  argument_opened p needed owner frames (kind.Lower w) ts h = word_opened p needed w opening.Alias owner frames ts h
  argument_opened p needed owner frames (kind.Keyword k) ts h = keyword_opened p needed owner frames k (base_of k) ts h.0 h.1
  argument_opened p needed owner frames _ ts h = refl

  pub positional_begun : (p : Parameters) (owner : Owner) (frames : List Frame) (ts : List Token) → takes_positional p ≡ true → Opens ts
      → through K fail (place (focus.Parameter p owner) frames) ts ≡ through K fail (place (focus.Type ground) (frame.Parameter p slot.Positional owner ∷ frames)) ts
  unfolding through
  positional_begun p owner frames [] e h = absurd h
  positional_begun p owner frames (c ∷ ts) e h =
      same (parameter_begins p owner frames c.kind) (argument_begins p true true (lower_of c.kind) owner frames c.kind) ts (positional_goes_on p owner frames c.kind ts e h)
      ∙ argument_opened p true owner frames c.kind ts h

  pub optional_begun : (p : Parameters) (owner : Owner) (frames : List Frame) (s : Spot) (ts : List Token) → takes_optional p ≡ true → Opens ts
      → through K fail (place (focus.Parameter p owner) frames) (sign mark.Question s ∷ ts) ≡ through K fail (place (focus.Type ground) (frame.Parameter p slot.Optional owner ∷ frames)) ts
  unfolding through
  optional_begun p owner frames s [] e h = absurd h
  optional_begun p owner frames s (c ∷ ts) e h =
      same (after_parameter_question p owner frames c.kind) (argument_begins p false true (lower_of c.kind) owner frames c.kind) ts
      (ap (λ b. argument_begins p false b (lower_of c.kind) owner frames c.kind) e)
      ∙ argument_opened p false owner frames c.kind ts h

  pub rest_begun : (p : Parameters) (owner : Owner) (frames : List Frame) (s : Spot) (ts : List Token) → takes_optional p ≡ true
      → through K fail (place (focus.Parameter p owner) frames) (sign mark.Star s ∷ ts) ≡ through K fail (place (focus.Type ground) (frame.Parameter p slot.Rest owner ∷ frames)) ts
  unfolding through
  rest_begun p owner frames s ts e =
      ap (λ b. taken (if b then at (focus.Type ground) (frame.Parameter p slot.Rest owner ∷ frames) else None) (λ m. through K fail m ts) fail) e
