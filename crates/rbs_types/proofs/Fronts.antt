-- What it says of a text that the first of its tokens were taken, and how reading ends.
use Rattle.std.proofs.Common.{ℕ, ◌+◌, ◌<◌, ◌≡◌, refl, sym, ◌∙◌, ap, subst, List, [], ◌∷◌, ◌++◌, take, length, Option, Some, None, Ok, Err, Result, arith, append_assoc, append-nil, length-append}
use Rattle.std.proofs.Math.Seq.{take-append_seam}
use Rattle.std.proofs.lemmas.List.{take_all}
use Rattle.std.proofs.lemmas.Option.{MatchOption-at_some, MatchOption-at_none}
use Rattle.std.specs.Option.{MatchOption}
use Rattle.rbs_terminals.specs.declared.token.Token.{Token}
use Rattle.sig_model.specs.declared.ty.Ty.{Ty}
use Rattle.sig_model.specs.PlainTy.{plain_ty}
use Rattle.rbs_types.specs.declared.state.State.{State}
use Rattle.rbs_types.specs.declared.reading.Refused.{Refused}
use Rattle.rbs_types.specs.declared.reading.Refused.TheVariants as refused
use Rattle.rbs_types.specs.Machine.{start, next}
use Rattle.rbs_types.specs.Limits.{IsWithin}
use Rattle.rbs_types.specs.Takes.{IsPast, Takes, Finishes}
use Rattle.rbs_types.specs.Answers.{last_end, Answers}
use Rattle.viable_prefixes.proofs.Goes.{goes_more}
use Rattle.rbs_types.proofs.Main.{Took, whole_type, unfinished_type, refused_type, past_type}

-- The first of the tokens were taken within the limits, and `rest` is left of them.
pub record Stands (whole rest : List Token) (s : State) (end : ℕ) : Type 0 where
  pub front : List Token
  pub split : whole ≡ front ++ rest
  pub took : Took front s
  pub ended : end ≡ last_end front

pub last_end_more : (ts : List Token) (c : Token) → last_end (ts ++ c ∷ []) ≡ c.spot.end
last_end_more [] c = refl
last_end_more (a ∷ []) c = refl
last_end_more (a ∷ b ∷ ts) c = last_end_more (b ∷ ts) c

-- one more is taken
pub stands_next : (whole rest : List Token) (c : Token) (s m : State) (before end : ℕ) → Stands whole (c ∷ rest) s before → next s c ≡ Some m → IsWithin m c → end ≡ c.spot.end → Stands whole rest m end
stands_next whole rest c s m before end h goes within is = record {
  front = h.front ++ c ∷ [];
  split = h.split ∙ sym (append_assoc h.front (c ∷ []) rest);
  took = goes_more next IsWithin h.front start s m c h.took goes within;
  ended = is ∙ sym (last_end_more h.front c);
}

-- What a call answers that moves the first of the tokens out, where the tokens before it and behind it are `old` and `new`.
abbrev pub IsFirst : Option Token → List Token → List Token → Type 0
IsFirst first old new = MatchOption first ((old ≡ []) × (new ≡ [])) (λ c. old ≡ c ∷ new)

-- one was moved out
pub stands_some : (whole old new stop : List Token) (first : Option Token) (c : Token) (s : State) (end : ℕ) → Stands whole (old ++ stop) s end
    → IsFirst first old new → first ≡ Some c → Stands whole (c ∷ (new ++ stop)) s end
stands_some whole old new stop first c s end h moved is =
    let some = MatchOption-at_some ((old ≡ []) × (new ≡ [])) (λ (c : Token). old ≡ c ∷ new) c is moved in
    subst (λ ts. Stands whole (ts ++ stop) s end) some h

-- none was left
pub stands_none : (whole old new stop : List Token) (first : Option Token) (s : State) (end : ℕ) → Stands whole (old ++ stop) s end
    → IsFirst first old new → first ≡ None → Stands whole stop s end
stands_none whole old new stop first s end h moved is =
    let none = MatchOption-at_none ((old ≡ []) × (new ≡ [])) (λ (c : Token). old ≡ c ∷ new) is moved in
    subst (λ ts. Stands whole (ts ++ stop) s end) none.0 h

-- ---- the front of a list, by its length

pub take_front : (whole front rest : List Token) → whole ≡ front ++ rest → take (length front) whole ≡ front
take_front whole front rest is = ap (take (length front)) is ∙ take-append_seam front rest

pub take_one_more : (whole front rest : List Token) (c : Token) → whole ≡ front ++ c ∷ rest → take (length front + 1) whole ≡ front ++ c ∷ []
take_one_more whole front rest c is =
    let longer : length front + 1 ≡ length (front ++ c ∷ []) = sym (length-append front (c ∷ [])) in
    ap (λ n. take n whole) longer ∙ take_front whole (front ++ c ∷ []) rest (is ∙ sym (append_assoc front (c ∷ []) rest))

pub front_is_short : (whole front rest : List Token) (c : Token) → whole ≡ front ++ c ∷ rest → length front < length whole
front_is_short whole front rest c is =
    let all : length whole ≡ length front + length (c ∷ rest) = ap length is ∙ length-append front (c ∷ rest) in
    omega (arith, all)

-- ---- how reading ends

module _ (whole rest : List Token) (c : Token) (s : State) (end : ℕ) (h : Stands whole (c ∷ rest) s end) where
  at_front : take (length h.front) whole ≡ h.front
  at_front = take_front whole h.front (c ∷ rest) h.split

  took_front : Took (take (length h.front) whole) s
  took_front = subst (λ ts. Took ts s) (sym at_front) h.took

  one_more : take (length h.front + 1) whole ≡ take (length h.front) whole ++ c ∷ []
  one_more = take_one_more whole h.front rest c h.split ∙ ap (λ ts. ts ++ c ∷ []) (sym at_front)

  ends_front : (e : ℕ) → e ≡ end → e ≡ last_end (take (length h.front) whole)
  ends_front e is = is ∙ h.ended ∙ ap last_end (sym at_front)

  past_here : (o : Option State) → next s c ≡ o → IsPast o c → Answers whole (Err (refused.Limit end))
  past_here None goes past = absurd past
  past_here (Some m) goes past = (length h.front, past_type whole (length h.front) s m c took_front (front_is_short whole h.front rest c h.split) one_more goes past, ends_front end refl)

  -- the next one is refused
  pub stands_refused : (e : Refused) → Takes s end c (Err e) → Answers whole (Err e)
  stands_refused (refused.Syntax e) why =
      (length h.front, refused_type whole (length h.front) s c took_front (front_is_short whole h.front rest c h.split) one_more why.0, ends_front e why.1)
  stands_refused (refused.Limit e) why = subst (λ e. Answers whole (Err (refused.Limit e))) (sym why.1) (past_here (next s c) refl why.0)
  stands_refused refused.NoMemory why = tt

-- all were taken
module _ (whole : List Token) (s : State) (end : ℕ) (h : Stands whole [] s end) where
  is_front : h.front ≡ whole
  is_front = sym (h.split ∙ append-nil h.front)

  took_all : Took whole s
  took_all = subst (λ ts. Took ts s) is_front h.took

  ends_all : (e : ℕ) → e ≡ end → e ≡ last_end (take (length whole) whole)
  ends_all e is = is ∙ h.ended ∙ ap last_end (is_front ∙ sym (take_all (length whole) whole (omega arith)))

  pub stands_last : (r : Result Ty Refused) → Finishes s end r → Answers whole r
  stands_last (Ok t) is = whole_type whole s (plain_ty t) took_all is
  stands_last (Err (refused.Syntax e)) why = (length whole, unfinished_type whole s took_all why.0, ends_all e why.1)
  stands_last (Err (refused.Limit e)) why = absurd why
  stands_last (Err refused.NoMemory) why = tt
