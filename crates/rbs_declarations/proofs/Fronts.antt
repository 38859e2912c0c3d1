-- What it says of a file that the first of its tokens were taken, and how reading ends.
use Rattle.std.proofs.Common.{ℕ, ◌+◌, ◌≡◌, refl, sym, ◌∙◌, ap, subst, List, [], ◌∷◌, ◌++◌, take, length, Option, Some, None, Ok, Err, Result, arith, append_assoc, append-nil}
use Rattle.std.proofs.lemmas.List.{take_all}
use Rattle.std.proofs.lemmas.Option.{MatchOption-at_some, MatchOption-at_none}
use Rattle.rbs_terminals.specs.declared.token.Token.{Token}
use Rattle.sig_model.specs.declared.decl.Decl.{Decl}
use Rattle.sig_model.specs.PlainDecl.{plain_decls}
use Rattle.viable_prefixes.proofs.Goes.{goes_more}
use Rattle.rbs_types.specs.declared.reading.Refused.{Refused}
use Rattle.rbs_types.specs.declared.reading.Refused.TheVariants as refused
use Rattle.rbs_types.specs.Answers.{last_end}
use Rattle.rbs_types.proofs.Fronts.{IsFirst, last_end_more, take_front, take_one_more, front_is_short}
use Rattle.rbs_declarations.specs.declared.state.State.{State}
use Rattle.rbs_declarations.specs.Machine.{start_of_file, next}
use Rattle.rbs_declarations.specs.Limits.{IsWithin}
use Rattle.rbs_declarations.specs.Takes.{IsPast, Takes, Finishes}
use Rattle.rbs_declarations.specs.Answers.{Answers}
use Rattle.rbs_declarations.proofs.Main.{tracked, next_tracked, Took, whole_file, unfinished_file, refused_file, past_file}

-- In the file of this number.
module _ (file : ℕ) where
  -- The first of the tokens were taken within the limits, and `rest` is left of them.
  pub record Stands (whole rest : List Token) (s : State) (end : ℕ) : Type 0 where
    pub front : List Token
    pub split : whole ≡ front ++ rest
    pub took : Took file front (s, end)
    pub ended : end ≡ last_end front

  took_one : (front : List Token) (c : Token) (s m : State) (before end : ℕ) → Took file front (s, before) → next file s c ≡ Some m → IsWithin m c → end ≡ c.spot.end → Took file (front ++ c ∷ []) (m, end)
  took_one front c s m before end took goes within is =
      let step : next_tracked file (s, before) c ≡ Some (m, c.spot.end) = ap (λ o. tracked o c) goes in
      let more : Took file (front ++ c ∷ []) (m, c.spot.end) = goes_more (next_tracked file) (λ m c. IsWithin m.0 c) front (start_of_file, 0) (s, before) (m, c.spot.end) c took step within in
      subst (λ e. Took file (front ++ c ∷ []) (m, e)) (sym is) more

  -- one more is taken
  pub stands_next : (whole rest : List Token) (c : Token) (s m : State) (before end : ℕ) → Stands whole (c ∷ rest) s before → next file s c ≡ Some m → IsWithin m c → end ≡ c.spot.end → Stands whole rest m end
  stands_next whole rest c s m before end h goes within is = record {
    front = h.front ++ c ∷ [];
    split = h.split ∙ sym (append_assoc h.front (c ∷ []) rest);
    took = took_one h.front c s m before end h.took goes within is;
    ended = is ∙ sym (last_end_more h.front c);
  }

  -- one was moved out
  pub stands_some : (whole old new stop : List Token) (first : Option Token) (c : Token) (s : State) (end : ℕ) → Stands whole (old ++ stop) s end
      → IsFirst first old new → first ≡ Some c → Stands whole (c ∷ (new ++ stop)) s end
  stands_some whole old new stop first c s end h moved is =
      let some = MatchOption-at_some ((old ≡ []) × (new ≡ [])) (λ (c : Token). old ≡ c ∷ new) c is moved in
      subst (λ ts. Stands whole (ts ++ stop) s end) some h

  -- none was left
  pub stands_none : (whole old new stop : List Token) (first : Option Token) (s : State) (end : ℕ) → Stands whole (old ++ stop) s end
      → IsFirst first old new → first ≡ None → Stands whole stop s end
  stands_none whole old new stop first s end h moved is =
      let none = MatchOption-at_none ((old ≡ []) × (new ≡ [])) (λ (c : Token). old ≡ c ∷ new) is moved in
      subst (λ ts. Stands whole (ts ++ stop) s end) none.0 h

  -- ---- how reading ends

  module _ (whole rest : List Token) (c : Token) (s : State) (end : ℕ) (h : Stands whole (c ∷ rest) s end) where
    at_front : take (length h.front) whole ≡ h.front
    at_front = take_front whole h.front (c ∷ rest) h.split

    took_front : Took file (take (length h.front) whole) (s, end)
    took_front = subst (λ ts. Took file ts (s, end)) (sym at_front) h.took

    one_more : take (length h.front + 1) whole ≡ take (length h.front) whole ++ c ∷ []
    one_more = take_one_more whole h.front rest c h.split ∙ ap (λ ts. ts ++ c ∷ []) (sym at_front)

    ends_front : (e : ℕ) → e ≡ end → e ≡ last_end (take (length h.front) whole)
    ends_front e is = is ∙ h.ended ∙ ap last_end (sym at_front)

    past_here : (o : Option State) → next file s c ≡ o → IsPast o c → Answers file whole (Err (refused.Limit end))
    past_here None goes past = absurd past
    past_here (Some m) goes past =
        (length h.front, past_file file whole (length h.front) (s, end) m c took_front (front_is_short whole h.front rest c h.split) one_more goes past, ends_front end refl)

    -- the next one is refused
    pub stands_refused : (e : Refused) → Takes file s end c (Err e) → Answers file whole (Err e)
    stands_refused (refused.Syntax e) why =
        (length h.front, refused_file file whole (length h.front) (s, end) c took_front (front_is_short whole h.front rest c h.split) one_more why.0, ends_front e why.1)
    stands_refused (refused.Limit e) why = subst (λ e. Answers file whole (Err (refused.Limit e))) (sym why.1) (past_here (next file s c) refl why.0)
    stands_refused refused.NoMemory why = tt

  -- all were taken
  module _ (whole : List Token) (s : State) (end : ℕ) (h : Stands whole [] s end) where
    is_front : h.front ≡ whole
    is_front = sym (h.split ∙ append-nil h.front)

    took_all : Took file whole (s, end)
    took_all = subst (λ ts. Took file ts (s, end)) is_front h.took

    ends_all : (e : ℕ) → e ≡ end → e ≡ last_end (take (length whole) whole)
    ends_all e is = is ∙ h.ended ∙ ap last_end (is_front ∙ sym (take_all (length whole) whole (omega arith)))

    pub stands_last : (r : Result (List Decl) Refused) → Finishes file s end r → Answers file whole r
    stands_last (Ok ds) is = whole_file file whole (s, end) (plain_decls ds) took_all is
    stands_last (Err (refused.Syntax e)) why = (length whole, unfinished_file file whole (s, end) took_all why.0, ends_all e why.1)
    stands_last (Err (refused.Limit e)) why = absurd why
    stands_last (Err refused.NoMemory) why = tt
