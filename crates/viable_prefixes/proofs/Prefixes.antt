-- A reader of tokens faults right behind the longest viable prefix.
use Rattle.std.proofs.Common.{ℕ, ◌+◌, append_assoc, drop, inl, inr, ◌⊎◌, ◌≤◌, ◌<◌, ◌≡◌, sym, ◌∙◌, ap, subst, List, [], ◌∷◌, ◌++◌, take, length, Some, None, arith, append-nil}
use Rattle.std.proofs.lemmas.List.{take-append-drop, take_all, take-take}
use Rattle.std.proofs.lemmas.Bool.{cases_lt}
use Rattle.viable_prefixes.specs.Prefixes.{Begins, IsFault}
use Rattle.viable_prefixes.proofs.Goes.{some_same, none_some, goes_more, goes_one}
use Rattle.viable_prefixes.proofs.Machines.{Machine, IsReader, Text, Within, Took}
use Rattle.viable_prefixes.proofs.Texts.{text_took, took_begins, took_text, begins_written, written_taken, text_taken}

-- ---- fronts of a list

-- what begins with the tokens begins with each front of them
shorter : {X T : Type 0} (P : X → List T → Type 0) (a b : List T) → Begins P (a ++ b) → Begins P a
shorter P a b h = (h.0, b ++ h.1, subst (P h.0) (append_assoc a b h.1) h.2)

front_of_front : {T : Type 0} (n k : ℕ) (ts : List T) → n < k → take (n + 1) ts ++ drop (n + 1) (take k ts) ≡ take k ts
front_of_front n k ts l =
    let same : take (n + 1) (take k ts) ≡ take (n + 1) ts = take-take (n + 1) k ts (omega arith) in
    ap (λ us. us ++ drop (n + 1) (take k ts)) (sym same) ∙ take-append-drop (n + 1) (take k ts)

-- no longer front begins a text if the one with one token more doesn't
longest_of : {X T : Type 0} (P : X → List T → Type 0) (ts : List T) (n : ℕ) → (Begins P (take (n + 1) ts) → ⊥) → (k : ℕ) → Begins P (take k ts) → k ≤ n
longest_of P ts n never k b = go (cases_lt n k)
  where
    go : (n < k) ⊎ (k ≤ n) → k ≤ n
    go (inr l) = l
    go (inl l) = absurd (never (shorter P (take (n + 1) ts) (drop (n + 1) (take k ts)) (subst (Begins P) (sym (front_of_front n k ts l)) b)))

-- what begins with a front and one more token, either way that it is written
front_and_one : {X T : Type 0} (P : X → List T → Type 0) (ts front : List T) (n : ℕ) (c : T) → take (n + 1) ts ≡ front ++ c ∷ [] → Begins P (take (n + 1) ts) → (x : X) × (rest : List T) × P x (front ++ c ∷ rest)
front_and_one P ts front n c e b = (b.0, b.1, subst (P b.0) (append_assoc front (c ∷ []) b.1) (subst (λ us. P b.0 (us ++ b.1)) e b.2))

one_and_front : {X T : Type 0} (P : X → List T → Type 0) (ts front : List T) (n : ℕ) (c : T) → take (n + 1) ts ≡ front ++ c ∷ [] → (x : X) (rest : List T) → P x (front ++ c ∷ rest) → Begins P (take (n + 1) ts)
one_and_front P ts front n c e x rest h = (x, rest, subst (λ us. P x (us ++ rest)) (sym e) (subst (P x) (sym (append_assoc front (c ∷ []) rest)) h))

-- ---- other words for the same

pub limit_is : {X T : Type 0} (Text Written : X → List T → Type 0) (ts : List T) (n : ℕ) (a b : Type 0) → (a → b) → (b → a) → IsFault Text Written ts n a → IsFault Text Written ts n b
limit_is Text Written ts n a b to from f = record {
  no_text = f.no_text;
  in_text = f.in_text;
  begins = f.begins;
  longest = f.longest;
  past_limit = (λ l. f.past_limit.0 (from l), λ h. to (f.past_limit.1 h));
}

pub text_is : {X T : Type 0} (P Q Written : X → List T → Type 0) (ts : List T) (n : ℕ) (limit : Type 0) → ((x : X) (us : List T) → P x us → Q x us) → ((x : X) (us : List T) → Q x us → P x us)
    → IsFault P Written ts n limit → IsFault Q Written ts n limit
text_is P Q Written ts n limit to from f = record {
  no_text = λ x h. f.no_text x (from x ts h);
  in_text = f.in_text;
  begins = let b = f.begins in (b.0, b.1, to b.0 (take n ts ++ b.1) b.2);
  longest = λ k h b. f.longest k h (b.0, b.1, from b.0 (take k ts ++ b.1) b.2);
  past_limit = f.past_limit;
}

-- ---- the theorem

module _ {S T X D : Type 0} (m : Machine S T X D) (r : IsReader m) where
  -- tokens spell one thing, if any
  pub spelled_once : (x y : X) (ts : List T) → m.Written x ts → m.Written y ts → x ≡ y
  spelled_once x y ts h k = some_same x y (sym (r.complete x ts h) ∙ r.complete y ts k)

  -- one more token is taken
  pub took_more : (ts : List T) (n : ℕ) (s e : S) (c : T) → Took m (take n ts) s → take (n + 1) ts ≡ take n ts ++ c ∷ [] → m.next s c ≡ Some e → Within m e c → Took m (take (n + 1) ts) e
  took_more ts n s e c took is goes within = subst (λ us. Took m us e) (sym is) (goes_more m.next (Within m) (take n ts) m.start s e c took goes within)

  -- the whole was taken, and is whole: that is the one text
  pub whole : (ts : List T) (s : S) (x : X) → Took m ts s → m.final s ≡ Some x → Text m x ts × ((y : X) → Text m y ts → y ≡ x)
  whole ts s x took f = (
    subst (Text m x) (append-nil ts) (took_text m r ts s x took f),
    λ y h.
        let (e, k, v) = text_took m r y ts h in
        some_same y x (sym v ∙ ap m.final (goes_one m.next (Within m) ts m.start e s k took) ∙ f),
  )

  -- the whole was taken, and isn't whole
  pub unfinished : (ts : List T) (s : S) → Took m ts s → m.final s ≡ None → IsFault (Text m) m.Written ts (length ts) ⊥
  unfinished ts s took f = record {
    no_text = λ x h.
        let (e, k, v) = text_took m r x ts h in
        none_some (m.final s) x f (ap m.final (goes_one m.next (Within m) ts m.start s e took k) ∙ v);
    in_text = omega arith;
    begins = subst (Begins (Text m)) (sym (take_all (length ts) ts (omega arith))) (took_begins m r ts s took);
    longest = λ k h b. h;
    past_limit = (λ l. absurd l, λ b. absurd (omega (arith, b.0)));
  }

  -- a front was taken, and the next token `c` leads nowhere within the limits
  stopped : (ts : List T) (n : ℕ) (s : S) (c : T) → Took m (take n ts) s → n < length ts → take (n + 1) ts ≡ take n ts ++ c ∷ [] → ((e : S) → m.next s c ≡ Some e → Within m e c → ⊥)
      → IsFault (Text m) m.Written ts n ((e : S) × (m.next s c ≡ Some e))
  stopped ts n s c took lt is refuses = record {
    no_text = λ x h. no_more (x, drop (n + 1) ts, subst (Text m x) (sym (take-append-drop (n + 1) ts)) h);
    in_text = omega arith;
    begins = took_begins m r (take n ts) s took;
    longest = λ k h b. longest_of (Text m) ts n no_more k b;
    past_limit = (
      λ l. (lt, let b = begins_written m r (take n ts) s l.0 c took l.1 in one_and_front m.Written ts (take n ts) n c is b.0 b.1 b.2),
      λ b. let w = front_and_one m.Written ts (take n ts) n c is b.1 in written_taken m r (take n ts) s c w.0 w.1 took w.2,
    );
  }
    where
      no_more : Begins (Text m) (take (n + 1) ts) → ⊥
      no_more b =
          let w = front_and_one (Text m) ts (take n ts) n c is b in
          let a = text_taken m r (take n ts) s c w.0 w.1 took w.2 in
          refuses a.0 a.1 a.2

  -- the next token is refused
  pub refused : (ts : List T) (n : ℕ) (s : S) (c : T) → Took m (take n ts) s → n < length ts → take (n + 1) ts ≡ take n ts ++ c ∷ [] → m.next s c ≡ None → IsFault (Text m) m.Written ts n ⊥
  refused ts n s c took lt is none =
      limit_is (Text m) m.Written ts n ((e : S) × (m.next s c ≡ Some e)) ⊥ (λ l. none_some (m.next s c) l.0 none l.1) (λ l. absurd l)
      (stopped ts n s c took lt is (λ e some within. none_some (m.next s c) e none some))

  -- the next token is taken, past the limits
  pub past : (ts : List T) (n : ℕ) (s e : S) (c : T) → Took m (take n ts) s → n < length ts → take (n + 1) ts ≡ take n ts ++ c ∷ [] → m.next s c ≡ Some e → (Within m e c → ⊥)
      → IsFault (Text m) m.Written ts n (Unit {0})
  past ts n s e c took lt is some out =
      limit_is (Text m) m.Written ts n ((a : S) × (m.next s c ≡ Some a)) (Unit {0}) (λ l. tt) (λ l. (e, some))
      (stopped ts n s c took lt is (λ a goes within. out (subst (λ a. Within m a c) (some_same a e (sym goes ∙ some)) within)))
