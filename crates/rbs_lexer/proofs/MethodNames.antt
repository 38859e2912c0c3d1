-- The longest names of methods that stand first.
use Rattle.std.proofs.Common.{ℕ, zero, suc, ◌≡◌, ◌+◌, ◌<◌, ◌≤◌, Bool, true, false, refl, sym, ◌∙◌, ap, subst, List, [], ◌∷◌, ◌++◌, length, take, drop, get_or, append_assoc, inl, inr, arith, length-append, take-append-drop}
use Rattle.std.specs.Prelude.{◌||◌}
use Rattle.std.specs.Char.{is_ascii_uppercase}
use Rattle.std.proofs.Math.Seq.{get_or-append_seam}
use Rattle.std.proofs.lemmas.List.{get_or_append_left, take_more}
use Rattle.rbs_lexer.specs.Names.{IsWord, IsOperator, IsMethodName, is_ending, starts_lower}
use Rattle.rbs_lexer.specs.Scanned.{IsLongest}
use Rattle.rbs_lexer.proofs.Operators.{no_word}

word_some : (w : List ℕ) → IsWord w → 0 < length w
word_some [] (inl h) = absurd h
word_some [] (inr h) = absurd h
word_some (b ∷ w) h = omega arith

begins_word : ℕ → Bool
begins_word b = starts_lower b || is_ascii_uppercase b

word_first : (w : List ℕ) → IsWord w → begins_word (get_or w 0 0) ≡ true
unfolding begins_word
word_first [] (inl h) = absurd h
word_first [] (inr h) = absurd h
word_first (b ∷ w) (inl h) = rw h.0
word_first (b ∷ w) (inr h) = either (starts_lower b) (is_ascii_uppercase b) h.0
  where
    either : (x y : Bool) → y ≡ true → (x || y) ≡ true
    either true y e = refl
    either false y e = e

-- where a word stands, no operator does
no_operator : (bytes u v w rest : List ℕ) → IsWord u → bytes ≡ u ++ v → IsOperator w → bytes ≡ w ++ rest → ⊥
unfolding begins_word
no_operator bytes u v w rest h e o f =
    let other = no_word w o in
    let same : get_or u 0 0 ≡ get_or w 0 0 =
    sym (get_or_append_left u v 0 0 (word_some u h)) ∙ ap (λ b. get_or b 0 0) (sym e ∙ f) ∙ get_or_append_left w rest 0 0 other.0 in
    let is : begins_word (get_or w 0 0) ≡ true = subst (λ b. begins_word b ≡ true) same (word_first u h) in
    let fails : begins_word (get_or w 0 0) ≡ false = other.1 in
    cc

-- the word of an ended one
ended_split : (bytes w rest x : List ℕ) (b : ℕ) → bytes ≡ x ++ rest → x ≡ w ++ b ∷ [] → bytes ≡ w ++ (b ∷ rest)
ended_split bytes w rest x b e f = e ∙ ap (λ x. x ++ rest) f ∙ append_assoc w (b ∷ []) rest

ended_length : (w x : List ℕ) (b : ℕ) → x ≡ w ++ b ∷ [] → length x ≡ length w + 1
ended_length w x b f = ap length f ∙ length-append w (b ∷ [])

module _ (bytes : List ℕ) where
  pub operator_name : (m : ℕ) → IsLongest IsWord bytes 0 → IsLongest IsOperator bytes m → IsLongest IsMethodName bytes m
  operator_name m word op = record { within = op.within; front = λ some. inr (op.front some); longest = at_most }
    where
      at_most : (x rest : List ℕ) → IsMethodName x → bytes ≡ x ++ rest → length x ≤ m
      at_most x rest (inl (inl p)) e = let none : length x ≤ 0 = word.longest x rest p e in omega arith
      at_most x rest (inl (inr (w, b, p, g, f))) e =
          let none : length w ≤ 0 = word.longest w (b ∷ rest) p (ended_split bytes w rest x b e f) in
          let some : 0 < length w = word_some w p in
          absurd (omega arith)
      at_most x rest (inr o) e = op.longest x rest o e

  module _ (n : ℕ) (some : 0 < n) (word : IsLongest IsWord bytes n) where
    split : bytes ≡ take n bytes ++ drop n bytes
    split = sym (take-append-drop n bytes)

    ending_at : (w rest : List ℕ) (b : ℕ) → bytes ≡ w ++ (b ∷ rest) → length w ≡ n → get_or bytes n 0 ≡ b
    ending_at w rest b e l = ap (λ m. get_or bytes m 0) (sym l) ∙ ap (λ bytes. get_or bytes (length w) 0) e ∙ get_or-append_seam w b rest 0

    pub word_name : is_ending (get_or bytes n 0) ≡ false → IsLongest IsMethodName bytes n
    word_name f = record { within = word.within; front = λ some. inl (inl (word.front some)); longest = at_most }
      where
        at_most : (x rest : List ℕ) → IsMethodName x → bytes ≡ x ++ rest → length x ≤ n
        at_most x rest (inl (inl p)) e = word.longest x rest p e
        at_most x rest (inl (inr (w, b, p, g, h))) e =
            let less : length w ≤ n = word.longest w (b ∷ rest) p (ended_split bytes w rest x b e h) in
            let differs : length w ≡ n → ⊥ = λ l.
            let ends : is_ending (get_or bytes n 0) ≡ true = ap is_ending (ending_at w rest b (ended_split bytes w rest x b e h) l) ∙ g in
            cc in
            omega (arith, less, differs, ended_length w x b h)
        at_most x rest (inr o) e = absurd (no_operator bytes (take n bytes) (drop n bytes) x rest (word.front some) split o e)

    pub ended_name : is_ending (get_or bytes n 0) ≡ true → n < length bytes → IsLongest IsMethodName bytes (n + 1)
    ended_name g l = record {
      within = omega arith;
      front = λ s. inl (inr (take n bytes, get_or bytes n 0, word.front some, g, take_more bytes n 0 l));
      longest = at_most;
    }
      where
        at_most : (x rest : List ℕ) → IsMethodName x → bytes ≡ x ++ rest → length x ≤ n + 1
        at_most x rest (inl (inl p)) e = let less : length x ≤ n = word.longest x rest p e in omega arith
        at_most x rest (inl (inr (w, b, p, k, h))) e =
            let less : length w ≤ n = word.longest w (b ∷ rest) p (ended_split bytes w rest x b e h) in
            omega (arith, less, ended_length w x b h)
        at_most x rest (inr o) e = absurd (no_operator bytes (take n bytes) (drop n bytes) x rest (word.front some) split o e)

-- a byte that is told not to be 0 stands in the bytes
pub inside : (bytes : List ℕ) (n : ℕ) → 0 < get_or bytes n 0 → n < length bytes
inside [] n h = absurd (omega arith)
inside (b ∷ bytes) zero h = omega arith
inside (b ∷ bytes) (suc n) h = let more : n < length bytes = inside bytes n h in omega arith

pub ending_some : (b : ℕ) → is_ending b ≡ true → 0 < b
ending_some b e = grind arith
