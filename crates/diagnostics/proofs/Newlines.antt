-- What a search for newlines says of lines and columns.
use Rattle.std.proofs.Common.{◌≡◌, ℕ, zero, suc, ◌+◌, ◌-◌, ◌<◌, Bool, true, false, cond, List, [], ◌∷◌, None, Some, length, take, drop, count_by, refl, sym, ap, ◌∙◌, arith}
use Rattle.std.proofs.lemmas.Bool.{cond_both, lt-leb, le-leb}
use Rattle.std.proofs.lemmas.List.{drop-drop}
use Rattle.std.proofs.lemmas.List.Sums.{sum_by-cons}
use Rattle.std.specs.Prelude.{◌==◌, ◌&&◌}
use Rattle.std.specs.Str.{bytes_eq}
use Rattle.bstr.specs.Find.{IsLastByte, Passes, is_byte, occurs_at, match_len, matches_from, matches}
use Rattle.source_text.specs.Lines.{since_newline}

abbrev newline : List ℕ
newline = 10 ∷ []

abbrev pub newlines : List ℕ → ℕ
newlines xs = count_by (λ b. b == 10) xs

-- ---- lines

abbrev starts : List ℕ → Bool
starts [] = false
starts (x ∷ xs) = x == 10

and_true : (b : Bool) → (b && true) ≡ b
and_true true = refl
and_true false = refl

newlines-cons : (x : ℕ) (xs : List ℕ) → newlines (x ∷ xs) ≡ cond (x == 10) 1 0 + newlines xs
newlines-cons x xs = sum_by-cons (λ b. cond (b == 10) 1 0) x xs

length-choice : (b : Bool) (i : ℕ) (ms ns : List ℕ) → ms ≡ ns → length (cond b (i ∷ ms) ns) ≡ cond b 1 0 + length ns
length-choice true i ms ns e = let s : suc (length ns) ≡ 1 + length ns = omega arith in ap (λ l. suc (length l)) e ∙ s
length-choice false i ms ns e = omega arith

drop_next : (i x : ℕ) (hay xs : List ℕ) → drop i hay ≡ x ∷ xs → drop (i + 1) hay ≡ xs
drop_next i x hay xs e = sym (drop-drop 1 i hay) ∙ ap (drop 1) e

module _ (hay : List ℕ) where
  occurs : (i : ℕ) (xs : List ℕ) → drop i hay ≡ xs → i + length xs ≡ length hay → occurs_at hay newline i ≡ starts xs
  occurs i [] rest long = ap (λ b. b && bytes_eq (take 1 (drop i hay)) newline) (lt-leb (i + 1) (length hay) (omega arith))
  occurs i (x ∷ xs) rest long =
      ap (λ b. b && bytes_eq (take 1 (drop i hay)) newline) (le-leb (i + 1) (length hay) (omega arith))
      ∙ ap (λ l. bytes_eq (take 1 l) newline) rest
      ∙ and_true (x == 10)

  counted : (i : ℕ) (xs : List ℕ) → drop i hay ≡ xs → i + length xs ≡ length hay → length (matches_from hay newline 0 i (suc (length xs))) ≡ newlines xs
  unfolding matches_from
  counted i [] rest long = ap (λ b. length (cond b (i ∷ []) [])) (occurs i [] rest long)
  counted i (x ∷ xs) rest long =
      let later = matches_from hay newline 0 (i + 1) (suc (length xs)) in
      ap (λ b. length (cond b (i ∷ matches_from hay newline (match_len newline - 1) (i + 1) (suc (length xs))) later)) (occurs i (x ∷ xs) rest long)
      ∙ length-choice (x == 10) i _ later refl
      ∙ ap (λ n. cond (x == 10) 1 0 + n) (counted (i + 1) xs (drop_next i x hay xs rest) (omega arith))
      ∙ sym (newlines-cons x xs)

  pub newlines_from_matches : length (matches hay newline 0) ≡ newlines hay
  newlines_from_matches =
      let bound : length hay + 1 - 0 ≡ suc (length hay) = omega arith in
      ap (λ n. length (matches_from hay newline 0 0 n)) bound ∙ counted 0 hay refl (omega arith)

-- ---- columns

unbroken : (m : ℕ) (xs : List ℕ) → ((k : ℕ) → k < length xs → ¬ Passes (is_byte 10) xs k) → since_newline m xs ≡ m + length xs
unbroken m [] none = omega arith
unbroken m (x ∷ xs) none =
    cond_both (x == 10) (since_newline 0 xs) (since_newline (m + 1) xs) (λ n. n ≡ m + suc (length xs))
    (λ here. absurd (none 0 (omega arith) here))
    (λ _. unbroken (m + 1) xs (λ k low. none (suc k) (omega arith)) ∙ omega arith)

broken : (m k : ℕ) (xs : List ℕ) → k < length xs → Passes (is_byte 10) xs k → ((j : ℕ) → k < j → j < length xs → ¬ Passes (is_byte 10) xs j) → since_newline m xs + k + 1 ≡ length xs
broken m k [] low here none = absurd (omega arith)
broken m zero (x ∷ xs) low here none =
    ap (λ b. cond b (since_newline 0 xs) (since_newline (m + 1) xs) + 0 + 1) here
    ∙ ap (λ n. n + 0 + 1) (unbroken 0 xs (λ j l. none (suc j) (omega arith) (omega arith)))
    ∙ omega arith
broken m (suc k) (x ∷ xs) low here none =
    let rest : (n : ℕ) → since_newline n xs + k + 1 ≡ length xs = λ n. broken n k xs (omega arith) here (λ j above below. none (suc j) (omega arith) (omega arith)) in
    cond_both (x == 10) (since_newline 0 xs) (since_newline (m + 1) xs) (λ n. n + suc k + 1 ≡ suc (length xs))
    (λ _. omega (arith, rest 0)) (λ _. omega (arith, rest (m + 1)))

pub column_behind : (xs : List ℕ) (k : ℕ) → IsLastByte (is_byte 10) xs (Some k) → length xs - k ≡ since_newline 0 xs + 1
column_behind xs k last =
    let whole = broken 0 k xs last.0.high last.1 (λ j above below. last.0.after j (omega arith) below) in
    omega (arith, whole)

pub column_in_first : (xs : List ℕ) → IsLastByte (is_byte 10) xs None → length xs + 1 ≡ since_newline 0 xs + 1
column_in_first xs none = let whole = unbroken 0 xs (λ k low. none k (omega arith) low) in
    omega (arith, whole)
