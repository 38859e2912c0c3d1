-- A word that isn't among some names.
use Rattle.std.proofs.Common.{max, ℕ, zero, suc, ◌+◌, ◌<◌, ◌≡◌, refl, ◌∙◌, ap, Bool, true, false, ◌&&◌, List, [], ◌∷◌, length, arith}
use Rattle.std.specs.Prelude.{not}
use Rattle.names.specs.Places.{same_name, is_among}
use Rattle.names.proofs.Places.{same_name-true, not_among}

-- a letter, so many times
letters : ℕ → ℕ → List ℕ
letters b zero = []
letters b (suc n) = b ∷ letters b n

letters_length : (b n : ℕ) → length (letters b n) ≡ n
unfolding letters
letters_length b zero = refl
letters_length b (suc n) = ap suc (letters_length b n)

longest : List (List ℕ) → ℕ
longest [] = 0
longest (n ∷ names) = max (length n) (longest names)

-- of one letter, and longer than all of these names
pub fresh : ℕ → List (List ℕ) → List ℕ
fresh b names = letters b (longest names + 1)

differs : (w n : List ℕ) → length n < length w → (b : Bool) → same_name w n ≡ b → not b ≡ true
differs w n h false e = refl
differs w n h true e =
    let same : length w ≡ length n = ap length (same_name-true w n e) in
    absurd (omega arith)

both : (a b : Bool) → a ≡ true → b ≡ true → a && b ≡ true
both true b g h = h
both false b g h = g

longer_is_new : (w : List ℕ) (names : List (List ℕ)) → longest names < length w → not (is_among w names) ≡ true
unfolding longest
longer_is_new w [] h = refl
longer_is_new w (n ∷ names) h = not_among w n names ∙ both (not (same_name w n)) (not (is_among w names)) (differs w n (omega arith) (same_name w n) refl) (longer_is_new w names (omega arith))

pub fresh_is_new : (b : ℕ) (names : List (List ℕ)) → not (is_among (fresh b names) names) ≡ true
unfolding fresh
fresh_is_new b names = longer_is_new (letters b (longest names + 1)) names (omega (arith, letters_length b (longest names + 1)))
