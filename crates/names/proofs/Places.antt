-- When two names are the same.
use Rattle.std.proofs.Common.{◌≡◌, ◌≢◌, ℕ, Bool, List, ◌∷◌, true, false, ◌&&◌, ◌||◌, refl}
use Rattle.std.specs.Prelude.{not}
use Rattle.std.proofs.lemmas.Slice.Eq.{bytes_eq-Decides}
use Rattle.names.specs.Places.{same_name, is_among}

pub same_name-true : (a b : List ℕ) → same_name a b ≡ true → a ≡ b
same_name-true a b same = (bytes_eq-Decides a b).0 same

pub eq-same_name : (a b : List ℕ) → a ≡ b → same_name a b ≡ true
eq-same_name a b eq = (bytes_eq-Decides a b).1 eq

pub same_name-self : (a : List ℕ) → same_name a a ≡ true
same_name-self a = eq-same_name a a refl

pub same_name-false : (a b : List ℕ) → same_name a b ≡ false → a ≢ b
same_name-false a b other eq = let same = eq-same_name a b eq in cc

not_or : (a b : Bool) → not (a || b) ≡ (not a && not b)
not_or true b = refl
not_or false b = refl

-- what is not among these is not the first, and not among the others
pub not_among : (a b : List ℕ) (names : List (List ℕ)) → not (is_among a (b ∷ names)) ≡ (not (same_name a b) && not (is_among a names))
not_among a b names = not_or (same_name a b) (is_among a names)
