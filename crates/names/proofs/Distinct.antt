-- Names that come twice.
use Rattle.std.proofs.Common.{◌≡◌, ℕ, List, [], ◌∷◌, ◌++◌, Bool, true, false, ◌||◌, refl, subst}
use Rattle.std.specs.List.{IsDistinct, AllByRecursion}
use Rattle.names.specs.Places.{same_name, is_among}
use Rattle.names.proofs.Places.{same_name-true, same_name-self}

-- each of these names differs from x, and x is among them: that cannot be
not_among : (x y : List ℕ) (xs ys : List (List ℕ)) → AllByRecursion (λ z. same_name y z ≡ false) (xs ++ x ∷ ys) → same_name y x ≡ false
not_among x y [] ys all = all.0
not_among x y (z ∷ xs) ys all = not_among x y xs ys all.1

-- a name that is among the first ones comes again behind them
pub repeated : (x : List ℕ) (xs ys : List (List ℕ)) → is_among x xs ≡ true → IsDistinct same_name (xs ++ x ∷ ys) → ⊥
unfolding IsDistinct
repeated x [] ys among distinct = cc
repeated x (y ∷ xs) ys among distinct = by_cases (same_name x y) refl among (repeated x xs ys)
  where
    by_cases : (t : Bool) → same_name x y ≡ t → (t || is_among x xs) ≡ true → (is_among x xs ≡ true → IsDistinct same_name (xs ++ x ∷ ys) → ⊥) → ⊥
    by_cases true same among again =
        let e : x ≡ y = same_name-true x y same in
        let differs = not_among x y xs ys distinct.0 in
        let itself : same_name y x ≡ true = subst (λ z. same_name z x ≡ true) e (same_name-self x) in
        cc
    by_cases false same among again = again among distinct.1
