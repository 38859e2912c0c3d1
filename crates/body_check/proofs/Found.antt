-- What is found by its name, where the place of the name is known.
use Rattle.std.proofs.Common.{◌≡◌, ℕ, ◌+◌, ◌<◌, List, [], ◌∷◌, Bool, true, false, cond, length, get_or, map, refl, ap, sym, ◌∙◌, arith, nat_lt}
use Rattle.std.specs.Prelude.{Option, None, Some, option_and_then, slice_get, not}
use Rattle.std.specs.List.{find, position_or_len}
use Rattle.std.proofs.lemmas.Bool.{ltb-false}
use Rattle.std.proofs.lemmas.List.{length-map}
use Rattle.std.proofs.lemmas.List.Folds.{find_at}
use Rattle.std.proofs.lemmas.List.Quantifiers.{position-Some}
use Rattle.std.proofs.lemmas.Option.{slice_get_past, slice_get-get_or}
use Rattle.names.specs.Places.{same_name, place_of}

module _ {X : Type 0} (name : X → List ℕ) (n : List ℕ) where
  abbrev test : X → Bool
  test x = same_name n (name x)

  place_in_names : (xs : List X) → position_or_len (same_name n) (map name xs) ≡ position_or_len test xs
  place_in_names [] = refl
  place_in_names (x ∷ xs) = ap (λ k. cond (not (same_name n (name x))) (1 + k) 0) (place_in_names xs)

  at_place : (xs : List X) (at : ℕ) → slice_get xs at ≡ option_and_then (slice_get xs) (cond (nat_lt at (length xs)) (Some at) None)
  at_place xs at = by_test (nat_lt at (length xs)) refl
    where
      by_test : (b : Bool) → nat_lt at (length xs) ≡ b → slice_get xs at ≡ option_and_then (slice_get xs) (cond b (Some at) None)
      by_test true within = refl
      by_test false past = slice_get_past xs at (ltb-false at (length xs) past)

  found_by_place : (xs : List X) → find test xs ≡ option_and_then (slice_get xs) (place_of n (map name xs))
  found_by_place xs =
      find_at test xs ∙ at_place xs (position_or_len test xs)
      ∙ ap (λ k. option_and_then (slice_get xs) (cond (nat_lt k (length xs)) (Some k) None)) (sym (place_in_names xs))
      ∙ ap (λ len. option_and_then (slice_get xs) (cond (nat_lt (position_or_len (same_name n) (map name xs)) len) (Some (position_or_len (same_name n) (map name xs))) None)) (sym (length-map xs name))

  pub found : (xs : List X) (names : List (List ℕ)) (place : Option ℕ) → names ≡ map name xs → place ≡ place_of n names → find test xs ≡ option_and_then (slice_get xs) place
  found xs names place names_are place_is = found_by_place xs ∙ ap (λ ns. option_and_then (slice_get xs) (place_of n ns)) (sym names_are) ∙ ap (option_and_then (slice_get xs)) (sym place_is)

  pub found_at : (xs : List X) (names : List (List ℕ)) (place : ℕ) (item : X) → names ≡ map name xs → Some place ≡ place_of n names → find test xs ≡ Some (get_or xs place item)
  found_at xs names place item names_are place_is =
      let in_names = (position-Some (same_name n) names place n (sym place_is)).0 in
      let within : place < length xs = omega (arith, in_names, ap length names_are, length-map xs name) in
      found xs names (Some place) names_are place_is ∙ slice_get-get_or xs place item within

  pub not_found : (xs : List X) (names : List (List ℕ)) → names ≡ map name xs → None ≡ place_of n names → find test xs ≡ None
  not_found xs names names_are absent = found xs names None names_are absent
