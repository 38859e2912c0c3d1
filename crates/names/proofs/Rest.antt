-- The rest of a list behind one of its items, and the places of names.
use Rattle.std.proofs.Common.{◌≡◌, ℕ, suc, ◌<◌, ◌+◌, List, [], ◌∷◌, ◌++◌, true, false, length, get_or, drop, map, ap, sym, ◌∙◌, subst, append_assoc, add-one}
use Rattle.std.specs.List.{IsDistinct, AllByRecursion}
use Rattle.std.specs.Cmp.Lexicographic.{nat_list_eq_equiv}
use Rattle.std.proofs.lemmas.Map.Keys.{IsDistinct-push}
use Rattle.std.proofs.Math.Seq.{drop-cons}
use Rattle.names.specs.Places.{same_name, is_among}
use Rattle.names.proofs.Distinct.{repeated}

rest_at : {X : Type 0} (xs : List X) (i : ℕ) (x : X) → i < length xs → x ≡ get_or xs i x → drop i xs ≡ x ∷ drop (i + 1) xs
rest_at xs i x within is = rw add-one (drop-cons xs i x within ∙ ap (λ y. y ∷ drop (suc i) xs) (sym is))

module _ {X : Type 0} (name : X → List ℕ) (items : List X) (i : ℕ) (item : X) (within : i < length items) (is : item ≡ get_or items i item) where
  -- the names that are left are that of the item and those behind it
  pub names_left : map name (drop i items) ≡ name item ∷ map name (drop (i + 1) items)
  names_left = ap (map name) (rest_at items i item within is)

  module _ (P : List ℕ → Type 0) where
    pub all_left : AllByRecursion P (map name (drop i items)) → P (name item) × AllByRecursion P (map name (drop (i + 1) items))
    all_left all = subst (AllByRecursion P) names_left all

    pub all_back : P (name item) → AllByRecursion P (map name (drop (i + 1) items)) → AllByRecursion P (map name (drop i items))
    all_back here rest = subst (AllByRecursion P) (sym names_left) (here, rest)

  module _ (names : List (List ℕ)) (so_far : names ++ map name (drop i items) ≡ map name items) where
    with_item : names ++ name item ∷ map name (drop (i + 1) items) ≡ map name items
    with_item = ap (λ ns. names ++ ns) (sym names_left) ∙ so_far

    pub not_distinct : is_among (name item) names ≡ true → IsDistinct same_name (map name items) → ⊥
    not_distinct among distinct = repeated (name item) names (map name (drop (i + 1) items)) among (subst (IsDistinct same_name) (sym with_item) distinct)

    pub names_on : (names ++ name item ∷ []) ++ map name (drop (i + 1) items) ≡ map name items
    names_on = append_assoc names (name item ∷ []) (map name (drop (i + 1) items)) ∙ with_item

pub distinct_on : (name : List ℕ) (names : List (List ℕ)) → IsDistinct same_name names → is_among name names ≡ false → IsDistinct same_name (names ++ name ∷ [])
distinct_on name names distinct new = IsDistinct-push nat_list_eq_equiv names name distinct new
