-- The test for names that come twice.
use Rattle.std.proofs.Common.{◌≡◌, ◌≤◌, ◌&&◌, ◌||◌, Bool, true, false, not, List, ℕ, [], ◌∷◌, Option, Some, None, length, map, nat_eq, refl, ap, ap₂, subst, sym, true≢false, ◌∙◌, le-leb}
use Rattle.std.specs.Prelude.{MatchOption, is_some, nat_le}
use Rattle.std.specs.List.{AllByRecursion, IsDistinct, ends_with, list_all}
use Rattle.std.proofs.lemmas.List.{map-id}
use Rattle.names.specs.Places.{is_among, same_name}
use Rattle.command_words.specs.Files.{are_distinct, are_files, most_files}

differ : (x : List ℕ) (xs : List (List ℕ)) → is_among x xs ≡ false → AllByRecursion (λ y. same_name x y ≡ false) xs
differ x [] e = tt
differ x (y ∷ ys) e = by_cases (same_name x y) refl e (differ x ys)
  where
    by_cases : (b : Bool) → same_name x y ≡ b → (b || is_among x ys) ≡ false
        → (is_among x ys ≡ false → AllByRecursion (λ z. same_name x z ≡ false) ys) → AllByRecursion (λ z. same_name x z ≡ false) (y ∷ ys)
    by_cases true same none rest = absurd (true≢false none)
    by_cases false other none rest = (other, rest none)

none_among : (x : List ℕ) (xs : List (List ℕ)) → AllByRecursion (λ y. same_name x y ≡ false) xs → is_among x xs ≡ false
none_among x [] all = refl
none_among x (y ∷ ys) all = ap (λ (b : Bool). b || is_among x ys) all.0 ∙ none_among x ys all.1

distinct_from : (xs : List (List ℕ)) → are_distinct xs ≡ true → IsDistinct same_name xs
unfolding IsDistinct
distinct_from [] e = tt
distinct_from (x ∷ xs) e = by_cases (is_among x xs) refl e (distinct_from xs)
  where
    by_cases : (b : Bool) → is_among x xs ≡ b → (not b && are_distinct xs) ≡ true
        → (are_distinct xs ≡ true → IsDistinct same_name xs) → IsDistinct same_name (x ∷ xs)
    by_cases true among bad rest = cc
    by_cases false other e rest = (differ x xs other, rest e)

distinct_to : (xs : List (List ℕ)) → IsDistinct same_name xs → are_distinct xs ≡ true
unfolding IsDistinct
distinct_to [] h = refl
distinct_to (x ∷ xs) h = ap (λ (b : Bool). not b && are_distinct xs) (none_among x xs h.0) ∙ distinct_to xs h.1

-- the names of some files are listed exactly where no two are equal
pub listed : {N : Type 0} (files : List (List ℕ)) (found : Option N) (P : N → Type 0)
    → MatchOption found (¬ (IsDistinct same_name (map (λ file. file) files))) (λ names. IsDistinct same_name (map (λ file. file) files) × P names)
    → is_some found ≡ are_distinct files
listed files None P twice = by_cases (are_distinct files) refl
  where
    by_cases : (b : Bool) → are_distinct files ≡ b → false ≡ b
    by_cases true e = absurd (twice (subst (IsDistinct same_name) (sym (map-id files)) (distinct_from files e)))
    by_cases false e = refl
listed files (Some names) P found = sym (distinct_to files (subst (IsDistinct same_name) (map-id files) found.0))

pub taken : (ending : List ℕ) (files : List (List ℕ)) (b : Bool) → list_all (λ file. ends_with nat_eq file ending) files ≡ true → length files ≤ most_files
    → b ≡ are_distinct files → b ≡ are_files ending files
taken ending files b ends few same =
    let fits : nat_le (length files) most_files ≡ true = le-leb (length files) most_files few in
    same ∙ go (are_distinct files) ∙ ap₂ (λ (x y : Bool). x && (are_distinct files && y)) (sym ends) (sym fits)
  where
    go : (c : Bool) → c ≡ (true && (c && true))
    go true = refl
    go false = refl
