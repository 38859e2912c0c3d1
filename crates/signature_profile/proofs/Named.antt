-- Names one by one, and names of a whole list.
use Rattle.std.proofs.Common.{ℕ, suc, ◌≡◌, ◌+◌, refl, sym, ap, ◌∙◌, Bool, true, false, cond, List, [], ◌∷◌, ◌++◌, length, Some, None, arith}
use Rattle.std.specs.Prelude.{◌↔◌, ◌||◌, ◌&&◌, not, map, nat_eq, nat_lt}
use Rattle.std.specs.List.{IsDistinct, AllByRecursion, list_any, position_or_len}
use Rattle.std.specs.Option.{is_some}
use Rattle.std.proofs.lemmas.Bool.Decides.{nat_tests}
use Rattle.names.specs.Places.{same_name, is_among, place_of}
use Rattle.signature_profile.specs.WellNamed.{Left}

-- a list that has a first element passes a test somewhere
passes_before : {A : Type 0} (p : A → Bool) (xs : List A) → nat_lt (position_or_len p xs) (length xs) ≡ list_any p xs
passes_before p [] = refl
passes_before p (x ∷ xs) = go (p x) (passes_before p xs)
  where
    go : (b : Bool) → nat_lt (position_or_len p xs) (length xs) ≡ list_any p xs → nat_lt (cond (not b) (1 + position_or_len p xs) 0) (suc (length xs)) ≡ b || list_any p xs
    go true h = grind (arith, nat_tests)
    go false h = grind (arith, nat_tests)

is_some_chosen : {A : Type 0} (b : Bool) (x : A) → is_some (cond b (Some x) None) ≡ b
is_some_chosen true x = refl
is_some_chosen false x = refl

pub place_found : (word : List ℕ) (names : List (List ℕ)) → is_some (place_of word names) ≡ is_among word names
place_found word names = is_some_chosen (nat_lt (position_or_len (same_name word) names) (length names)) (position_or_len (same_name word) names) ∙ passes_before (same_name word) names

nat_eq_swap : (a b : ℕ) → nat_eq a b ≡ nat_eq b a
nat_eq_swap a b = grind (arith, nat_tests)

pub same_name_swap : (a b : List ℕ) → same_name a b ≡ same_name b a
same_name_swap [] [] = refl
same_name_swap [] (y ∷ ys) = refl
same_name_swap (x ∷ xs) [] = refl
same_name_swap (x ∷ xs) (y ∷ ys) = ap (λ b. b && same_name xs ys) (nat_eq_swap x y) ∙ ap (λ b. nat_eq y x && b) (same_name_swap xs ys)

among_more : (n k : List ℕ) (seen : List (List ℕ)) → is_among n (seen ++ k ∷ []) ≡ is_among n seen || same_name n k
among_more n k [] = go (same_name n k)
  where
    go : (b : Bool) → b || false ≡ b
    go true = refl
    go false = refl
among_more n k (s ∷ seen) = ap (λ b. same_name n s || b) (among_more n k seen) ∙ go (same_name n s) (is_among n seen) (same_name n k)
  where
    go : (a b c : Bool) → a || (b || c) ≡ (a || b) || c
    go true b c = refl
    go false b c = refl

neither : (a b : Bool) → a || b ≡ false → (a ≡ false) × (b ≡ false)
neither true b h = absurd (cc)
neither false b h = (refl, h)

both_not : (a b : Bool) → a ≡ false → b ≡ false → a || b ≡ false
both_not true b h k = absurd (cc)
both_not false b h k = k

pub all_goes : {A : Type 0} {P Q : A → Type 0} (xs : List A) → ((x : A) → P x → Q x) → AllByRecursion P xs → AllByRecursion Q xs
all_goes [] f h = tt
all_goes (x ∷ xs) f h = (f x h.0, all_goes xs f h.1)

pub all_of_map : {A B : Type 0} (P : B → Type 0) (key : A → B) (xs : List A) → AllByRecursion P (map key xs) ↔ AllByRecursion (λ x. P (key x)) xs
all_of_map P key [] = (λ h. tt, λ h. tt)
all_of_map P key (x ∷ xs) = (λ h. (h.0, (all_of_map P key xs).0 h.1), λ h. (h.0, (all_of_map P key xs).1 h.1))

all_both : {A : Type 0} {P Q R : A → Type 0} (xs : List A) → ((x : A) → P x → Q x → R x) → AllByRecursion P xs → AllByRecursion Q xs → AllByRecursion R xs
all_both [] f h k = tt
all_both (x ∷ xs) f h k = (f x h.0 k.0, all_both xs f h.1 k.1)

module _ {A : Type 0} (key : A → List ℕ) (May : A → Type 0) where
  abbrev Apart : List (List ℕ) → List A → Type 0
  Apart seen xs = AllByRecursion (λ x. is_among (key x) seen ≡ false) xs

  left_to : (seen : List (List ℕ)) (xs : List A) → Left key May seen xs → IsDistinct same_name (map key xs) × AllByRecursion May xs × Apart seen xs
  unfolding IsDistinct
  left_to seen [] h = (tt, tt, tt)
  left_to seen (x ∷ xs) h =
      let r = left_to (seen ++ key x ∷ []) xs h.2 in (
        (
          (all_of_map (λ y. same_name (key x) y ≡ false) key xs).1
              (all_goes xs (λ y e. same_name_swap (key x) (key y) ∙ (neither (is_among (key y) seen) (same_name (key y) (key x)) (sym (among_more (key y) (key x) seen) ∙ e)).1) r.2),
          r.0,
        ),
        (h.1, r.1),
        (h.0, all_goes xs (λ y e. (neither (is_among (key y) seen) (same_name (key y) (key x)) (sym (among_more (key y) (key x) seen) ∙ e)).0) r.2),
      )

  left_from : (seen : List (List ℕ)) (xs : List A) → IsDistinct same_name (map key xs) → AllByRecursion May xs → Apart seen xs → Left key May seen xs
  unfolding IsDistinct
  left_from seen [] d m a = tt
  left_from seen (x ∷ xs) d m a = (
    a.0,
    m.0,
    left_from (seen ++ key x ∷ []) xs d.1 m.1
        (all_both xs (λ y e f. among_more (key y) (key x) seen ∙ both_not (is_among (key y) seen) (same_name (key y) (key x)) e (same_name_swap (key y) (key x) ∙ f)) a.1
        ((all_of_map (λ y. same_name (key x) y ≡ false) key xs).0 d.0)),
  )

  none_seen : (xs : List A) → Apart [] xs
  none_seen [] = tt
  none_seen (x ∷ xs) = (refl, none_seen xs)

  -- names one by one are distinct names
  pub left_is : (xs : List A) → Left key May [] xs ↔ (IsDistinct same_name (map key xs) × AllByRecursion May xs)
  left_is xs = (λ h. let r = left_to [] xs h in (r.0, r.1), λ h. left_from [] xs h.0 h.1 (none_seen xs))
