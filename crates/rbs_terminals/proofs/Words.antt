-- Keywords by the length of a word, and marks.
use Rattle.std.proofs.Common.{ℕ, ◌≡◌, ◌≢◌, Bool, true, false, cond, refl, sym, ◌∙◌, ap, subst, List, [], ◌∷◌, length, Option, Some, None, arith}
use Rattle.std.specs.Prelude.{◌==◌, find, filter, IfSome}
use Rattle.names.specs.Places.{same_name}
use Rattle.names.proofs.Places.{same_name-true}
use Rattle.rbs_lexer.proofs.Bytes.{bool_cases, not_true}
use Rattle.rbs_terminals.specs.declared.token.Keyword.{Keyword}
use Rattle.rbs_terminals.specs.declared.token.Keyword.TheVariants as keyword
use Rattle.rbs_terminals.specs.declared.token.Mark.{Mark}
use Rattle.rbs_terminals.specs.declared.token.Mark.TheVariants as mark
use Rattle.rbs_terminals.specs.Marks.{mark_text, mark_of}
use Rattle.rbs_terminals.specs.Keywords.{keyword_text, keywords, keyword_among, keyword_of}

clash : false ≡ true → ⊥
clash e = cc

-- where all that pass one test pass another, the others may be left out
find_filtered : {X : Type 0} (p q : X → Bool) (xs : List X) → ((x : X) → p x ≡ true → q x ≡ true) → find p xs ≡ find p (filter q xs)
find_filtered p q [] h = refl
find_filtered p q (x ∷ xs) h =
    bool_cases (q x) (λ t. rw t (ap (λ r. cond (p x) (Some x) r) (find_filtered p q xs h)))
    (λ f. let none : p x ≡ false = not_true (p x) (λ t. clash (sym f ∙ h x t)) in rw (f, none) (find_filtered p q xs h))

found_passes : {X : Type 0} (p : X → Bool) (xs : List X) → IfSome (find p xs) (λ x. p x ≡ true)
found_passes p [] = tt
found_passes p (x ∷ xs) = bool_cases (p x) (λ t. rw t t) (λ f. rw f (found_passes p xs))

abbrev pub has_length : ℕ → Keyword → Bool
has_length n k = length (keyword_text k) == n

equal_numbers : (m n : ℕ) → m ≡ n → (m == n) ≡ true
equal_numbers m n e = grind arith

other_numbers : (m n : ℕ) → (n ≡ m → ⊥) → (m == n) ≡ false
other_numbers m n h = grind arith

by_length : (w : List ℕ) (n : ℕ) (ks : List Keyword) → length w ≡ n → keyword_among w ks ≡ keyword_among w (filter (has_length n) ks)
by_length w n ks e =
    find_filtered (λ k. same_name w (keyword_text k)) (has_length n) ks
    (λ k t. equal_numbers (length (keyword_text k)) n (sym (ap length (same_name-true w (keyword_text k) t)) ∙ e))

-- the keywords of a word's length are all that it may be
pub known : (w : List ℕ) (n : ℕ) (r : Option Keyword) → r ≡ keyword_among w (filter (has_length n) keywords) → length w ≡ n → r ≡ keyword_of w
known w n r e f = e ∙ sym (by_length w n keywords f)

pub other_length : (w : List ℕ) → length w ≢ 2 → length w ≢ 3 → length w ≢ 4 → length w ≢ 5 → length w ≢ 6 → length w ≢ 7 → length w ≢ 8 → length w ≢ 9 → length w ≢ 11 → length w ≢ 13
    → keyword_of w ≡ None
other_length w a b c d e f g h i j =
    let n = length w in
    by_length w n keywords refl
    ∙ rw (other_numbers 2 n a, other_numbers 3 n b, other_numbers 4 n c, other_numbers 5 n d, other_numbers 6 n e, other_numbers 7 n f, other_numbers 8 n g, other_numbers 9 n h, other_numbers 11 n i, other_numbers 13 n j)

pub keyword_back : (k : Keyword) → keyword_of (keyword_text k) ≡ Some k
keyword_back keyword.Class = refl
keyword_back _ = refl

pub found_text : (w : List ℕ) (r : Option Keyword) → r ≡ keyword_of w → IfSome r (λ k. keyword_text k ≡ w)
found_text w None e = tt
found_text w (Some k) e =
    let passes : same_name w (keyword_text k) ≡ true = subst (λ r. IfSome r (λ k. same_name w (keyword_text k) ≡ true)) (sym e) (found_passes (λ k. same_name w (keyword_text k)) keywords) in
    sym (same_name-true w (keyword_text k) passes)

-- no two marks are written alike
pub mark_back : (m : Mark) → mark_of (mark_text m) ≡ Some m
mark_back mark.Less = refl
mark_back _ = refl
