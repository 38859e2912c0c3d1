-- The longest operators that stand first.
use Rattle.std.proofs.Common.{ℕ, zero, suc, ◌≡◌, ◌<◌, ◌≤◌, Bool, true, false, refl, sym, ◌∙◌, ap, subst, List, [], ◌∷◌, ◌++◌, length, take, drop, get_or, arith}
use Rattle.std.specs.Prelude.{◌==◌, ◌||◌, if◌then◌else◌}
use Rattle.std.specs.Char.{is_ascii_uppercase}
use Rattle.std.proofs.lemmas.Bool.{eqb-true}
use Rattle.rbs_lexer.specs.Names.{IsOperator, operators, starts_lower}
use Rattle.rbs_lexer.specs.Scanned.{IsLongest, less_length, index_length, pair_length, is_single_operator, operator_length}
use Rattle.rbs_lexer.proofs.Bytes.{or_cases}
use Rattle.rbs_lexer.proofs.Listed.{Each, among_each}

pub choose : {X : Type 0} (P : X → Type 0) (t : Bool) (x y : X) → (t ≡ true → P x) → (t ≡ false → P y) → P (if t then x else y)
choose P true x y f g = f refl
choose P false x y f g = g refl

-- the longest operator of the first three bytes
abbrev pub operator_of : List ℕ → ℕ
operator_of bytes = operator_length (get_or bytes 0 0) (get_or bytes 1 0) (get_or bytes 2 0)

-- an operator is no longer
abbrev AtMost : List ℕ → Type 0
AtMost w = (rest : List ℕ) → length w ≤ operator_of (w ++ rest)

least : (n : ℕ) (t : Bool) (x y : ℕ) → n ≤ x → n ≤ y → n ≤ (if t then x else y)
least n t x y a b = choose (λ m. n ≤ m) t x y (λ e. a) (λ e. b)

less_least : (b c : ℕ) → 1 ≤ less_length b c
less_least b c = least 1 (b == 61) _ _ (least 1 (c == 62) 3 2 (omega arith) (omega arith)) (least 1 (b == 60) 2 1 (omega arith) (omega arith))

each_at_most : Each AtMost operators
each_at_most = (
  λ r. omega arith,
  (
    λ r. least 1 (get_or r 0 0 == 64) 2 1 (omega arith) (omega arith),
    (
      λ r. omega arith,
      (
        λ r. omega arith,
        (
          λ r. omega arith,
          (
            λ r. omega arith,
            (
              λ r. less_least (get_or r 0 0) (get_or r 1 0),
              (
                λ r. least 2 (get_or r 0 0 == 62) 3 2 (omega arith) (omega arith),
                (
                  λ r. least 1 (get_or r 0 0 == 61) 2 1 (omega arith) (omega arith),
                  (
                    λ r. omega arith,
                    (
                      λ r. omega arith,
                      (
                        λ r. omega arith,
                        (
                          λ r. least 2 (get_or r 0 0 == 61) 3 2 (omega arith) (omega arith),
                          (
                            λ r. omega arith,
                            (
                              λ r. omega arith,
                              tt,
                            ),
                          ),
                        ),
                      ),
                    ),
                  ),
                ),
              ),
            ),
          ),
        ),
      ),
    ),
  ),
)

-- what stands first, by its bytes
one : (bytes : List ℕ) (a : ℕ) → 0 < a → get_or bytes 0 0 ≡ a → bytes ≡ a ∷ drop 1 bytes
one [] a l e = absurd (omega (arith, e))
one (x ∷ bytes) a l e = ap (λ x. x ∷ bytes) e

two : (bytes : List ℕ) (a b : ℕ) → 0 < a → 0 < b → get_or bytes 0 0 ≡ a → get_or bytes 1 0 ≡ b → bytes ≡ a ∷ b ∷ drop 2 bytes
two [] a b l m e f = absurd (omega (arith, e))
two (x ∷ bytes) a b l m e f = ap (λ x. x ∷ bytes) e ∙ ap (λ t. a ∷ t) (one bytes b m f)

three : (bytes : List ℕ) (a b c : ℕ) → 0 < a → 0 < b → 0 < c → get_or bytes 0 0 ≡ a → get_or bytes 1 0 ≡ b → get_or bytes 2 0 ≡ c → bytes ≡ a ∷ b ∷ c ∷ drop 3 bytes
three [] a b c l m n e f g = absurd (omega (arith, e))
three (x ∷ bytes) a b c l m n e f g = ap (λ x. x ∷ bytes) e ∙ ap (λ t. a ∷ t) (two bytes b c m n f g)

-- that many bytes are an operator
abbrev Front : List ℕ → ℕ → Type 0
Front bytes n = 0 < n → (n ≤ length bytes) × IsOperator (take n bytes)

module _ (bytes : List ℕ) where
  front_one : (a : ℕ) → 0 < a → get_or bytes 0 0 ≡ a → IsOperator (a ∷ []) → Front bytes 1
  front_one a l e o = subst (λ bytes. Front bytes 1) (sym (one bytes a l e)) (λ some. (omega arith, o))

  front_two : (a b : ℕ) → 0 < a → 0 < b → get_or bytes 0 0 ≡ a → get_or bytes 1 0 ≡ b → IsOperator (a ∷ b ∷ []) → Front bytes 2
  front_two a b l m e f o = subst (λ bytes. Front bytes 2) (sym (two bytes a b l m e f)) (λ some. (omega arith, o))

  front_three : (a b c : ℕ) → 0 < a → 0 < b → 0 < c → get_or bytes 0 0 ≡ a → get_or bytes 1 0 ≡ b → get_or bytes 2 0 ≡ c → IsOperator (a ∷ b ∷ c ∷ []) → Front bytes 3
  front_three a b c l m n e f g o = subst (λ bytes. Front bytes 3) (sym (three bytes a b c l m n e f g)) (λ some. (omega arith, o))

  nothing : Front bytes 0
  nothing some = absurd (omega arith)

  less_front : get_or bytes 0 0 ≡ 60 → Front bytes (less_length (get_or bytes 1 0) (get_or bytes 2 0))
  less_front e =
      choose (Front bytes) (get_or bytes 1 0 == 61) _ _
      (λ f. choose (Front bytes) (get_or bytes 2 0 == 62) 3 2
      (λ g. front_three 60 61 62 (omega arith) (omega arith) (omega arith) e (eqb-true _ 61 f) (eqb-true _ 62 g) refl)
      (λ g. front_two 60 61 (omega arith) (omega arith) e (eqb-true _ 61 f) refl))
      (λ f. choose (Front bytes) (get_or bytes 1 0 == 60) 2 1 (λ g. front_two 60 60 (omega arith) (omega arith) e (eqb-true _ 60 g) refl) (λ g. front_one 60 (omega arith) e refl))

  index_front : get_or bytes 0 0 ≡ 91 → Front bytes (index_length (get_or bytes 1 0) (get_or bytes 2 0))
  index_front e =
      choose (Front bytes) (get_or bytes 1 0 == 93) _ 0
      (λ f. choose (Front bytes) (get_or bytes 2 0 == 61) 3 2
      (λ g. front_three 91 93 61 (omega arith) (omega arith) (omega arith) e (eqb-true _ 93 f) (eqb-true _ 61 g) refl)
      (λ g. front_two 91 93 (omega arith) (omega arith) e (eqb-true _ 93 f) refl))
      (λ f. nothing)

  pair_front : Front bytes (pair_length (get_or bytes 0 0) (get_or bytes 1 0))
  pair_front =
      choose (Front bytes) (get_or bytes 0 0 == 61) _ _
      (λ e. choose (Front bytes) (get_or bytes 1 0 == 61) 2 0 (λ f. front_two 61 61 (omega arith) (omega arith) (eqb-true _ 61 e) (eqb-true _ 61 f) refl) (λ f. nothing))
      (λ e. choose (Front bytes) (get_or bytes 0 0 == 62) _ _
      (λ e. choose (Front bytes) (get_or bytes 1 0 == 61) 2 1 (λ f. front_two 62 61 (omega arith) (omega arith) (eqb-true _ 62 e) (eqb-true _ 61 f) refl) (λ f. front_one 62 (omega arith) (eqb-true _ 62 e) refl))
      (λ e. choose (Front bytes) (get_or bytes 0 0 == 45) _ 0
      (λ e. choose (Front bytes) (get_or bytes 1 0 == 64) 2 1 (λ f. front_two 45 64 (omega arith) (omega arith) (eqb-true _ 45 e) (eqb-true _ 64 f) refl) (λ f. front_one 45 (omega arith) (eqb-true _ 45 e) refl))
      (λ e. nothing)))

  single_front : is_single_operator (get_or bytes 0 0) ≡ true → Front bytes 1
  single_front e =
      or_cases _ _ e (λ f. or_cases _ _ f (λ g. or_cases _ _ g
      (λ h. front_one 43 (omega arith) (eqb-true _ 43 h) refl) (λ h. front_one 42 (omega arith) (eqb-true _ 42 h) refl))
      (λ g. front_one 47 (omega arith) (eqb-true _ 47 g) refl)) (λ f. front_one 37 (omega arith) (eqb-true _ 37 f) refl)

  operator_front : Front bytes (operator_of bytes)
  operator_front =
      choose (Front bytes) (get_or bytes 0 0 == 60) _ _ (λ e. less_front (eqb-true _ 60 e))
      (λ e. choose (Front bytes) (get_or bytes 0 0 == 91) _ _ (λ e. index_front (eqb-true _ 91 e))
      (λ e. choose (Front bytes) (is_single_operator (get_or bytes 0 0)) 1 _ single_front (λ e. pair_front)))

  within : (n : ℕ) → Front bytes n → n ≤ length bytes
  within zero f = omega arith
  within (suc n) f = (f (omega arith)).0

  pub operator_longest : IsLongest IsOperator bytes (operator_of bytes)
  operator_longest = record {
    within = within (operator_of bytes) operator_front;
    front = λ some. (operator_front some).1;
    longest = λ w rest o e. subst (λ bytes. length w ≤ operator_of bytes) (sym e) (among_each AtMost w operators each_at_most o rest);
  }

-- no operator begins as a word does
abbrev NoWord : List ℕ → Type 0
NoWord w = (0 < length w) × ((starts_lower (get_or w 0 0) || is_ascii_uppercase (get_or w 0 0)) ≡ false)

pub no_word : (w : List ℕ) → IsOperator w → NoWord w
no_word w o = among_each NoWord w operators (
  (omega arith, refl),
  (
    (omega arith, refl),
    (
      (omega arith, refl),
      (
        (omega arith, refl),
        (
          (omega arith, refl),
          (
            (omega arith, refl),
            (
              (omega arith, refl),
              (
                (omega arith, refl),
                ((omega arith, refl), ((omega arith, refl), ((omega arith, refl), ((omega arith, refl), ((omega arith, refl), ((omega arith, refl), ((omega arith, refl), tt))))))),
              ),
            ),
          ),
        ),
      ),
    ),
  ),
) o
