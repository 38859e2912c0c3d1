-- Facts on single bytes and on lists.
use Rattle.std.proofs.Common.{ℕ, ◌≡◌, ◌-◌, ◌≤◌, Bool, true, false, refl, sym, ◌∙◌, ap, List, [], ◌∷◌, length, take, drop, get_or, arith, length-drop, take_all}
use Rattle.std.specs.Prelude.{◌&&◌, ◌||◌, nat_lt}
use Rattle.std.specs.Char.{encode_utf8}

pub ascii : (c : ℕ) → nat_lt c 128 ≡ true → encode_utf8 c ≡ c ∷ []
unfolding encode_utf8
ascii c e = rw e

pub not_true : (b : Bool) → (b ≡ true → ⊥) → b ≡ false
not_true true h = absurd (h refl)
not_true false h = refl

pub and_true : (a b : Bool) → (a && b) ≡ true → (a ≡ true) × (b ≡ true)
and_true true b e = (refl, e)
and_true false b e = cc

pub or_cases : {P : Type 0} (a b : Bool) → (a || b) ≡ true → (a ≡ true → P) → (b ≡ true → P) → P
or_cases true b e f g = f refl
or_cases false b e f g = g e

pub bool_cases : {P : Type 0} (b : Bool) → (b ≡ true → P) → (b ≡ false → P) → P
bool_cases true t f = t refl
bool_cases false t f = f refl

-- what stands behind a place
pub rest_is : (bytes : List ℕ) (at : ℕ) → take (length bytes - at) (drop at bytes) ≡ drop at bytes
rest_is bytes at = take_all (length bytes - at) (drop at bytes) (omega (arith, length-drop at bytes))

-- the first byte, and those behind it
pub fronted : (bytes : List ℕ) → 1 ≤ length bytes → bytes ≡ get_or bytes 0 0 ∷ take (length bytes - 1) (drop 1 bytes)
fronted [] h = absurd (omega arith)
fronted (b ∷ bytes) h = ap (λ t. b ∷ t) (sym (rest_is (b ∷ bytes) 1))

pub fronted_two : (bytes : List ℕ) (a b : ℕ) → 2 ≤ length bytes → get_or bytes 0 0 ≡ a → get_or bytes 1 0 ≡ b → bytes ≡ a ∷ b ∷ take (length bytes - 2) (drop 2 bytes)
fronted_two [] a b h e f = absurd (omega arith)
fronted_two (x ∷ []) a b h e f = absurd (omega arith)
fronted_two (x ∷ y ∷ bytes) a b h e f = ap (λ x. x ∷ y ∷ bytes) e ∙ ap (λ y. a ∷ y ∷ bytes) f ∙ ap (λ t. a ∷ b ∷ t) (sym (rest_is (x ∷ y ∷ bytes) 2))
