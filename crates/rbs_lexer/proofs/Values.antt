-- The numbers that digits make.
use Rattle.std.proofs.Common.{ℕ, ◌≡◌, ◌+◌, ◌-◌, ◌*◌, ◌<◌, ◌≤◌, false, sym, ◌∙◌, ap, List, [], ◌∷◌, length, drop, get_or, arith, add-one, drop-cons}
use Rattle.std.specs.Prelude.{◌/◌, ◌↔◌, IsTrue}
use Rattle.std.proofs.lemmas.List.{drop_all}
use Rattle.rbs_lexer.specs.Integers.{value_from}

pub value_least : (m : ℕ) (w : List ℕ) → m ≤ value_from m w
value_least m [] = omega arith
value_least m (b ∷ w) = let more : m * 10 + (b - 48) ≤ value_from (m * 10 + (b - 48)) w = value_least (m * 10 + (b - 48)) w in omega arith

pub value_more : (m : ℕ) (w : List ℕ) (i : ℕ) → i < length w → value_from m (drop i w) ≡ value_from (m * 10 + (get_or w i 0 - 48)) (drop (i + 1) w)
value_more m w i l = ap (value_from m) (drop-cons w i 0 l) ∙ ap (λ j. value_from (m * 10 + (get_or w i 0 - 48)) (drop j w)) (sym (add-one i))

pub value_end : (m : ℕ) (w : List ℕ) (i : ℕ) → length w ≤ i → value_from m (drop i w) ≡ m
value_end m w i l = ap (value_from m) (drop_all i w l)

-- a further digit leads past the limit
pub exceeds : (limit m i d : ℕ) (w : List ℕ) → i < length w → d ≡ get_or w i 0 - 48 → (limit - d) / 10 < m → value_from m (drop i w) ≡ value_from 0 w → IsTrue false ↔ (value_from 0 w ≤ limit)
exceeds limit m i d w l e f g =
    let more : m * 10 + d ≤ value_from 0 w = next in
    let past : limit < m * 10 + d = omega (arith, f) in
    (λ h. absurd (clash h), λ h. absurd (omega (arith, h, more, past)))
  where
    next : m * 10 + d ≤ value_from 0 w
    next =
        let least : m * 10 + (get_or w i 0 - 48) ≤ value_from (m * 10 + (get_or w i 0 - 48)) (drop (i + 1) w) = value_least (m * 10 + (get_or w i 0 - 48)) (drop (i + 1) w) in
        omega (arith, least, e, g, value_more m w i l)

    clash : IsTrue false → ⊥
    clash h = cc
