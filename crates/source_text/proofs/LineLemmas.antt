-- How lines and columns go on by one byte.
use Rattle.std.proofs.Common.{◌≡◌, ◌≢◌, ℕ, ◌+◌, ◌<◌, ◌≤◌, ◌-◌, List, [], ◌∷◌, ◌++◌, length, get_or, take, refl, ap, sym, ◌∙◌, subst, true, false, nat_eq, cond, Bool, arith, zero-add, add_assoc, length-take}
use Rattle.std.proofs.lemmas.List.{take_more}
use Rattle.std.proofs.lemmas.List.Sums.{count_by-le-length, count_by_more_yes, count_by_more_no}
use Rattle.std.specs.Prelude.{◌==◌, count_by, if◌then◌else◌}
use Rattle.source_text.specs.Lines.{since_newline, line_at, column_at}

since_newline-append : (n : ℕ) (bs : List ℕ) (b : ℕ) → since_newline n (bs ++ b ∷ []) ≡ cond (b == 10) 0 (since_newline n bs + 1)
since_newline-append n [] b = refl
since_newline-append n (c ∷ bs) b =
    elim (c == 10) as (λ t. cond t (since_newline 0 (bs ++ b ∷ [])) (since_newline (n + 1) (bs ++ b ∷ [])) ≡ cond (b == 10) 0 (cond t (since_newline 0 bs) (since_newline (n + 1) bs) + 1))
    [ true ↦ since_newline-append 0 bs b | false ↦ since_newline-append (n + 1) bs b ]

since_newline_le : (n : ℕ) (bs : List ℕ) → since_newline n bs ≤ n + length bs
since_newline_le n [] = omega arith
since_newline_le n (c ∷ bs) =
    elim (c == 10) as (λ t. cond t (since_newline 0 bs) (since_newline (n + 1) bs) ≤ n + length (c ∷ bs))
    [ true ↦ omega (arith, since_newline_le 0 bs) | false ↦ omega (arith, since_newline_le (n + 1) bs) ]

-- a line and a column are at most one more than the bytes before them
pub line_le : (text : List ℕ) (at : ℕ) → line_at text at ≤ at + 1
line_le text at = omega (arith, count_by-le-length (λ b. b == 10) (take at text), length-take at text)

pub column_le : (text : List ℕ) (at : ℕ) → column_at text at ≤ at + 1
column_le text at = omega (arith, since_newline_le 0 (take at text), length-take at text)

pub column_newline : (text : List ℕ) (at : ℕ) → at < length text → (get_or text at 0 == 10) ≡ true → column_at text (at + 1) ≡ 1
column_newline text at within is =
    ap (λ bs. since_newline 0 bs + 1) (take_more text at 0 within) ∙ ap (λ n. n + 1) (since_newline-append 0 (take at text) (get_or text at 0))
    ∙ ap (λ t. cond t 0 (since_newline 0 (take at text) + 1) + 1) is

pub column_other : (text : List ℕ) (at : ℕ) → at < length text → (get_or text at 0 == 10) ≡ false → column_at text (at + 1) ≡ column_at text at + 1
column_other text at within is =
    ap (λ bs. since_newline 0 bs + 1) (take_more text at 0 within) ∙ ap (λ n. n + 1) (since_newline-append 0 (take at text) (get_or text at 0))
    ∙ ap (λ t. cond t 0 (since_newline 0 (take at text) + 1) + 1) is

pub line_newline : (text : List ℕ) (at : ℕ) → at < length text → (get_or text at 0 == 10) ≡ true → line_at text (at + 1) ≡ line_at text at + 1
line_newline text at within is = ap (λ n. n + 1) (count_by_more_yes (λ b. b == 10) text at 0 within is)

pub line_other : (text : List ℕ) (at : ℕ) → at < length text → (get_or text at 0 == 10) ≡ false → line_at text (at + 1) ≡ line_at text at
line_other text at within is = ap (λ n. n + 1) (count_by_more_no (λ b. b == 10) text at 0 within is)
