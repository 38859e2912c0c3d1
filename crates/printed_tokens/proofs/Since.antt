-- What stands between two places of a text, and the newlines in it.
use Rattle.std.proofs.Common.{ℕ, zero, suc, ◌≡◌, ◌+◌, ◌-◌, ◌<◌, true, false, cond, refl, sym, ◌∙◌, ap, subst, List, [], ◌∷◌, ◌++◌, length, take, drop, append_assoc, Some, arith, length-append, count_by, slice_range}
use Rattle.std.specs.Prelude.{◌==◌}
use Rattle.std.proofs.Math.Seq.{take-append_seam, drop-append_seam}
use Rattle.std.proofs.lemmas.List.Sums.{sum_by-append}
use Rattle.rbs_terminals.specs.declared.token.Gap.{Gap}
use Rattle.rbs_terminals.specs.declared.token.Gap.TheVariants as gap
use Rattle.rbs_terminals.specs.Terminals.{newlines, gap_at}
use Rattle.rbs_printer.specs.Texts.{indent}

-- the newlines in a text
abbrev pub lines_in : List ℕ → ℕ
lines_in w = count_by (λ b. b == 10) w

pub lines_append : (v w : List ℕ) → lines_in (v ++ w) ≡ lines_in v + lines_in w
lines_append v w = sum_by-append (λ b. cond (b == 10) 1 0) v w

pub lines_indent : (depth : ℕ) → lines_in (indent depth) ≡ 0
lines_indent zero = refl
lines_indent (suc depth) =
    let two : lines_in (32 ∷ 32 ∷ []) ≡ 0 = refl in
    lines_append (32 ∷ 32 ∷ []) (indent depth) ∙ ap (λ n. lines_in (32 ∷ 32 ∷ []) + n) (lines_indent depth)

-- `Since bytes from at between rest`: the bytes from one place up to another are `between`, and `rest` stands behind them.
abbrev pub Since : (bytes : List ℕ) (from at : ℕ) (between rest : List ℕ) → Type 0
Since bytes from at between rest = (front : List ℕ) × (bytes ≡ front ++ (between ++ rest)) × (from ≡ length front) × (at ≡ length front + length between)

module _ {bytes : List ℕ} {from at : ℕ} where
  pub slice_is : (between rest : List ℕ) → Since bytes from at between rest → slice_range bytes from at ≡ between
  slice_is between rest h =
      let size : at - from ≡ length between = omega (arith, h.2, h.3) in
      let behind : drop from bytes ≡ between ++ rest = ap (λ n. drop n bytes) h.2 ∙ ap (drop (length h.0)) h.1 ∙ drop-append_seam h.0 (between ++ rest) in
      ap (λ n. take n (drop from bytes)) size ∙ ap (take (length between)) behind ∙ take-append_seam between rest

  pub newlines_are : (between rest : List ℕ) → Since bytes from at between rest → newlines bytes from at ≡ lines_in between
  newlines_are between rest h = ap lines_in (slice_is between rest h)

  -- further on
  pub since_more : (between w rest : List ℕ) → Since bytes from at between (w ++ rest) → Since bytes from (at + length w) (between ++ w) rest
  since_more between w rest h = (h.0, h.1 ∙ ap (λ s. h.0 ++ s) (sym (append_assoc between w rest)), h.2, omega (arith, h.3, length-append between w))

  -- from that place on
  pub since_there : (between w rest : List ℕ) → Since bytes from at between (w ++ rest) → Since bytes at (at + length w) w rest
  since_there between w rest h =
      (h.0 ++ between, h.1 ∙ sym (append_assoc h.0 between (w ++ rest)), omega (arith, h.3, length-append h.0 between), omega (arith, h.3, length-append h.0 between))

  pub since_now : (between rest : List ℕ) → Since bytes from at between rest → Since bytes at at [] rest
  since_now between rest h =
      (h.0 ++ between, h.1 ∙ sym (append_assoc h.0 between rest), omega (arith, h.3, length-append h.0 between), omega (arith, h.3, length-append h.0 between))

  pub since_same : (to : ℕ) (between w rest : List ℕ) → at ≡ to → w ≡ rest → Since bytes from at between w → Since bytes from to between rest
  since_same to between w rest e f h = (h.0, h.1 ∙ ap (λ w. h.0 ++ (between ++ w)) f, h.2, sym e ∙ h.3)

-- ---- gaps

equal_numbers : (m n : ℕ) → m ≡ n → (m == n) ≡ true
equal_numbers m n e = grind arith

other_numbers : (m n : ℕ) → m < n → (m == n) ≡ false
other_numbers m n l = grind arith

-- the gap that a text of blanks is
abbrev pub gap_of : List ℕ → Gap
gap_of [] = gap.Joined
gap_of (b ∷ w) = gap.Blank

module _ {bytes : List ℕ} {from at : ℕ} where
  pub gap_is : (between rest : List ℕ) → Since bytes from at between rest → lines_in between ≡ 0 → gap_at bytes (Some from) at ≡ gap_of between
  gap_is [] rest h e =
      let same : (from == at) ≡ true = equal_numbers from at (omega (arith, h.2, h.3)) in
      rw same refl
  gap_is (b ∷ w) rest h e =
      let differs : (from == at) ≡ false = other_numbers from at (omega (arith, h.2, h.3)) in
      let none : (newlines bytes from at == 0) ≡ true = equal_numbers (newlines bytes from at) 0 (newlines_are (b ∷ w) rest h ∙ e) in
      rw (differs, none) refl

  pub gap_line : (between rest : List ℕ) → Since bytes from at between rest → 0 < lines_in between → gap_at bytes (Some from) at ≡ gap.Line
  gap_line [] rest h l = absurd (none l)
    where
      none : 0 < lines_in [] → ⊥
      none l = omega arith
  gap_line (b ∷ w) rest h l =
      let differs : (from == at) ≡ false = other_numbers from at (omega (arith, h.2, h.3)) in
      let some : (newlines bytes from at == 0) ≡ false = not_none (newlines bytes from at) (subst (λ n. 0 < n) (sym (newlines_are (b ∷ w) rest h)) l) in
      rw (differs, some) refl
    where
      not_none : (n : ℕ) → 0 < n → (n == 0) ≡ false
      not_none n l = grind arith
