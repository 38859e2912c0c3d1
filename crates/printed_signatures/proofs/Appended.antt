-- Pieces behind pieces are told apart where both are.
use Rattle.std.proofs.Common.{ℕ, ◌≡◌, refl, sym, subst, Bool, true, false, List, [], ◌∷◌, ◌++◌, arith}
use Rattle.std.specs.Prelude.{◌||◌, ◌==◌, ◌&&◌, not, nat_lt}
use Rattle.std.specs.Char.{is_ascii_digit}
use Rattle.source_text.specs.Characters.{is_name_character}
use Rattle.rbs_lexer.specs.declared.token.TokenKind.TheVariants as token
use Rattle.rbs_lexer.specs.Kinds.{IsMark}
use Rattle.rbs_lexer.proofs.Bytes.{or_cases}
use Rattle.rbs_terminals.specs.declared.token.Mark.{Mark}
use Rattle.rbs_terminals.specs.declared.token.Mark.TheVariants as mark
use Rattle.rbs_terminals.specs.Marks.{mark_text}
use Rattle.printed_tokens.specs.Pieces.{Piece, blank, tok, first_byte, ends, ends_name, Apart}
use Rattle.printed_tokens.specs.Layout.{joined}

pub first_append : (ps qs : List Piece) (b : ℕ) → first_byte (ps ++ qs) b ≡ first_byte ps (first_byte qs b)
first_append [] qs b = refl
first_append (blank ∷ ps) qs b = refl
first_append (tok k [] ∷ ps) qs b = first_append ps qs b
first_append (tok k (c ∷ w) ∷ ps) qs b = refl

pub apart_append : (ps qs : List Piece) (b : ℕ) → Apart ps (first_byte qs b) → Apart qs b → Apart (ps ++ qs) b
apart_append [] qs b h i = i
apart_append (blank ∷ ps) qs b h i = apart_append ps qs b h i
apart_append (tok k w ∷ ps) qs b h i = (h.0, h.1, subst (λ c. ends k w c ≡ true) (sym (first_append ps qs b)) h.2, apart_append ps qs b h.3 i)

-- ---- bytes that end what stands before them

-- a blank, a newline, `)`, `]` or `,`
abbrev pub is_stop : ℕ → Bool
is_stop b = b == 32 || b == 10 || b == 41 || b == 93 || b == 44

-- one of these, or a question mark
abbrev pub is_end : ℕ → Bool
is_end b = is_stop b || b == 63

byte_is : (b c : ℕ) → (b == c) ≡ true → b ≡ c
byte_is b c e = grind arith

pub stop_is_end : (b : ℕ) → is_stop b ≡ true → is_end b ≡ true
stop_is_end b e = grind arith

pub end_of_name : (b : ℕ) → is_end b ≡ true → ends_name b ≡ true
end_of_name b e =
    let P : ℕ → Type 0 = λ b. ends_name b ≡ true in
    or_cases (is_stop b) (b == 63) e (λ s.
    or_cases (b == 32 || b == 10 || b == 41 || b == 93) (b == 44) s (λ r.
    or_cases (b == 32 || b == 10 || b == 41) (b == 93) r (λ q.
    or_cases (b == 32 || b == 10) (b == 41) q (λ p. or_cases (b == 32) (b == 10) p (λ t. subst P (sym (byte_is b 32 t)) refl) (λ t. subst P (sym (byte_is b 10 t)) refl))
    (λ t. subst P (sym (byte_is b 41 t)) refl))
    (λ t. subst P (sym (byte_is b 93 t)) refl))
    (λ t. subst P (sym (byte_is b 44 t)) refl))
    (λ t. subst P (sym (byte_is b 63 t)) refl)

pub end_of_number : (b : ℕ) → is_end b ≡ true → (nat_lt b 128 && not (is_ascii_digit b)) ≡ true
end_of_number b e = grind arith

-- ---- marks

pub mark_is : (m : Mark) → IsMark (mark_text m)
mark_is mark.Less = refl
mark_is _ = refl

-- ---- lists

-- each row is told apart from what ends it
abbrev pub Rows : List (List Piece) → Type 0
Rows [] = Unit {0}
Rows (r ∷ rs) = ((b : ℕ) → is_stop b ≡ true → Apart r b) × Rows rs

pub rows_append : (rs ss : List (List Piece)) → Rows rs → Rows ss → Rows (rs ++ ss)
rows_append [] ss h i = i
rows_append (r ∷ rs) ss h i = (h.0, rows_append rs ss h.1 i)

module _ (by : List Piece) (begins : (b : ℕ) → is_stop (first_byte by b) ≡ true) (alone : (b : ℕ) → Apart by b) where
  pub joined_apart : (rs : List (List Piece)) → Rows rs → (b : ℕ) → is_stop b ≡ true → Apart (joined by rs) b
  joined_apart [] h b e = tt
  joined_apart (r ∷ []) h b e = h.0 b e
  joined_apart (r ∷ s ∷ rs) h b e =
      let behind = joined by (s ∷ rs) in
      apart_append (r ++ by) behind b
      (apart_append r by (first_byte behind b) (h.0 (first_byte by (first_byte behind b)) (begins (first_byte behind b))) (alone (first_byte behind b)))
      (joined_apart (s ∷ rs) h.1 b e)
