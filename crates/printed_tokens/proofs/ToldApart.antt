-- A token is told apart from what stands behind it, where the byte there ends it.
use Rattle.std.proofs.Common.{ℕ, ◌≡◌, ◌≤◌, true, not, refl, sym, subst, List, [], ◌∷◌, ◌++◌, length, inl, inr, arith}
use Rattle.std.specs.Prelude.{◌&&◌, ◌⊎◌, nat_lt}
use Rattle.std.specs.Char.{IsScalar, is_ascii_digit}
use Rattle.rbs_lexer.specs.declared.token.TokenKind.{TokenKind}
use Rattle.rbs_lexer.specs.declared.token.TokenKind.TheVariants as kind
use Rattle.rbs_lexer.specs.declared.pieces.Run.TheVariants as run
use Rattle.rbs_lexer.specs.Pieces.{IsStringPiece, Repeated, Closed, is_in_line, is_note_character}
use Rattle.rbs_lexer.specs.Integers.{IsDigits, IsNumber}
use Rattle.rbs_lexer.specs.Kinds.{IsToken, IsMark}
use Rattle.rbs_lexer.specs.Longest.{BeginsWith}
use Rattle.rbs_lexer.specs.Scanned.{IsNoteRest}
use Rattle.rbs_lexer.proofs.Bytes.{and_true}
use Rattle.rbs_lexer.proofs.FirstBytes.{clash, behind_quote, behind_hash, behind_minus, behind_digit, behind_percent, mark_short}
use Rattle.printed_tokens.specs.Pieces.{ends, IsCommentText}
use Rattle.printed_tokens.proofs.Ended.{not_false, front_character, no_character, no_string_piece, run_most, closed_most, begins_behind}
use Rattle.printed_tokens.proofs.EndedNames.{lower_ended, upper_ended, interface_ended, variable_ended}
use Rattle.printed_tokens.proofs.EndedSymbols.{symbol_ended}
use Rattle.printed_tokens.proofs.EndedMarks.{mark_ended}

-- ---- integers

digit_ascii : (c : ℕ) → is_ascii_digit c ≡ true → nat_lt c 128 ≡ true
digit_ascii c e = grind arith

digit_scalar : (c : ℕ) → is_ascii_digit c ≡ true → IsScalar c
digit_scalar c e = grind arith

number_digits : (w : List ℕ) → IsNumber w → IsDigits w
number_digits [] h = absurd h
number_digits (c ∷ v) h = front_character is_ascii_digit c v (digit_ascii c h.0) (digit_scalar c h.0) h.0 h.1

number_some : (w : List ℕ) → IsNumber w → 1 ≤ length w
number_some [] h = absurd h
number_some (c ∷ v) h = omega arith

module _ (b : ℕ) (rest : List ℕ) (f : (nat_lt b 128 && not (is_ascii_digit b)) ≡ true) where
  digits_most : (v x others : List ℕ) → IsDigits v → IsDigits x → v ++ b ∷ rest ≡ x ++ others → length x ≤ length v
  digits_most v x others h p e =
      let both = and_true (nat_lt b 128) (not (is_ascii_digit b)) f in
      run_most run.Digit v x (b ∷ rest) others h p (no_character is_ascii_digit b rest both.0 (not_false (is_ascii_digit b) both.1)) e

  negative_at : (v : List ℕ) → IsNumber v → BeginsWith kind.Int (length (45 ∷ v)) ((45 ∷ v) ++ b ∷ rest)
  negative_at v h = begins_behind kind.Int 45 v (b ∷ rest) (inr (refl, h)) (λ j x others p e. at_most x others (behind_minus j x p) e)
    where
      at_most : (x others : List ℕ) → IsNumber x ⊎ IsMark (45 ∷ x) → v ++ b ∷ rest ≡ x ++ others → length x ≤ length v
      at_most x others (inl p) e = digits_most v x others (number_digits v h) (number_digits x p) e
      at_most x others (inr m) e = let short : length x ≤ 1 = mark_short 45 x m in omega (arith, number_some v h)

  integer_ended : (w : List ℕ) → IsToken kind.Int w → BeginsWith kind.Int (length w) (w ++ b ∷ rest)
  integer_ended [] (inl h) = absurd h
  integer_ended [] (inr h) = absurd h
  integer_ended (c ∷ v) (inl h) = begins_behind kind.Int c v (b ∷ rest) (inl h) (λ j x others p e. digits_most v x others h.1 (behind_digit c h.0 j x p) e)
  integer_ended (c ∷ v) (inr h) = subst (λ c. BeginsWith kind.Int (length (c ∷ v)) ((c ∷ v) ++ b ∷ rest)) (sym h.0) (negative_at v h.1)

-- ---- strings

string_ended : (w rest : List ℕ) → IsToken kind.Str w → BeginsWith kind.Str (length w) (w ++ rest)
string_ended [] rest h = absurd h
string_ended (c ∷ v) rest h = subst (λ c. BeginsWith kind.Str (length (c ∷ v)) ((c ∷ v) ++ rest)) (sym h.0) (at h.1)
  where
    at : Closed 34 (Repeated IsStringPiece) v → BeginsWith kind.Str (length (34 ∷ v)) ((34 ∷ v) ++ rest)
    at h = begins_behind kind.Str 34 v rest (refl, h) (λ j x others p e. closed_most run.Text 34 no_string_piece v x rest others h (behind_quote j x p) e)

-- ---- annotations

note_most : (v x rest others : List ℕ) → IsNoteRest v → IsNoteRest x → v ++ rest ≡ x ++ others → length x ≤ length v
note_most [] x rest others h p e = absurd h
note_most (a ∷ []) x rest others h p e = absurd h.1
note_most (a ∷ b ∷ v) [] rest others h p e = absurd p
note_most (a ∷ b ∷ v) (c ∷ []) rest others h p e = absurd p.1
note_most (a ∷ b ∷ v) (c ∷ d ∷ x) rest others h p e =
    let behind : v ++ rest ≡ x ++ others = cc in
    let less : length x ≤ length v = closed_most run.Note 125 (λ t. no_character is_note_character 125 t refl refl) v x rest others h.1.1 p.1.1 behind in
    omega arith

note_some : (v : List ℕ) → IsNoteRest v → 1 ≤ length v
note_some [] h = absurd h
note_some (c ∷ v) h = omega arith

annotation_ended : (w rest : List ℕ) → IsToken kind.Annotation w → BeginsWith kind.Annotation (length w) (w ++ rest)
annotation_ended [] rest h = absurd h
annotation_ended (c ∷ v) rest h = subst (λ c. BeginsWith kind.Annotation (length (c ∷ v)) ((c ∷ v) ++ rest)) (sym h.0) (at h.1)
  where
    at_most : IsNoteRest v → (x others : List ℕ) → IsNoteRest x ⊎ IsMark (37 ∷ x) → v ++ rest ≡ x ++ others → length x ≤ length v
    at_most h x others (inl p) e = note_most v x rest others h p e
    at_most h x others (inr m) e = let short : length x ≤ 1 = mark_short 37 x m in omega (arith, note_some v h)

    at : IsNoteRest v → BeginsWith kind.Annotation (length (37 ∷ v)) ((37 ∷ v) ++ rest)
    at h = begins_behind kind.Annotation 37 v rest (refl, h) (λ j x others p e. at_most h x others (behind_percent j x p) e)

-- ---- all kinds

-- where the byte behind a token ends it, no longer token of any kind begins there
pub told_apart : (k : TokenKind) (w : List ℕ) (b : ℕ) (rest : List ℕ) → IsToken k w → ends k w b ≡ true → BeginsWith k (length w) (w ++ b ∷ rest)
told_apart kind.Ident w b rest h f = lower_ended b rest f w h
told_apart kind.Upper w b rest h f = upper_ended b rest f w h
told_apart kind.IfaceName w b rest h f = interface_ended b rest f w h
told_apart kind.Ivar w b rest h f = variable_ended b rest f w h
told_apart kind.Int w b rest h f = integer_ended b rest f w h
told_apart kind.Str w b rest h f = string_ended w (b ∷ rest) h
told_apart kind.Sym w b rest h f = symbol_ended w b rest h f
told_apart kind.Mark w b rest h f = mark_ended w b rest h f
told_apart kind.Annotation w b rest h f = annotation_ended w (b ∷ rest) h
told_apart kind.Comment w b rest h f = absurd (clash f)

-- a comment goes up to the newline
pub comment_ended : (w rest : List ℕ) → IsCommentText w → BeginsWith kind.Comment (length (35 ∷ w)) ((35 ∷ w) ++ 10 ∷ rest)
comment_ended w rest h =
    begins_behind kind.Comment 35 w (10 ∷ rest) (refl, h) (λ j x others p e. run_most run.Line w x (10 ∷ rest) others h (behind_hash j x p) (no_character is_in_line 10 rest refl refl) e)
