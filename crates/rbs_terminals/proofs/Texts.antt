-- The parts of tokens that terminals keep are UTF-8.
use Rattle.std.proofs.Common.{ℕ, ◌≡◌, ◌+◌, ◌-◌, ◌<◌, sym, ◌∙◌, ap, subst, Bool, true, false, List, [], ◌∷◌, ◌++◌, length, take, drop, arith, length-append}
use Rattle.std.specs.Prelude.{IsUtf8, slice_range}
use Rattle.std.proofs.Math.Seq.{take-append_seam, take-length}
use Rattle.std.proofs.lemmas.List.{drop_all}
use Rattle.std.proofs.lemmas.Str.{IsUtf8-append, IsUtf8-encode, IsUtf8-nil, IsUtf8-past_char, encode_ascii}
use Rattle.rbs_lexer.specs.declared.token.TokenKind.{TokenKind}
use Rattle.rbs_lexer.specs.declared.token.TokenKind.TheVariants as kind
use Rattle.rbs_lexer.specs.Pieces.{IsCharacter, IsStringPiece, Repeated, repeated_none, repeated_more, After, Closed, is_note_character}
use Rattle.rbs_lexer.specs.Kinds.{IsToken}
use Rattle.rbs_lexer.specs.Division.{IsFit, whole, Divides, at_end, at_token}
use Rattle.rbs_lexer.proofs.Encoded.{divided_utf8}
use Rattle.rbs_lexer.proofs.FirstBytes.{empty_token}
use Rattle.rbs_terminals.specs.Terminals.{is_comment}

-- a token's text is UTF-8, since alone it divides into that token
pub utf8_text : (k : TokenKind) (w : List ℕ) → IsToken k w → IsFit k w → IsUtf8 w
utf8_text k w t f =
    let front : take (length w) w ≡ w = take-length w in
    divided_utf8 {file = 0} {at = 0} (at_token {n = length w} {k = k}
    (record { within = omega arith; token = subst (IsToken k) (sym front) t; longest = λ j v rest p e. omega (arith, ap length e, length-append v rest) })
    (subst (IsFit k) (sym front) f) (subst (Divides 0 (0 + length w) [] whole) (sym (drop_all (length w) w (omega arith))) at_end))

clash : false ≡ true → ⊥
clash e = cc

-- behind the first byte
utf8_rest : (b : ℕ) (P : List ℕ → Type 0) (w : List ℕ) → b < 128 → After b P w → IsUtf8 w → IsUtf8 (drop 1 w)
utf8_rest b P [] l h u = u
utf8_rest b P (c ∷ v) l h u =
    let small : c < 128 = omega (arith, h.0, l) in
    IsUtf8-past_char (c ∷ v) v c u (ap (λ x. x ++ v) (sym (encode_ascii c small)))

pub utf8_variable : (w : List ℕ) → IsToken kind.Ivar w → IsUtf8 (drop 1 w)
utf8_variable w t = utf8_rest 64 _ w (omega arith) t (utf8_text kind.Ivar w t tt)

pub utf8_symbol : (w : List ℕ) → IsToken kind.Sym w → IsUtf8 (drop 1 w)
utf8_symbol w t = utf8_rest 58 _ w (omega arith) t (utf8_text kind.Sym w t tt)

pub utf8_comment : (k : TokenKind) (w : List ℕ) → is_comment k ≡ true → IsToken k w → IsUtf8 (drop 1 w)
utf8_comment kind.Comment w e t = utf8_rest 35 _ w (omega arith) t (utf8_text kind.Comment w t tt)
utf8_comment _ w e t = absurd (clash e)

utf8_characters : {p : ℕ → Bool} {w : List ℕ} → Repeated (IsCharacter p) w → IsUtf8 w
utf8_characters repeated_none = IsUtf8-nil
utf8_characters (repeated_more {x = x} {w = w} (c, s, h, e) r f) =
    subst IsUtf8 (sym f) (IsUtf8-append x w (subst IsUtf8 (sym e) (IsUtf8-encode c s)) (utf8_characters r))

-- what stands before a last byte
inside : (P : List ℕ → Type 0) (b m : ℕ) (v : List ℕ) → Closed b P v → m ≡ length v - 1 → P (take m v)
inside P b m v (x, p, e) f =
    let long : length v ≡ length x + 1 = ap length e ∙ length-append x (b ∷ []) in
    let size : m ≡ length x = omega (arith, f, long) in
    subst P (sym (ap (λ n. take n v) size ∙ ap (take (length x)) e ∙ take-append_seam x (b ∷ []))) p

pub string_inside : (w : List ℕ) → IsToken kind.Str w → Repeated IsStringPiece (slice_range w 1 (length w - 1))
string_inside [] h = absurd h
string_inside (b ∷ v) h = inside (Repeated IsStringPiece) 34 ((length (b ∷ v) - 1) - 1) v h.1 (omega arith)

note_inside : (w : List ℕ) → IsToken kind.Annotation w → Repeated (IsCharacter is_note_character) (slice_range w 3 (length w - 1))
note_inside [] h = absurd h
note_inside (a ∷ []) h = absurd h.1
note_inside (a ∷ b ∷ []) h = absurd h.1.1
note_inside (a ∷ b ∷ c ∷ v) h = inside (Repeated (IsCharacter is_note_character)) 125 ((length (a ∷ b ∷ c ∷ v) - 1) - 3) v h.1.1.1 (omega arith)

pub utf8_note : (w : List ℕ) → IsToken kind.Annotation w → IsUtf8 (slice_range w 3 (length w - 1))
utf8_note w h = utf8_characters (note_inside w h)

-- the shortest text of a token
pub some_text : (k : TokenKind) (w : List ℕ) → IsToken k w → 0 < length w
some_text k [] h = absurd (empty_token k h)
some_text k (b ∷ w) h = omega arith
