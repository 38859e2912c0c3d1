-- What a division spells, the lexer reads, and it has the same tokens.
use Rattle.std.proofs.Common.{ℕ, ◌≡◌, ◌+◌, ◌-◌, Bool, true, false, refl, sym, ◌∙◌, ap, List, [], ◌∷◌, ◌++◌, length, append_assoc, Some, arith}
use Rattle.std.specs.Prelude.{encode_utf8_all, ◌==◌, if◌then◌else◌}
use Rattle.std.specs.Char.{encode_utf8, is_ascii_digit}
use Rattle.std.proofs.lemmas.List.{append-nil}
use Rattle.source_text.specs.Characters.{width, Run, is_blank, starts_word}
use Rattle.ruby_tokens.specs.declared.before.Before.{Before}
use Rattle.ruby_tokens.specs.declared.token.Token.{Token}
use Rattle.ruby_tokens.specs.declared.token.Kind.{Kind}
use Rattle.ruby_tokens.specs.declared.token.Kind.TheVariants as kind
use Rattle.ruby_tokens.specs.declared.mode.Mode.{Mode}
use Rattle.ruby_tokens.specs.declared.mode.Mode.TheVariants as mode
use Rattle.ruby_tokens.specs.declared.mode.Lexer.{Lexer}
use Rattle.ruby_tokens.specs.Literals.{IsInteger, plus, minus, zero_alone, nonzero}
use Rattle.ruby_tokens.specs.Tokens.{Lexes, lex_word, lex_integer, lex_single, lex_double, lex_symbol, lex_open, lex_close, lex_comma, lex_equals, lex_semicolon, IsTypeNote, is_in_line, Divides, ended, gap, newline, note, comment, dot, token}
use Rattle.ruby_tokens.specs.Lines.{behind_comment, next_line, dot_kind}
use Rattle.ruby_tokens.specs.Notes.{is_type_note}
use Rattle.ruby_tokens.specs.Machine.{step, lexer, between, with_token, begin_comment}
use Rattle.ruby_tokens.specs.Reads.{reads}
use Rattle.ruby_tokens.proofs.Characters.{one_byte, bool_cases, not_equal, sort_blank, sort_word, sort_digit, digit_ascii, at_more}
use Rattle.ruby_tokens.proofs.Runs.{goes}
use Rattle.ruby_tokens.proofs.WordRead.{word_read}
use Rattle.ruby_tokens.proofs.TextRead.{single_read, double_read}
use Rattle.ruby_tokens.proofs.NumberRead.{zero_ends, digits_read}
use Rattle.ruby_tokens.proofs.SymbolRead.{symbol_read}
use Rattle.ruby_tokens.proofs.NoteRead.{comment_read, note_read, note_is, no_note}

module _ (tokens : List Token) (b : Before) where
  abbrev here : Lexer
  here = lexer tokens (mode.Between b)

  -- between tokens the character's sort decides
  word_step : (at c : ℕ) → starts_word c ≡ true → step tokens (mode.Between b) at c ≡ Some (lexer tokens (mode.Word at (encode_utf8 c)))
  word_step at c e = rw (sort_word c e)

  digit_step : (at c : ℕ) → is_ascii_digit c ≡ true → (c == 48) ≡ false → step tokens (mode.Between b) at c ≡ Some (lexer tokens (mode.Digits at false (c - 48)))
  digit_step at c e f = rw (sort_digit c e f)

  blank_step : (at c : ℕ) → is_blank c ≡ true → step tokens (mode.Between b) at c ≡ Some here
  blank_step at c e = rw (sort_blank c e).0

  -- a character at which the place doesn't matter
  abbrev Leads : ℕ → ℕ → Lexer → Type 0
  Leads at c m = step tokens (mode.Between b) at c ≡ Some m

  integer_read : {z : _} {n : ℕ} {cs rest : List ℕ} (at m : ℕ) → IsInteger z n cs rest → m ≡ at + n
      → reads here at cs ≡ reads (lexer (with_token tokens (kind.Integer z) at m) between) m rest
  integer_read at m (plus l (zero_alone {rest = rest} h)) f =
      goes here (lexer tokens (mode.Zero at)) at 48 rest refl
      ∙ ap (λ k. reads (lexer tokens (mode.Zero at)) k rest) (omega (arith, one_byte 48 refl, f))
      ∙ zero_ends tokens at m rest h
  integer_read at m (plus l (nonzero {c = c} {cs = cs} e h d)) f =
      goes here (lexer tokens (mode.Digits at false (c - 48))) at c cs (digit_step at c e (not_equal c 48 h))
      ∙ digits_read tokens at false (at + length (encode_utf8 c)) m d (omega (arith, l)) (omega (arith, one_byte c (digit_ascii c e), f))
  integer_read at m (minus l (zero_alone {rest = rest} h)) f =
      goes here (lexer tokens (mode.Minus at)) at 45 (48 ∷ rest) refl
      ∙ goes (lexer tokens (mode.Minus at)) (lexer tokens (mode.Zero at)) (at + length (encode_utf8 45)) 48 rest refl
      ∙ ap (λ k. reads (lexer tokens (mode.Zero at)) k rest) (omega (arith, one_byte 45 refl, one_byte 48 refl, f))
      ∙ zero_ends tokens at m rest h
  integer_read at m (minus l (nonzero {c = c} {cs = cs} e h d)) f =
      goes here (lexer tokens (mode.Minus at)) at 45 (c ∷ cs) refl
      ∙ goes (lexer tokens (mode.Minus at)) (lexer tokens (mode.Digits at true (c - 48))) (at + length (encode_utf8 45)) c cs (rw (not_equal c 48 h, e))
      ∙ digits_read tokens at true ((at + length (encode_utf8 45)) + length (encode_utf8 c)) m d l (omega (arith, one_byte 45 refl, one_byte c (digit_ascii c e), f))

  mark_read : (k : Kind) (rest : List ℕ) (at c m : ℕ) (M : Mode) → Leads at c (lexer (with_token tokens k at (at + 1)) M) → length (encode_utf8 c) ≡ 1 → m ≡ at + 1
      → reads here at (c ∷ rest) ≡ reads (lexer (with_token tokens k at m) M) m rest
  mark_read k rest at c m M e o f =
      goes here (lexer (with_token tokens k at (at + 1)) M) at c rest e ∙ ap (λ n. reads (lexer (with_token tokens k at (at + 1)) M) (at + n) rest) o
      ∙ ap (λ n. reads (lexer (with_token tokens k at n) M) n rest) (sym f)

  -- a token is read from where it begins to where it ends
  lexes_read : {k : Kind} {n : ℕ} {cs rest : List ℕ} (at m : ℕ) → Lexes k n cs rest → m ≡ at + n
      → reads here at cs ≡ reads (lexer (with_token tokens k at m) between) m rest
  lexes_read at m (lex_word {c = c} {w = w} {cs = cs} {rest = rest} s r) f =
      goes here (lexer tokens (mode.Word at (encode_utf8 c))) at c cs (word_step at c s)
      ∙ word_read tokens at (encode_utf8 c) (encode_utf8_all (c ∷ w)) (at + length (encode_utf8 c)) m r refl (at_more at m w c f)
  lexes_read at m (lex_integer d) f = integer_read at m d f
  lexes_read at m (lex_single {v = v} {cs = cs} d) f =
      goes here (lexer tokens (mode.Single at [])) at 39 cs refl
      ∙ single_read tokens at [] (encode_utf8_all v) (at + length (encode_utf8 39)) m d refl (omega (arith, one_byte 39 refl, f))
  lexes_read at m (lex_double {v = v} {cs = cs} d) f =
      goes here (lexer tokens (mode.Double at [])) at 34 cs refl
      ∙ double_read tokens at [] (encode_utf8_all v) (at + length (encode_utf8 34)) m d refl (omega (arith, one_byte 34 refl, f))
  lexes_read at m (lex_symbol {cs = cs} d) f =
      goes here (lexer tokens (mode.Colon at)) at 58 cs refl
      ∙ symbol_read tokens at (at + length (encode_utf8 58)) m d (omega (arith, one_byte 58 refl, f))
  lexes_read at m (lex_open {rest = rest}) f = mark_read kind.Open rest at 40 m between refl (one_byte 40 refl) f
  lexes_read at m (lex_close {rest = rest}) f = mark_read kind.Close rest at 41 m between refl (one_byte 41 refl) f
  lexes_read at m (lex_comma {rest = rest}) f = mark_read kind.Comma rest at 44 m between refl (one_byte 44 refl) f
  lexes_read at m (lex_equals {rest = rest}) f = mark_read kind.Equals rest at 61 m between refl (one_byte 61 refl) f
  lexes_read at m (lex_semicolon {rest = rest}) f = mark_read kind.Semicolon rest at 59 m between refl (one_byte 59 refl) f

-- a comment of each kind
comment_step : (b : Before) (tokens : List Token) (at : ℕ) (k : Bool) → b.blank ≡ k → step tokens (mode.Between b) at 35 ≡ Some (lexer tokens (begin_comment k b.joined at))
comment_step b tokens at k e = ap (λ k. Some (lexer tokens (begin_comment k b.joined at))) e

module _ {text cs rest : List ℕ} (b : Before) (tokens : List Token) (at m : ℕ) (r : Run is_in_line text cs rest) (f : m ≡ at + 1 + width text) where
  own_line : (k : Bool) → b.blank ≡ true → is_type_note text ≡ k
      → reads (lexer tokens (mode.Between b)) at (35 ∷ cs) ≡ reads (lexer (if k then with_token tokens kind.TypeNote at m else tokens) (mode.Between (behind_comment b.joined))) m rest
  own_line k h e =
      goes (lexer tokens (mode.Between b)) (lexer tokens (mode.Note at b.joined [])) at 35 cs (comment_step b tokens at true h)
      ∙ note_read tokens at b.joined [] text (at + length (encode_utf8 35)) m r refl (omega (arith, one_byte 35 refl, f))
      ∙ ap (λ k. reads (lexer (if k then with_token tokens kind.TypeNote at m else tokens) (mode.Between (behind_comment b.joined))) m rest) e

  comment_line : (b.blank ≡ true → IsTypeNote text → ⊥) → reads (lexer tokens (mode.Between b)) at (35 ∷ cs) ≡ reads (lexer tokens (mode.Between (behind_comment b.joined))) m rest
  comment_line h = bool_cases b.blank (λ e. own_line false e (no_note (h e)))
      (λ e. goes (lexer tokens (mode.Between b)) (lexer tokens (mode.Comment b.joined)) at 35 cs (comment_step b tokens at false e)
      ∙ comment_read tokens b.joined (at + length (encode_utf8 35)) m r (omega (arith, one_byte 35 refl, f)))

ended_read : (b : Before) (at : ℕ) (tokens : List Token) → reads (lexer tokens (mode.Between b)) at [] ≡ Some (tokens ++ [])
unfolding reads
ended_read b at tokens = ap Some (sym (append-nil tokens))

pub divides_read : {b : Before} {at : ℕ} {ts : List Token} {cs : List ℕ} (tokens : List Token) → Divides b at ts cs → reads (lexer tokens (mode.Between b)) at cs ≡ Some (tokens ++ ts)
divides_read tokens (ended {b = b} {at = at}) = ended_read b at tokens
divides_read tokens (gap {b = b} {at = at} {c = c} {cs = cs} e d) =
    goes (lexer tokens (mode.Between b)) (lexer tokens (mode.Between b)) at c cs (blank_step tokens b at c e)
    ∙ ap (λ n. reads (lexer tokens (mode.Between b)) (at + n) cs) (one_byte c (sort_blank c e).1)
    ∙ divides_read tokens d
divides_read tokens (newline {b = b} {at = at} {ts = ts} {cs = cs} d) =
    mark_read tokens b kind.Newline cs at 10 (at + 1) (mode.Between (next_line b)) refl (one_byte 10 refl) refl
    ∙ divides_read (with_token tokens kind.Newline at (at + 1)) d ∙ ap Some (append_assoc tokens _ ts)
divides_read tokens (note {b = b} {at = at} {text = text} {ts = ts} h r t d) =
    own_line b tokens at (at + 1 + width text) r refl true h (note_is t) ∙ divides_read (with_token tokens kind.TypeNote at (at + 1 + width text)) d
    ∙ ap Some (append_assoc tokens _ ts)
divides_read tokens (comment {b = b} {at = at} {text = text} h r d) = comment_line b tokens at (at + 1 + width text) r refl h ∙ divides_read tokens d
divides_read tokens (dot {b = b} {at = at} {ts = ts} {cs = cs} d) =
    mark_read tokens b (dot_kind b) cs at 46 (at + 1) between refl (one_byte 46 refl) refl
    ∙ divides_read (with_token tokens (dot_kind b) at (at + 1)) d ∙ ap Some (append_assoc tokens _ ts)
divides_read tokens (token {b = b} {at = at} {n = n} {k = k} {ts = ts} l d) =
    lexes_read tokens b at (at + n) l refl ∙ divides_read (with_token tokens k at (at + n)) d ∙ ap Some (append_assoc tokens _ ts)
