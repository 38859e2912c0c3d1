-- The tokens of Ruby text.
use Rattle.std.specs.Prelude.{◌≡◌, ℕ, ◌+◌, Bool, true, not, ◌||◌, ◌==◌, List, [], ◌∷◌, ◌++◌, codes, encode_utf8_all, IsUtf8}
use Rattle.std.specs.Str.{chars}
use Rattle.std.specs.Char.{is_ascii_lowercase}
use Rattle.source_text.specs.Characters.{is_blank, is_name_character, starts_word, width, Run}
use Rattle.ruby_tokens.specs.declared.before.Before.{Before}
use Rattle.ruby_tokens.specs.declared.token.Token.{Token}
use Rattle.ruby_tokens.specs.declared.token.Kind.{Kind}
use Rattle.ruby_tokens.specs.declared.token.Kind.TheVariants as kind
use Rattle.ruby_tokens.specs.Words.{word_kind}
use Rattle.ruby_tokens.specs.Lines.{at_start, in_line, behind_comment, next_line, dot_kind}
use Rattle.ruby_tokens.specs.Literals.{IsInteger, Single, Double, IsSymbol}

-- `Lexes k n cs rest`: the characters `cs` begin with a token of the kind `k`, which takes `n` bytes, and go on with `rest`. These tokens are the same wherever they stand in a line.
pub data Lexes : Kind → ℕ → List ℕ → List ℕ → Type 0 where
  lex_word : {c : ℕ} {w cs rest : List ℕ} → starts_word c ≡ true → Run is_name_character w cs rest → Lexes (word_kind (encode_utf8_all (c ∷ w))) (width (c ∷ w)) (c ∷ cs) rest
  lex_integer : {z : _} {n : ℕ} {cs rest : List ℕ} → IsInteger z n cs rest → Lexes (kind.Integer z) n cs rest
  lex_single : {n : ℕ} {v cs rest : List ℕ} → Single v n cs rest → Lexes (kind.Text (encode_utf8_all v)) (n + 1) (39 ∷ cs) rest
  lex_double : {n : ℕ} {v cs rest : List ℕ} → Double v n cs rest → Lexes (kind.Text (encode_utf8_all v)) (n + 1) (34 ∷ cs) rest
  lex_symbol : {n : ℕ} {v cs rest : List ℕ} → IsSymbol v n cs rest → Lexes (kind.Symbol (encode_utf8_all v)) (n + 1) (58 ∷ cs) rest
  lex_open : {rest : List ℕ} → Lexes kind.Open 1 (40 ∷ rest) rest
  lex_close : {rest : List ℕ} → Lexes kind.Close 1 (41 ∷ rest) rest
  lex_comma : {rest : List ℕ} → Lexes kind.Comma 1 (44 ∷ rest) rest
  lex_equals : {rest : List ℕ} → Lexes kind.Equals 1 (61 ∷ rest) rest
  lex_semicolon : {rest : List ℕ} → Lexes kind.Semicolon 1 (59 ∷ rest) rest

abbrev pub is_in_line : ℕ → Bool
is_in_line c = not (c == 10)

-- The comment ` @type var x: T`, by what stands behind its `#`: blanks, `@type`, blanks, `var`, blanks, a local's name, and a colon directly behind it; what follows is the type.
pub data IsTypeNote : List ℕ → Type 0 where
  type_note : {a b c d : ℕ} {before_type before_var before_name w r1 r2 r3 r4 r5 : List ℕ}
      → is_blank a ≡ true → Run is_blank before_type r1 (codes "@type" ++ b ∷ r2)
      → is_blank b ≡ true → Run is_blank before_var r2 (codes "var" ++ c ∷ r3)
      → is_blank c ≡ true → Run is_blank before_name r3 (d ∷ r4)
      → (is_ascii_lowercase d || d == 95) ≡ true → Run is_name_character w r4 (58 ∷ r5)
      → IsTypeNote (a ∷ r1)

-- `Divides b at ts cs`: the characters `cs`, which begin at the byte `at`, behind what `b` says, are the tokens `ts` with blanks and comments between them. A comment that gives a type is a token where it is a line of its own. Where a dot stands decides what it is.
pub data Divides : Before → ℕ → List Token → List ℕ → Type 0 where
  ended : {b : Before} {at : ℕ} → Divides b at [] []
  gap : {b : Before} {at c : ℕ} {ts : List Token} {cs : List ℕ} → is_blank c ≡ true → Divides b (at + 1) ts cs → Divides b at ts (c ∷ cs)
  newline : {b : Before} {at : ℕ} {ts : List Token} {cs : List ℕ} → Divides (next_line b) (at + 1) ts cs
      → Divides b at (record { kind = kind.Newline; start = at; end = at + 1 } ∷ ts) (10 ∷ cs)
  note : {b : Before} {at : ℕ} {text cs rest : List ℕ} {ts : List Token} → b.blank ≡ true → Run is_in_line text cs rest → IsTypeNote text
      → Divides (behind_comment b.joined) (at + 1 + width text) ts rest
      → Divides b at (record { kind = kind.TypeNote; start = at; end = at + 1 + width text } ∷ ts) (35 ∷ cs)
  comment : {b : Before} {at : ℕ} {text cs rest : List ℕ} {ts : List Token} → (b.blank ≡ true → IsTypeNote text → ⊥) → Run is_in_line text cs rest
      → Divides (behind_comment b.joined) (at + 1 + width text) ts rest → Divides b at ts (35 ∷ cs)
  dot : {b : Before} {at : ℕ} {ts : List Token} {cs : List ℕ} → Divides in_line (at + 1) ts cs
      → Divides b at (record { kind = dot_kind b; start = at; end = at + 1 } ∷ ts) (46 ∷ cs)
  token : {b : Before} {at n : ℕ} {k : Kind} {ts : List Token} {cs rest : List ℕ} → Lexes k n cs rest → Divides in_line (at + n) ts rest
      → Divides b at (record { kind = k; start = at; end = at + n } ∷ ts) cs

-- the bytes are a text of these tokens
pub record IsDivided (ts : List Token) (bytes : List ℕ) : Type 0 where
  pub utf8 : IsUtf8 bytes
  pub divided : Divides at_start 0 ts (chars bytes)
