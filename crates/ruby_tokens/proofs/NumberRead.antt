-- The lexer on integers.
use Rattle.std.proofs.Common.{ℕ, ◌≡◌, ◌+◌, ◌-◌, ◌*◌, ◌≤◌, Bool, true, refl, ◌∙◌, List, [], ◌∷◌, length, Some, arith}
use Rattle.std.specs.Prelude.{◌==◌, nat_le, pos}
use Rattle.std.specs.Char.{encode_utf8, is_ascii_digit}
use Rattle.ruby_tokens.specs.declared.token.Token.{Token}
use Rattle.ruby_tokens.specs.declared.token.Kind.TheVariants as kind
use Rattle.ruby_tokens.specs.declared.mode.Mode.TheVariants as mode
use Rattle.ruby_tokens.specs.Literals.{Digits, digits_end, digits_more, digits_under, EndsDigits, EndsZero}
use Rattle.ruby_tokens.specs.Machine.{lexer, between, with_token, limit, signed, digit}
use Rattle.ruby_tokens.specs.Reads.{reads}
use Rattle.ruby_tokens.proofs.Characters.{one_byte, digit_ascii, or_false, at_none}
use Rattle.ruby_tokens.proofs.Runs.{goes, same_step, same_end}

-- further digits make a number no smaller
pub grows : {m v n : ℕ} {cs rest : List ℕ} → Digits m v n cs rest → m ≤ v
grows (digits_end h) = omega arith
grows (digits_more {m = m} {c = c} e d) = omega (arith, grows d)
grows (digits_under {m = m} {c = c} e d) = omega (arith, grows d)

fits : (k n : ℕ) → k ≤ n → nat_le k n ≡ true
fits k n h = grind arith

digit_step : (tokens : List Token) (start : ℕ) (minus : Bool) (m c : ℕ) → m * 10 + (c - 48) ≤ limit minus
    → digit tokens start minus m c ≡ Some (lexer tokens (mode.Digits start minus (m * 10 + (c - 48))))
digit_step tokens start minus m c h = rw (fits (m * 10 + (c - 48)) (limit minus) h)

pub zero_ends : (tokens : List Token) (start at : ℕ) (rest : List ℕ) → EndsZero rest
    → reads (lexer tokens (mode.Zero start)) at rest ≡ reads (lexer (with_token tokens (kind.Integer (pos 0)) start at) between) at rest
zero_ends tokens start at [] h = same_end (lexer tokens (mode.Zero start)) (lexer (with_token tokens (kind.Integer (pos 0)) start at) between) at refl
zero_ends tokens start at (c ∷ cs) h = same_step (lexer tokens (mode.Zero start)) (lexer (with_token tokens (kind.Integer (pos 0)) start at) between) at c cs (rw h)

digits_ends : (tokens : List Token) (start : ℕ) (minus : Bool) (m at : ℕ) (rest : List ℕ) → EndsDigits rest
    → reads (lexer tokens (mode.Digits start minus m)) at rest ≡ reads (lexer (with_token tokens (kind.Integer (signed minus m)) start at) between) at rest
digits_ends tokens start minus m at [] h = same_end (lexer tokens (mode.Digits start minus m)) (lexer (with_token tokens (kind.Integer (signed minus m)) start at) between) at refl
digits_ends tokens start minus m at (c ∷ cs) h =
    let both = or_false (is_ascii_digit c) (c == 95) h in
    same_step (lexer tokens (mode.Digits start minus m)) (lexer (with_token tokens (kind.Integer (signed minus m)) start at) between) at c cs (rw (both.0, both.1))

module _ (tokens : List Token) (start : ℕ) (minus : Bool) where
  pub digits_read : {m v n : ℕ} {cs rest : List ℕ} (at k : ℕ) → Digits m v n cs rest → v ≤ limit minus → k ≡ at + n
      → reads (lexer tokens (mode.Digits start minus m)) at cs ≡ reads (lexer (with_token tokens (kind.Integer (signed minus v)) start k) between) k rest
  digits_read at k (digits_end {m = m} {rest = rest} h) l f = rw (at_none at k f) (digits_ends tokens start minus m at rest h)
  digits_read at k (digits_more {m = m} {v = v} {c = c} {cs = cs} e d) l f =
      let small : m * 10 + (c - 48) ≤ limit minus = omega (arith, grows d) in
      goes (lexer tokens (mode.Digits start minus m)) (lexer tokens (mode.Digits start minus (m * 10 + (c - 48)))) at c cs (rw e (digit_step tokens start minus m c small))
      ∙ digits_read (at + length (encode_utf8 c)) k d l (omega (arith, one_byte c (digit_ascii c e)))
  digits_read at k (digits_under {m = m} {v = v} {c = c} {cs = cs} e d) l f =
      let small : m * 10 + (c - 48) ≤ limit minus = omega (arith, grows d) in
      goes (lexer tokens (mode.Digits start minus m)) (lexer tokens (mode.Underscore start minus m)) at 95 (c ∷ cs) refl
      ∙ goes (lexer tokens (mode.Underscore start minus m)) (lexer tokens (mode.Digits start minus (m * 10 + (c - 48)))) (at + length (encode_utf8 95)) c cs (rw e (digit_step tokens start minus m c small))
      ∙ digits_read ((at + length (encode_utf8 95)) + length (encode_utf8 c)) k d l (omega (arith, one_byte 95 refl, one_byte c (digit_ascii c e)))
