-- What the lexer answers is exact.
use Rattle.std.proofs.Common.{ℕ, ◌≡◌, sym, ◌∙◌, ap, List, [], length, Some, None}
use Rattle.std.specs.Str.{chars, IsUtf8}
use Rattle.std.proofs.lemmas.Str.{encodes-chars}
use Rattle.source_text.specs.Characters.{width}
use Rattle.ruby_tokens.specs.declared.token.Token.{Token}
use Rattle.ruby_tokens.specs.Reads.{reads, first}
use Rattle.ruby_tokens.specs.Tokens.{IsDivided}
use Rattle.ruby_tokens.specs.Answers.{Answers}
use Rattle.ruby_tokens.proofs.Complete.{divides_read}
use Rattle.ruby_tokens.proofs.Sound.{reads_divides}

module _ (bytes cs : List ℕ) (u : IsUtf8 bytes) (e : cs ≡ chars bytes) where
  -- the characters are as wide as the text is long
  pub width_is : width cs ≡ length bytes
  width_is = ap width e ∙ ap length (encodes-chars bytes u)

  pub found : (ts : List Token) → reads first 0 cs ≡ Some ts → Answers bytes (Some ts)
  found ts f =
      let run : reads first 0 (chars bytes) ≡ Some ts = ap (reads first 0) (sym e) ∙ f in (
        record { utf8 = u; divided = reads_divides (chars bytes) ts run },
        λ us d. let same : Some us ≡ Some ts = sym (divides_read [] d.divided) ∙ run in cc,
      )

  pub not_found : reads first 0 cs ≡ None → Answers bytes None
  not_found f = λ ts d. let same : Some ts ≡ None = sym (divides_read [] d.divided) ∙ ap (reads first 0) (sym e) ∙ f in cc

-- a text divides into tokens in one way
pub divided_once : (bytes : List ℕ) (ts us : List Token) → IsDivided ts bytes → IsDivided us bytes → ts ≡ us
divided_once bytes ts us d e = let same : Some ts ≡ Some us = sym (divides_read [] d.divided) ∙ divides_read [] e.divided in cc
