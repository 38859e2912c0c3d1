-- A whole run of the lexer.
use Rattle.std.specs.Prelude.{ℕ, ◌+◌, List, [], ◌∷◌, length, Option, option_and_then, encode_utf8}
use Rattle.ruby_tokens.specs.declared.token.Token.{Token}
use Rattle.ruby_tokens.specs.declared.mode.Mode.TheVariants as mode
use Rattle.ruby_tokens.specs.declared.mode.Lexer.{Lexer}
use Rattle.ruby_tokens.specs.Lines.{at_start}
use Rattle.ruby_tokens.specs.Machine.{step, ends, lexer}

-- the tokens at the end of the characters, which begin at the byte `at`
unfoldable pub reads : Lexer → ℕ → List ℕ → Option (List Token)
reads l at [] = ends l.tokens l.mode at
reads l at (c ∷ cs) = option_and_then (λ m. reads m (at + length (encode_utf8 c)) cs) (step l.tokens l.mode at c)

abbrev pub first : Lexer
first = lexer [] (mode.Between at_start)
