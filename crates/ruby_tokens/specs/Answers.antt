-- What `tokens` answers.
use Rattle.std.specs.Prelude.{◌≡◌, ℕ, List, Option, Some, None}
use Rattle.ruby_tokens.specs.declared.token.Token.{Token}
use Rattle.ruby_tokens.specs.Tokens.{IsDivided}

-- the tokens of the bytes, which are the only ones, or none where the bytes are a text of no tokens
abbrev pub Answers : List ℕ → Option (List Token) → Type 0
Answers bytes None = (ts : List Token) → IsDivided ts bytes → ⊥
Answers bytes (Some ts) = IsDivided ts bytes × ((us : List Token) → IsDivided us bytes → us ≡ ts)
