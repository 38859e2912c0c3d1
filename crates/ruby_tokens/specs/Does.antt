-- What a step of the lexer does, against the machine.
use Rattle.std.specs.Prelude.{◌≡◌, ◌≤◌, List, Option, Some, None, Result, Ok, Err}
use Rattle.ruby_tokens.specs.declared.token.Token.{Token}
use Rattle.ruby_tokens.specs.declared.mode.Mode.{Mode}
use Rattle.ruby_tokens.specs.declared.mode.Mode.TheVariants as mode
use Rattle.ruby_tokens.specs.declared.mode.Lexer.{Lexer}
use Rattle.ruby_tokens.specs.declared.refused.Refused.{Refused}
use Rattle.ruby_tokens.specs.declared.refused.Refused.TheVariants.{NoToken, NoMemory}
use Rattle.ruby_tokens.specs.Machine.{limit}

-- a number that was begun is within the range
abbrev pub IsFit : Mode → Type 0
IsFit (mode.Digits start minus m) = m ≤ limit minus
IsFit (mode.Underscore start minus m) = m ≤ limit minus
IsFit _ = Unit {0}

abbrev pub Does : Option Lexer → Result Lexer Refused → Type 0
Does o (Ok l) = (o ≡ Some l) × IsFit l.mode
Does o (Err NoToken) = o ≡ None
Does o (Err NoMemory) = Unit {0}

abbrev pub Ends : Option (List Token) → Result (List Token) Refused → Type 0
Ends o (Ok ts) = o ≡ Some ts
Ends o (Err NoToken) = o ≡ None
Ends o (Err NoMemory) = Unit {0}
