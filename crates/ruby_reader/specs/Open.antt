-- What is open at a place of a text: parentheses, and words that an `end` closes.
use Rattle.std.specs.Prelude.{ℕ, ◌+◌, ◌-◌, ◌≤◌, List, [], ◌∷◌}
use Rattle.ruby_tokens.specs.declared.token.Token.{Token}
use Rattle.ruby_tokens.specs.declared.token.Kind.{Kind}
use Rattle.ruby_tokens.specs.declared.token.Kind.TheVariants as kind

-- the most that may be open
abbrev pub limit : ℕ
limit = 400

-- what is open behind a token
abbrev pub behind : ℕ → Kind → ℕ
behind n kind.Open = n + 1
behind n kind.Class = n + 1
behind n kind.Def = n + 1
behind n kind.Close = n - 1
behind n kind.End = n - 1
behind n _ = n

-- behind each of the tokens no more is open than may be
abbrev pub KeepsOpenFrom : ℕ → List Token → Type 0
KeepsOpenFrom n [] = Unit {0}
KeepsOpenFrom n (t ∷ ts) = (behind n t.kind ≤ limit) × KeepsOpenFrom (behind n t.kind) ts

abbrev pub KeepsOpen : List Token → Type 0
KeepsOpen ts = KeepsOpenFrom 0 ts
