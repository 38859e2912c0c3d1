-- The longest token first.
use Rattle.std.specs.Prelude.{◌≡◌, ◌≢◌, ℕ, ◌≤◌, List, ◌++◌, length, take}
use Rattle.rbs_lexer.specs.declared.token.TokenKind.{TokenKind}
use Rattle.rbs_lexer.specs.Kinds.{IsToken}

-- no token begins the bytes
abbrev pub BeginsNone : List ℕ → Type 0
BeginsNone bytes = (k : TokenKind) (w rest : List ℕ) → IsToken k w → bytes ≢ w ++ rest

-- the first `n` bytes are a token of the kind `k`, and no longer front of the bytes is a token of any kind
pub record BeginsWith (k : TokenKind) (n : ℕ) (bytes : List ℕ) : Type 0 where
  pub within : n ≤ length bytes
  pub token : IsToken k (take n bytes)
  pub longest : (j : TokenKind) (w rest : List ℕ) → IsToken j w → bytes ≡ w ++ rest → length w ≤ n
