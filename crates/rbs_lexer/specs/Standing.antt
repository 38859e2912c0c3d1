-- Where tokens stand in a text.
use Rattle.std.specs.Prelude.{◌≡◌, ℕ, ◌+◌, ◌<◌, ◌≤◌, true, List, [], ◌∷◌, ◌++◌, length, drop, slice_range, take, Result, Ok, Err}
use Rattle.std.specs.Str.{IsValidUpTo}
use Rattle.rbs_lexer.specs.declared.token.TokenKind.{TokenKind}
use Rattle.rbs_lexer.specs.declared.token.SigToken.{SigToken}
use Rattle.rbs_lexer.specs.Kinds.{IsToken}
use Rattle.rbs_lexer.specs.declared.token.TokenKind.TheVariants as kind
use Rattle.rbs_lexer.specs.declared.refused.LexRefused.{LexRefused}
use Rattle.rbs_lexer.specs.declared.refused.LexRefused.TheVariants as refused
use Rattle.rbs_lexer.specs.Integers.{Fits64}
use Rattle.rbs_lexer.specs.Longest.{BeginsNone, BeginsWith}
use Rattle.rbs_lexer.specs.Division.{is_gap, span, End, whole, stray, past}

-- blanks and newlines alone
abbrev pub AreGaps : List ℕ → Type 0
AreGaps [] = Unit {0}
AreGaps (b ∷ bytes) = (is_gap b ≡ true) × AreGaps bytes

-- the token's text is the slice of its span, before it from `at` on stand only blanks and newlines, and no token that begins there is longer
pub record StandsBehind (file : ℕ) (bytes : List ℕ) (at : ℕ) (t : SigToken) : Type 0 where
  pub its_file : t.place.file ≡ file
  pub after : at ≤ t.place.start
  pub some : t.place.start < t.place.end
  pub within : t.place.end ≤ length bytes
  pub gaps : AreGaps (slice_range bytes at t.place.start)
  pub text : IsToken t.kind (slice_range bytes t.place.start t.place.end)
  pub longest : (j : TokenKind) (w rest : List ℕ) → IsToken j w → drop t.place.start bytes ≡ w ++ rest → t.place.start + length w ≤ t.place.end

-- the tokens stand in the bytes from `at` on, in order, and nothing else but blanks and newlines does
abbrev pub Stand : ℕ → List ℕ → ℕ → List SigToken → Type 0
Stand file bytes at [] = AreGaps (drop at bytes)
Stand file bytes at (t ∷ ts) = StandsBehind file bytes at t × Stand file bytes t.place.end ts

-- the byte at which a division ends
abbrev pub stop_of : List ℕ → End → ℕ
stop_of bytes whole = length bytes
stop_of bytes (stray at) = at
stop_of bytes (past at) = at

-- the tokens stand in the bytes from `at` up to `to`, in order, and nothing else but blanks and newlines does
abbrev pub StandUpTo : ℕ → List ℕ → ℕ → ℕ → List SigToken → Type 0
StandUpTo file bytes to at [] = (at ≤ to) × AreGaps (slice_range bytes at to)
StandUpTo file bytes to at (t ∷ ts) = StandsBehind file bytes at t × StandUpTo file bytes to t.place.end ts

-- why a division ends: at the end of the bytes, at a byte that begins no token, or at the first byte of an integer past 64 bits
abbrev pub StopsAt : List ℕ → End → Type 0
StopsAt bytes whole = Unit {0}
StopsAt bytes (stray at) = (at < length bytes) × BeginsNone (drop at bytes)
StopsAt bytes (past at) = (n : ℕ) × BeginsWith kind.Int n (drop at bytes) × (Fits64 (take n (drop at bytes)) → ⊥)

-- where a refusal stands: at a byte that begins no token, or at the first byte of an integer past 64 bits
abbrev pub StandsRefused : ℕ → List ℕ → LexRefused → Type 0
StandsRefused file bytes (refused.Fault place) = (at : ℕ) × (place ≡ span file at at) × (at < length bytes) × BeginsNone (drop at bytes)
StandsRefused file bytes (refused.Limit place) = (at : ℕ) × (n : ℕ) × (place ≡ span file at at) × BeginsWith kind.Int n (drop at bytes) × (Fits64 (take n (drop at bytes)) → ⊥)
StandsRefused file bytes refused.NoMemory = Unit {0}

-- a refusal stands at the byte `n` or before it
abbrev pub RefusesUpTo : ℕ → Result (List SigToken) LexRefused → Type 0
RefusesUpTo n (Ok ts) = ⊥
RefusesUpTo n (Err (refused.Fault place)) = place.start ≤ n
RefusesUpTo n (Err (refused.Limit place)) = place.start ≤ n
RefusesUpTo n (Err refused.NoMemory) = Unit {0}

-- the first byte that isn't UTF-8 begins no token: nothing is answered that stands behind it
abbrev pub RefusesBroken : List ℕ → Result (List SigToken) LexRefused → Type 0
RefusesBroken bytes result = (n : ℕ) → IsValidUpTo bytes n → BeginsNone (drop n bytes) × RefusesUpTo n result
