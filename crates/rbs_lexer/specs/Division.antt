-- How bytes divide into tokens.
use Rattle.std.specs.Prelude.{◌≡◌, ℕ, ◌+◌, Bool, true, false, ◌||◌, ◌==◌, List, [], ◌∷◌, take, drop, Result, Ok, Err}
use Rattle.source_text.specs.Characters.{is_blank}
use Rattle.sig_model.specs.declared.place.Place.{Place}
use Rattle.rbs_lexer.specs.declared.token.TokenKind.{TokenKind}
use Rattle.rbs_lexer.specs.declared.token.TokenKind.TheVariants as kind
use Rattle.rbs_lexer.specs.declared.token.SigToken.{SigToken}
use Rattle.rbs_lexer.specs.declared.division.Ending.{Ending}
use Rattle.rbs_lexer.specs.declared.division.Ending.TheVariants as ending
use Rattle.rbs_lexer.specs.declared.refused.LexRefused.{LexRefused}
use Rattle.rbs_lexer.specs.declared.refused.LexRefused.TheVariants as refused
use Rattle.rbs_lexer.specs.Integers.{Fits64}
use Rattle.rbs_lexer.specs.Longest.{BeginsNone, BeginsWith}

-- what separates tokens: a blank or a newline
abbrev pub is_gap : ℕ → Bool
is_gap b = is_blank b || b == 10

-- an integer is within 64 bits; of other tokens nothing is asked
abbrev pub IsFit : TokenKind → List ℕ → Type 0
IsFit kind.Int w = Fits64 w
IsFit _ w = Unit {0}

abbrev pub span : ℕ → ℕ → ℕ → Place
span file start end = record { file = file; start = start; end = end }

abbrev pub token_of : TokenKind → Place → SigToken
token_of k place = record { place = place; kind = k }

-- how a division ends
pub data End : Type 0 where
  -- at the end of the bytes
  whole : End
  -- at a byte that begins no token
  stray : ℕ → End
  -- at an integer past 64 bits, by its first byte
  past : ℕ → End

-- the end that is answered
abbrev pub end_of : Ending → End
end_of ending.Whole = whole
end_of (ending.Stray at) = stray at
end_of (ending.PastInteger at) = past at

-- `Divides file at ts e bytes`: the bytes, the first of which stands at `at`, are the tokens `ts` with blanks and newlines between them, up to the end `e`.
pub data Divides (file : ℕ) : ℕ → List SigToken → End → List ℕ → Type 0 where
  at_end : {at : ℕ} → Divides file at [] whole []
  at_gap : {at b : ℕ} {ts : List SigToken} {e : End} {bytes : List ℕ} → is_gap b ≡ true → Divides file (at + 1) ts e bytes → Divides file at ts e (b ∷ bytes)
  at_token : {at n : ℕ} {k : TokenKind} {ts : List SigToken} {e : End} {bytes : List ℕ} → BeginsWith k n bytes → IsFit k (take n bytes)
      → Divides file (at + n) ts e (drop n bytes) → Divides file at (token_of k (span file at (at + n)) ∷ ts) e bytes
  at_stray : {at b : ℕ} {bytes : List ℕ} → is_gap b ≡ false → BeginsNone (b ∷ bytes) → Divides file at [] (stray at) (b ∷ bytes)
  at_past : {at n : ℕ} {bytes : List ℕ} → BeginsWith kind.Int n bytes → (Fits64 (take n bytes) → ⊥) → Divides file at [] (past at) bytes

-- the bytes of a file divide into these tokens up to this end, and in no other way
pub record IsDivided (file : ℕ) (ts : List SigToken) (e : End) (bytes : List ℕ) : Type 0 where
  pub divided : Divides file 0 ts e bytes
  pub only : (us : List SigToken) (f : End) → Divides file 0 us f bytes → (us ≡ ts) × (f ≡ e)

-- What `tokens` answers. A refusal stands at one byte, with no width.
abbrev pub Answers : ℕ → List ℕ → Result (List SigToken) LexRefused → Type 0
Answers file bytes (Ok ts) = IsDivided file ts whole bytes
Answers file bytes (Err (refused.Fault place)) = (ts : List SigToken) × (at : ℕ) × (place ≡ span file at at) × IsDivided file ts (stray at) bytes
Answers file bytes (Err (refused.Limit place)) = (ts : List SigToken) × (at : ℕ) × (place ≡ span file at at) × IsDivided file ts (past at) bytes
Answers file bytes (Err refused.NoMemory) = Unit {0}
