-- The terminals of a text.
use Rattle.std.specs.Prelude.{◌≡◌, ℕ, ◌<◌, ◌≤◌, Bool, true, false, ◌||◌, ◌==◌, nat_lt, if◌then◌else◌, List, [], ◌∷◌, ◌++◌, count_by, drop, length, slice_range, Option, Some, None, Result, Ok, Err}
use Rattle.rbs_lexer.specs.declared.token.TokenKind.{TokenKind}
use Rattle.rbs_lexer.specs.declared.token.TokenKind.TheVariants as token
use Rattle.rbs_lexer.specs.declared.token.SigToken.{SigToken}
use Rattle.rbs_lexer.specs.Kinds.{IsToken}
use Rattle.rbs_lexer.specs.declared.refused.LexRefused.{LexRefused}
use Rattle.rbs_lexer.specs.Division as lexed
use Rattle.rbs_lexer.specs.Division.{IsFit, whole, IsDivided}
use Rattle.rbs_terminals.specs.declared.token.Gap.{Gap}
use Rattle.rbs_terminals.specs.declared.token.Gap.TheVariants as gap
use Rattle.rbs_terminals.specs.declared.token.Token.{Token}
use Rattle.rbs_terminals.specs.declared.lead.Lead.{Lead}
use Rattle.rbs_terminals.specs.declared.before.Before.{Before}
use Rattle.rbs_terminals.specs.Kinds.{kind_at}

abbrev pub is_comment : TokenKind → Bool
is_comment token.Comment = true
is_comment _ = false

abbrev pub text_of : List ℕ → SigToken → List ℕ
text_of bytes t = slice_range bytes t.place.start t.place.end

-- how many newlines stand from one byte up to another
abbrev pub newlines : List ℕ → ℕ → ℕ → ℕ
newlines bytes from to = count_by (λ b. b == 10) (slice_range bytes from to)

-- the gap before a token, by where the terminal before it ends
abbrev pub gap_at : List ℕ → Option ℕ → ℕ → Gap
gap_at bytes None start = gap.Line
gap_at bytes (Some end) start = if end == start then gap.Joined else if newlines bytes end start == 0 then gap.Blank else gap.Line

-- where the terminal before ends, 0 where there is none
abbrev pub end_or_start : Option ℕ → ℕ
end_or_start None = 0
end_or_start (Some end) = end

-- nothing but blanks stands on a line before the byte `start`: the text begins on that line, or what stands before ends on an earlier one
abbrev pub begins_line : List ℕ → Before → ℕ → Bool
begins_line bytes before start = before.end == 0 || nat_lt 0 (newlines bytes before.end start)

-- the comments so far, where what begins at `start` stands on the very next line behind them
abbrev pub carried : List ℕ → Before → ℕ → List (List ℕ)
carried bytes before start = if newlines bytes before.end start == 1 then before.comments else []

-- Where nothing was read yet.
abbrev pub at_start : Before
at_start = record { last = None; end = 0; comments = [] }

-- Behind a comment. On a line of its own it goes on with the run of comment lines, or begins one; else it ends the run.
abbrev pub behind_comment : List ℕ → Before → SigToken → Before
behind_comment bytes before t =
    record {
      last = before.last;
      end = t.place.end;
      comments = if begins_line bytes before t.place.start then carried bytes before t.place.start ++ drop 1 (text_of bytes t) ∷ [] else [];
    }

-- Behind any other token, by where it ends.
abbrev pub behind : ℕ → Before
behind end = record { last = Some end; end = end; comments = [] }

abbrev pub behind_token : SigToken → Before
behind_token t = behind t.place.end

-- the terminal that a token is which isn't a comment
abbrev pub terminal_at : List ℕ → Before → SigToken → Token
terminal_at bytes before t =
    record {
      kind = kind_at t.kind (text_of bytes t);
      spot = record { before = end_or_start before.last; gap = gap_at bytes before.last t.place.start; start = t.place.start; end = t.place.end; comments = carried bytes before t.place.start };
    }

-- the terminal leads a phrase: what it is, where it stands and the comments that it carries
abbrev pub Leads : Lead → Token → Type 0
Leads lead c = (lead.kind ≡ c.kind) × (lead.start ≡ c.spot.start) × (lead.end ≡ c.spot.end) × (lead.comments ≡ c.spot.comments)

-- the first token that is no comment
abbrev pub first_token : List SigToken → Option SigToken
first_token [] = None
first_token (t ∷ ts) = if is_comment t.kind then first_token ts else Some t

-- the tokens behind it
abbrev pub behind_first : List SigToken → List SigToken
behind_first [] = []
behind_first (t ∷ ts) = if is_comment t.kind then behind_first ts else ts

-- the terminals that these tokens are, behind what was read before
abbrev pub terminals_from : List ℕ → Before → List SigToken → List Token
terminals_from bytes before [] = []
terminals_from bytes before (t ∷ ts) =
    if is_comment t.kind then terminals_from bytes (behind_comment bytes before t) ts else terminal_at bytes before t ∷ terminals_from bytes (behind_token t) ts

-- The terminals of a text, which are its tokens without the comments, each with the gap before it and the comments that it carries.
abbrev pub terminals : List ℕ → List SigToken → List Token
terminals bytes ts = terminals_from bytes at_start ts

-- What a text's terminals are answered as: those of the tokens that it divides into. A refusal is that of its tokens.
abbrev pub Answers : ℕ → List ℕ → Result (List Token) LexRefused → Type 0
Answers file bytes (Ok ts) = (us : List SigToken) × IsDivided file us whole bytes × (ts ≡ terminals bytes us)
Answers file bytes (Err e) = lexed.Answers file bytes (Err e)

-- a token stands in the bytes from `at` on: its text is of its kind, and an integer fits 64 bits
pub record StandsFrom (bytes : List ℕ) (at : ℕ) (t : SigToken) : Type 0 where
  pub after : at ≤ t.place.start
  pub some : t.place.start < t.place.end
  pub within : t.place.end ≤ length bytes
  pub text : IsToken t.kind (text_of bytes t)
  pub fit : IsFit t.kind (text_of bytes t)

-- the tokens stand in the bytes from `at` on, each behind the one before it
abbrev pub AllStand : List ℕ → ℕ → List SigToken → Type 0
AllStand bytes at [] = Unit {0}
AllStand bytes at (t ∷ ts) = StandsFrom bytes at t × AllStand bytes t.place.end ts

-- no comment comes first
abbrev pub begins_uncommented : List SigToken → Bool
begins_uncommented [] = true
begins_uncommented (t ∷ ts) = if is_comment t.kind then false else true
