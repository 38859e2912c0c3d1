-- Text as tokens and blanks, and lines of it.
use Rattle.std.specs.Prelude.{◌≡◌, ℕ, suc, ◌+◌, Bool, true, false, not, ◌&&◌, ◌||◌, ◌==◌, nat_lt, if◌then◌else◌, List, [], ◌∷◌, ◌++◌, length}
use Rattle.std.specs.List.{flat_map}
use Rattle.std.specs.Char.{is_ascii_digit}
use Rattle.source_text.specs.Characters.{is_name_character}
use Rattle.rbs_lexer.specs.declared.token.TokenKind.{TokenKind}
use Rattle.rbs_lexer.specs.declared.token.TokenKind.TheVariants as token
use Rattle.rbs_lexer.specs.declared.token.SigToken.{SigToken}
use Rattle.rbs_lexer.specs.Pieces.{Repeated, IsCharacter, is_in_line}
use Rattle.rbs_lexer.specs.Kinds.{IsToken}
use Rattle.rbs_lexer.specs.Names.{starts_lower}
use Rattle.rbs_lexer.specs.Division.{IsFit, span, token_of}
use Rattle.rbs_printer.specs.Texts.{ends_in_word, indent}

pub data Piece : Type 0 where
  blank : Piece
  tok : TokenKind → List ℕ → Piece

abbrev pub piece_text : Piece → List ℕ
piece_text blank = 32 ∷ []
piece_text (tok k w) = w

abbrev pub pieces_text : List Piece → List ℕ
pieces_text ps = flat_map piece_text ps

-- a line: how deep it is, the comment lines above it, and what stands on it
pub record Line : Type 0 where
  pub depth : ℕ
  pub comments : List (List ℕ)
  pub pieces : List Piece

abbrev pub comment_text : ℕ → List ℕ → List ℕ
comment_text depth w = indent depth ++ (35 ∷ w) ++ 10 ∷ []

abbrev pub line_text : Line → List ℕ
line_text l = flat_map (comment_text l.depth) l.comments ++ indent l.depth ++ pieces_text l.pieces ++ 10 ∷ []

abbrev pub lines_text : List Line → List ℕ
lines_text ls = flat_map line_text ls

-- ---- the tokens

-- the tokens of these pieces, the first of which stands at a byte
abbrev pub tokens_at : (file at : ℕ) → List Piece → List SigToken
tokens_at file at [] = []
tokens_at file at (blank ∷ ps) = tokens_at file (at + 1) ps
tokens_at file at (tok k w ∷ ps) = token_of k (span file at (at + length w)) ∷ tokens_at file (at + length w) ps

-- the comments of a line, at a byte
abbrev pub comments_tokens : (file at depth : ℕ) → List (List ℕ) → List SigToken
comments_tokens file at depth [] = []
comments_tokens file at depth (w ∷ ws) =
    token_of token.Comment (span file (at + length (indent depth)) (at + length (indent depth) + suc (length w))) ∷ comments_tokens file (at + length (comment_text depth w)) depth ws

-- where the pieces of a line begin
abbrev pub pieces_start : (at : ℕ) → Line → ℕ
pieces_start at l = at + length (flat_map (comment_text l.depth) l.comments) + length (indent l.depth)

abbrev pub line_tokens : (file at : ℕ) → Line → List SigToken
line_tokens file at l = comments_tokens file at l.depth l.comments ++ tokens_at file (pieces_start at l) l.pieces

abbrev pub lines_tokens : (file at : ℕ) → List Line → List SigToken
lines_tokens file at [] = []
lines_tokens file at (l ∷ ls) = line_tokens file at l ++ lines_tokens file (at + length (line_text l)) ls

-- ---- which pieces are told apart

-- the first byte of these pieces, where one stands behind them
abbrev pub first_byte : List Piece → ℕ → ℕ
first_byte [] b = b
first_byte (blank ∷ ps) b = 32
first_byte (tok k [] ∷ ps) b = first_byte ps b
first_byte (tok k (c ∷ w) ∷ ps) b = c

-- an ASCII byte that goes on with no name
abbrev pub ends_name : ℕ → Bool
ends_name b = nat_lt b 128 && not (is_name_character b)

-- a byte that may stand behind a symbol: a blank, a newline, `)`, `]` or `,`; and a question mark, where that isn't its own
abbrev pub ends_symbol : List ℕ → ℕ → Bool
ends_symbol w b = (b == 32 || b == 10 || b == 41 || b == 93 || b == 44) || (b == 63 && not (ends_in_word w))

-- a byte behind which a mark is a token of its own
abbrev pub ends_mark : List ℕ → ℕ → Bool
ends_mark [] b = true
ends_mark (a ∷ []) b =
    if a == 58 then b == 32 || b == 10
    else if a == 45 then not (is_ascii_digit b) && not (b == 62)
    else if a == 42 then not (b == 42)
    else if a == 64 then not (starts_lower b)
    else if a == 37 then not (b == 97)
    else true
ends_mark (a ∷ c ∷ w) b = true

-- A token of this kind with this text is no part of a longer one where this byte stands behind it. A comment is no piece: it stands on a line of its own.
abbrev pub ends : TokenKind → List ℕ → ℕ → Bool
ends token.Ident w b = ends_name b
ends token.Upper w b = ends_name b
ends token.IfaceName w b = ends_name b
ends token.Ivar w b = ends_name b
ends token.Int w b = nat_lt b 128 && not (is_ascii_digit b)
ends token.Sym w b = ends_symbol w b
ends token.Mark w b = ends_mark w b
ends token.Str w b = true
ends token.Annotation w b = true
ends token.Comment w b = false

-- Each piece is a blank or a token by itself, told apart from what stands behind it; behind them all stands the byte `b`.
abbrev pub Apart : List Piece → ℕ → Type 0
Apart [] b = Unit {0}
Apart (blank ∷ ps) b = Apart ps b
Apart (tok k w ∷ ps) b = IsToken k w × IsFit k w × (ends k w (first_byte ps b) ≡ true) × Apart ps b

-- the text of a comment: what stands on one line
abbrev pub IsCommentText : List ℕ → Type 0
IsCommentText w = Repeated (IsCharacter is_in_line) w

abbrev pub AreComments : List (List ℕ) → Type 0
AreComments [] = Unit {0}
AreComments (w ∷ ws) = IsCommentText w × AreComments ws

-- a token stands first
abbrev pub begins_with_token : List Piece → Bool
begins_with_token [] = false
begins_with_token (blank ∷ ps) = false
begins_with_token (tok k w ∷ ps) = true

pub record IsApart (l : Line) : Type 0 where
  pub first : begins_with_token l.pieces ≡ true
  pub comments : AreComments l.comments
  pub pieces : Apart l.pieces 10

abbrev pub AreApart : List Line → Type 0
AreApart [] = Unit {0}
AreApart (l ∷ ls) = IsApart l × AreApart ls
