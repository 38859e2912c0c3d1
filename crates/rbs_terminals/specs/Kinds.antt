-- The terminal that a token is, by its text.
use Rattle.std.specs.Prelude.{ℕ, ◌-◌, List, length, drop, slice_range, Option, Some, None}
use Rattle.rbs_lexer.specs.declared.token.TokenKind.{TokenKind}
use Rattle.rbs_lexer.specs.declared.token.TokenKind.TheVariants as token
use Rattle.rbs_terminals.specs.declared.token.Keyword.{Keyword}
use Rattle.rbs_terminals.specs.declared.token.Mark.{Mark}
use Rattle.rbs_terminals.specs.declared.token.Kind.{Kind}
use Rattle.rbs_terminals.specs.declared.token.Kind.TheVariants as kind
use Rattle.rbs_terminals.specs.Keywords.{keyword_of, keyword_text}
use Rattle.rbs_terminals.specs.Marks.{mark_of}
use Rattle.rbs_terminals.specs.Values.{integer_value, unescaped}

abbrev pub word_kind : List ℕ → Option Keyword → Kind
word_kind w None = kind.Lower w
word_kind w (Some k) = kind.Keyword k

abbrev pub mark_kind : Option Mark → Kind
mark_kind None = kind.Stray
mark_kind (Some m) = kind.Mark m

-- The kind of the terminal that is a token of this kind with this text. A comment is no terminal.
abbrev pub kind_at : TokenKind → List ℕ → Kind
kind_at token.Ident w = word_kind w (keyword_of w)
kind_at token.Upper w = kind.Upper w
kind_at token.IfaceName w = kind.Interface w
kind_at token.Ivar w = kind.Variable (drop 1 w)
kind_at token.Int w = kind.Integer (integer_value w)
kind_at token.Str w = kind.Text (unescaped (slice_range w 1 (length w - 1)))
kind_at token.Sym w = kind.Symbol (drop 1 w)
kind_at token.Mark w = mark_kind (mark_of w)
kind_at token.Annotation w = kind.Annotation (slice_range w 3 (length w - 1))
kind_at token.Comment w = kind.Stray

-- a kind that a token gives; the other two stand where a text has no tokens further
abbrev pub IsOfToken : Kind → Type 0
IsOfToken kind.PastInteger = ⊥
IsOfToken kind.Stray = ⊥
IsOfToken _ = Unit {0}

-- the word that a terminal is where a keyword may be a name: a small word itself, or the text of a keyword
abbrev pub lower_of : Kind → Option (List ℕ)
lower_of (kind.Lower w) = Some w
lower_of (kind.Keyword k) = Some (keyword_text k)
lower_of _ = None
