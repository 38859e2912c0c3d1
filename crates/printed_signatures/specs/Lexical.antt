-- Terminals as bytes give them.
use Rattle.std.specs.Prelude.{◌≡◌, ℕ, List, [], ◌∷◌, None}
use Rattle.rbs_lexer.specs.Pieces.{Repeated, IsCharacter, is_note_character}
use Rattle.rbs_lexer.specs.Names.{IsUpper, IsLower, IsInterfaceName, IsMethodName}
use Rattle.rbs_terminals.specs.declared.token.Token.{Token}
use Rattle.rbs_terminals.specs.declared.token.Kind.{Kind}
use Rattle.rbs_terminals.specs.declared.token.Kind.TheVariants as kind
use Rattle.rbs_terminals.specs.Keywords.{keyword_of}
use Rattle.printed_signatures.specs.Writable.{IsUtf8, Is64, AreComments}

-- the value of a terminal can be written
abbrev pub IsLexicalKind : Kind → Type 0
IsLexicalKind (kind.Lower w) = IsLower w × (keyword_of w ≡ None)
IsLexicalKind (kind.Upper w) = IsUpper w
IsLexicalKind (kind.Interface w) = IsInterfaceName w
IsLexicalKind (kind.Variable w) = IsLower w
IsLexicalKind (kind.Integer n) = Is64 n
IsLexicalKind (kind.Text w) = IsUtf8 w
IsLexicalKind (kind.Symbol w) = IsMethodName w
IsLexicalKind (kind.Annotation w) = Repeated (IsCharacter is_note_character) w
IsLexicalKind (kind.Keyword k) = Unit {0}
IsLexicalKind (kind.Mark m) = Unit {0}
IsLexicalKind kind.PastInteger = ⊥
IsLexicalKind kind.Stray = ⊥

-- a terminal as bytes give it, with comments that they give
pub record IsLexical (c : Token) : Type 0 where
  pub kind : IsLexicalKind c.kind
  pub comments : AreComments c.spot.comments
