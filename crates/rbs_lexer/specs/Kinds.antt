-- What a token of each kind is, as bytes.
use Rattle.std.specs.Prelude.{◌≡◌, ℕ, true, List, [], ◌∷◌, codes}
use Rattle.names.specs.Places.{is_among}
use Rattle.rbs_lexer.specs.declared.token.TokenKind.{TokenKind}
use Rattle.rbs_lexer.specs.declared.token.TokenKind.TheVariants as kind
use Rattle.rbs_lexer.specs.Pieces.{IsCharacter, IsStringPiece, Repeated, Closed, After, is_in_line, is_note_character}
use Rattle.rbs_lexer.specs.Names.{IsLower, IsUpper, IsInterfaceName, IsMethodName}
use Rattle.rbs_lexer.specs.Integers.{IsInteger}

abbrev pub marks : List (List ℕ)
marks = codes "::" ∷ codes "->" ∷ codes "**"
    ∷ codes "<" ∷ codes ":" ∷ codes "," ∷ codes "." ∷ codes "@" ∷ codes "[" ∷ codes "]" ∷ codes "(" ∷ codes ")" ∷ codes "{" ∷ codes "}" ∷ codes "|"
    ∷ codes "&" ∷ codes "^" ∷ codes "?" ∷ codes "!" ∷ codes "=" ∷ codes "*" ∷ codes "-" ∷ codes ">" ∷ codes "+" ∷ codes "/" ∷ codes "%" ∷ []

abbrev pub IsMark : List ℕ → Type 0
IsMark w = is_among w marks ≡ true

-- `%a{`, a text without braces and newlines, and `}`
abbrev pub IsAnnotation : List ℕ → Type 0
IsAnnotation w = After 37 (After 97 (After 123 (Closed 125 (Repeated (IsCharacter is_note_character))))) w

abbrev pub IsToken : TokenKind → List ℕ → Type 0
IsToken kind.Ident w = IsLower w
IsToken kind.Upper w = IsUpper w
IsToken kind.IfaceName w = IsInterfaceName w
IsToken kind.Ivar w = After 64 IsLower w
IsToken kind.Int w = IsInteger w
IsToken kind.Str w = After 34 (Closed 34 (Repeated IsStringPiece)) w
IsToken kind.Sym w = After 58 IsMethodName w
IsToken kind.Mark w = IsMark w
IsToken kind.Annotation w = IsAnnotation w
IsToken kind.Comment w = After 35 (Repeated (IsCharacter is_in_line)) w
