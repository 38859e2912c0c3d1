-- The marks of the language.
use Rattle.std.specs.Prelude.{ℕ, ◌&&◌, ◌==◌, if◌then◌else◌, codes, List, [], ◌∷◌, Option, Some, None}
use Rattle.rbs_terminals.specs.declared.token.Mark.{Mark}
use Rattle.rbs_terminals.specs.declared.token.Mark.TheVariants as mark

abbrev pub mark_text : Mark → List ℕ
mark_text mark.Less = codes "<"
mark_text mark.Colon = codes ":"
mark_text mark.Scope = codes "::"
mark_text mark.Comma = codes ","
mark_text mark.Dot = codes "."
mark_text mark.At = codes "@"
mark_text mark.OpenSquare = codes "["
mark_text mark.CloseSquare = codes "]"
mark_text mark.Open = codes "("
mark_text mark.Close = codes ")"
mark_text mark.OpenBrace = codes "{"
mark_text mark.CloseBrace = codes "}"
mark_text mark.Bar = codes "|"
mark_text mark.Amp = codes "&"
mark_text mark.Caret = codes "^"
mark_text mark.Question = codes "?"
mark_text mark.Bang = codes "!"
mark_text mark.Equals = codes "="
mark_text mark.Star = codes "*"
mark_text mark.DoubleStar = codes "**"
mark_text mark.Minus = codes "-"
mark_text mark.Arrow = codes "->"
mark_text mark.Greater = codes ">"
mark_text mark.Plus = codes "+"
mark_text mark.Slash = codes "/"
mark_text mark.Percent = codes "%"

-- the mark that is this one byte
abbrev pub single_mark : ℕ → Option Mark
single_mark b =
    if b == 60 then Some mark.Less
    else if b == 58 then Some mark.Colon
    else if b == 44 then Some mark.Comma
    else if b == 46 then Some mark.Dot
    else if b == 64 then Some mark.At
    else if b == 91 then Some mark.OpenSquare
    else if b == 93 then Some mark.CloseSquare
    else if b == 40 then Some mark.Open
    else if b == 41 then Some mark.Close
    else if b == 123 then Some mark.OpenBrace
    else if b == 125 then Some mark.CloseBrace
    else if b == 124 then Some mark.Bar
    else if b == 38 then Some mark.Amp
    else if b == 94 then Some mark.Caret
    else if b == 63 then Some mark.Question
    else if b == 33 then Some mark.Bang
    else if b == 61 then Some mark.Equals
    else if b == 42 then Some mark.Star
    else if b == 45 then Some mark.Minus
    else if b == 62 then Some mark.Greater
    else if b == 43 then Some mark.Plus
    else if b == 47 then Some mark.Slash
    else if b == 37 then Some mark.Percent
    else None

-- the mark that is these two bytes
abbrev pub double_mark : ℕ → ℕ → Option Mark
double_mark b c =
    if b == 58 && c == 58 then Some mark.Scope
    else if b == 42 && c == 42 then Some mark.DoubleStar
    else if b == 45 && c == 62 then Some mark.Arrow
    else None

abbrev pub mark_of : List ℕ → Option Mark
mark_of [] = None
mark_of (b ∷ []) = single_mark b
mark_of (b ∷ c ∷ []) = double_mark b c
mark_of _ = None
