-- The values of integers and strings.
use Rattle.std.specs.Prelude.{ℕ, Bool, true, false, ◌==◌, if◌then◌else◌, List, [], ◌∷◌, ℤ, pos, neg_ℤ}
use Rattle.rbs_lexer.specs.Integers.{value_from}

-- digits, with a minus sign (the byte 45) before them or without
abbrev pub integer_value : List ℕ → ℤ
integer_value [] = pos 0
integer_value (b ∷ w) = if b == 45 then neg_ℤ (pos (value_from 0 w)) else pos (value_from 0 (b ∷ w))

-- what a byte behind a backslash stands for: `n` for a newline and `t` for a tab
abbrev pub escaped : ℕ → ℕ
escaped c = if c == 110 then 10 else if c == 116 then 9 else c

-- a string's text with its escapes undone; `behind` says that a backslash stands before it
abbrev pub unescaped_from : (behind : Bool) → List ℕ → List ℕ
unescaped_from behind [] = []
unescaped_from true (c ∷ w) = escaped c ∷ unescaped_from false w
unescaped_from false (b ∷ w) = if b == 92 then unescaped_from true w else b ∷ unescaped_from false w

abbrev pub unescaped : List ℕ → List ℕ
unescaped w = unescaped_from false w
