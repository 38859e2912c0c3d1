-- Lines and columns of a text.
use Rattle.std.specs.Prelude.{◌≡◌, ℕ, ◌+◌, ◌≤◌, ◌==◌, if◌then◌else◌, List, [], ◌∷◌, take, length, count_by}
use Rattle.source_text.specs.declared.lines.Cursor.{Cursor}

-- how many bytes stand behind the last newline
abbrev pub since_newline : ℕ → List ℕ → ℕ
since_newline n [] = n
since_newline n (b ∷ bs) = if b == 10 then since_newline 0 bs else since_newline (n + 1) bs

-- the line of a byte, from 1: one more than the newlines before it
abbrev pub line_at : List ℕ → ℕ → ℕ
line_at text at = count_by (λ b. b == 10) (take at text) + 1

-- the column of a byte, in bytes from 1
abbrev pub column_at : List ℕ → ℕ → ℕ
column_at text at = since_newline 0 (take at text) + 1

-- the cursor stands in the text, and knows its line and its column
pub record IsCursor (text : List ℕ) (c : Cursor) : Type 0 where
  pub within : c.at ≤ length text
  pub line : c.line ≡ line_at text c.at
  pub column : c.column ≡ column_at text c.at
