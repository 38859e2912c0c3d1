-- What tokens are made of: characters in UTF-8, and the escapes of strings. Everything is said of bytes.
use Rattle.std.specs.Prelude.{◌≡◌, ℕ, Bool, true, not, ◌&&◌, ◌||◌, ◌==◌, ◌⊎◌, List, [], ◌∷◌, ◌++◌, encode_utf8}
use Rattle.std.specs.Char.{IsScalar}

-- a character in UTF-8 that passes the test
abbrev pub IsCharacter : (ℕ → Bool) → List ℕ → Type 0
IsCharacter p x = (c : ℕ) × IsScalar c × (p c ≡ true) × (x ≡ encode_utf8 c)

-- `Repeated P w`: the bytes are pieces one behind the other, none or more, each of which is a `P`.
pub data Repeated (P : List ℕ → Type 0) : List ℕ → Type 0 where
  repeated_none : Repeated P []
  repeated_more : {x w v : List ℕ} → P x → Repeated P w → v ≡ x ++ w → Repeated P v

-- the bytes `w` in front, and then one more byte
abbrev pub Closed : ℕ → (List ℕ → Type 0) → List ℕ → Type 0
Closed b P v = (w : List ℕ) × P w × (v ≡ w ++ b ∷ [])

-- one byte in front, and then what the fact says
abbrev pub After : ℕ → (List ℕ → Type 0) → List ℕ → Type 0
After b P [] = ⊥
After b P (c ∷ w) = (c ≡ b) × P w

-- any character but a newline
abbrev pub is_in_line : ℕ → Bool
is_in_line c = not (c == 10)

-- a character of an annotation: no newline and no brace
abbrev pub is_note_character : ℕ → Bool
is_note_character c = (not (c == 10) && not (c == 123)) && not (c == 125)

-- a character that stands for itself in a string: neither a quote nor a backslash
abbrev pub is_plain : ℕ → Bool
is_plain c = not (c == 34) && not (c == 92)

-- what may follow a backslash in a string: a quote, a backslash, `n` and `t`
abbrev pub is_escaped : ℕ → Bool
is_escaped c = ((c == 34 || c == 92) || c == 110) || c == 116

abbrev pub IsEscape : List ℕ → Type 0
IsEscape x = (c : ℕ) × (is_escaped c ≡ true) × (x ≡ 92 ∷ c ∷ [])

-- a piece of a string's text
abbrev pub IsStringPiece : List ℕ → Type 0
IsStringPiece x = IsCharacter is_plain x ⊎ IsEscape x
