-- What the parts of the lexer find.
use Rattle.std.specs.Prelude.{◌≡◌, ◌≢◌, ℕ, ◌<◌, ◌≤◌, Bool, false, ◌&&◌, ◌||◌, ◌==◌, if◌then◌else◌, codes, List, [], ◌∷◌, ◌++◌, length, take, drop, Option, Some, None}
use Rattle.std.specs.Char.{is_ascii_digit, is_ascii_uppercase}
use Rattle.names.specs.Places.{is_among}
use Rattle.source_text.specs.Characters.{is_name_character, starts_word}
use Rattle.rbs_lexer.specs.declared.pieces.Run.{Run}
use Rattle.rbs_lexer.specs.declared.pieces.Run.TheVariants as run
use Rattle.rbs_lexer.specs.declared.found.Found.{Found}
use Rattle.rbs_lexer.specs.Pieces.{IsCharacter, IsStringPiece, Repeated, Closed, After, is_in_line, is_note_character, is_plain, is_escaped}
use Rattle.rbs_lexer.specs.Longest.{BeginsNone, BeginsWith}

-- the characters of a run
abbrev pub belongs : Run → ℕ → Bool
belongs run.Name c = is_name_character c
belongs run.Digit c = is_ascii_digit c
belongs run.Text c = is_plain c
belongs run.Note c = is_note_character c
belongs run.Line c = is_in_line c

-- an escape stands first
abbrev pub begins_escape : List ℕ → Bool
begins_escape [] = false
begins_escape (b ∷ []) = false
begins_escape (b ∷ c ∷ bytes) = b == 92 && is_escaped c

-- a capital stands first
abbrev pub begins_upper : List ℕ → Bool
begins_upper [] = false
begins_upper (b ∷ w) = is_ascii_uppercase b

-- the byte and what follows it begin the name of an interface
abbrev pub begins_interface : ℕ → List ℕ → Bool
begins_interface b w = b == 95 && begins_upper w

-- how many of the bytes `a`, `b` and `c` the longest operator takes that begins with `a`, or 0
abbrev pub less_length : ℕ → ℕ → ℕ
less_length b c = if b == 61 then (if c == 62 then 3 else 2) else if b == 60 then 2 else 1

abbrev pub index_length : ℕ → ℕ → ℕ
index_length b c = if b == 93 then (if c == 61 then 3 else 2) else 0

abbrev pub pair_length : ℕ → ℕ → ℕ
pair_length a b = if a == 61 then (if b == 61 then 2 else 0) else if a == 62 then (if b == 61 then 2 else 1) else if a == 45 then (if b == 64 then 2 else 1) else 0

abbrev pub is_single_operator : ℕ → Bool
is_single_operator a = ((a == 43 || a == 42) || a == 47) || a == 37

abbrev pub operator_length : ℕ → ℕ → ℕ → ℕ
operator_length a b c = if a == 60 then less_length b c else if a == 91 then index_length b c else if is_single_operator a then 1 else pair_length a b

-- the marks of one byte
abbrev pub single_marks : List (List ℕ)
single_marks = codes "<" ∷ codes ":" ∷ codes "," ∷ codes "." ∷ codes "@" ∷ codes "[" ∷ codes "]" ∷ codes "(" ∷ codes ")" ∷ codes "{" ∷ codes "}" ∷ codes "|"
    ∷ codes "&" ∷ codes "^" ∷ codes "?" ∷ codes "!" ∷ codes "=" ∷ codes "*" ∷ codes "-" ∷ codes ">" ∷ codes "+" ∷ codes "/" ∷ codes "%" ∷ []

abbrev pub is_mark_byte : ℕ → Bool
is_mark_byte b = is_among (b ∷ []) single_marks

-- the marks of two bytes
abbrev pub is_pair : ℕ → ℕ → Bool
is_pair a b = ((a == 58 && b == 58) || (a == 45 && b == 62)) || (a == 42 && b == 42)

-- a byte that begins more than marks
abbrev pub begins_more : ℕ → Bool
begins_more b = (((((((starts_word b || is_ascii_digit b) || b == 34) || b == 35) || b == 45) || b == 64) || b == 58) || b == 37)

-- the pieces of a run
abbrev pub IsPiece : Run → List ℕ → Type 0
IsPiece run.Name x = IsCharacter is_name_character x
IsPiece run.Digit x = IsCharacter is_ascii_digit x
IsPiece run.Text x = IsStringPiece x
IsPiece run.Note x = IsCharacter is_note_character x
IsPiece run.Line x = IsCharacter is_in_line x

-- what stands behind the percent sign of an annotation
abbrev pub IsNoteRest : List ℕ → Type 0
IsNoteRest w = After 97 (After 123 (Closed 125 (Repeated (IsCharacter is_note_character)))) w

-- no such piece begins the bytes
abbrev pub NoPiece : (List ℕ → Type 0) → List ℕ → Type 0
NoPiece P bytes = (x rest : List ℕ) → P x → bytes ≢ x ++ rest

-- the first piece of the bytes, which takes `n` of them
pub record IsFirst (P : List ℕ → Type 0) (bytes : List ℕ) (n : ℕ) : Type 0 where
  pub some : 0 < n
  pub within : n ≤ length bytes
  pub piece : P (take n bytes)

abbrev pub First : (List ℕ → Type 0) → List ℕ → Option ℕ → Type 0
First P bytes None = NoPiece P bytes
First P bytes (Some n) = IsFirst P bytes n

-- pieces up to where none follows: they take `n` bytes
pub record IsRun (P : List ℕ → Type 0) (bytes : List ℕ) (n : ℕ) : Type 0 where
  pub within : n ≤ length bytes
  pub pieces : Repeated P (take n bytes)
  pub stops : NoPiece P (drop n bytes)

-- the longest front with the property takes `n` bytes; 0 where only the empty one could have it
pub record IsLongest (P : List ℕ → Type 0) (bytes : List ℕ) (n : ℕ) : Type 0 where
  pub within : n ≤ length bytes
  pub front : 0 < n → P (take n bytes)
  pub longest : (w rest : List ℕ) → P w → bytes ≡ w ++ rest → length w ≤ n

-- the longest token that begins the bytes, or none
abbrev pub Finds : List ℕ → Option Found → Type 0
Finds bytes None = BeginsNone bytes
Finds bytes (Some f) = BeginsWith f.kind f.size bytes
