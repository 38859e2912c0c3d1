-- The names of signature text, as bytes.
use Rattle.std.specs.Prelude.{◌≡◌, ℕ, Bool, true, ◌||◌, ◌==◌, ◌⊎◌, List, [], ◌∷◌, ◌++◌, codes}
use Rattle.std.specs.Char.{is_ascii_lowercase, is_ascii_uppercase}
use Rattle.names.specs.Places.{is_among}
use Rattle.source_text.specs.Characters.{is_name_character}
use Rattle.rbs_lexer.specs.Pieces.{IsCharacter, Repeated, After}

-- characters that go on with a name, none or more
abbrev pub IsNameRest : List ℕ → Type 0
IsNameRest w = Repeated (IsCharacter is_name_character) w

-- an ASCII capital, and then name characters
abbrev pub IsUpper : List ℕ → Type 0
IsUpper [] = ⊥
IsUpper (b ∷ w) = (is_ascii_uppercase b ≡ true) × IsNameRest w

-- an underscore, and then what begins with a capital: the name of an interface
abbrev pub IsInterfaceName : List ℕ → Type 0
IsInterfaceName w = After 95 IsUpper w

-- an ASCII lower-case letter or an underscore
abbrev pub starts_lower : ℕ → Bool
starts_lower b = is_ascii_lowercase b || b == 95

-- such a letter, and then name characters, which is no name of an interface; keywords are among these
abbrev pub IsLower : List ℕ → Type 0
IsLower [] = ⊥
IsLower (b ∷ w) = (starts_lower b ≡ true) × IsNameRest w × (IsInterfaceName (b ∷ w) → ⊥)

-- the operators that may be defined
abbrev pub operators : List (List ℕ)
operators = codes "+" ∷ codes "-" ∷ codes "*" ∷ codes "/" ∷ codes "%" ∷ codes "==" ∷ codes "<" ∷ codes "<=" ∷ codes ">" ∷ codes ">=" ∷ codes "<=>"
    ∷ codes "<<" ∷ codes "[]" ∷ codes "[]=" ∷ codes "-@" ∷ []

abbrev pub IsOperator : List ℕ → Type 0
IsOperator w = is_among w operators ≡ true

-- a mark that the name of a method may end with
abbrev pub is_ending : ℕ → Bool
is_ending b = (b == 63 || b == 33) || b == 61

-- a word that may begin the name of a method
abbrev pub IsWord : List ℕ → Type 0
IsWord w = IsLower w ⊎ IsUpper w

-- a word, and then one ending
abbrev pub IsEndedWord : List ℕ → Type 0
IsEndedWord v = (w : List ℕ) × (b : ℕ) × IsWord w × (is_ending b ≡ true) × (v ≡ w ++ b ∷ [])

-- the name of a method: a word with an ending or without, or an operator
abbrev pub IsMethodName : List ℕ → Type 0
IsMethodName w = (IsWord w ⊎ IsEndedWord w) ⊎ IsOperator w
