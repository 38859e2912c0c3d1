-- The integers of signature text, as bytes.
use Rattle.std.specs.Prelude.{◌≡◌, ℕ, ◌+◌, ◌-◌, ◌*◌, ◌^◌, ◌<◌, ◌≤◌, Bool, true, false, ◌==◌, ◌⊎◌, List, [], ◌∷◌}
use Rattle.std.specs.Char.{is_ascii_digit}
use Rattle.rbs_lexer.specs.Pieces.{IsCharacter, Repeated, After}

-- decimal digits, none or more
abbrev pub IsDigits : List ℕ → Type 0
IsDigits w = Repeated (IsCharacter is_ascii_digit) w

-- decimal digits, one or more
abbrev pub IsNumber : List ℕ → Type 0
IsNumber [] = ⊥
IsNumber (b ∷ w) = (is_ascii_digit b ≡ true) × IsDigits w

-- a number, with a minus sign directly before it or without
abbrev pub IsInteger : List ℕ → Type 0
IsInteger w = IsNumber w ⊎ After 45 IsNumber w

-- the number that digits make behind the number `m`
abbrev pub value_from : ℕ → List ℕ → ℕ
value_from m [] = m
value_from m (b ∷ w) = value_from (m * 10 + (b - 48)) w

-- an integer that fits 64 bits, from -2^63 to 2^63-1; a sign is the byte 45
abbrev pub FitsSigned : Bool → ℕ → List ℕ → Type 0
FitsSigned true b w = value_from 0 w ≤ 2 ^ 63
FitsSigned false b w = value_from 0 (b ∷ w) < 2 ^ 63

abbrev pub Fits64 : List ℕ → Type 0
Fits64 [] = Unit {0}
Fits64 (b ∷ w) = FitsSigned (b == 45) b w
