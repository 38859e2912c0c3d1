-- The literals of Ruby text. In each relation `cs` are the characters from the literal's place on, `rest` those behind it, and `n` is how many bytes it takes.
use Rattle.std.specs.Prelude.{◌≡◌, ◌≢◌, ℕ, ◌+◌, ◌*◌, ◌-◌, ◌<◌, ◌≤◌, ◌^◌, Bool, true, false, not, ◌&&◌, ◌||◌, ◌==◌, List, [], ◌∷◌, ◌++◌, codes, ℤ, pos, negsuc, zero, suc}
use Rattle.std.specs.Char.{is_ascii_digit, is_ascii_uppercase}
use Rattle.names.specs.Places.{is_among}
use Rattle.source_text.specs.Characters.{is_name_character, starts_word, width, Run}

-- Integers.

-- no digit and no underscore follows
abbrev pub EndsDigits : List ℕ → Type 0
EndsDigits [] = Unit {0}
EndsDigits (c ∷ cs) = (is_ascii_digit c || c == 95) ≡ false

-- `Digits m v n cs rest`: further digits, with single underscores between them, make of the number `m` the number `v`.
pub data Digits : ℕ → ℕ → ℕ → List ℕ → List ℕ → Type 0 where
  digits_end : {m : ℕ} {rest : List ℕ} → EndsDigits rest → Digits m m 0 rest rest
  digits_more : {m v n c : ℕ} {cs rest : List ℕ} → is_ascii_digit c ≡ true → Digits (m * 10 + (c - 48)) v n cs rest → Digits m v (n + 1) (c ∷ cs) rest
  digits_under : {m v n c : ℕ} {cs rest : List ℕ} → is_ascii_digit c ≡ true → Digits (m * 10 + (c - 48)) v n cs rest → Digits m v (n + 2) (95 ∷ c ∷ cs) rest

-- behind a leading zero no digit, no underscore and no letter of a base follows
abbrev pub EndsZero : List ℕ → Type 0
EndsZero [] = Unit {0}
EndsZero (c ∷ cs) = (is_ascii_digit c || c == 95 || is_among (c ∷ []) (codes "x" ∷ codes "X" ∷ codes "b" ∷ codes "B" ∷ codes "o" ∷ codes "O" ∷ codes "d" ∷ codes "D" ∷ [])) ≡ false

-- `Magnitude v n cs rest`: a number without a sign.
pub data Magnitude : ℕ → ℕ → List ℕ → List ℕ → Type 0 where
  zero_alone : {rest : List ℕ} → EndsZero rest → Magnitude 0 1 (48 ∷ rest) rest
  nonzero : {v n c : ℕ} {cs rest : List ℕ} → is_ascii_digit c ≡ true → c ≢ 48 → Digits (c - 48) v n cs rest → Magnitude v (n + 1) (c ∷ cs) rest

-- the number below zero by its magnitude, and 0 for 0
abbrev pub negative : ℕ → ℤ
negative zero = pos 0
negative (suc m) = negsuc m

-- `IsInteger z n cs rest`: an integer that fits 64 bits.
pub data IsInteger : ℤ → ℕ → List ℕ → List ℕ → Type 0 where
  plus : {v n : ℕ} {cs rest : List ℕ} → v < 2 ^ 63 → Magnitude v n cs rest → IsInteger (pos v) n cs rest
  minus : {v n : ℕ} {cs rest : List ℕ} → v ≤ 2 ^ 63 → Magnitude v n cs rest → IsInteger (negative v) (n + 1) (45 ∷ cs) rest

-- Strings. `v` is the value, in characters; `n` counts from behind the opening quote to behind the closing one.

-- a character that stands for itself between single quotes: neither a quote nor a backslash
abbrev pub is_single_plain : ℕ → Bool
is_single_plain c = not (c == 39) && not (c == 92)

-- `Single v n cs rest`: what stands behind a single quote. Only `\\` and `\'` are escapes there, and any other backslash stands for itself.
pub data Single : List ℕ → ℕ → List ℕ → List ℕ → Type 0 where
  single_end : {rest : List ℕ} → Single [] 1 (39 ∷ rest) rest
  single_plain : {c n m : ℕ} {v cs rest : List ℕ} → is_single_plain c ≡ true → Single v n cs rest → m ≡ width (c ∷ []) + n → Single (c ∷ v) m (c ∷ cs) rest
  single_quote : {n : ℕ} {v cs rest : List ℕ} → Single v n cs rest → Single (39 ∷ v) (2 + n) (92 ∷ 39 ∷ cs) rest
  single_backslash : {n : ℕ} {v cs rest : List ℕ} → Single v n cs rest → Single (92 ∷ v) (2 + n) (92 ∷ 92 ∷ cs) rest
  single_other : {c n m : ℕ} {v cs rest : List ℕ} → is_single_plain c ≡ true → Single v n cs rest → m ≡ (1 + width (c ∷ [])) + n → Single (92 ∷ c ∷ v) m (92 ∷ c ∷ cs) rest

-- a character that stands for itself between double quotes: no quote, no backslash, no `#`
abbrev pub is_double_plain : ℕ → Bool
is_double_plain c = (not (c == 34) && not (c == 92)) && not (c == 35)

-- what stands for a character behind a backslash between double quotes: `\n`, `\t`, `\"`, `\\` and `\#`
pub data IsEscape : ℕ → ℕ → Type 0 where
  escape_newline : IsEscape 110 10
  escape_tab : IsEscape 116 9
  escape_quote : IsEscape 34 34
  escape_backslash : IsEscape 92 92
  escape_hash : IsEscape 35 35

-- a `{` doesn't follow: `#{` would begin an interpolation
abbrev pub NoBrace : List ℕ → Type 0
NoBrace [] = Unit {0}
NoBrace (c ∷ cs) = c ≢ 123

-- `Double v n cs rest`: what stands behind a double quote.
pub data Double : List ℕ → ℕ → List ℕ → List ℕ → Type 0 where
  double_end : {rest : List ℕ} → Double [] 1 (34 ∷ rest) rest
  double_plain : {c n m : ℕ} {v cs rest : List ℕ} → is_double_plain c ≡ true → Double v n cs rest → m ≡ width (c ∷ []) + n → Double (c ∷ v) m (c ∷ cs) rest
  double_hash : {n : ℕ} {v cs rest : List ℕ} → NoBrace cs → Double v n cs rest → Double (35 ∷ v) (1 + n) (35 ∷ cs) rest
  double_escape : {c d n : ℕ} {v cs rest : List ℕ} → IsEscape c d → Double v n cs rest → Double (d ∷ v) (2 + n) (92 ∷ c ∷ cs) rest

-- Symbols. `v` is the name, in characters; `n` counts from behind the colon.

-- the characters of operators and of the marks behind a name
abbrev pub is_mark : ℕ → Bool
is_mark c = is_among (c ∷ []) (codes "+" ∷ codes "-" ∷ codes "*" ∷ codes "/" ∷ codes "%" ∷ codes "=" ∷ codes "<" ∷ codes ">" ∷ codes "[" ∷ codes "]" ∷ codes "@" ∷ codes "!" ∷ codes "?" ∷ codes "~" ∷ [])

-- no such character follows a symbol: one of them would belong to the name, or begin an operator, which the profile doesn't have
abbrev pub EndsSymbol : List ℕ → Type 0
EndsSymbol [] = Unit {0}
EndsSymbol (c ∷ cs) = is_mark c ≡ false

-- the operators that may be defined
abbrev pub operators : List (List ℕ)
operators = codes "+" ∷ codes "-" ∷ codes "*" ∷ codes "/" ∷ codes "%" ∷ codes "==" ∷ codes "<" ∷ codes "<=" ∷ codes ">" ∷ codes ">=" ∷ codes "<=>"
    ∷ codes "<<" ∷ codes "[]" ∷ codes "[]=" ∷ codes "-@" ∷ []

-- a mark that a name of a method may end with
abbrev pub is_ending : ℕ → Bool
is_ending c = (c == 63 || c == 33) || c == 61

-- the name of an interface, an underscore and then a capital, is no name of a symbol
abbrev pub NotInterface : ℕ → List ℕ → Type 0
NotInterface c [] = Unit {0}
NotInterface c (d ∷ w) = (c == 95 && is_ascii_uppercase d) ≡ false

-- `IsSymbol v n cs rest`: what stands behind the colon of a symbol.
pub data IsSymbol : List ℕ → ℕ → List ℕ → List ℕ → Type 0 where
  symbol_word : {c : ℕ} {w cs rest : List ℕ} → starts_word c ≡ true → Run is_name_character w cs rest → NotInterface c w → EndsSymbol rest → IsSymbol (c ∷ w) (width (c ∷ w)) (c ∷ cs) rest
  symbol_ending : {c d : ℕ} {w cs rest : List ℕ} → starts_word c ≡ true → Run is_name_character w cs (d ∷ rest) → NotInterface c w → is_ending d ≡ true → EndsSymbol rest
      → IsSymbol ((c ∷ w) ++ d ∷ []) (width (c ∷ w) + 1) (c ∷ cs) rest
  symbol_operator : {w cs rest : List ℕ} → Run is_mark w cs rest → is_among w operators ≡ true → IsSymbol w (width w) cs rest
