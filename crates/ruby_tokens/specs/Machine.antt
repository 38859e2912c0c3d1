-- A lexer that takes one character at a time. `at` is where the character stands, in bytes.
use Rattle.std.specs.Prelude.{ℕ, ◌+◌, ◌*◌, ◌-◌, ◌^◌, Bool, true, false, ◌||◌, ◌==◌, nat_le, if◌then◌else◌, List, [], ◌∷◌, ◌++◌, Option, Some, None, codes, encode_utf8, ℤ, pos}
use Rattle.std.specs.Char.{is_ascii_digit, is_ascii_uppercase}
use Rattle.names.specs.Places.{is_among}
use Rattle.source_text.specs.Characters.{is_name_character, starts_word}
use Rattle.ruby_tokens.specs.declared.before.Before.{Before}
use Rattle.ruby_tokens.specs.declared.token.Token.{Token}
use Rattle.ruby_tokens.specs.declared.token.Kind.{Kind}
use Rattle.ruby_tokens.specs.declared.token.Kind.TheVariants as kind
use Rattle.ruby_tokens.specs.declared.mode.Mode.{Mode}
use Rattle.ruby_tokens.specs.declared.mode.Mode.TheVariants as mode
use Rattle.ruby_tokens.specs.declared.mode.Lexer.{Lexer}
use Rattle.ruby_tokens.specs.declared.starts.Sort.{Sort}
use Rattle.ruby_tokens.specs.declared.starts.Sort.TheVariants as sort
use Rattle.ruby_tokens.specs.Starts.{sort_of}
use Rattle.ruby_tokens.specs.Words.{word_kind}
use Rattle.ruby_tokens.specs.Lines.{in_line, behind_comment, next_line, dot_kind}
use Rattle.ruby_tokens.specs.Literals.{negative, is_mark, is_ending, operators}
use Rattle.ruby_tokens.specs.Notes.{is_type_note}

abbrev pub lexer : List Token → Mode → Lexer
lexer tokens m = record { tokens = tokens; mode = m }

-- behind a token that is no newline
abbrev pub between : Mode
between = mode.Between in_line

-- the tokens and one more
abbrev pub with_token : List Token → Kind → ℕ → ℕ → List Token
with_token tokens k start end = tokens ++ record { kind = k; start = start; end = end } ∷ []

-- a comment by whether nothing but blanks stands before it on its line
abbrev pub begin_comment : Bool → Bool → ℕ → Mode
begin_comment true joined at = mode.Note at joined []
begin_comment false joined at = mode.Comment joined

-- a character where a token may begin, behind what `b` says
abbrev pub begin_by : Sort → List Token → Before → ℕ → ℕ → Option Lexer
begin_by sort.Blank tokens b at c = Some (lexer tokens (mode.Between b))
begin_by sort.Comment tokens b at c = Some (lexer tokens (begin_comment b.blank b.joined at))
begin_by sort.Word tokens b at c = Some (lexer tokens (mode.Word at (encode_utf8 c)))
begin_by sort.Zero tokens b at c = Some (lexer tokens (mode.Zero at))
begin_by sort.Digit tokens b at c = Some (lexer tokens (mode.Digits at false (c - 48)))
begin_by sort.Minus tokens b at c = Some (lexer tokens (mode.Minus at))
begin_by sort.Single tokens b at c = Some (lexer tokens (mode.Single at []))
begin_by sort.Double tokens b at c = Some (lexer tokens (mode.Double at []))
begin_by sort.Symbol tokens b at c = Some (lexer tokens (mode.Colon at))
begin_by sort.Open tokens b at c = Some (lexer (with_token tokens kind.Open at (at + 1)) between)
begin_by sort.Close tokens b at c = Some (lexer (with_token tokens kind.Close at (at + 1)) between)
begin_by sort.Comma tokens b at c = Some (lexer (with_token tokens kind.Comma at (at + 1)) between)
begin_by sort.Equals tokens b at c = Some (lexer (with_token tokens kind.Equals at (at + 1)) between)
begin_by sort.Semicolon tokens b at c = Some (lexer (with_token tokens kind.Semicolon at (at + 1)) between)
begin_by sort.Dot tokens b at c = Some (lexer (with_token tokens (dot_kind b) at (at + 1)) between)
begin_by sort.Newline tokens b at c = Some (lexer (with_token tokens kind.Newline at (at + 1)) (mode.Between (next_line b)))
begin_by sort.Nothing tokens b at c = None

abbrev pub begin : List Token → Before → ℕ → ℕ → Option Lexer
begin tokens b at c = begin_by (sort_of c) tokens b at c

-- a character behind a token, which ends there
abbrev pub behind : List Token → Kind → ℕ → ℕ → ℕ → Option Lexer
behind tokens k start at c = begin (with_token tokens k start at) in_line at c

-- the tokens where a comment on a line of its own ends
abbrev pub noted : List Token → ℕ → List ℕ → ℕ → List Token
noted tokens start text at = if is_type_note text then with_token tokens kind.TypeNote start at else tokens

abbrev pub in_comment : List Token → Bool → ℕ → ℕ → Option Lexer
in_comment tokens joined at c = if c == 10 then begin tokens (behind_comment joined) at c else Some (lexer tokens (mode.Comment joined))

abbrev pub in_note : List Token → ℕ → Bool → List ℕ → ℕ → ℕ → Option Lexer
in_note tokens start joined text at c =
    if c == 10 then begin (noted tokens start text at) (behind_comment joined) at c
    else Some (lexer tokens (mode.Note start joined (text ++ c ∷ [])))

abbrev pub in_word : List Token → ℕ → List ℕ → ℕ → ℕ → Option Lexer
in_word tokens start text at c = if is_name_character c then Some (lexer tokens (mode.Word start (text ++ encode_utf8 c))) else behind tokens (word_kind text) start at c

-- how large a number may be, by its sign
abbrev pub limit : Bool → ℕ
limit true = 2 ^ 63
limit false = 2 ^ 63 - 1

abbrev pub signed : Bool → ℕ → ℤ
signed true m = negative m
signed false m = pos m

abbrev pub digit : List Token → ℕ → Bool → ℕ → ℕ → Option Lexer
digit tokens start minus m c = if nat_le (m * 10 + (c - 48)) (limit minus) then Some (lexer tokens (mode.Digits start minus (m * 10 + (c - 48)))) else None

abbrev pub in_minus : List Token → ℕ → ℕ → Option Lexer
in_minus tokens start c = if c == 48 then Some (lexer tokens (mode.Zero start)) else if is_ascii_digit c then Some (lexer tokens (mode.Digits start true (c - 48))) else None

-- what may not follow a leading zero
abbrev pub goes_on_from_zero : ℕ → Bool
goes_on_from_zero c = is_ascii_digit c || c == 95 || is_among (c ∷ []) (codes "x" ∷ codes "X" ∷ codes "b" ∷ codes "B" ∷ codes "o" ∷ codes "O" ∷ codes "d" ∷ codes "D" ∷ [])

abbrev pub in_zero : List Token → ℕ → ℕ → ℕ → Option Lexer
in_zero tokens start at c = if goes_on_from_zero c then None else behind tokens (kind.Integer (pos 0)) start at c

abbrev pub in_digits : List Token → ℕ → Bool → ℕ → ℕ → ℕ → Option Lexer
in_digits tokens start minus m at c =
    if is_ascii_digit c then digit tokens start minus m c
    else if c == 95 then Some (lexer tokens (mode.Underscore start minus m))
    else behind tokens (kind.Integer (signed minus m)) start at c

abbrev pub in_underscore : List Token → ℕ → Bool → ℕ → ℕ → Option Lexer
in_underscore tokens start minus m c = if is_ascii_digit c then digit tokens start minus m c else None

abbrev pub in_single : List Token → ℕ → List ℕ → ℕ → ℕ → Option Lexer
in_single tokens start text at c =
    if c == 39 then Some (lexer (with_token tokens (kind.Text text) start (at + 1)) between)
    else if c == 92 then Some (lexer tokens (mode.SingleEscape start text))
    else Some (lexer tokens (mode.Single start (text ++ encode_utf8 c)))

abbrev pub in_single_escape : List Token → ℕ → List ℕ → ℕ → Option Lexer
in_single_escape tokens start text c =
    if c == 39 || c == 92 then Some (lexer tokens (mode.Single start (text ++ encode_utf8 c)))
    else Some (lexer tokens (mode.Single start ((text ++ encode_utf8 92) ++ encode_utf8 c)))

abbrev pub in_double : List Token → ℕ → List ℕ → ℕ → ℕ → Option Lexer
in_double tokens start text at c =
    if c == 34 then Some (lexer (with_token tokens (kind.Text text) start (at + 1)) between)
    else if c == 92 then Some (lexer tokens (mode.DoubleEscape start text))
    else if c == 35 then Some (lexer tokens (mode.DoubleHash start (text ++ encode_utf8 35)))
    else Some (lexer tokens (mode.Double start (text ++ encode_utf8 c)))

-- what stands for a character behind a backslash between double quotes
abbrev pub escaped : ℕ → Option ℕ
escaped c =
    if c == 110 then Some 10
    else if c == 116 then Some 9
    else if c == 34 then Some 34
    else if c == 92 then Some 92
    else if c == 35 then Some 35
    else None

abbrev pub escape : List Token → ℕ → List ℕ → Option ℕ → Option Lexer
escape tokens start text None = None
escape tokens start text (Some d) = Some (lexer tokens (mode.Double start (text ++ encode_utf8 d)))

abbrev pub in_double_escape : List Token → ℕ → List ℕ → ℕ → Option Lexer
in_double_escape tokens start text c = escape tokens start text (escaped c)

abbrev pub in_double_hash : List Token → ℕ → List ℕ → ℕ → ℕ → Option Lexer
in_double_hash tokens start text at c = if c == 123 then None else in_double tokens start text at c

abbrev pub in_symbol_word : List Token → ℕ → List ℕ → ℕ → ℕ → Option Lexer
in_symbol_word tokens start text at c =
    if is_name_character c then Some (lexer tokens (mode.SymbolWord start (text ++ encode_utf8 c)))
    else if is_ending c then Some (lexer tokens (mode.SymbolEnding start (text ++ encode_utf8 c)))
    else if is_mark c then None
    else behind tokens (kind.Symbol text) start at c

abbrev pub in_symbol_ending : List Token → ℕ → List ℕ → ℕ → ℕ → Option Lexer
in_symbol_ending tokens start text at c = if is_mark c then None else behind tokens (kind.Symbol text) start at c

abbrev pub in_symbol_operator : List Token → ℕ → List ℕ → ℕ → ℕ → Option Lexer
in_symbol_operator tokens start text at c =
    if is_mark c then Some (lexer tokens (mode.SymbolOperator start (text ++ encode_utf8 c)))
    else if is_among text operators then behind tokens (kind.Symbol text) start at c
    else None

abbrev pub in_colon : List Token → ℕ → ℕ → Option Lexer
in_colon tokens start c =
    if c == 95 then Some (lexer tokens (mode.Under start))
    else if starts_word c then Some (lexer tokens (mode.SymbolWord start (encode_utf8 c)))
    else if is_mark c then Some (lexer tokens (mode.SymbolOperator start (encode_utf8 c)))
    else None

abbrev pub in_under : List Token → ℕ → ℕ → ℕ → Option Lexer
in_under tokens start at c = if is_ascii_uppercase c then None else in_symbol_word tokens start (encode_utf8 95) at c

abbrev pub step : List Token → Mode → ℕ → ℕ → Option Lexer
step tokens (mode.Between b) at c = begin tokens b at c
step tokens (mode.Comment joined) at c = in_comment tokens joined at c
step tokens (mode.Note start joined text) at c = in_note tokens start joined text at c
step tokens (mode.Word start text) at c = in_word tokens start text at c
step tokens (mode.Minus start) at c = in_minus tokens start c
step tokens (mode.Zero start) at c = in_zero tokens start at c
step tokens (mode.Digits start minus m) at c = in_digits tokens start minus m at c
step tokens (mode.Underscore start minus m) at c = in_underscore tokens start minus m c
step tokens (mode.Single start text) at c = in_single tokens start text at c
step tokens (mode.SingleEscape start text) at c = in_single_escape tokens start text c
step tokens (mode.Double start text) at c = in_double tokens start text at c
step tokens (mode.DoubleEscape start text) at c = in_double_escape tokens start text c
step tokens (mode.DoubleHash start text) at c = in_double_hash tokens start text at c
step tokens (mode.Colon start) at c = in_colon tokens start c
step tokens (mode.Under start) at c = in_under tokens start at c
step tokens (mode.SymbolWord start text) at c = in_symbol_word tokens start text at c
step tokens (mode.SymbolEnding start text) at c = in_symbol_ending tokens start text at c
step tokens (mode.SymbolOperator start text) at c = in_symbol_operator tokens start text at c

-- the tokens where the text ends
abbrev pub ends : List Token → Mode → ℕ → Option (List Token)
ends tokens (mode.Between b) at = Some tokens
ends tokens (mode.Comment joined) at = Some tokens
ends tokens (mode.Note start joined text) at = Some (noted tokens start text at)
ends tokens (mode.Word start text) at = Some (with_token tokens (word_kind text) start at)
ends tokens (mode.Zero start) at = Some (with_token tokens (kind.Integer (pos 0)) start at)
ends tokens (mode.Digits start minus m) at = Some (with_token tokens (kind.Integer (signed minus m)) start at)
ends tokens (mode.Under start) at = Some (with_token tokens (kind.Symbol (encode_utf8 95)) start at)
ends tokens (mode.SymbolWord start text) at = Some (with_token tokens (kind.Symbol text) start at)
ends tokens (mode.SymbolEnding start text) at = Some (with_token tokens (kind.Symbol text) start at)
ends tokens (mode.SymbolOperator start text) at = if is_among text operators then Some (with_token tokens (kind.Symbol text) start at) else None
ends tokens _ at = None
