-- What a character begins where a token may begin.
use Rattle.std.specs.Prelude.{ℕ, ◌==◌, if◌then◌else◌}
use Rattle.std.specs.Char.{is_ascii_digit}
use Rattle.source_text.specs.Characters.{is_blank, starts_word}
use Rattle.ruby_tokens.specs.declared.starts.Sort.{Sort}
use Rattle.ruby_tokens.specs.declared.starts.Sort.TheVariants as sort

abbrev pub mark_sort : ℕ → Sort
mark_sort c =
    if c == 35 then sort.Comment
    else if c == 45 then sort.Minus
    else if c == 39 then sort.Single
    else if c == 34 then sort.Double
    else if c == 58 then sort.Symbol
    else if c == 40 then sort.Open
    else if c == 41 then sort.Close
    else if c == 44 then sort.Comma
    else if c == 46 then sort.Dot
    else if c == 61 then sort.Equals
    else if c == 59 then sort.Semicolon
    else if c == 10 then sort.Newline
    else sort.Nothing

abbrev pub sort_of : ℕ → Sort
sort_of c =
    if starts_word c then sort.Word
    else if is_blank c then sort.Blank
    else if c == 48 then sort.Zero
    else if is_ascii_digit c then sort.Digit
    else mark_sort c
