-- What the next terminal is, as far as a reader asks before it takes it.
use Rattle.std.specs.Prelude.{ℕ, Bool, true, false, List, [], ◌∷◌, Option, Some, None}
use Rattle.rbs_terminals.specs.declared.token.Token.{Token}
use Rattle.rbs_terminals.specs.declared.token.Mark.{Mark}
use Rattle.rbs_terminals.specs.declared.token.Mark.TheVariants as mark
use Rattle.rbs_terminals.specs.declared.token.Keyword.{Keyword}
use Rattle.rbs_terminals.specs.declared.sorts.Sort.{Sort}
use Rattle.rbs_terminals.specs.declared.sorts.Sort.TheVariants as sort
use Rattle.rbs_terminals.specs.Sorts.{next_sort}
use Rattle.rbs_types.specs.Symbols.{on_line}

-- how many parentheses, brackets and braces a terminal opens, by its sort
abbrev pub opens_by_sort : Sort → ℕ
opens_by_sort (sort.Mark mark.Open) = 1
opens_by_sort (sort.Mark mark.OpenSquare) = 1
opens_by_sort (sort.Mark mark.OpenBrace) = 1
opens_by_sort _ = 0

-- the terminal is no integer past 64 bits, by its sort
abbrev pub is_small_sort : Sort → Bool
is_small_sort sort.PastInteger = false
is_small_sort _ = true

abbrev pub mark_of : Option Sort → Option Mark
mark_of (Some (sort.Mark m)) = Some m
mark_of _ = None

abbrev pub keyword_of : Option Sort → Option Keyword
keyword_of (Some (sort.Keyword k)) = Some k
keyword_of _ = None

-- the mark that is next
abbrev pub next_mark : List Token → Option Mark
next_mark ts = mark_of (next_sort ts)

-- the keyword that is next
abbrev pub next_keyword : List Token → Option Keyword
next_keyword ts = keyword_of (next_sort ts)

-- the next terminal stands on the line of the one before it
abbrev pub on_line_next : List Token → Bool
on_line_next [] = false
on_line_next (c ∷ ts) = on_line c.spot
