-- What a terminal is, but for its text or its value, and what is asked of the next terminal.
use Rattle.std.specs.Prelude.{ℕ, List, [], ◌∷◌, Option, Some, None}
use Rattle.rbs_terminals.specs.declared.token.Kind.{Kind}
use Rattle.rbs_terminals.specs.declared.token.Kind.TheVariants as kind
use Rattle.rbs_terminals.specs.declared.token.Gap.{Gap}
use Rattle.rbs_terminals.specs.declared.token.Token.{Token}
use Rattle.rbs_terminals.specs.declared.sorts.Sort.{Sort}
use Rattle.rbs_terminals.specs.declared.sorts.Sort.TheVariants as sort

abbrev pub sort_of : Kind → Sort
sort_of (kind.Mark m) = sort.Mark m
sort_of (kind.Keyword k) = sort.Keyword k
sort_of (kind.Lower w) = sort.Lower
sort_of (kind.Upper w) = sort.Upper
sort_of (kind.Interface w) = sort.Interface
sort_of (kind.Variable w) = sort.Variable
sort_of (kind.Integer n) = sort.Integer
sort_of (kind.Text w) = sort.Text
sort_of (kind.Symbol w) = sort.Symbol
sort_of (kind.Annotation w) = sort.Annotation
sort_of kind.PastInteger = sort.PastInteger
sort_of kind.Stray = sort.Stray

-- what the next terminal is
abbrev pub next_sort : List Token → Option Sort
next_sort [] = None
next_sort (c ∷ ts) = Some (sort_of c.kind)

-- what stands between the next terminal and the one before it
abbrev pub next_gap : List Token → Option Gap
next_gap [] = None
next_gap (c ∷ ts) = Some c.spot.gap

-- where the terminal before the next one ends
abbrev pub next_before : List Token → Option ℕ
next_before [] = None
next_before (c ∷ ts) = Some c.spot.before
