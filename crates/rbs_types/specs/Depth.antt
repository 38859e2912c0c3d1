-- How many parentheses, brackets and braces are open at a place. An empty pair of parentheses isn't counted, so an opening one counts from the token behind it on.
use Rattle.std.specs.Prelude.{ℕ, ◌+◌, ◌-◌, Bool, true, false, if◌then◌else◌, List}
use Rattle.rbs_terminals.specs.declared.token.Token.{Token}
use Rattle.rbs_terminals.specs.declared.token.Mark.TheVariants as mark
use Rattle.rbs_terminals.specs.declared.token.Kind.{Kind}
use Rattle.rbs_terminals.specs.declared.token.Kind.TheVariants as kind
use Rattle.viable_prefixes.specs.Runs as runs

-- what is open, aside from an opening parenthesis directly before the place
pub record Depth : Type 0 where
  pub sure : ℕ
  pub fresh : Bool

abbrev pub surely : ℕ → Depth
surely n = record { sure = n; fresh = false }

-- what is open once something stands behind the parenthesis that doesn't close it
abbrev pub counted : Depth → ℕ
counted d = if d.fresh then d.sure + 1 else d.sure

abbrev pub closed_paren : ℕ → Bool → Depth
closed_paren n true = surely n
closed_paren n false = surely (n - 1)

abbrev pub deepened : Depth → Kind → Depth
deepened d (kind.Mark mark.Open) = record { sure = counted d; fresh = true }
deepened d (kind.Mark mark.Close) = closed_paren d.sure d.fresh
deepened d (kind.Mark mark.OpenSquare) = surely (counted d + 1)
deepened d (kind.Mark mark.OpenBrace) = surely (counted d + 1)
deepened d (kind.Mark mark.CloseSquare) = surely (counted d - 1)
deepened d (kind.Mark mark.CloseBrace) = surely (counted d - 1)
deepened d _ = surely (counted d)

abbrev pub behind : Depth → Token → Depth
behind d c = deepened d c.kind

-- at no place are more open than that
abbrev pub OpenAtMost : ℕ → Depth → List Token → Type 0
OpenAtMost limit d ts = runs.OpenAtMost behind (λ d. d.sure) limit d ts
