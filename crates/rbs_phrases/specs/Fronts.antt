-- What stands at a place in the terminals of a text, and what stays the same of it as terminals are taken.
use Rattle.std.specs.Prelude.{ℕ, ◌≡◌, ◌+◌, Bool, true, false, ◌&&◌, List, [], ◌∷◌}
use Rattle.rbs_terminals.specs.declared.token.Token.{Token}
use Rattle.rbs_terminals.specs.declared.token.Spot.{Spot}
use Rattle.rbs_terminals.specs.declared.token.Mark.{Mark}
use Rattle.rbs_terminals.specs.declared.token.Mark.TheVariants as mark
use Rattle.rbs_terminals.specs.declared.token.Kind.{Kind}
use Rattle.rbs_terminals.specs.declared.token.Kind.TheVariants as kind
use Rattle.rbs_types.specs.Symbols.{sign}

-- the terminals that are still to come, the byte at which the last one ends that was taken, 0 where none was, and how many brackets were opened by those that were taken
pub record Front : Type 0 where
  pub rest : List Token
  pub end : ℕ
  pub opened : ℕ

abbrev pub opens_by : Kind → ℕ
opens_by (kind.Mark mark.Open) = 1
opens_by (kind.Mark mark.OpenSquare) = 1
opens_by (kind.Mark mark.OpenBrace) = 1
opens_by _ = 0

-- how many parentheses, brackets and braces these open
abbrev pub opens : List Token → ℕ
opens [] = 0
opens (c ∷ ts) = opens_by c.kind + opens ts

-- where the last of these ends, behind what ends at `e`
abbrev pub end_behind : ℕ → List Token → ℕ
end_behind e [] = e
end_behind e (c ∷ ts) = end_behind c.spot.end ts

-- the terminal is no integer past 64 bits
abbrev pub is_small_kind : Kind → Bool
is_small_kind kind.PastInteger = false
is_small_kind _ = true

abbrev pub all_small : List Token → Bool
all_small [] = true
all_small (c ∷ ts) = is_small_kind c.kind && all_small ts

-- of the whole text: how many brackets it opens, where it ends, and whether its integers have 64 bits
pub record Whole : Type 0 where
  pub opens : ℕ
  pub last : ℕ
  pub small : Bool

-- the whole text, from a place on and with what was counted up to it
abbrev pub whole : Front → Whole
whole f = record { opens = f.opened + opens f.rest; last = end_behind f.end f.rest; small = all_small f.rest }

-- the mark stands next, and these behind it
abbrev pub Marked : Mark → List Token → List Token → Type 0
Marked m ts rest = (s : Spot) × (ts ≡ sign m s ∷ rest)

-- the mark stands next
abbrev pub IsNext : Mark → List Token → Type 0
IsNext m [] = ⊥
IsNext m (c ∷ ts) = c.kind ≡ kind.Mark m

-- the mark was taken if it stood next
abbrev pub Skips : Mark → Bool → List Token → List Token → Type 0
Skips m true ts rest = Marked m ts rest
Skips m false ts rest = (ts ≡ rest) × (IsNext m ts → ⊥)
