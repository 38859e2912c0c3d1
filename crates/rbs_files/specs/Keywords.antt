-- Keywords that stand next.
use Rattle.std.specs.Prelude.{ℕ, ◌≡◌, Bool, true, false, List, [], ◌∷◌}
use Rattle.rbs_terminals.specs.declared.token.Token.{Token}
use Rattle.rbs_terminals.specs.declared.token.Spot.{Spot}
use Rattle.rbs_terminals.specs.declared.token.Keyword.{Keyword}
use Rattle.rbs_terminals.specs.declared.token.Kind.TheVariants as kind
use Rattle.rbs_types.specs.Symbols.{word}

-- the keyword stands next, and these behind it
abbrev pub Worded : Keyword → List Token → List Token → Type 0
Worded k ts rest = (s : Spot) × (ts ≡ word k s ∷ rest)

-- so too, and the keyword ends at the byte `e`
abbrev pub WordedTo : Keyword → ℕ → List Token → List Token → Type 0
WordedTo k e ts rest = (s : Spot) × (ts ≡ word k s ∷ rest) × (e ≡ s.end)

-- the keyword stands next
abbrev pub IsWordNext : Keyword → List Token → Type 0
IsWordNext k [] = ⊥
IsWordNext k (c ∷ ts) = c.kind ≡ kind.Keyword k

-- the keyword was taken if it stood next
abbrev pub SkipsWord : Keyword → Bool → List Token → List Token → Type 0
SkipsWord k true ts rest = Worded k ts rest
SkipsWord k false ts rest = (ts ≡ rest) × (IsWordNext k ts → ⊥)
