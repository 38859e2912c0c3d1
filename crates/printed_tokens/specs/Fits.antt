-- Terminals that are those of pieces and lines.
use Rattle.std.specs.Prelude.{◌≡◌, ℕ, List, [], ◌∷◌}
use Rattle.rbs_terminals.specs.declared.token.Token.{Token}
use Rattle.rbs_terminals.specs.declared.token.Gap.{Gap}
use Rattle.rbs_terminals.specs.declared.token.Gap.TheVariants as gap
use Rattle.rbs_terminals.specs.Kinds.{kind_at}
use Rattle.printed_tokens.specs.Pieces.{Piece, blank, tok, Line}

-- the comments that the first terminal carries
abbrev pub comments_at : List Token → List (List ℕ)
comments_at [] = []
comments_at (c ∷ ts) = c.spot.comments

-- `Fits g ps ts rest`: the terminals `ts` begin with those of the pieces, the first of which has the gap `g` before it, and go on with `rest`.
abbrev pub Fits : Gap → List Piece → List Token → List Token → Type 0
Fits g [] ts rest = ts ≡ rest
Fits g (blank ∷ ps) ts rest = Fits gap.Blank ps ts rest
Fits g (tok k w ∷ ps) [] rest = ⊥
Fits g (tok k w ∷ ps) (c ∷ ts) rest = (c.kind ≡ kind_at k w) × (c.spot.gap ≡ g) × Fits gap.Joined ps ts rest

-- the terminals of a line, the first of which carries its comments
abbrev pub FitsLine : Line → List Token → List Token → Type 0
FitsLine l ts rest = Fits gap.Line l.pieces ts rest × (comments_at ts ≡ l.comments)

abbrev pub FitsLines : List Line → List Token → List Token → Type 0
FitsLines [] ts rest = ts ≡ rest
FitsLines (l ∷ ls) ts rest = (mid : List Token) × FitsLine l ts mid × FitsLines ls mid rest
