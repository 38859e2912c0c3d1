-- How the terminals of pieces divide, where the pieces do.
use Rattle.std.proofs.Common.{ℕ, ◌≡◌, refl, ◌∙◌, ap, subst, List, [], ◌∷◌, ◌++◌}
use Rattle.rbs_lexer.specs.declared.token.TokenKind.{TokenKind}
use Rattle.rbs_lexer.specs.declared.token.TokenKind.TheVariants as token_kind
use Rattle.rbs_terminals.specs.declared.token.Token.{Token}
use Rattle.rbs_terminals.specs.declared.token.Spot.{Spot}
use Rattle.rbs_terminals.specs.declared.token.Gap.{Gap}
use Rattle.rbs_terminals.specs.declared.token.Gap.TheVariants as gap
use Rattle.rbs_terminals.specs.declared.token.Mark.{Mark}
use Rattle.rbs_terminals.specs.declared.token.Keyword.{Keyword}
use Rattle.rbs_terminals.specs.declared.token.Kind.{Kind}
use Rattle.rbs_terminals.specs.declared.token.Kind.TheVariants as kind
use Rattle.rbs_terminals.specs.Kinds.{kind_at, mark_kind, word_kind}
use Rattle.rbs_terminals.specs.Marks.{mark_text}
use Rattle.rbs_terminals.specs.Keywords.{keyword_text}
use Rattle.rbs_terminals.proofs.Words.{mark_back, keyword_back}
use Rattle.rbs_types.specs.Symbols.{token, sign, word}
use Rattle.printed_tokens.specs.Pieces.{Piece, blank, tok}
use Rattle.printed_tokens.specs.Layout as lay
use Rattle.printed_tokens.specs.Fits.{Fits}

-- the gap behind these pieces, which stand behind a gap
abbrev pub gap_behind : Gap → List Piece → Gap
gap_behind g [] = g
gap_behind g (blank ∷ ps) = gap_behind gap.Blank ps
gap_behind g (tok k w ∷ ps) = gap_behind gap.Joined ps

pub split : (g : Gap) (ps qs : List Piece) (ts rest : List Token) → Fits g (ps ++ qs) ts rest → (mid : List Token) × Fits g ps ts mid × Fits (gap_behind g ps) qs mid rest
split g [] qs ts rest f = (ts, refl, f)
split g (blank ∷ ps) qs ts rest f = split gap.Blank ps qs ts rest f
split g (tok k w ∷ ps) qs [] rest f = absurd f
split g (tok k w ∷ ps) qs (c ∷ ts) rest f = let (mid, a, b) = split gap.Joined ps qs ts rest f.2 in (mid, (f.0, f.1, a), b)

-- what the pieces with nothing behind them are
pub unpadded : (g : Gap) (ps : List Piece) (ts rest : List Token) → Fits g (ps ++ []) ts rest → Fits g ps ts rest
unpadded g ps ts rest f = let (mid, a, e) = split g ps [] ts rest f in subst (Fits g ps ts) e a

-- ---- one token

-- what stands behind the first terminal, by another name
pub onward : {ts more us : List Token} {c : Token} → ts ≡ c ∷ more → more ≡ us → ts ≡ c ∷ us
onward {c = c} e f = e ∙ ap (λ more. c ∷ more) f

-- the first of the terminals, whose kind is known, and those behind it
pub first : (g : Gap) (k : TokenKind) (w : List ℕ) (x : Kind) → kind_at k w ≡ x → (ps : List Piece) (ts rest : List Token) → Fits g (tok k w ∷ ps) ts rest
    → (s : Spot) × (more : List Token) × (ts ≡ token x s ∷ more) × (s.gap ≡ g) × Fits gap.Joined ps more rest
first g k w x e ps [] rest f = absurd f
first g k w x e ps (c ∷ ts) rest f = (c.spot, ts, ap (λ y. token y c.spot ∷ ts) (f.0 ∙ e), f.1, f.2)

-- a terminal between pieces
pub between : (g : Gap) (ps : List Piece) (k : TokenKind) (w : List ℕ) (x : Kind) → kind_at k w ≡ x → (qs : List Piece) (ts rest : List Token) → Fits g (ps ++ tok k w ∷ qs) ts rest
    → (s : Spot) × (more : List Token) × Fits g ps ts (token x s ∷ more) × (s.gap ≡ gap_behind g ps) × Fits gap.Joined qs more rest
between g ps k w x e qs ts rest f =
    let (mid, a, b) = split g ps (tok k w ∷ qs) ts rest f in
    let (s, more, at, j, c) = first (gap_behind g ps) k w x e qs mid rest b in
    (s, more, subst (Fits g ps ts) at a, j, c)

-- the same, with a blank before the terminal
pub spaced : (g : Gap) (ps : List Piece) (k : TokenKind) (w : List ℕ) (x : Kind) → kind_at k w ≡ x → (qs : List Piece) (ts rest : List Token) → Fits g (ps ++ blank ∷ tok k w ∷ qs) ts rest
    → (s : Spot) × (more : List Token) × Fits g ps ts (token x s ∷ more) × (s.gap ≡ gap.Blank) × Fits gap.Joined qs more rest
spaced g ps k w x e qs ts rest f =
    let (mid, a, b) = split g ps (blank ∷ tok k w ∷ qs) ts rest f in
    let (s, more, at, j, c) = first gap.Blank k w x e qs mid rest b in
    (s, more, subst (Fits g ps ts) at a, j, c)

-- ---- one mark

pub mark_at : (m : Mark) → kind_at token_kind.Mark (mark_text m) ≡ kind.Mark m
mark_at m = ap mark_kind (mark_back m)

pub keyword_at : (k : Keyword) → kind_at token_kind.Ident (keyword_text k) ≡ kind.Keyword k
keyword_at k = ap (word_kind (keyword_text k)) (keyword_back k)

pub first_mark : (g : Gap) (m : Mark) (ps : List Piece) (ts rest : List Token) → Fits g (lay.sign m ∷ ps) ts rest
    → (s : Spot) × (more : List Token) × (ts ≡ sign m s ∷ more) × (s.gap ≡ g) × Fits gap.Joined ps more rest
first_mark g m ps ts rest f = first g token_kind.Mark (mark_text m) (kind.Mark m) (mark_at m) ps ts rest f

pub first_keyword : (g : Gap) (k : Keyword) (ps : List Piece) (ts rest : List Token) → Fits g (lay.keyword k ∷ ps) ts rest
    → (s : Spot) × (more : List Token) × (ts ≡ word k s ∷ more) × (s.gap ≡ g) × Fits gap.Joined ps more rest
first_keyword g k ps ts rest f = first g token_kind.Ident (keyword_text k) (kind.Keyword k) (keyword_at k) ps ts rest f

pub mark_between : (g : Gap) (ps : List Piece) (m : Mark) (qs : List Piece) (ts rest : List Token) → Fits g (ps ++ lay.sign m ∷ qs) ts rest
    → (s : Spot) × (more : List Token) × Fits g ps ts (sign m s ∷ more) × (s.gap ≡ gap_behind g ps) × Fits gap.Joined qs more rest
mark_between g ps m qs ts rest f = between g ps token_kind.Mark (mark_text m) (kind.Mark m) (mark_at m) qs ts rest f

pub mark_spaced : (g : Gap) (ps : List Piece) (m : Mark) (qs : List Piece) (ts rest : List Token) → Fits g (ps ++ blank ∷ lay.sign m ∷ qs) ts rest
    → (s : Spot) × (more : List Token) × Fits g ps ts (sign m s ∷ more) × (s.gap ≡ gap.Blank) × Fits gap.Joined qs more rest
mark_spaced g ps m qs ts rest f = spaced g ps token_kind.Mark (mark_text m) (kind.Mark m) (mark_at m) qs ts rest f

-- a mark at the end
pub last_mark : (g : Gap) (ps : List Piece) (m : Mark) (ts rest : List Token) → Fits g (ps ++ lay.sign m ∷ []) ts rest → (s : Spot) × Fits g ps ts (sign m s ∷ rest) × (s.gap ≡ gap_behind g ps)
last_mark g ps m ts rest f = let (s, more, a, j, e) = mark_between g ps m [] ts rest f in (s, subst (λ more. Fits g ps ts (sign m s ∷ more)) e a, j)

pub last_spaced : (g : Gap) (ps : List Piece) (m : Mark) (ts rest : List Token) → Fits g (ps ++ blank ∷ lay.sign m ∷ []) ts rest → (s : Spot) × Fits g ps ts (sign m s ∷ rest)
last_spaced g ps m ts rest f = let (s, more, a, j, e) = mark_spaced g ps m [] ts rest f in (s, subst (λ more. Fits g ps ts (sign m s ∷ more)) e a)
