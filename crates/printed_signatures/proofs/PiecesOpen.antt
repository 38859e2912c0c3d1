-- How much is open along pieces.
use Rattle.std.proofs.Common.{max, ℕ, ◌+◌, ◌-◌, ◌≤◌, ◌≡◌, refl, sym, ◌∙◌, ap, subst, Bool, true, false, List, [], ◌∷◌, ◌++◌, arith}
use Rattle.rbs_lexer.specs.declared.token.TokenKind.{TokenKind}
use Rattle.rbs_lexer.specs.declared.token.TokenKind.TheVariants as token
use Rattle.rbs_terminals.specs.declared.token.Token.{Token}
use Rattle.rbs_terminals.specs.declared.token.Gap.{Gap}
use Rattle.rbs_terminals.specs.declared.token.Gap.TheVariants as gap
use Rattle.rbs_terminals.specs.declared.token.Mark.{Mark}
use Rattle.rbs_terminals.specs.declared.token.Mark.TheVariants as mark
use Rattle.rbs_terminals.specs.declared.token.Kind.{Kind}
use Rattle.rbs_terminals.specs.declared.token.Kind.TheVariants as kind
use Rattle.rbs_terminals.specs.Kinds.{kind_at}
use Rattle.rbs_types.specs.Depth.{Depth, surely, counted, deepened, behind}
use Rattle.printed_tokens.specs.Pieces.{Piece, blank, tok}
use Rattle.printed_tokens.specs.Layout.{joined}
use Rattle.printed_tokens.specs.Fits.{Fits}

-- what is open behind pieces
abbrev pub past : Depth → List Piece → Depth
past d [] = d
past d (blank ∷ ps) = past d ps
past d (tok k w ∷ ps) = past (deepened d (kind_at k w)) ps

-- the most that are open at once at a place, and behind each of the pieces that follow
abbrev pub most : Depth → List Piece → ℕ
most d [] = d.sure
most d (blank ∷ ps) = most d ps
most d (tok k w ∷ ps) = max d.sure (most (deepened d (kind_at k w)) ps)

pub past_append : (d : Depth) (ps qs : List Piece) → past d (ps ++ qs) ≡ past (past d ps) qs
past_append d [] qs = refl
past_append d (blank ∷ ps) qs = past_append d ps qs
past_append d (tok k w ∷ ps) qs = past_append (deepened d (kind_at k w)) ps qs

pub most_least : (d : Depth) (ps : List Piece) → d.sure ≤ most d ps
most_least d [] = omega arith
most_least d (blank ∷ ps) = most_least d ps
most_least d (tok k w ∷ ps) = omega arith

pub most_append : (d : Depth) (ps qs : List Piece) (n : ℕ) → most d ps ≤ n → most (past d ps) qs ≤ n → most d (ps ++ qs) ≤ n
most_append d [] qs n h i = i
most_append d (blank ∷ ps) qs n h i = most_append d ps qs n h i
most_append d (tok k w ∷ ps) qs n h i = omega (arith, h, most_append (deepened d (kind_at k w)) ps qs n (omega (arith, h)) i)

-- ---- pieces that close what they open

-- they open `k` more at the most, and close all of that
pub record Level (ps : List Piece) (k : ℕ) : Type 0 where
  pub past : (n : ℕ) → past (surely n) ps ≡ surely n
  pub most : (n : ℕ) → most (surely n) ps ≤ n + k

-- a kind that leaves what is open as it is
abbrev pub is_level : Kind → Bool
is_level (kind.Mark mark.Open) = false
is_level (kind.Mark mark.Close) = false
is_level (kind.Mark mark.OpenSquare) = false
is_level (kind.Mark mark.OpenBrace) = false
is_level (kind.Mark mark.CloseSquare) = false
is_level (kind.Mark mark.CloseBrace) = false
is_level _ = true

mark_stays : (n : ℕ) (m : Mark) → is_level (kind.Mark m) ≡ true → deepened (surely n) (kind.Mark m) ≡ surely n
mark_stays n mark.Open e = absurd cc
mark_stays n mark.Close e = absurd cc
mark_stays n mark.OpenSquare e = absurd cc
mark_stays n mark.OpenBrace e = absurd cc
mark_stays n mark.CloseSquare e = absurd cc
mark_stays n mark.CloseBrace e = absurd cc
mark_stays n _ e = refl

pub stays : (n : ℕ) (k : Kind) → is_level k ≡ true → deepened (surely n) k ≡ surely n
stays n (kind.Mark m) e = mark_stays n m e
stays n (kind.Keyword k) e = refl
stays n _ e = refl

pub level_none : {k : ℕ} → Level [] k
level_none = record { past = λ n. refl; most = λ n. omega arith }

pub level_blank : {ps : List Piece} {k : ℕ} → Level ps k → Level (blank ∷ ps) k
level_blank h = record { past = h.past; most = h.most }

pub level_token : (k : TokenKind) (w : List ℕ) {ps : List Piece} {m : ℕ} → is_level (kind_at k w) ≡ true → Level ps m → Level (tok k w ∷ ps) m
level_token k w {ps = ps} {m = m} e h = record {
  past = λ n. ap (λ d. past d ps) (stays n (kind_at k w) e) ∙ h.past n;
  most = λ n. subst (λ d. max n (most d ps) ≤ n + m) (sym (stays n (kind_at k w) e)) (omega (arith, h.most n));
}

pub level_append : {ps qs : List Piece} {k : ℕ} → Level ps k → Level qs k → Level (ps ++ qs) k
level_append {ps = ps} {qs = qs} {k = k} h i = record {
  past = λ n. past_append (surely n) ps qs ∙ ap (λ d. past d qs) (h.past n) ∙ i.past n;
  most = λ n. most_append (surely n) ps qs (n + k) (h.most n) (subst (λ d. most d qs ≤ n + k) (sym (h.past n)) (i.most n));
}

pub level_more : {ps : List Piece} (k m : ℕ) → k ≤ m → Level ps k → Level ps m
level_more k m l h = record { past = h.past; most = λ n. omega (arith, h.most n) }

-- ---- brackets

pub bracket_past : (n : ℕ) → surely ((n + 1) - 1) ≡ surely n
bracket_past n = ap surely (omega arith)

-- brackets and braces, which are told by their kinds
pub level_bracket : (o c : Mark) {ps : List Piece} {k : ℕ}
    → ((n : ℕ) → deepened (surely n) (kind.Mark o) ≡ surely (n + 1)) → ((n : ℕ) → deepened (surely n) (kind.Mark c) ≡ surely (n - 1))
    → (x y : List ℕ) → kind_at token.Mark x ≡ kind.Mark o → kind_at token.Mark y ≡ kind.Mark c
    → Level ps k → Level (tok token.Mark x ∷ ps ++ tok token.Mark y ∷ []) (1 + k)
level_bracket o c {ps = ps} {k = k} opens closes x y e f h = record { past = through; most = deepest }
  where
    inner : (n : ℕ) → deepened (surely n) (kind_at token.Mark x) ≡ surely (n + 1)
    inner n = ap (deepened (surely n)) e ∙ opens n

    outer : (n : ℕ) → deepened (surely (n + 1)) (kind_at token.Mark y) ≡ surely n
    outer n = ap (deepened (surely (n + 1))) f ∙ closes (n + 1) ∙ bracket_past n

    through : (n : ℕ) → past (surely n) (tok token.Mark x ∷ ps ++ tok token.Mark y ∷ []) ≡ surely n
    through n =
        ap (λ d. past d (ps ++ tok token.Mark y ∷ [])) (inner n) ∙ past_append (surely (n + 1)) ps (tok token.Mark y ∷ []) ∙ ap (λ d. past d (tok token.Mark y ∷ [])) (h.past (n + 1)) ∙ outer n

    last : (n : ℕ) → most (surely (n + 1)) (tok token.Mark y ∷ []) ≤ n + 1
    last n = subst (λ d. max (n + 1) d.sure ≤ n + 1) (sym (outer n)) (omega arith)

    deepest : (n : ℕ) → most (surely n) (tok token.Mark x ∷ ps ++ tok token.Mark y ∷ []) ≤ n + (1 + k)
    deepest n =
        let behind_open : most (surely (n + 1)) (ps ++ tok token.Mark y ∷ []) ≤ n + (1 + k) =
        most_append (surely (n + 1)) ps (tok token.Mark y ∷ []) (n + (1 + k)) (omega (arith, h.most (n + 1))) (subst (λ d. most d (tok token.Mark y ∷ []) ≤ n + (1 + k)) (sym (h.past (n + 1))) (omega (arith, last n))) in
        subst (λ d. max n (most d (ps ++ tok token.Mark y ∷ [])) ≤ n + (1 + k)) (sym (inner n)) (omega (arith, behind_open))

-- an opening parenthesis directly before a place
abbrev pub fresh : ℕ → Depth
fresh n = record { sure = n; fresh = true }

abbrev pub closes_fresh : Kind → Bool
closes_fresh (kind.Mark mark.Close) = true
closes_fresh _ = false

fresh_mark : (n : ℕ) (m : Mark) → closes_fresh (kind.Mark m) ≡ false → deepened (fresh n) (kind.Mark m) ≡ deepened (surely (n + 1)) (kind.Mark m)
fresh_mark n mark.Close e = absurd cc
fresh_mark n _ e = refl

pub fresh_counts : (n : ℕ) (k : Kind) → closes_fresh k ≡ false → deepened (fresh n) k ≡ deepened (surely (n + 1)) k
fresh_counts n (kind.Mark m) e = fresh_mark n m e
fresh_counts n (kind.Keyword k) e = refl
fresh_counts n _ e = refl

-- a token stands first that doesn't close a parenthesis
abbrev pub Begun : List Piece → Type 0
Begun [] = ⊥
Begun (blank ∷ ps) = ⊥
Begun (tok k w ∷ ps) = closes_fresh (kind_at k w) ≡ false

fresh_past : (n : ℕ) (ps : List Piece) → Begun ps → past (fresh n) ps ≡ past (surely (n + 1)) ps
fresh_past n [] b = absurd b
fresh_past n (blank ∷ ps) b = absurd b
fresh_past n (tok k w ∷ ps) b = ap (λ d. past d ps) (fresh_counts n (kind_at k w) b)

fresh_most : (n : ℕ) (ps : List Piece) → Begun ps → most (fresh n) ps ≤ most (surely (n + 1)) ps
fresh_most n [] b = absurd b
fresh_most n (blank ∷ ps) b = absurd b
fresh_most n (tok k w ∷ ps) b = subst (λ d. max n (most d ps) ≤ max (n + 1) (most (deepened (surely (n + 1)) (kind_at k w)) ps)) (sym (fresh_counts n (kind_at k w) b)) (omega arith)

pub begun_append : (ps qs : List Piece) → Begun ps → Begun (ps ++ qs)
begun_append [] qs b = absurd b
begun_append (blank ∷ ps) qs b = absurd b
begun_append (tok k w ∷ ps) qs b = b

-- parentheses
pub level_parentheses : {ps : List Piece} {k : ℕ} → Begun ps → Level ps k → Level (tok token.Mark (40 ∷ []) ∷ ps ++ tok token.Mark (41 ∷ []) ∷ []) (1 + k)
level_parentheses {ps = ps} {k = k} b h = record { past = through; most = deepest }
  where
    through : (n : ℕ) → past (surely n) (tok token.Mark (40 ∷ []) ∷ ps ++ tok token.Mark (41 ∷ []) ∷ []) ≡ surely n
    through n =
        past_append (fresh n) ps (tok token.Mark (41 ∷ []) ∷ []) ∙ ap (λ d. past d (tok token.Mark (41 ∷ []) ∷ [])) (fresh_past n ps b ∙ h.past (n + 1)) ∙ bracket_past n

    deepest : (n : ℕ) → most (surely n) (tok token.Mark (40 ∷ []) ∷ ps ++ tok token.Mark (41 ∷ []) ∷ []) ≤ n + (1 + k)
    deepest n =
        let inside : most (fresh n) (ps ++ tok token.Mark (41 ∷ []) ∷ []) ≤ n + (1 + k) =
        most_append (fresh n) ps (tok token.Mark (41 ∷ []) ∷ []) (n + (1 + k)) (omega (arith, fresh_most n ps b, h.most (n + 1)))
        (subst (λ d. most d (tok token.Mark (41 ∷ []) ∷ []) ≤ n + (1 + k)) (sym (fresh_past n ps b ∙ h.past (n + 1))) (omega arith)) in
        omega (arith, inside)

-- an empty pair of parentheses isn't counted
pub level_empty : {k : ℕ} → Level (tok token.Mark (40 ∷ []) ∷ tok token.Mark (41 ∷ []) ∷ []) k
level_empty = record { past = λ n. refl; most = λ n. omega arith }

-- ---- lists

abbrev pub Levels : List (List Piece) → ℕ → Type 0
Levels [] k = Unit {0}
Levels (r ∷ rs) k = Level r k × Levels rs k

pub levels_append : (rs ss : List (List Piece)) (k : ℕ) → Levels rs k → Levels ss k → Levels (rs ++ ss) k
levels_append [] ss k h i = i
levels_append (r ∷ rs) ss k h i = (h.0, levels_append rs ss k h.1 i)

pub level_joined : (by : List Piece) (rs : List (List Piece)) (k : ℕ) → Level by k → Levels rs k → Level (joined by rs) k
level_joined by [] k b h = level_none
level_joined by (r ∷ []) k b h = h.0
level_joined by (r ∷ s ∷ rs) k b h = level_append (level_append h.0 b) (level_joined by (s ∷ rs) k b h.1)
