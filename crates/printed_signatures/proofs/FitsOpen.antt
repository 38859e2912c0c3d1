-- The terminals of pieces open as much as the pieces do.
use Rattle.std.proofs.Common.{max, ℕ, ◌+◌, ◌-◌, ◌≤◌, ◌≡◌, refl, sym, ◌∙◌, ap, subst, List, [], ◌∷◌, ◌++◌, length, take, arith, length-append}
use Rattle.std.proofs.Math.Seq.{take-append_seam}
use Rattle.rbs_terminals.specs.declared.token.Token.{Token}
use Rattle.rbs_terminals.specs.declared.token.Gap.{Gap}
use Rattle.rbs_terminals.specs.declared.token.Gap.TheVariants as gap
use Rattle.rbs_terminals.specs.Kinds.{kind_at}
use Rattle.rbs_types.specs.Depth.{Depth, surely, deepened, behind}
use Rattle.rbs_declarations.specs.Openness.{most_open, types_open}
use Rattle.printed_tokens.specs.Pieces.{Piece, blank, tok}
use Rattle.printed_tokens.specs.Fits.{Fits}
use Rattle.printed_signatures.proofs.PiecesOpen.{most, Level}

pub record Fronts (ps : List Piece) (ts rest : List Token) : Type 0 where
  pub front : List Token
  pub whole : ts ≡ front ++ rest
  pub most : (d : Depth) → most_open d front ≡ most d ps

pub fronts : (g : Gap) (ps : List Piece) (ts rest : List Token) → Fits g ps ts rest → Fronts ps ts rest
fronts g [] ts rest f = record { front = []; whole = f; most = λ d. refl }
fronts g (blank ∷ ps) ts rest f = let h = fronts gap.Blank ps ts rest f in record { front = h.front; whole = h.whole; most = h.most }
fronts g (tok k w ∷ ps) [] rest f = absurd f
fronts g (tok k w ∷ ps) (c ∷ ts) rest f =
    let h = fronts gap.Joined ps ts rest f.2 in
    record {
      front = c ∷ h.front;
      whole = ap (λ r. c ∷ r) h.whole;
      most = λ d. ap (λ m. max d.sure m) (h.most (behind d c)) ∙ ap (λ x. max d.sure (most (deepened d x) ps)) f.0;
    }

front_of : (front rest : List Token) → take (length (front ++ rest) - length rest) (front ++ rest) ≡ front
front_of front rest = ap (λ n. take n (front ++ rest)) (omega (arith, length-append front rest)) ∙ take-append_seam front rest

-- where the pieces open at most so much, the terminals do
pub fits_open : (n k : ℕ) (g : Gap) (ps : List Piece) (ts rest : List Token) → Fits g ps ts rest → most (surely n) ps ≤ k → types_open n ts rest ≤ k
fits_open n k g ps ts rest f l =
    let h = fronts g ps ts rest f in
    let same : take (length ts - length rest) ts ≡ h.front = ap (λ ts. take (length ts - length rest) ts) h.whole ∙ front_of h.front rest in
    subst (λ front. most_open (surely n) front ≤ k) (sym same) (omega (arith, h.most (surely n), l))

pub level_open : (n k : ℕ) (g : Gap) (ps : List Piece) (ts rest : List Token) → Level ps k → Fits g ps ts rest → types_open n ts rest ≤ n + k
level_open n k g ps ts rest l f = fits_open n (n + k) g ps ts rest f (l.most n)
