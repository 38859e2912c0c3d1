-- What a run is, among the fronts that are pieces of its sort.
use Rattle.std.proofs.Common.{ℕ, ◌≡◌, ◌+◌, ◌≤◌, sym, ◌∙◌, subst, List, ◌++◌, length, take, drop, arith, length-take-le, take-append-drop, length-drop}
use Rattle.std.proofs.Math.Seq.{take-add}
use Rattle.rbs_lexer.specs.declared.pieces.Run.{Run}
use Rattle.rbs_lexer.specs.Pieces.{Repeated}
use Rattle.rbs_lexer.specs.Scanned.{IsPiece, NoPiece, IsFirst, IsRun}
use Rattle.rbs_lexer.proofs.SamePieces.{same_piece, repeated_longest, repeated_push}

module _ (r : Run) (bytes : List ℕ) (n : ℕ) (h : IsRun (IsPiece r) bytes n) where
  -- it is the longest front of pieces
  pub run_longest : (w rest : List ℕ) → Repeated (IsPiece r) w → bytes ≡ w ++ rest → length w ≤ n
  run_longest w rest p e =
      let less : length w ≤ length (take n bytes) = repeated_longest (IsPiece r) (same_piece r) h.pieces p (drop n bytes) rest h.stops (take-append-drop n bytes ∙ e) in
      omega (arith, less, length-take-le n bytes h.within)

  -- and the only one behind which none follows
  pub run_only : (w rest : List ℕ) → Repeated (IsPiece r) w → NoPiece (IsPiece r) rest → bytes ≡ w ++ rest → length w ≡ n
  run_only w rest p none e =
      let less : length (take n bytes) ≤ length w = repeated_longest (IsPiece r) (same_piece r) p h.pieces rest (drop n bytes) none (sym e ∙ sym (take-append-drop n bytes)) in
      omega (arith, less, length-take-le n bytes h.within, run_longest w rest p e)

-- one more piece
pub run_more : (r : Run) (bytes : List ℕ) (at n : ℕ) → at ≤ length bytes → Repeated (IsPiece r) (take at bytes) → IsFirst (IsPiece r) (drop at bytes) n
    → (at + n ≤ length bytes) × Repeated (IsPiece r) (take (at + n) bytes)
run_more r bytes at n within p f = (
  omega (arith, f.within, length-drop at bytes),
  subst (Repeated (IsPiece r)) (sym (take-add at n bytes)) (repeated_push (IsPiece r) p f.piece),
)
