-- Where the tokens of a division stand.
use Rattle.std.proofs.Common.{ℕ, zero, suc, ◌≡◌, ◌+◌, ◌-◌, ◌<◌, ◌≤◌, true, refl, sym, ◌∙◌, ap, subst, List, [], ◌∷◌, length, take, drop, arith, drop-drop, length-drop}
use Rattle.std.proofs.Math.Seq.{take-length}
use Rattle.std.specs.Prelude.{slice_range}
use Rattle.rbs_lexer.specs.declared.token.TokenKind.{TokenKind}
use Rattle.rbs_lexer.specs.declared.token.TokenKind.TheVariants as kind
use Rattle.rbs_lexer.specs.declared.token.SigToken.{SigToken}
use Rattle.sig_model.specs.declared.place.Place.{Place}
use Rattle.rbs_lexer.specs.declared.refused.LexRefused.TheVariants as refused
use Rattle.rbs_lexer.specs.Integers.{Fits64}
use Rattle.rbs_lexer.specs.Kinds.{IsToken}
use Rattle.rbs_lexer.specs.Longest.{BeginsNone, BeginsWith}
use Rattle.rbs_lexer.specs.Division.{is_gap, span, token_of, End, whole, stray, past, Divides, at_end, at_gap, at_token, at_stray, at_past}
use Rattle.rbs_lexer.specs.Standing.{AreGaps, StandsBehind, Stand, stop_of, StandUpTo, StopsAt, StandsRefused}
use Rattle.rbs_lexer.proofs.FirstBytes.{empty_token}

module _ (file : ℕ) (bytes : List ℕ) where
  -- the bytes behind a byte
  pub behind : (at b : ℕ) (rest : List ℕ) → b ∷ rest ≡ drop at bytes → rest ≡ drop (at + 1) bytes
  behind at b rest e = ap (drop 1) e ∙ drop-drop 1 at bytes

  slice_more : (at m b : ℕ) (rest : List ℕ) → b ∷ rest ≡ drop at bytes → at + 1 ≤ m → slice_range bytes at m ≡ b ∷ slice_range bytes (at + 1) m
  slice_more at m b rest e l =
      let long : m - at ≡ suc (m - (at + 1)) = omega arith in
      ap (λ n. take n (drop at bytes)) long ∙ ap (take (suc (m - (at + 1)))) (sym e) ∙ ap (λ rest. b ∷ take (m - (at + 1)) rest) (behind at b rest e)

  behind_gap : (at b : ℕ) (rest : List ℕ) (t : SigToken) → is_gap b ≡ true → b ∷ rest ≡ drop at bytes → StandsBehind file bytes (at + 1) t → StandsBehind file bytes at t
  behind_gap at b rest t g e first = record {
    its_file = first.its_file;
    after = omega (arith, first.after);
    some = first.some;
    within = first.within;
    gaps = subst AreGaps (sym (slice_more at t.place.start b rest e first.after)) (g, first.gaps);
    text = first.text;
    longest = first.longest;
  }

  stand_gap : (to at b : ℕ) (rest : List ℕ) (ts : List SigToken) → is_gap b ≡ true → b ∷ rest ≡ drop at bytes → StandUpTo file bytes to (at + 1) ts → StandUpTo file bytes to at ts
  stand_gap to at b rest [] g e s = (omega (arith, s.0), subst AreGaps (sym (slice_more at to b rest e s.0)) (g, s.1))
  stand_gap to at b rest (t ∷ ts) g e s = (behind_gap at b rest t g e s.0, s.1)

  size_is : (at n : ℕ) → (at + n) - at ≡ n
  size_is at n = omega arith

  nothing : (at : ℕ) → AreGaps (slice_range bytes at at)
  nothing at = let none : at - at ≡ 0 = omega arith in subst (λ n. AreGaps (take n (drop at bytes))) (sym none) tt

  size_some : (k : TokenKind) (n : ℕ) (rest : List ℕ) → BeginsWith k n rest → 0 < n
  size_some k zero rest h = absurd (empty_token k h.token)
  size_some k (suc n) rest h = omega arith

  stand_token : (at n : ℕ) (k : TokenKind) → BeginsWith k n (drop at bytes) → StandsBehind file bytes at (token_of k (span file at (at + n)))
  stand_token at n k h = record {
    its_file = refl;
    after = omega arith;
    some = omega (arith, size_some k n (drop at bytes) h);
    within = omega (arith, h.within, length-drop at bytes, size_some k n (drop at bytes) h);
    gaps = nothing at;
    text = subst (λ n. IsToken k (take n (drop at bytes))) (sym (size_is at n)) h.token;
    longest = λ j w rest p e. omega (arith, h.longest j w rest p e);
  }

  to_end : (at : ℕ) → slice_range bytes at (length bytes) ≡ drop at bytes
  to_end at = ap (λ n. take n (drop at bytes)) (sym (length-drop at bytes)) ∙ take-length (drop at bytes)

  stand_from : {at : ℕ} {ts : List SigToken} {end : End} {rest : List ℕ} → Divides file at ts end rest → rest ≡ drop at bytes → at ≤ length bytes
      → StandUpTo file bytes (stop_of bytes end) at ts
  stand_from {at = at} at_end e l = (l, subst AreGaps (e ∙ sym (to_end at)) tt)
  stand_from {end = end} (at_gap {at = at} {b = b} {ts = ts} {bytes = rest} g d) e l =
      stand_gap (stop_of bytes end) at b rest ts g e (stand_from d (behind at b rest e) (omega (arith, ap length e, length-drop at bytes)))
  stand_from {rest = rest} (at_token {at = at} {n = n} {k = k} h f d) e l =
      let begins = subst (BeginsWith k n) e h in
      (stand_token at n k begins, stand_from d (ap (drop n) e ∙ drop-drop n at bytes) (omega (arith, l, begins.within, length-drop at bytes)))
  stand_from (at_stray {at = at} g h) e l = (omega arith, nothing at)
  stand_from (at_past {at = at} h f) e l = (omega arith, nothing at)

  pub stand_up_to : (ts : List SigToken) (end : End) → Divides file 0 ts end bytes → StandUpTo file bytes (stop_of bytes end) 0 ts
  stand_up_to ts end d = stand_from d refl (omega arith)

  to_last : (at : ℕ) (ts : List SigToken) → StandUpTo file bytes (length bytes) at ts → Stand file bytes at ts
  to_last at [] s = subst AreGaps (to_end at) s.1
  to_last at (t ∷ ts) s = (s.0, to_last t.place.end ts s.1)

  pub stand : (ts : List SigToken) → Divides file 0 ts whole bytes → Stand file bytes 0 ts
  stand ts d = to_last 0 ts (stand_up_to ts whole d)

  stops_from : {at : ℕ} {ts : List SigToken} {end : End} {rest : List ℕ} → Divides file at ts end rest → rest ≡ drop at bytes → StopsAt bytes end
  stops_from at_end e = tt
  stops_from (at_gap {at = at} {b = b} {bytes = rest} g d) e = stops_from d (behind at b rest e)
  stops_from (at_token {at = at} {n = n} h f d) e = stops_from d (ap (drop n) e ∙ drop-drop n at bytes)
  stops_from (at_stray {at = at} {b = b} {bytes = rest} g h) e = (omega (arith, ap length e, length-drop at bytes), subst BeginsNone e h)
  stops_from (at_past {n = n} h f) e = (n, subst (BeginsWith kind.Int n) e h, subst (λ rest. Fits64 (take n rest) → ⊥) e f)

  pub stops : (ts : List SigToken) (end : End) → Divides file 0 ts end bytes → StopsAt bytes end
  stops ts end d = stops_from d refl

  pub stand_stray : (place : Place) (ts : List SigToken) (at : ℕ) → place ≡ span file at at → Divides file 0 ts (stray at) bytes → StandsRefused file bytes (refused.Fault place)
  stand_stray place ts at e d = let h = stops ts (stray at) d in (at, e, h.0, h.1)

  pub stand_past : (place : Place) (ts : List SigToken) (at : ℕ) → place ≡ span file at at → Divides file 0 ts (past at) bytes → StandsRefused file bytes (refused.Limit place)
  stand_past place ts at e d = let h = stops ts (past at) d in (at, h.0, e, h.1, h.2)
