-- Bytes divide into tokens in one way.
use Rattle.std.proofs.Common.{ℕ, ◌≡◌, ◌+◌, ◌≤◌, true, false, refl, sym, ◌∙◌, ap, subst, List, [], ◌∷◌, length, take, drop, get_or, arith, length-take-le, take-append-drop}
use Rattle.rbs_lexer.specs.declared.token.TokenKind.{TokenKind}
use Rattle.rbs_lexer.specs.declared.token.TokenKind.TheVariants as kind
use Rattle.rbs_lexer.specs.declared.token.SigToken.{SigToken}
use Rattle.rbs_lexer.specs.Integers.{Fits64}
use Rattle.rbs_lexer.specs.Kinds.{IsToken, marks}
use Rattle.rbs_lexer.specs.Longest.{BeginsNone, BeginsWith}
use Rattle.rbs_lexer.specs.Division.{is_gap, IsFit, span, token_of, End, Divides, at_end, at_gap, at_token, at_stray, at_past}
use Rattle.rbs_lexer.proofs.Listed.{Each, among_each}
use Rattle.rbs_lexer.proofs.FirstBytes.{clash, empty_token, begins_none}
use Rattle.rbs_lexer.proofs.OneKind.{one_kind}

-- a token begins bytes, and none does
begins_both : (k : TokenKind) (n : ℕ) (bytes : List ℕ) → BeginsWith k n bytes → BeginsNone bytes → ⊥
begins_both k n bytes h none = none k (take n bytes) (drop n bytes) h.token (sym (take-append-drop n bytes))

begins_some : (k : TokenKind) (n : ℕ) → BeginsWith k n [] → ⊥
begins_some k n h =
    let nothing : n ≡ 0 = omega (arith, h.within) in
    empty_token k (subst (λ n. IsToken k (take n [])) nothing h.token)

no_more : (j k : TokenKind) (n m : ℕ) (bytes : List ℕ) → BeginsWith j n bytes → BeginsWith k m bytes → n ≤ m
no_more j k n m bytes h g =
    let less : length (take n bytes) ≤ m = g.longest j (take n bytes) (drop n bytes) h.token (sym (take-append-drop n bytes)) in
    omega (arith, less, length-take-le n bytes h.within)

same_size : (j k : TokenKind) (n m : ℕ) (bytes : List ℕ) → BeginsWith j n bytes → BeginsWith k m bytes → n ≡ m
same_size j k n m bytes h g = omega (arith, no_more j k n m bytes h g, no_more k j m n bytes g h)

same_kind : (j k : TokenKind) (n m : ℕ) (bytes : List ℕ) → BeginsWith j n bytes → BeginsWith k m bytes → j ≡ k
same_kind j k n m bytes h g = one_kind j k (take m bytes) (subst (λ n. IsToken j (take n bytes)) (same_size j k n m bytes h g) h.token) g.token

-- a blank or a newline begins no token
mark_no_gap : Each (λ w. is_gap (get_or w 0 0) ≡ false) marks
mark_no_gap = (
  refl,
  (refl, (refl, (refl, (refl, (refl, (refl, (refl, (refl, (refl, (refl, (refl, (refl, (refl, (refl, (refl, (refl, (refl, (refl, (refl, (refl, (refl, (refl, (refl, (refl, (refl, tt))))))))))))))))))))))))),
)

gap_token : (b : ℕ) → is_gap b ≡ true → (j : TokenKind) (v : List ℕ) → IsToken j (b ∷ v) → ⊥
gap_token b g kind.Mark v h = clash (sym (among_each (λ w. is_gap (get_or w 0 0) ≡ false) (b ∷ v) marks mark_no_gap h) ∙ g)
gap_token b g _ v h = grind arith

gap_none : (b : ℕ) (bytes : List ℕ) → is_gap b ≡ true → BeginsNone (b ∷ bytes)
gap_none b bytes g = begins_none b bytes (λ j v rest p e. gap_token b g j v p)

module _ (file : ℕ) where
  -- a token that is an integer past 64 bits isn't one within
  fit_or_past : (j : TokenKind) (n m : ℕ) (bytes : List ℕ) → BeginsWith j n bytes → IsFit j (take n bytes) → BeginsWith kind.Int m bytes → (Fits64 (take m bytes) → ⊥) → ⊥
  fit_or_past j n m bytes h f g none =
      none (subst (λ n. Fits64 (take n bytes)) (same_size j kind.Int n m bytes h g) (subst (λ k. IsFit k (take n bytes)) (same_kind j kind.Int n m bytes h g) f))

  pub divides_only : {at : ℕ} {ts us : List SigToken} {e f : End} {bytes : List ℕ} → Divides file at ts e bytes → Divides file at us f bytes → (us ≡ ts) × (f ≡ e)
  divides_only at_end at_end = (refl, refl)
  divides_only at_end (at_token {n = n} {k = k} h i d) = absurd (begins_some k n h)
  divides_only at_end (at_past {n = n} h i) = absurd (begins_some kind.Int n h)
  divides_only (at_gap g d) (at_gap i c) = divides_only d c
  divides_only (at_gap {b = b} {bytes = bytes} g d) (at_token {n = n} {k = k} h i c) = absurd (begins_both k n (b ∷ bytes) h (gap_none b bytes g))
  divides_only (at_gap g d) (at_stray i c) = absurd (clash (sym i ∙ g))
  divides_only (at_gap {b = b} {bytes = bytes} g d) (at_past {n = n} h i) = absurd (begins_both kind.Int n (b ∷ bytes) h (gap_none b bytes g))
  divides_only (at_token {n = n} {k = k} h i d) at_end = absurd (begins_some k n h)
  divides_only (at_token {n = n} {k = k} h i d) (at_gap {b = b} {bytes = bytes} g c) = absurd (begins_both k n (b ∷ bytes) h (gap_none b bytes g))
  divides_only {at = at} {us = us} {f = f} {bytes = bytes} (at_token {n = n} {k = j} {ts = ts} h i d) (at_token {n = m} {k = k} {ts = vs} g l c) =
      let size : m ≡ n = same_size k j m n bytes g h in
      let is : k ≡ j = same_kind k j m n bytes g h in
      let rest = divides_only d (subst (λ m. Divides file (at + m) vs f (drop m bytes)) size c) in
      (ap (λ k. token_of k (span file at (at + m)) ∷ vs) is ∙ ap (λ m. token_of j (span file at (at + m)) ∷ vs) size ∙ ap (λ vs. token_of j (span file at (at + n)) ∷ vs) rest.0, rest.1)
  divides_only (at_token {n = n} {k = k} h i d) (at_stray {b = b} {bytes = bytes} g c) = absurd (begins_both k n (b ∷ bytes) h c)
  divides_only {bytes = bytes} (at_token {n = n} {k = k} h i d) (at_past {n = m} g c) = absurd (fit_or_past k n m bytes h i g c)
  divides_only (at_stray i c) (at_gap g d) = absurd (clash (sym i ∙ g))
  divides_only (at_stray {b = b} {bytes = bytes} g c) (at_token {n = n} {k = k} h i d) = absurd (begins_both k n (b ∷ bytes) h c)
  divides_only (at_stray i c) (at_stray j d) = (refl, refl)
  divides_only (at_stray {b = b} {bytes = bytes} g c) (at_past {n = n} h i) = absurd (begins_both kind.Int n (b ∷ bytes) h c)
  divides_only (at_past {n = n} h i) at_end = absurd (begins_some kind.Int n h)
  divides_only (at_past {n = n} h i) (at_gap {b = b} {bytes = bytes} g d) = absurd (begins_both kind.Int n (b ∷ bytes) h (gap_none b bytes g))
  divides_only {bytes = bytes} (at_past {n = m} g c) (at_token {n = n} {k = k} h i d) = absurd (fit_or_past k n m bytes h i g c)
  divides_only (at_past {n = n} h i) (at_stray {b = b} {bytes = bytes} g c) = absurd (begins_both kind.Int n (b ∷ bytes) h c)
  divides_only (at_past h i) (at_past g c) = (refl, refl)
