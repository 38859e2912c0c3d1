-- Runs of a machine whose states all keep to a limit.
use Rattle.std.proofs.Common.{◌≡◌, refl, sym, ◌∙◌, ap, subst, List, [], ◌∷◌, ◌++◌, append-nil, Option, Some, None, option_and_then}
use Rattle.viable_prefixes.specs.Runs.{reads}

pub some_same : {A : Type 0} (x y : A) → Some x ≡ Some y → x ≡ y
some_same x y e = cc

pub none_some : {A : Type 0} (o : Option A) (x : A) → o ≡ None → o ≡ Some x → ⊥
none_some o x e f = cc

-- what is left of a text behind a token that the machine takes or refuses
pub then_taken : {S X : Type 0} (o : Option S) (f : S → Option X) (x : X) → option_and_then f o ≡ Some x → (m : S) × (o ≡ Some m) × (f m ≡ Some x)
then_taken None f x e = absurd (cc)
then_taken (Some m) f x e = (m, refl, e)

-- the run takes the tokens, and each state on the way is within the limits
abbrev pub Goes : {S T : Type 0} → (S → T → Option S) → (S → T → Type 0) → S → List T → S → Type 0
Goes next Within s [] e = s ≡ e
Goes next Within s (t ∷ ts) e = (m : _) × (next s t ≡ Some m) × Within m t × Goes next Within m ts e

module _ {S T : Type 0} (next : S → T → Option S) (Within : S → T → Type 0) where
  pub goes_more : (ts : List T) (s e m : S) (t : T) → Goes next Within s ts e → next e t ≡ Some m → Within m t → Goes next Within s (ts ++ t ∷ []) m
  goes_more [] s e m t h n w = (m, subst (λ s. next s t ≡ Some m) (sym h) n, w, refl)
  goes_more (u ∷ ts) s e m t h n w = (h.0, h.1, h.2, goes_more ts h.0 e m t h.3 n w)

  -- a run through a front goes by the state that the front leads to
  pub goes_split : (ts rest : List T) (s e a : S) → Goes next Within s ts e → Goes next Within s (ts ++ rest) a → Goes next Within e rest a
  goes_split [] rest s e a g h = subst (λ s. Goes next Within s rest a) g h
  goes_split (t ∷ ts) rest s e a g h =
      goes_split ts rest g.0 e a g.3 (subst (λ m. Goes next Within m (ts ++ rest) a) (some_same h.0 g.0 (sym h.1 ∙ g.1)) h.3)

  -- the state behind some tokens is one
  pub goes_one : (ts : List T) (s e a : S) → Goes next Within s ts e → Goes next Within s ts a → e ≡ a
  goes_one ts s e a g h = goes_split ts [] s e a g (subst (λ us. Goes next Within s us a) (sym (append-nil ts)) h)

  pub goes_reads : {X : Type 0} (final : S → Option X) (ts : List T) (s e : S) (rest : List T) → Goes next Within s ts e → reads next final s (ts ++ rest) ≡ reads next final e rest
  unfolding reads
  goes_reads final [] s e rest h = ap (λ s. reads next final s rest) h
  goes_reads final (t ∷ ts) s e rest h =
      ap (option_and_then (λ m. reads next final m (ts ++ rest))) h.1 ∙ goes_reads final ts h.0 e rest h.3
