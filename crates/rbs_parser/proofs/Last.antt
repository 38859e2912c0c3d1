-- Where the last token ends.
use Rattle.std.proofs.Common.{ℕ, zero, suc, ◌-◌, ◌≡◌, refl, sym, ap, subst, List, [], ◌∷◌, length, Some, arith, slice_get}
use Rattle.rbs_lexer.specs.declared.token.SigToken.{SigToken}
use Rattle.rbs_parser.specs.Texts.{end_of_last}

same : (u t : SigToken) → Some u ≡ Some t → u ≡ t
same u t e = cc

last_is : (ts : List SigToken) (i : ℕ) (t : SigToken) → length ts ≡ suc i → slice_get ts i ≡ Some t → t.place.end ≡ end_of_last ts
last_is [] i t l e = absurd (omega (arith, l))
last_is (u ∷ []) zero t l e = sym (ap (λ (t : SigToken). t.place.end) (same u t e))
last_is (u ∷ []) (suc i) t l e = absurd (omega (arith, l))
last_is (u ∷ v ∷ ts) zero t l e = absurd (omega (arith, l))
last_is (u ∷ v ∷ ts) (suc i) t l e = last_is (v ∷ ts) i t (omega (arith, l)) e

behind_last : (n : ℕ) → suc n - 1 ≡ n
behind_last n = omega arith

pub last_ends : (ts : List SigToken) (t : SigToken) → slice_get ts (length ts - 1) ≡ Some t → t.place.end ≡ end_of_last ts
last_ends [] t e = absurd (cc)
last_ends (u ∷ ts) t e = last_is (u ∷ ts) (length ts) t refl (subst (λ i. slice_get (u ∷ ts) i ≡ Some t) (behind_last (length ts)) e)
