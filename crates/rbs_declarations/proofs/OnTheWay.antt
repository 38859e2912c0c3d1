-- What is read from a place on, with the most that are open at once on the way.
use Rattle.std.proofs.Common.{ℕ, max, ◌+◌, ◌≡◌, refl, ◌∙◌, ap, sym, Option, arith}
use Rattle.sig_model.specs.PlainDecl.{PlainDecls}

-- the most that are open at once behind one of the tokens, and the declarations that they spell
pub record Read : Type 0 where
  pub most : ℕ
  pub spelled : Option PlainDecls

abbrev pub ended : Option PlainDecls → Read
ended o = record { most = 0; spelled = o }

-- so many are open at a place before
pub at_least : ℕ → Read → Read
at_least n r = record { most = max n r.most; spelled = r.spelled }

pub least_spells : (n : ℕ) (r : Read) → (at_least n r).spelled ≡ r.spelled
unfolding at_least
least_spells n r = refl

pub least_most : (n : ℕ) (r : Read) → (at_least n r).most ≡ max n r.most
unfolding at_least
least_most n r = refl

pub counted : {m n : ℕ} (r : Read) → m ≡ n → at_least m r ≡ at_least n r
counted r e = ap (λ n. at_least n r) e

pub both : (m n : ℕ) (r : Read) → at_least m (at_least n r) ≡ at_least (max m n) r
unfolding at_least
both m n r = let e : max m (max n r.most) ≡ max (max m n) r.most = omega arith in ap (λ k. record { most = k; spelled = r.spelled }) e

-- a lower number before makes no difference
pub over : (m n k : ℕ) (r : Read) → max m n ≡ k → at_least m (at_least n r) ≡ at_least k r
over m n k r e = both m n r ∙ counted r e

pub twice : (n : ℕ) (r : Read) → at_least n (at_least n r) ≡ at_least n r
twice n r = over n n n r (omega arith)

-- ---- ways from one place to another

-- on the way from one place to another no more are open than the `n` before it
abbrev pub Calm : ℕ → Read → Read → Type 0
Calm n a b = at_least n a ≡ at_least n b

-- where `n` are open before it, `k` more are open at most
abbrev pub Rises : ℕ → ℕ → Read → Read → Type 0
Rises n k a b = at_least n a ≡ at_least (n + k) b

-- a calm way
pub flat : {x : Read} (b : Read) (n : ℕ) → x ≡ at_least n b → x ≡ at_least (n + 0) b
flat b n e = let same : n ≡ n + 0 = omega arith in e ∙ counted b same

-- a way to `b`, and from there to `c`
pub onward : {x : Read} (b c : Read) (n j k : ℕ) → x ≡ at_least (n + j) b → Rises n k b c → x ≡ at_least (n + max j k) c
onward b c n j k e f =
    let more : max (n + j) n ≡ n + j = omega arith in
    let most : max (n + j) (n + k) ≡ n + max j k = omega arith in
    e ∙ sym (over (n + j) n (n + j) b more) ∙ ap (at_least (n + j)) f ∙ over (n + j) (n + k) (n + max j k) c most
