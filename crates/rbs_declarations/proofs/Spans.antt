-- How far the reader of types goes from a state, and the most that are open on the way.
use Rattle.std.proofs.Common.{ℕ, max, ◌+◌, ◌-◌, ◌≡◌, refl, ◌∙◌, sym, ap, List, [], ◌∷◌, ◌++◌, length, take, length-append, Option, Some, None, arith}
use Rattle.rbs_terminals.specs.declared.token.Token.{Token}
use Rattle.sig_model.specs.PlainTy.{PlainTy}
use Rattle.rbs_types.specs.declared.state.State.{State}
use Rattle.rbs_types.specs.Machine.{next, final}
use Rattle.rbs_types.specs.Needs.{depth}
use Rattle.rbs_types.proofs.Through.{rests, taken, through}
use Rattle.rbs_types.proofs.Depths.{depth_next}
use Rattle.rbs_types.proofs.Fronts.{take_front}
use Rattle.viable_prefixes.proofs.Goes.{some_same}
use Rattle.rbs_declarations.specs.Openness.{most_open}

-- a type that is whole, and what stands behind it
abbrev pub Stop : Type 0
Stop = PlainTy × List Token

abbrev pub stop_at : Option PlainTy → List Token → Option Stop
stop_at o ts = rests (λ t rest. Some (t, rest)) None o ts

-- where the reader stops that goes on from a state
unfoldable pub stop : State → List Token → Option Stop
stop i ts = through (λ t rest. Some (t, rest)) None i ts

abbrev pub most_behind : ℕ → Option State → (State → ℕ) → ℕ
most_behind n None f = n
most_behind n (Some m) f = max n (f m)

-- the most that are open up to there
unfoldable pub most_until : State → List Token → ℕ
most_until i [] = (depth i).sure
most_until i (c ∷ ts) = most_behind (depth i).sure (next i c) (λ m. most_until m ts)

-- it took some tokens, and so many were open among these
abbrev Spans : State → List Token → Stop → ℕ → Type 0
Spans i ts x n = (w : List Token) × (ts ≡ w ++ x.1) × (n ≡ most_open (depth i) w)

at_once : (i : State) (ts : List Token) (x : Stop) (o : Option PlainTy) → stop_at o ts ≡ Some x → Spans i ts x (depth i).sure
at_once i ts x None e = absurd (cc)
at_once i ts x (Some t) e = ([], ap (λ (y : Stop). y.1) (some_same {A = Stop} (t, ts) x e), refl)

spans : (i : State) (ts : List Token) (x : Stop) → stop i ts ≡ Some x → Spans i ts x (most_until i ts)
unfolding stop through most_until
spans i [] x e = at_once i [] x (final i) e
spans i (c ∷ ts) x e = by_next (next i c) refl (λ m h. spans m ts x h) e
  where
    by_next : (o : Option State) → next i c ≡ o → ((m : State) → stop m ts ≡ Some x → Spans m ts x (most_until m ts)) → taken o (λ m. stop m ts) (stop_at (final i) (c ∷ ts)) ≡ Some x
        → Spans i (c ∷ ts) x (most_behind (depth i).sure o (λ m. most_until m ts))
    by_next None n h e = at_once i (c ∷ ts) x (final i) e
    by_next (Some m) n h e =
        let (w, is, most) = h m e in
        (c ∷ w, ap (λ us. c ∷ us) is, ap (max (depth i).sure) (most ∙ ap (λ d. most_open d w) (depth_next i c m n)))

-- the tokens up to where it stops
pub most_until_is : (i : State) (ts : List Token) (x : Stop) → stop i ts ≡ Some x → most_until i ts ≡ most_open (depth i) (take (length ts - length x.1) ts)
most_until_is i ts x e =
    let (w, is, most) = spans i ts x e in
    let long : length ts ≡ length w + length x.1 = ap length is ∙ length-append w x.1 in
    let same : length ts - length x.1 ≡ length w = omega arith in
    most ∙ ap (most_open (depth i)) (sym (ap (λ n. take n ts) same ∙ take_front ts w x.1 is))
