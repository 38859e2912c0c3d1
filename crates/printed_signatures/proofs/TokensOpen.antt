-- How much is open along terminals, from below.
use Rattle.std.proofs.Common.{max, ℕ, ◌+◌, ◌-◌, ◌≤◌, ◌≡◌, refl, sym, ◌∙◌, ap, subst, Bool, true, false, List, [], ◌∷◌, ◌++◌, append_assoc, append-nil, arith}
use Rattle.rbs_terminals.specs.declared.token.Token.{Token}
use Rattle.rbs_terminals.specs.declared.token.Spot.{Spot}
use Rattle.rbs_terminals.specs.declared.token.Mark.{Mark}
use Rattle.rbs_terminals.specs.declared.token.Mark.TheVariants as mark
use Rattle.rbs_terminals.specs.declared.token.Kind.{Kind}
use Rattle.rbs_terminals.specs.declared.token.Kind.TheVariants as kind
use Rattle.rbs_types.specs.Depth.{Depth, surely, deepened, behind}
use Rattle.rbs_types.specs.Symbols.{token, sign}
use Rattle.rbs_declarations.specs.Openness.{most_open}
use Rattle.printed_signatures.proofs.PiecesOpen.{is_level, stays, fresh, closes_fresh, fresh_counts, bracket_past}

-- what is open behind tokens
abbrev pub past_all : Depth → List Token → Depth
past_all d [] = d
past_all d (c ∷ ts) = past_all (behind d c) ts

past_append : (d : Depth) (ts us : List Token) → past_all d (ts ++ us) ≡ past_all (past_all d ts) us
past_append d [] us = refl
past_append d (c ∷ ts) us = past_append (behind d c) ts us

least : (d : Depth) (ts : List Token) → d.sure ≤ most_open d ts
least d [] = omega arith
least d (c ∷ ts) = omega arith

pub most_append : (d : Depth) (ts us : List Token) → most_open d (ts ++ us) ≤ max (most_open d ts) (most_open (past_all d ts) us)
most_append d [] us = omega arith
most_append d (c ∷ ts) us = omega (arith, most_append (behind d c) ts us)

most_before : (d : Depth) (ts us : List Token) → most_open d ts ≤ most_open d (ts ++ us)
most_before d [] us = least d us
most_before d (c ∷ ts) us = omega (arith, most_before (behind d c) ts us)

most_behind : (d : Depth) (ts us : List Token) → most_open (past_all d ts) us ≤ most_open d (ts ++ us)
most_behind d [] us = omega arith
most_behind d (c ∷ ts) us = omega (arith, most_behind (behind d c) ts us)

-- The tokens from the first list up to the second open `k` more at least, the same wherever they stand, and close all that they open.
pub record Opens (k : ℕ) (ts rest : List Token) : Type 0 where
  pub front : List Token
  pub whole : ts ≡ front ++ rest
  pub past : (n : ℕ) → past_all (surely n) front ≡ surely n
  pub most : (n : ℕ) → n + k ≤ most_open (surely n) front
  pub same : (n : ℕ) → most_open (surely n) front ≡ n + most_open (surely 0) front

-- a token stands first that doesn't close a parenthesis
abbrev pub BegunBy : List Token → Type 0
BegunBy [] = ⊥
BegunBy (c ∷ ts) = closes_fresh c.kind ≡ false

pub record Begins (k : ℕ) (ts rest : List Token) : Type 0 where
  pub opens : Opens k ts rest
  pub begun : BegunBy opens.front

pub opens_none : (rest : List Token) → Opens 0 rest rest
opens_none rest = record { front = []; whole = refl; past = λ n. refl; most = λ n. omega arith; same = λ n. omega arith }

pub fewer : {k : ℕ} {ts rest : List Token} (m : ℕ) → m ≤ k → Opens k ts rest → Opens m ts rest
fewer m l h = record { front = h.front; whole = h.whole; past = h.past; most = λ n. omega (arith, h.most n, l); same = h.same }

pub fewer_begin : {k : ℕ} {ts rest : List Token} (m : ℕ) → m ≤ k → Begins k ts rest → Begins m ts rest
unfolding fewer
fewer_begin m l h = record { opens = fewer m l h.opens; begun = h.begun }

pub opens_append : {k m : ℕ} {ts mid rest : List Token} → Opens k ts mid → Opens m mid rest → Opens (max k m) ts rest
opens_append {k = k} {m = m} {rest = rest} h i = record {
  front = h.front ++ i.front;
  whole = h.whole ∙ ap (λ r. h.front ++ r) i.whole ∙ sym (append_assoc h.front i.front rest);
  past = λ n. past_append (surely n) h.front i.front ∙ ap (λ d. past_all d i.front) (h.past n) ∙ i.past n;
  most = λ n.
      let first = most_before (surely n) h.front i.front in
      let second = subst (λ d. most_open d i.front ≤ most_open (surely n) (h.front ++ i.front)) (h.past n) (most_behind (surely n) h.front i.front) in
      omega (arith, h.most n, i.most n, first, second);
  same = λ n. omega (arith, h.same n, i.same n, both n, both 0);
}
  where
    both : (n : ℕ) → most_open (surely n) (h.front ++ i.front) ≡ max (most_open (surely n) h.front) (most_open (surely n) i.front)
    both n =
        let first = most_before (surely n) h.front i.front in
        let second = subst (λ d. most_open d i.front ≤ most_open (surely n) (h.front ++ i.front)) (h.past n) (most_behind (surely n) h.front i.front) in
        let low = subst (λ d. most_open (surely n) (h.front ++ i.front) ≤ max (most_open (surely n) h.front) (most_open d i.front)) (h.past n) (most_append (surely n) h.front i.front) in
        omega (arith, first, second, low)

begun_append : (ts us : List Token) → BegunBy ts → BegunBy (ts ++ us)
begun_append [] us b = absurd b
begun_append (c ∷ ts) us b = b

pub begins_append : {k m : ℕ} {ts mid rest : List Token} → Begins k ts mid → Opens m mid rest → Begins (max k m) ts rest
unfolding opens_append
begins_append h i = record { opens = opens_append h.opens i; begun = begun_append h.opens.front i.front h.begun }

-- ---- single tokens

pub opens_token : (k : Kind) (s : Spot) {rest : List Token} → is_level k ≡ true → Opens 0 (token k s ∷ rest) rest
opens_token k s e = record { front = token k s ∷ []; whole = refl; past = λ n. stays n k e; most = λ n. omega arith; same = λ n. omega (arith, ap (λ (d : Depth). d.sure) (stays n k e), ap (λ (d : Depth). d.sure) (stays 0 k e)) }

level_begins : (k : Kind) → is_level k ≡ true → closes_fresh k ≡ false
level_begins (kind.Mark mark.Close) e = absurd cc
level_begins (kind.Mark _) e = refl
level_begins _ e = refl

pub begins_token : (k : Kind) (s : Spot) {m : ℕ} {ts rest : List Token} → is_level k ≡ true → Opens m ts rest → Begins m (token k s ∷ ts) rest
begins_token k s {m = m} {ts = ts} {rest = rest} e h = record {
  opens = record {
    front = token k s ∷ h.front;
    whole = ap (λ r. token k s ∷ r) h.whole;
    past = λ n. ap (λ d. past_all d h.front) (stays n k e) ∙ h.past n;
    most = λ n. subst (λ d. n + m ≤ max n (most_open d h.front)) (sym (stays n k e)) (omega (arith, h.most n));
    same = λ n. omega (arith, h.same n, ap (λ d. most_open d h.front) (stays n k e), ap (λ d. most_open d h.front) (stays 0 k e));
  };
  begun = level_begins k e;
}

-- with a token at the end
pub then_token : (k : Kind) (s : Spot) {m : ℕ} {ts rest : List Token} → is_level k ≡ true → Opens m ts (token k s ∷ rest) → Opens m ts rest
then_token k s {m = m} e h = fewer m (omega arith) (opens_append h (opens_token k s e))

pub begins_then : (k : Kind) (s : Spot) {m : ℕ} {ts rest : List Token} → is_level k ≡ true → Begins m ts (token k s ∷ rest) → Begins m ts rest
begins_then k s {m = m} e h = fewer_begin m (omega arith) (begins_append h (opens_token k s e))

-- ---- brackets

pub begins_bracket : (o c : Mark) (s s' : Spot) {k : ℕ} {ts rest : List Token}
    → ((n : ℕ) → deepened (surely n) (kind.Mark o) ≡ surely (n + 1)) → ((n : ℕ) → deepened (surely n) (kind.Mark c) ≡ surely (n - 1)) → closes_fresh (kind.Mark o) ≡ false
    → Opens k ts (sign c s' ∷ rest) → Begins (1 + k) (sign o s ∷ ts) rest
begins_bracket o c s s' {k = k} {rest = rest} opens closes e h = record {
  opens = record {
    front = sign o s ∷ h.front ++ sign c s' ∷ [];
    whole = ap (λ r. sign o s ∷ r) (h.whole ∙ sym (append_assoc h.front (sign c s' ∷ []) rest));
    past = λ n. ap (λ d. past_all d (h.front ++ sign c s' ∷ [])) (opens n) ∙ past_append (surely (n + 1)) h.front (sign c s' ∷ []) ∙ ap (λ d. past_all d (sign c s' ∷ [])) (h.past (n + 1)) ∙ closes (n + 1) ∙ bracket_past n;
    most = λ n. subst (λ d. n + (1 + k) ≤ max n (most_open d (h.front ++ sign c s' ∷ []))) (sym (opens n)) (omega (arith, h.most (n + 1), most_before (surely (n + 1)) h.front (sign c s' ∷ [])));
    same = λ n. omega (arith, h.same (n + 1), h.same 1, inside n, inside 0, ap (λ d. most_open d (h.front ++ sign c s' ∷ [])) (opens n), ap (λ d. most_open d (h.front ++ sign c s' ∷ [])) (opens 0));
  };
  begun = e;
}
  where
    inside : (n : ℕ) → most_open (surely (n + 1)) (h.front ++ sign c s' ∷ []) ≡ max (most_open (surely (n + 1)) h.front) (n + 1)
    inside n =
        let low = subst (λ d. most_open (surely (n + 1)) (h.front ++ sign c s' ∷ []) ≤ max (most_open (surely (n + 1)) h.front) (most_open d (sign c s' ∷ []))) (h.past (n + 1)) (most_append (surely (n + 1)) h.front (sign c s' ∷ [])) in
        let high = subst (λ d. most_open d (sign c s' ∷ []) ≤ most_open (surely (n + 1)) (h.front ++ sign c s' ∷ [])) (h.past (n + 1)) (most_behind (surely (n + 1)) h.front (sign c s' ∷ [])) in
        omega (arith, low, high, most_before (surely (n + 1)) h.front (sign c s' ∷ []), ap (λ (d : Depth). d.sure) (closes (n + 1)))

fresh_past : (n : ℕ) (ts : List Token) → BegunBy ts → past_all (fresh n) ts ≡ past_all (surely (n + 1)) ts
fresh_past n [] b = absurd b
fresh_past n (c ∷ ts) b = ap (λ d. past_all d ts) (fresh_counts n c.kind b)

-- a token that opens a place counts the parenthesis before it
fresh_most : (n k : ℕ) (ts : List Token) → BegunBy ts → (n + 1) + k ≤ most_open (surely (n + 1)) ts → (past_all (surely (n + 1)) ts ≡ surely (n + 1)) → n + (1 + k) ≤ most_open (fresh n) ts
fresh_most n k [] b h p = absurd b
fresh_most n k (c ∷ ts) b h p =
    let tail : most_open (behind (surely (n + 1)) c) ts ≡ most_open (behind (fresh n) c) ts = ap (λ d. most_open d ts) (sym (fresh_counts n c.kind b)) in
    let reached : n + 1 ≤ most_open (behind (surely (n + 1)) c) ts = ends ts (behind (surely (n + 1)) c) p in
    omega (arith, h, tail, reached)
  where
    -- what is open at the end was open there
    ends : (ts : List Token) (d : Depth) → past_all d ts ≡ surely (n + 1) → n + 1 ≤ most_open d ts
    ends [] d e = omega (arith, ap (λ d. d.sure) e)
    ends (c ∷ ts) d e = omega (arith, ends ts (behind d c) e)

pub begins_parentheses : (s s' : Spot) {k : ℕ} {ts rest : List Token} → Begins k ts (sign mark.Close s' ∷ rest) → Begins (1 + k) (sign mark.Open s ∷ ts) rest
begins_parentheses s s' {k = k} {rest = rest} h =
    let i = h.opens in
    record {
      opens = record {
        front = sign mark.Open s ∷ i.front ++ sign mark.Close s' ∷ [];
        whole = ap (λ r. sign mark.Open s ∷ r) (i.whole ∙ sym (append_assoc i.front (sign mark.Close s' ∷ []) rest));
        past = λ n. past_append (fresh n) i.front (sign mark.Close s' ∷ []) ∙ ap (λ d. past_all d (sign mark.Close s' ∷ [])) (fresh_past n i.front h.begun ∙ i.past (n + 1)) ∙ bracket_past n;
        most = λ n. omega (arith, fresh_most n k i.front h.begun (i.most (n + 1)) (i.past (n + 1)), most_before (fresh n) i.front (sign mark.Close s' ∷ []));
        same = λ n. omega (arith, i.same (n + 1), i.same 1, inside n, inside 0);
      };
      begun = refl;
    }
  where
    fresh_same : (n : ℕ) (ts : List Token) → BegunBy ts → max (n + 1) (most_open (fresh n) ts) ≡ most_open (surely (n + 1)) ts
    fresh_same n [] b = absurd b
    fresh_same n (c ∷ ts) b = omega (arith, ap (λ d. most_open d ts) (fresh_counts n c.kind b))

    inside : (n : ℕ) → most_open (fresh n) (h.opens.front ++ sign mark.Close s' ∷ []) ≡ most_open (surely (n + 1)) h.opens.front
    inside n =
        let i = h.opens in
        let back = fresh_past n i.front h.begun ∙ i.past (n + 1) in
        let low = subst (λ d. most_open (fresh n) (i.front ++ sign mark.Close s' ∷ []) ≤ max (most_open (fresh n) i.front) (most_open d (sign mark.Close s' ∷ []))) back (most_append (fresh n) i.front (sign mark.Close s' ∷ [])) in
        let high = subst (λ d. most_open d (sign mark.Close s' ∷ []) ≤ most_open (fresh n) (i.front ++ sign mark.Close s' ∷ [])) back (most_behind (fresh n) i.front (sign mark.Close s' ∷ [])) in
        omega (arith, low, high, most_before (fresh n) i.front (sign mark.Close s' ∷ []), fresh_same n i.front h.begun)

-- an empty pair of parentheses isn't counted
pub opens_empty : (s s' : Spot) {rest : List Token} → Opens 0 (sign mark.Open s ∷ sign mark.Close s' ∷ rest) rest
opens_empty s s' = record { front = sign mark.Open s ∷ sign mark.Close s' ∷ []; whole = refl; past = λ n. refl; most = λ n. omega arith; same = λ n. omega arith }
