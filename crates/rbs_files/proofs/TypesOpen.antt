-- Types that were read have no more open at once than brackets were opened as they were read.
use Rattle.std.proofs.Common.{ℕ, ◌+◌, ◌-◌, ◌≤◌, ◌≡◌, ◌∙◌, ap, Bool, true, false, List, [], ◌∷◌, ◌++◌, length, take, length-append, arith}
use Rattle.std.specs.Prelude.{if◌then◌else◌}
use Rattle.rbs_terminals.specs.declared.token.Token.{Token}
use Rattle.rbs_terminals.specs.declared.token.Spot.{Spot}
use Rattle.rbs_terminals.specs.declared.token.Kind.{Kind}
use Rattle.rbs_terminals.specs.declared.token.Kind.TheVariants as kind
use Rattle.rbs_terminals.specs.declared.token.Mark.TheVariants as mark
use Rattle.rbs_types.specs.Depth.{Depth, surely, counted, closed_paren, deepened, behind}
use Rattle.rbs_types.proofs.Fronts.{take_front}
use Rattle.rbs_declarations.specs.Openness.{most_open, types_open}
use Rattle.rbs_types.specs.Symbols.{sign}
use Rattle.rbs_phrases.specs.Fronts.{Front, whole, opens_by, opens}
use Rattle.rbs_files.proofs.TypesFront.{Fronted}

at_least : (n : ℕ) (fresh : Bool) → n ≤ (if fresh then n + 1 else n)
at_least n true = omega arith
at_least n false = omega arith

sure_counted : (d : Depth) → d.sure ≤ counted d
sure_counted d = at_least d.sure d.fresh

closed_counted : (n : ℕ) (fresh : Bool) → counted (closed_paren n fresh) ≤ n
closed_counted n true = omega arith
closed_counted n false = omega arith

-- a terminal leaves no more open than what it opens
deepened_most : (d : Depth) (k : Kind) → counted (deepened d k) ≤ counted d + opens_by k
deepened_most d (kind.Mark mark.Close) = omega (arith, closed_counted d.sure d.fresh, sure_counted d)
deepened_most d (kind.Mark _) = omega arith
deepened_most d _ = omega arith

most_counted : (d : Depth) (ts : List Token) → most_open d ts ≤ counted d + opens ts
most_counted d [] = omega (arith, sure_counted d)
most_counted d (c ∷ ts) = omega (arith, sure_counted d, deepened_most d c.kind, most_counted (behind d c) ts)

opens_append : (ts us : List Token) → opens (ts ++ us) ≡ opens ts + opens us
opens_append [] us = omega arith
opens_append (c ∷ ts) us = omega (arith, opens_append ts us)

-- what is open at once in the first of these terminals, where `n` are open before them
most_in_front : (n : ℕ) {ts rest : List Token} → Fronted ts rest → types_open n ts rest + opens rest ≤ n + opens ts
most_in_front n {ts = ts} {rest = rest} h =
    let long : length ts ≡ length h.front + length rest = ap length h.split ∙ length-append h.front rest in
    let same : length ts - length rest ≡ length h.front = omega arith in
    let front : take (length ts - length rest) ts ≡ h.front = ap (λ n. take n ts) same ∙ take_front ts h.front rest h.split in
    let most : types_open n ts rest ≡ most_open (surely n) h.front = ap (most_open (surely n)) front in
    let all : opens ts ≡ opens h.front + opens rest = ap opens h.split ∙ opens_append h.front rest in
    omega (arith, most, all, most_counted (surely n) h.front)

-- the same text, of which these terminals were taken
module _ (before room : ℕ) (old new : Front) (kept : whole new ≡ whole old) (is : before ≡ old.opened) (few : new.opened ≤ before + room) where
  taken : new.opened + opens new.rest ≡ old.opened + opens old.rest
  taken = ap (λ w. w.opens) kept

  pub open_since : Fronted old.rest new.rest → types_open 0 old.rest new.rest ≤ room
  open_since h = omega (arith, is, few, taken, most_in_front 0 h)

  -- behind a bracket that was taken
  pub open_inside : (s : Spot) (mid : List Token) → old.rest ≡ sign mark.OpenSquare s ∷ mid → Fronted mid new.rest → types_open 1 mid new.rest ≤ room
  open_inside s mid e h = omega (arith, is, few, taken, ap opens e, most_in_front 1 h)
