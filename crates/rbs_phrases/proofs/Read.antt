-- What was read, where it was.
use Rattle.std.proofs.Common.{◌≡◌, ◌∙◌, ap, subst, Bool, true, false, ◌&&◌, List, ◌∷◌, Result, Ok, Err, IfOk}
use Rattle.rbs_terminals.specs.declared.token.Token.{Token}
use Rattle.rbs_terminals.specs.declared.token.Mark.{Mark}
use Rattle.rbs_types.specs.Symbols.{token}
use Rattle.rbs_phrases.specs.Fronts.{Marked, IsNext, Skips}

-- the mark that stands next was taken
pub marked : (m : Mark) (ts : List Token) (c : Token) (rest : List Token) → ts ≡ c ∷ rest → IsNext m ts → Marked m ts rest
marked m ts c rest e h = (c.spot, e ∙ ap (λ k. token k c.spot ∷ rest) (subst (λ ts. IsNext m ts) e h))

-- what is said of a value that there may be says what follows from it
module _ {X E : Type 0} {P Q : X → Type 0} where
  pub if_ok : (r : Result X E) → ((x : X) → P x → Q x) → IfOk r P → IfOk r Q
  if_ok (Ok x) f p = f x p
  if_ok (Err e) f p = tt

pub and_right : (a b : Bool) → (a && b) ≡ true → b ≡ true
and_right true b e = e
and_right false b e = absurd (cc)

-- the mark was taken, or not
pub taken : (m : Mark) (ts rest : List Token) (b : Bool) → b ≡ true → Skips m b ts rest → Marked m ts rest
taken m ts rest true e h = h
taken m ts rest false e h = absurd (cc)

pub left : (m : Mark) (ts rest : List Token) (b : Bool) → b ≡ false → Skips m b ts rest → Skips m false ts rest
left m ts rest true e h = absurd (cc)
left m ts rest false e h = h

pub untaken : (m : Mark) (ts rest : List Token) (b : Bool) → b ≡ false → Skips m b ts rest → ts ≡ rest
untaken m ts rest b e h = (left m ts rest b e h).0
