-- What is open behind each token that the reader takes.
use Rattle.std.proofs.Common.{ℕ, max, ◌≤◌, ◌≡◌, ◌↔◌, List, [], ◌∷◌, Option, Some, None, arith}
use Rattle.rbs_terminals.specs.declared.token.Token.{Token}
use Rattle.viable_prefixes.specs.Runs.{OpenAtMost}
use Rattle.rbs_declarations.specs.declared.state.State.{State}
use Rattle.rbs_declarations.specs.Machine.{next}
use Rattle.rbs_declarations.specs.Needs.{opened}
use Rattle.rbs_declarations.proofs.OnTheWay.{at_least, least_most}
use Rattle.rbs_declarations.proofs.Onward.{reading, goes_on}

-- In the file of this number.
module _ (file : ℕ) where
  -- the state behind a token, where there are no limits
  abbrev pub behind : Option State → Token → Option State
  behind None c = None
  behind (Some m) c = next file m c

  abbrev pub open_at : Option State → ℕ
  open_at None = 0
  open_at (Some m) = opened m

  abbrev OpenFrom : ℕ → Option State → List Token → Type 0
  OpenFrom limit o ts = OpenAtMost behind open_at limit o ts

  none_open : (limit : ℕ) (ts : List Token) → OpenFrom limit None ts
  none_open limit [] = tt
  none_open limit (c ∷ ts) = (omega arith, none_open limit ts)

  -- no more are open at a place than at most on the way
  pub open_is : (last limit : ℕ) (m : State) (ts : List Token) → OpenFrom limit (Some m) ts ↔ ((reading file last m ts).most ≤ limit)
  unfolding reading
  open_is last limit m [] = (λ h. omega arith, λ h. tt)
  open_is last limit m (c ∷ ts) = go (next file m c) (λ e. open_is last limit e ts)
    where
      go : (o : Option State) → ((e : State) → OpenFrom limit (Some e) ts ↔ ((reading file last e ts).most ≤ limit)) → ((open_at o ≤ limit) × OpenFrom limit o ts) ↔ ((goes_on file last o ts).most ≤ limit)
      go None h = (λ k. omega arith, λ k. (omega arith, none_open limit ts))
      go (Some e) h =
          let both : (at_least (opened e) (reading file last e ts)).most ≡ max (opened e) (reading file last e ts).most = least_most (opened e) (reading file last e ts) in
          (λ k. let l : (reading file last e ts).most ≤ limit = (h e).0 k.1 in omega arith, λ k. let l : (reading file last e ts).most ≤ limit = omega arith in (omega arith, (h e).1 l))
