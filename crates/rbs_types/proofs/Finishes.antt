-- What it is to finish a state, and that a state is finished where one more token leads to one that is.
use Rattle.std.proofs.Common.{subst, ℕ, ◌≤◌, ◌≡◌, ◌∙◌, ap, false, List, [], ◌∷◌, ◌++◌, Some, option_and_then, arith}
use Rattle.rbs_terminals.specs.declared.token.Token.{Token}
use Rattle.rbs_terminals.specs.declared.token.Mark.{Mark}
use Rattle.rbs_terminals.specs.declared.token.Mark.TheVariants as mark
use Rattle.rbs_terminals.specs.declared.token.Kind.{Kind}
use Rattle.rbs_terminals.specs.declared.token.Kind.TheVariants as kind
use Rattle.sig_model.specs.PlainTy.{PlainTy}
use Rattle.sig_model.specs.Height.{height}
use Rattle.rbs_types.specs.declared.state.State.{State}
use Rattle.rbs_types.specs.Symbols.{scope_follows}
use Rattle.rbs_types.specs.Machine.{next, final}
use Rattle.rbs_types.specs.Depth.{Depth, surely, behind, OpenAtMost}
use Rattle.rbs_types.specs.Needs.{need, depth, reach}
use Rattle.viable_prefixes.specs.Runs.{reads, Each}
use Rattle.rbs_types.specs.Limits.{IsSmall}
use Rattle.rbs_types.proofs.Through.{through, rests, taken}

abbrev pub stops_mark : Mark → Type 0
stops_mark mark.OpenSquare = ⊥
stops_mark mark.Bar = ⊥
stops_mark mark.Amp = ⊥
stops_mark mark.Question = ⊥
stops_mark _ = Unit {0}

abbrev pub stops : Kind → Type 0
stops (kind.Mark m) = stops_mark m
stops _ = Unit {0}

abbrev pub Stops : List Token → Type 0
Stops [] = Unit {0}
Stops (c ∷ ts) = stops c.kind

-- the first token goes on with no type
abbrev pub FollowsAll : List Token → Type 0
FollowsAll ts = Stops ts × (scope_follows ts ≡ false)

-- what is open behind all of the tokens
abbrev pub behind_all : Depth → List Token → Depth
behind_all d [] = d
behind_all d (c ∷ ts) = behind_all (behind d c) ts

-- tokens that finish a state at the height that it needs, inside a longer text and alone, and close all that is open
pub record Finishes (s : State) : Type 1 where
  pub w : List Token
  pub t : PlainTy
  pub whole : {R : Type 0} (K : PlainTy → List Token → R) (fail : R) (rest : List Token) → FollowsAll rest → through K fail s (w ++ rest) ≡ K t rest
  pub alone : reads next final s w ≡ Some t
  pub tall : height t ≡ need s
  pub within : (limit : ℕ) → reach s ≤ limit → OpenAtMost limit (depth s) w
  pub shut : behind_all (depth s) w ≡ surely 0
  pub small : Each IsSmall w

-- a token that changes nothing of what the state needs
pub record Step (s : State) (c : Token) (m : State) : Type 0 where
  pub goes : next s c ≡ Some m
  pub tall : need m ≡ need s
  pub deep : depth m ≡ behind (depth s) c
  pub far : reach m ≤ reach s
  pub small : IsSmall c

pub first : {s m : State} (c : Token) → Step s c m → Finishes m → Finishes s
unfolding through reads
first {s = s} {m = m} c p f = record {
  w = c ∷ f.w;
  t = f.t;
  whole = λ K fail rest h. ap (λ o. taken o (λ x. through K fail x (f.w ++ rest)) (rests K fail (final s) (c ∷ (f.w ++ rest)))) p.goes ∙ f.whole K fail rest h;
  alone = ap (option_and_then (λ x. reads next final x f.w)) p.goes ∙ f.alone;
  tall = f.tall ∙ p.tall;
  within = λ limit h.
      let reached : reach m ≤ limit = omega (arith, p.far) in
      let sure : (depth m).sure ≤ limit = omega arith in
      (subst (λ d. d.sure ≤ limit) p.deep sure, subst (λ d. OpenAtMost limit d f.w) p.deep (f.within limit reached));
  shut = subst (λ d. behind_all d f.w ≡ surely 0) p.deep f.shut;
  small = (p.small, f.small);
}
