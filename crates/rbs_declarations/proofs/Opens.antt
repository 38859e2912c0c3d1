-- How many brackets and words are open on the way: what must be opened still is opened by the tokens that follow.
use Rattle.std.proofs.Common.{ℕ, max, ◌+◌, ◌≤◌, ◌≡◌, refl, sym, subst, List, length, Option, Some, None, arith}
use Rattle.rbs_terminals.specs.declared.token.Token.{Token}
use Rattle.rbs_terminals.specs.declared.token.Spot.{Spot}
use Rattle.rbs_terminals.specs.declared.token.Mark.TheVariants as mark
use Rattle.rbs_terminals.specs.declared.token.Kind.{Kind}
use Rattle.rbs_terminals.specs.declared.token.Kind.TheVariants as kind
use Rattle.sig_model.specs.PlainTy.{PlainTy}
use Rattle.sig_model.specs.PlainMember.{PlainParam}
use Rattle.sig_model.specs.PlainDecl.{PlainDecls}
use Rattle.rbs_types.specs.declared.state.State.{State as TypeState}
use Rattle.rbs_types.specs.Symbols.{token}
use Rattle.rbs_types.specs.Machine as types
use Rattle.rbs_types.specs.Needs as type_needs
use Rattle.rbs_types.proofs.Depths as type_depths
use Rattle.rbs_declarations.specs.declared.state.Frame.{Frame}
use Rattle.rbs_declarations.specs.declared.state.Owner.{Owner}
use Rattle.rbs_declarations.specs.declared.state.Param.{Param}
use Rattle.rbs_declarations.specs.declared.state.Purpose.{Purpose}
use Rattle.rbs_declarations.specs.declared.state.Focus.{Focus}
use Rattle.rbs_declarations.specs.declared.state.Focus.TheVariants as focus
use Rattle.rbs_declarations.specs.declared.state.State.{State}
use Rattle.rbs_declarations.specs.Machine.{state_of, after_bound_singleton, after_final, typed_on, type_ended, settled, whole_file, step, next, final}
use Rattle.rbs_declarations.specs.Needs.{owner_open, purpose_open, inner_open, inner_reach, opened, reach}
use Rattle.rbs_declarations.proofs.Behind.{behind}
use Rattle.rbs_declarations.proofs.Valid.{Valid}

inner_reached : (f : Focus) → inner_open f ≤ inner_reach f
inner_reached (focus.Typed p i) = type_depths.sure_reach i
inner_reached (focus.BoundSingleton o done p) = omega arith
inner_reached _ = omega arith

pub sure_reach : (s : State) → opened s ≤ reach s
sure_reach s = omega (arith, inner_reached s.focus)

-- the state reaches no deeper than it is or the next one reaches
abbrev ReachesOr : ℕ → ℕ → Option State → Type 0
ReachesOr a b None = Unit {0}
ReachesOr a b (Some m) = a ≤ max b (reach m)

already : (a b : ℕ) (o : Option State) → a ≤ b → ReachesOr a b o
already a b None h = tt
already a b (Some m) h = omega arith

-- where a text may end nothing must be opened still
abbrev EndsAt : ℕ → ℕ → Option PlainDecls → Type 0
EndsAt a b None = Unit {0}
EndsAt a b (Some ds) = a ≤ b

no_further : (a b : ℕ) (o : Option PlainDecls) → a ≤ b → EndsAt a b o
no_further a b None h = tt
no_further a b (Some ds) h = h

-- In the file of this number.
module _ (file : ℕ) where
  pub depth_next : (s : State) (c : Token) (m : State) → next file s c ≡ Some m → Some m ≡ behind file (Some s) c
  depth_next s c m e = sym e

  singleton_reach : (o : Owner) (done : List PlainParam) (p : Param) (ds : PlainDecls) (fs : List Frame) (k : Kind)
      → ReachesOr (length fs + (owner_open o + 1 + 1)) (length fs + (owner_open o + 1 + 0)) (after_bound_singleton file o done p ds fs k)
  singleton_reach o done p ds fs (kind.Mark mark.Open) = omega arith
  singleton_reach o done p ds fs _ = tt

  -- behind a type that is whole nothing must be opened still
  typed_reach : (p : Purpose) (i : TypeState) (ds : PlainDecls) (fs : List Frame) (k : Kind) (s : Spot)
      → ReachesOr (length fs + (purpose_open p + type_needs.reach i)) (length fs + (purpose_open p + (type_needs.depth i).sure)) (typed_on file p i (types.next i (token k s)) ds fs k s)
  typed_reach p i ds fs k s = go (types.next i (token k s)) refl
    where
      ended : (t : Option PlainTy) → types.final i ≡ t
          → ReachesOr (length fs + (purpose_open p + type_needs.reach i)) (length fs + (purpose_open p + (type_needs.depth i).sure)) (after_final file p t ds fs k s)
      ended None e = tt
      ended (Some t) e = already _ _ (after_final file p (Some t) ds fs k s) (omega (arith, type_depths.reach_final i t e))

      go : (o : Option TypeState) → types.next i (token k s) ≡ o
          → ReachesOr (length fs + (purpose_open p + type_needs.reach i)) (length fs + (purpose_open p + (type_needs.depth i).sure)) (typed_on file p i o ds fs k s)
      go None e = ended (types.final i) refl
      go (Some m) e = omega (arith, type_depths.reach_next i (token k s) m e)

  step_reach : (f : Focus) (ds : PlainDecls) (fs : List Frame) (k : Kind) (s : Spot) → ReachesOr (reach (state_of f ds fs)) (opened (state_of f ds fs)) (step file f ds fs k s)
  step_reach (focus.BoundSingleton o done p) ds fs k s = singleton_reach o done p ds fs k
  step_reach (focus.Typed p i) ds fs k s = typed_reach p i ds fs k s
  step_reach f ds fs k s = already _ _ (step file f ds fs k s) (omega arith)

  pub reach_next : (s : State) (c : Token) (m : State) → Valid s → next file s c ≡ Some m → reach s ≤ max (opened s) (reach m)
  reach_next s c m v e = subst (ReachesOr (reach s) (opened s)) e (step_reach s.focus s.decls s.frames c.kind c.spot)

  end_reach : (f : Focus) (e : ℕ) (ds : PlainDecls) (fs : List Frame) → EndsAt (reach (state_of f ds fs)) (opened (state_of f ds fs)) (whole_file file (settled file f e ds fs))
  end_reach focus.Parts e ds fs = no_further _ _ (whole_file file (settled file focus.Parts e ds fs)) (omega arith)
  end_reach (focus.Typed p i) e ds fs = go (types.final i) refl
    where
      go : (t : Option PlainTy) → types.final i ≡ t
          → EndsAt (reach (state_of (focus.Typed p i) ds fs)) (opened (state_of (focus.Typed p i) ds fs)) (whole_file file (type_ended file p t e ds fs))
      go None is = tt
      go (Some t) is = no_further _ _ (whole_file file (type_ended file p (Some t) e ds fs)) (omega (arith, type_depths.reach_final i t is))
  end_reach _ e ds fs = tt

  pub reach_final : (e : ℕ) (s : State) (ds : PlainDecls) → Valid s → final file e s ≡ Some ds → reach s ≤ opened s
  reach_final e s ds v is = subst (EndsAt (reach s) (opened s)) is (end_reach s.focus e s.decls s.frames)
