-- What the reader makes of the overloads of a method, and of the type parameters of each.
use Rattle.std.proofs.Common.{ℕ, max, ◌+◌, ◌≡◌, refl, ◌∙◌, ap, List, [], ◌∷◌, ◌++◌, Option, Some, None, arith}
use Rattle.rbs_terminals.specs.declared.token.Token.{Token}
use Rattle.rbs_terminals.specs.declared.token.Spot.{Spot}
use Rattle.rbs_terminals.specs.declared.token.Mark.TheVariants as mark
use Rattle.rbs_terminals.specs.declared.token.Kind.{Kind}
use Rattle.rbs_terminals.specs.declared.token.Kind.TheVariants as kind
use Rattle.sig_model.specs.PlainTy as plain
use Rattle.sig_model.specs.PlainTy.{PlainFun}
use Rattle.sig_model.specs.PlainMember.{PlainParam, PlainMethod, method}
use Rattle.sig_model.specs.PlainDecl.{PlainDecls}
use Rattle.rbs_types.specs.declared.state.State.{State as TypeState}
use Rattle.rbs_types.specs.Symbols.{sign}
use Rattle.rbs_types.specs.Grammar.{simple, Function, a_function}
use Rattle.rbs_types.specs.Machine as types
use Rattle.rbs_types.specs.Machine.{start_function}
use Rattle.rbs_types.proofs.Followers.{Follows}
use Rattle.rbs_declarations.specs.declared.state.Frame.{Frame}
use Rattle.rbs_declarations.specs.declared.state.Signature.{Signature}
use Rattle.rbs_declarations.specs.declared.state.Owner.TheVariants as owner
use Rattle.rbs_declarations.specs.declared.state.Purpose.TheVariants as purpose
use Rattle.rbs_declarations.specs.declared.state.Focus.TheVariants as focus
use Rattle.rbs_declarations.specs.Words.{end_at}
use Rattle.rbs_declarations.specs.Grammar.{Params, no_params, params, Overloads, last_overload, more_overloads}
use Rattle.rbs_declarations.specs.Machine.{typed, function_begins, after_overload, with_method, and_overload, after_function, then_part, typed_on}
use Rattle.rbs_declarations.specs.Openness.{types_open, params_open, overloads_open}
use Rattle.rbs_declarations.proofs.OnTheWay.{at_least, counted, twice, flat, onward, Rises}
use Rattle.rbs_declarations.proofs.Borders.{stops, Stops, function_followed, unbracketed, Unbracketed, function_unbracketed}
use Rattle.rbs_declarations.proofs.Onward.{level, inside_open, reading, here, goes_on, behind, typed_read, membered_on}
use Rattle.rbs_declarations.proofs.TypeParameters.{brackets_read}

-- In the file of this number, whose last token ends at the byte `last`; among the parts of this frame.
module _ (file last : ℕ) (ds : PlainDecls) (f : Frame) (fs : List Frame) where
  -- no function is whole before its first token
  function_taken : (sig : Signature) (done : List PlainMethod) (ps : List PlainParam) (o : Option TypeState) (k : Kind) (s : Spot)
      → typed file (purpose.Overload sig done ps) ds (f ∷ fs) o ≡ typed_on file (purpose.Overload sig done ps) start_function o ds (f ∷ fs) k s
  function_taken sig done ps (Some m) k s = refl
  function_taken sig done ps None k s = refl

  function_begun : (sig : Signature) (done : List PlainMethod) (ps : List PlainParam) (ts : List Token)
      → here file last (focus.Parameterized (owner.Overload sig done) ps) ds (f ∷ fs) ts ≡ here file last (focus.Typed (purpose.Overload sig done ps) start_function) ds (f ∷ fs) ts
  unfolding reading
  function_begun sig done ps [] = refl
  function_begun sig done ps (c ∷ ts) = ap (λ o. goes_on file last o ts) (function_taken sig done ps (types.next start_function c) c.kind c.spot)

  unparameterized : (sig : Signature) (done : List PlainMethod) (k : Kind) (s : Spot) → unbracketed k → after_overload file sig done ds (f ∷ fs) k s ≡ function_begins file sig done [] ds (f ∷ fs) k s
  unparameterized sig done (kind.Mark mark.OpenSquare) s h = absurd h
  unparameterized sig done _ s h = refl

  unparameterized_read : (sig : Signature) (done : List PlainMethod) (ts : List Token) → Unbracketed ts
      → here file last (focus.Overload sig done) ds (f ∷ fs) ts ≡ here file last (focus.Parameterized (owner.Overload sig done) []) ds (f ∷ fs) ts
  unfolding reading
  unparameterized_read sig done [] h = refl
  unparameterized_read sig done (c ∷ ts) h = ap (λ o. goes_on file last o ts) (unparameterized sig done c.kind c.spot h)

  -- what is open before the overloads
  abbrev around : ℕ
  around = level 0 (f ∷ fs)

  parameters_read : {ps : List PlainParam} {ts mid : List Token} (sig : Signature) (done : List PlainMethod) → (p : Params ps ts mid) → Unbracketed mid
      → Rises around (params_open p) (here file last (focus.Overload sig done) ds (f ∷ fs) ts) (here file last (focus.Parameterized (owner.Overload sig done) ps) ds (f ∷ fs) mid)
  parameters_read {mid = mid} sig done no_params h =
      flat (here file last (focus.Parameterized (owner.Overload sig done) []) ds (f ∷ fs) mid) around (ap (at_least around) (unparameterized_read sig done mid h))
  parameters_read sig done (params s s' d) h = brackets_read file last ds (f ∷ fs) (focus.Overload sig done) (owner.Overload sig done) s refl d

  overload_read : {ps : List PlainParam} {g : PlainFun} {ts mid rest : List Token} (sig : Signature) (done : List PlainMethod) → (p : Params ps ts mid) → Function g mid rest → Follows simple rest
      → Rises around (max (params_open p) (types_open 0 mid rest)) (here file last (focus.Overload sig done) ds (f ∷ fs) ts) (behind file last (purpose.Overload sig done ps) ds (f ∷ fs) (plain.fun g) rest)
  overload_read {ps = ps} {g = g} {mid = mid} {rest = rest} sig done p d h =
      let type_most : inside_open (purpose.Overload sig done ps) (f ∷ fs) (types_open 0 mid rest) ≡ around + types_open 0 mid rest = omega arith in
      onward (here file last (focus.Parameterized (owner.Overload sig done) ps) ds (f ∷ fs) mid) (behind file last (purpose.Overload sig done ps) ds (f ∷ fs) (plain.fun g) rest)
      around (params_open p) (types_open 0 mid rest)
      (parameters_read sig done p (function_unbracketed d))
      (ap (at_least around) (function_begun sig done ps mid)
      ∙ typed_read file last (purpose.Overload sig done ps) ds (f ∷ fs) a_function (plain.fun g) mid rest (g, refl, d) h
      ∙ counted (behind file last (purpose.Overload sig done ps) ds (f ∷ fs) (plain.fun g) rest) type_most)

  unjoined : (sig : Signature) (done : List PlainMethod) (ps : List PlainParam) (g : PlainFun) (k : Kind) (s : Spot) → stops k
      → after_function file sig done ps (plain.fun g) ds (f ∷ fs) k s ≡ then_part file (with_method file sig (and_overload done ps (plain.fun g)) s.before ds (f ∷ fs)) k s
  unjoined sig done ps g (kind.Mark mark.Bar) s h = absurd h
  unjoined sig done ps g _ s h = refl

  method_read : (sig : Signature) (done : List PlainMethod) (ps : List PlainParam) (g : PlainFun) (rest : List Token) → Stops rest
      → behind file last (purpose.Overload sig done ps) ds (f ∷ fs) (plain.fun g) rest
      ≡ membered_on file last sig.begun (end_at last rest) (method sig.vis sig.single sig.name (done ++ record { params = ps; fun = g } ∷ [])) ds (f ∷ fs) rest
  unfolding reading
  method_read sig done ps g [] h = refl
  method_read sig done ps g (c ∷ ts) h = ap (λ o. goes_on file last o ts) (unjoined sig done ps g c.kind c.spot h)

  pub overloads_read : {before all : List PlainMethod} {ts rest : List Token} (sig : Signature) → (d : Overloads before all ts rest) → Stops rest
      → Rises (level 0 (f ∷ fs)) (overloads_open d) (here file last (focus.Overload sig before) ds (f ∷ fs) ts) (membered_on file last sig.begun (end_at last rest) (method sig.vis sig.single sig.name all) ds (f ∷ fs) rest)
  overloads_read sig (last_overload {before = before} {ps = ps} {f = g} {mid = mid} {rest = rest} p d) h =
      overload_read sig before p d (function_followed rest h) ∙ ap (at_least (around + max (params_open p) (types_open 0 mid rest))) (method_read sig before ps g rest h)
  overloads_read {all = all} {rest = rest} sig (more_overloads {before = before} {ps = ps} {f = g} s {mid = mid} {mid' = mid'} p d l) h =
      let first : ℕ = max (params_open p) (types_open 0 mid (sign mark.Bar s ∷ mid')) in
      onward (behind file last (purpose.Overload sig before ps) ds (f ∷ fs) (plain.fun g) (sign mark.Bar s ∷ mid')) (membered_on file last sig.begun (end_at last rest) (method sig.vis sig.single sig.name all) ds (f ∷ fs) rest)
      around first (overloads_open l)
      (overload_read sig before p d tt)
      (twice around (here file last (focus.Overload sig (before ++ record { params = ps; fun = g } ∷ [])) ds (f ∷ fs) mid') ∙ overloads_read sig l h)
