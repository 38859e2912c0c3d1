-- Inside of types and behind them.
use Rattle.std.specs.Prelude.{ℕ, ◌≡◌, refl, List, [], ◌∷◌, ◌++◌, Option, Some, None}
use Rattle.std.proofs.Common.{sym, subst}
use Rattle.rbs_terminals.specs.declared.token.Token.{Token}
use Rattle.rbs_terminals.specs.declared.token.Spot.{Spot}
use Rattle.rbs_terminals.specs.declared.token.Mark.TheVariants as mark
use Rattle.rbs_terminals.specs.declared.token.Kind.{Kind}
use Rattle.rbs_terminals.specs.declared.token.Kind.TheVariants as kind
use Rattle.sig_model.specs.declared.place.Place.{Place}
use Rattle.sig_model.specs.declared.decl.Notes.{Notes}
use Rattle.sig_model.specs.PlainTy as plain
use Rattle.sig_model.specs.PlainTy.{PlainTy, PlainTys, PlainFun}
use Rattle.sig_model.specs.PlainMember.{PlainParam, PlainMethod, PlainMember, method, attr, mixin as mixed, ivar}
use Rattle.sig_model.specs.PlainDecl as decl
use Rattle.sig_model.specs.PlainDecl.{PlainDecl, PlainDecls}
use Rattle.rbs_types.specs.declared.state.State.{State as TypeState}
use Rattle.rbs_types.specs.Symbols.{token, sign}
use Rattle.rbs_types.specs.Grammar.{Phrase, a_function, Spelled, Function}
use Rattle.rbs_types.specs.Machine as types
use Rattle.rbs_types.proofs.Sound.{At, NextAt, EndsAt, at_start, at_next, at_final}
use Rattle.rbs_declarations.specs.declared.state.Frame.{Frame}
use Rattle.rbs_declarations.specs.declared.state.Heading.TheVariants as heading
use Rattle.rbs_declarations.specs.declared.state.Signature.{Signature}
use Rattle.rbs_declarations.specs.declared.state.Owner.{Owner}
use Rattle.rbs_declarations.specs.declared.state.Owner.TheVariants as owner
use Rattle.rbs_declarations.specs.declared.state.Purpose.{Purpose}
use Rattle.rbs_declarations.specs.declared.state.Purpose.TheVariants as purpose
use Rattle.rbs_declarations.specs.declared.state.State.{State}
use Rattle.rbs_declarations.specs.Grammar.{params, no_params, last_overload, more_overloads, and_decl, end_of_file}
use Rattle.rbs_declarations.specs.Machine.{with_decl, with_member, and_param, bounded, framed, place_from, typed, function_begins, after_overload, after_parameterized, after_function, after_whole, after_final, typed_on, settled_type, type_ended, whole_file}
use Rattle.rbs_declarations.proofs.Places.{OverloadsAt, FunctionAt, ParameterizedAt, BehindAt, TypedAt, BehindDecl, BehindMember, StepAt, EndAt}
use Rattle.rbs_declarations.proofs.PartPlaces.{part_at, then_declared, then_membered}
use Rattle.rbs_declarations.proofs.HeadingPlaces.{heading_at, param_at, self_at}

module _ (file last : ℕ) (text : List Token) where
  abbrev Declared : PlainDecls → List Frame → PlainDecl → List Token → Type 0
  Declared = BehindDecl file last text

  abbrev Membered : PlainDecls → List Frame → Place → Notes → PlainMember → List Token → Type 0
  Membered = BehindMember file last text

  abbrev Next : Option State → List Token → Type 0
  Next = StepAt file last text

  abbrev BehindIn : PlainDecls → List Frame → Purpose → PlainTy → List Token → Type 0
  BehindIn ds fs = BehindAt file last (Declared ds fs) (Membered ds fs)

  abbrev FunctionIn : PlainDecls → List Frame → Signature → List PlainMethod → List PlainParam → List Token → Type 0
  FunctionIn ds fs = FunctionAt file last (Declared ds fs) (Membered ds fs)

  abbrev OverloadsIn : PlainDecls → List Frame → Signature → List PlainMethod → List Token → Type 0
  OverloadsIn ds fs = OverloadsAt file last (Declared ds fs) (Membered ds fs)

  -- ---- overloads

  -- behind the first token of a type
  typed_at : (p : Purpose) (ds : PlainDecls) (fs : List Frame) (o : Option TypeState) (q : Phrase) (m ts : List Token) → NextAt q m o ts
      → ((t : PlainTy) (rest : List Token) → Spelled q t m rest → BehindIn ds fs p t rest) → Next (typed file p ds fs o) ts
  typed_at p ds fs None q m ts h g = tt
  typed_at p ds fs (Some i) q m ts h g = (q, m, h, g)

  function_at : (sig : Signature) (done : List PlainMethod) (ps : List PlainParam) (ds : PlainDecls) (fs : List Frame) (k : Kind) (s : Spot) (ts : List Token) → FunctionIn ds fs sig done ps (token k s ∷ ts)
      → Next (function_begins file sig done ps ds fs k s) ts
  function_at sig done ps ds fs k s ts h =
      typed_at (purpose.Overload sig done ps) ds fs (types.next types.start_function (token k s)) a_function (token k s ∷ ts) ts
      (at_next a_function (token k s ∷ ts) types.start_function (token k s) ts (at_start a_function (token k s ∷ ts))) (λ t rest d. (d.0, d.1, token k s ∷ ts, h, d.2))

  pub overload_at : (sig : Signature) (done : List PlainMethod) (ds : PlainDecls) (fs : List Frame) (k : Kind) (s : Spot) (ts : List Token) → OverloadsIn ds fs sig done (token k s ∷ ts)
      → Next (after_overload file sig done ds fs k s) ts
  overload_at sig done ds fs (kind.Mark mark.OpenSquare) s ts h = λ ps s' rest d. (sign mark.OpenSquare s ∷ ts, h, params s s' d)
  overload_at sig done ds fs k s ts h = function_at sig done [] ds fs k s ts (token k s ∷ ts, h, no_params)

  pub parameterized_at : (o : Owner) (ps : List PlainParam) (ds : PlainDecls) (fs : List Frame) (k : Kind) (s : Spot) (ts : List Token)
      → ParameterizedAt file last (Declared ds fs) (Membered ds fs) o ps (token k s ∷ ts) → Next (after_parameterized file o ps ds fs k s) ts
  parameterized_at (owner.Heading begun x n) ps ds fs k s ts h = heading_at file last text begun x n ps ds fs k s ts h
  parameterized_at (owner.Overload sig done) ps ds fs k s ts h = function_at sig done ps ds fs k s ts h

  behind_function : (sig : Signature) (done : List PlainMethod) (ps : List PlainParam) (f : PlainFun) (ds : PlainDecls) (fs : List Frame) (m : List Token) (k : Kind) (s : Spot) (ts : List Token)
      → FunctionIn ds fs sig done ps m → Function f m (token k s ∷ ts) → Next (after_function file sig done ps (plain.fun f) ds fs k s) ts
  behind_function sig done ps f ds fs m (kind.Mark mark.Bar) s ts h d = λ ms rest c. h.1 ms rest (more_overloads s h.2 d c)
  behind_function sig done ps f ds fs m k s ts h d =
      then_membered file last text ds fs (place_from file sig.begun s.before) sig.begun.notes (method sig.vis sig.single sig.name (done ++ record { params = ps; fun = f } ∷ [])) k s ts
      (h.1 (done ++ record { params = ps; fun = f } ∷ []) (token k s ∷ ts) (last_overload h.2 d))

  -- ---- behind a type

  behind_at : (p : Purpose) (t : PlainTy) (ds : PlainDecls) (fs : List Frame) (k : Kind) (s : Spot) (ts : List Token) → BehindIn ds fs p t (token k s ∷ ts) → Next (after_whole file p t ds fs k s) ts
  behind_at (purpose.Alias begun n ps) t ds fs k s ts h = then_declared file last text ds fs (decl.decl (place_from file begun s.before) begun.notes (decl.alias n ps t)) k s ts h
  behind_at (purpose.Constant begun n) t ds fs k s ts h = then_declared file last text ds fs (decl.decl (place_from file begun s.before) begun.notes (decl.const n t)) k s ts h
  behind_at (purpose.Attribute begun v a x) t ds fs k s ts h = then_membered file last text ds fs (place_from file begun s.before) begun.notes (attr v a x t) k s ts h
  behind_at (purpose.Variable begun single x) t ds fs k s ts h = then_membered file last text ds fs (place_from file begun s.before) begun.notes (ivar single x t) k s ts h
  behind_at (purpose.Overload sig done ps) t ds fs k s ts h =
      subst (λ u. Next (after_function file sig done ps u ds fs k s) ts) (sym h.1) (behind_function sig done ps h.0 ds fs h.2 k s ts h.3 h.4)
  behind_at (purpose.Parent begun n ps) t ds fs k s ts h = part_at file last text ds (framed begun (heading.Class n ps (Some t)) ∷ fs) k s ts h
  behind_at (purpose.SelfType begun n ps us) t ds fs k s ts h = self_at file last text begun n ps us t ds fs k s ts h
  behind_at (purpose.Mixin begun m) t ds fs k s ts h = then_membered file last text ds fs (place_from file begun s.before) begun.notes (mixed m t) k s ts h
  behind_at (purpose.Bound o done p) t ds fs k s ts h = param_at file last text o (and_param done p (Some t)) done (bounded p (Some t)) ds fs k s ts refl h

  behind_final : (p : Purpose) (o : Option PlainTy) (q : Phrase) (m : List Token) (ds : PlainDecls) (fs : List Frame) (k : Kind) (s : Spot) (ts : List Token) → EndsAt q m o (token k s ∷ ts)
      → ((t : PlainTy) (rest : List Token) → Spelled q t m rest → BehindIn ds fs p t rest) → Next (after_final file p o ds fs k s) ts
  behind_final p None q m ds fs k s ts h g = tt
  behind_final p (Some t) q m ds fs k s ts h g = behind_at p t ds fs k s ts (g t (token k s ∷ ts) h)

  -- the token goes to the type, or stands behind it where the type doesn't take it
  type_goes : (p : Purpose) (i : TypeState) (o : Option TypeState) (q : Phrase) (m : List Token) (ds : PlainDecls) (fs : List Frame) (k : Kind) (s : Spot) (ts : List Token) → types.next i (token k s) ≡ o
      → At q m i (token k s ∷ ts) → NextAt q m o ts → ((t : PlainTy) (rest : List Token) → Spelled q t m rest → BehindIn ds fs p t rest) → Next (typed_on file p i o ds fs k s) ts
  type_goes p i (Some j) q m ds fs k s ts e a h g = (q, m, h, g)
  type_goes p i None q m ds fs k s ts e a h g = behind_final p (types.final i) q m ds fs k s ts (at_final q m i (token k s ∷ ts) a e) g

  pub type_at : (p : Purpose) (i : TypeState) (ds : PlainDecls) (fs : List Frame) (k : Kind) (s : Spot) (ts : List Token) → TypedAt file last (Declared ds fs) (Membered ds fs) p i (token k s ∷ ts)
      → Next (typed_on file p i (types.next i (token k s)) ds fs k s) ts
  type_at p i ds fs k s ts h = type_goes p i (types.next i (token k s)) h.0 h.1 ds fs k s ts refl h.2 (at_next h.0 h.1 i (token k s) ts h.2) h.3

  -- ---- the end of the text, where only a declaration of the file may be whole

  declared_ends : (ds : PlainDecls) (fs : List Frame) (d : PlainDecl) → Declared ds fs d [] → EndAt file last text (whole_file file (Some (with_decl ds fs d)))
  declared_ends ds [] d h = h (and_decl ds d) end_of_file
  declared_ends ds (f ∷ fs) d h = tt

  membered_ends : (ds : PlainDecls) (fs : List Frame) (p : Place) (n : Notes) (x : PlainMember) → Membered ds fs p n x [] → EndAt file last text (whole_file file (Some (with_member ds fs p n x)))
  membered_ends ds [] p n x h = absurd h
  membered_ends ds (f ∷ fs) p n x h = tt

  function_ends : (sig : Signature) (done : List PlainMethod) (ps : List PlainParam) (f : PlainFun) (ds : PlainDecls) (fs : List Frame) (m : List Token) → FunctionIn ds fs sig done ps m → Function f m []
      → EndAt file last text (whole_file file (settled_type file (purpose.Overload sig done ps) (plain.fun f) last ds fs))
  function_ends sig done ps f ds fs m h d =
      membered_ends ds fs (place_from file sig.begun last) sig.begun.notes (method sig.vis sig.single sig.name (done ++ record { params = ps; fun = f } ∷ []))
      (h.1 (done ++ record { params = ps; fun = f } ∷ []) [] (last_overload h.2 d))

  behind_ends : (p : Purpose) (t : PlainTy) (ds : PlainDecls) (fs : List Frame) → BehindIn ds fs p t [] → EndAt file last text (whole_file file (settled_type file p t last ds fs))
  behind_ends (purpose.Alias begun n ps) t ds fs h = declared_ends ds fs (decl.decl (place_from file begun last) begun.notes (decl.alias n ps t)) h
  behind_ends (purpose.Constant begun n) t ds fs h = declared_ends ds fs (decl.decl (place_from file begun last) begun.notes (decl.const n t)) h
  behind_ends (purpose.Attribute begun v a x) t ds fs h = membered_ends ds fs (place_from file begun last) begun.notes (attr v a x t) h
  behind_ends (purpose.Variable begun single x) t ds fs h = membered_ends ds fs (place_from file begun last) begun.notes (ivar single x t) h
  behind_ends (purpose.Overload sig done ps) t ds fs h =
      subst (λ u. EndAt file last text (whole_file file (settled_type file (purpose.Overload sig done ps) u last ds fs))) (sym h.1) (function_ends sig done ps h.0 ds fs h.2 h.3 h.4)
  behind_ends (purpose.Parent begun n ps) t ds fs h = tt
  behind_ends (purpose.SelfType begun n ps us) t ds fs h = tt
  behind_ends (purpose.Mixin begun m) t ds fs h = membered_ends ds fs (place_from file begun last) begun.notes (mixed m t) h
  behind_ends (purpose.Bound o done p) t ds fs h = tt

  type_end_at : (p : Purpose) (o : Option PlainTy) (q : Phrase) (m : List Token) (ds : PlainDecls) (fs : List Frame) → EndsAt q m o [] → ((t : PlainTy) (rest : List Token) → Spelled q t m rest → BehindIn ds fs p t rest)
      → EndAt file last text (whole_file file (type_ended file p o last ds fs))
  type_end_at p None q m ds fs h g = tt
  type_end_at p (Some t) q m ds fs h g = behind_ends p t ds fs (g t [] h)

  pub type_ends : (p : Purpose) (i : TypeState) (ds : PlainDecls) (fs : List Frame) → TypedAt file last (Declared ds fs) (Membered ds fs) p i []
      → EndAt file last text (whole_file file (type_ended file p (types.final i) last ds fs))
  type_ends p i ds fs h = type_end_at p (types.final i) h.0 h.1 ds fs (at_final h.0 h.1 i [] h.2 tt) h.3
