-- Headings of declarations, and type parameters.
use Rattle.std.specs.Prelude.{ℕ, ◌≡◌, refl, Bool, true, false, if◌then◌else◌, List, [], ◌∷◌, ◌++◌, Option, Some, None}
use Rattle.std.proofs.Common.{sym, subst}
use Rattle.rbs_terminals.specs.declared.token.Token.{Token}
use Rattle.rbs_terminals.specs.declared.token.Spot.{Spot}
use Rattle.rbs_terminals.specs.declared.token.Mark.TheVariants as mark
use Rattle.rbs_terminals.specs.declared.token.Keyword.TheVariants as keyword
use Rattle.rbs_terminals.specs.declared.token.Kind.{Kind}
use Rattle.rbs_terminals.specs.declared.token.Kind.TheVariants as kind
use Rattle.sig_model.specs.declared.place.Place.{Place}
use Rattle.sig_model.specs.declared.ty.TypeName.{TypeName}
use Rattle.sig_model.specs.declared.decl.Notes.{Notes}
use Rattle.sig_model.specs.declared.decl.Variance.{Variance}
use Rattle.sig_model.specs.declared.decl.Variance.TheVariants as variance
use Rattle.sig_model.specs.PlainTy as plain
use Rattle.sig_model.specs.PlainTy.{PlainTy, PlainTys}
use Rattle.sig_model.specs.PlainMember.{PlainParam, PlainMember}
use Rattle.sig_model.specs.PlainDecl as decl
use Rattle.sig_model.specs.PlainDecl.{PlainDecl, PlainDecls}
use Rattle.rbs_types.specs.Symbols.{token, sign, word}
use Rattle.rbs_types.specs.Parts.{no_name}
use Rattle.rbs_types.specs.Plains.{and_ty}
use Rattle.rbs_types.specs.Grammar.{of_class, of_class_or_interface, a_type, arguments_of}
use Rattle.rbs_types.proofs.Sound.{at_start}
use Rattle.rbs_declarations.specs.declared.state.Begun.{Begun}
use Rattle.rbs_declarations.specs.declared.state.Step.{Step}
use Rattle.rbs_declarations.specs.declared.state.Step.TheVariants as step_at
use Rattle.rbs_declarations.specs.declared.state.Sort.{Sort}
use Rattle.rbs_declarations.specs.declared.state.Sort.TheVariants as sort
use Rattle.rbs_declarations.specs.declared.state.Heading.TheVariants as heading
use Rattle.rbs_declarations.specs.declared.state.Frame.{Frame}
use Rattle.rbs_declarations.specs.declared.state.Owner.{Owner}
use Rattle.rbs_declarations.specs.declared.state.Param as a_param
use Rattle.rbs_declarations.specs.declared.state.Focus.TheVariants as focus
use Rattle.rbs_declarations.specs.declared.state.State.{State}
use Rattle.rbs_declarations.specs.Words.{end_at}
use Rattle.rbs_declarations.specs.Grammar.{Unchecked, checked, Varied, fixed, varied as a_variance, unbound, bound, bound_single, is_new_param, param, last_param, more_params, no_params, params, no_parent, parent, last_self, more_selves, no_selves, selves, a_type as type_body, a_constant}
use Rattle.rbs_declarations.specs.Machine.{at, named_on, Progress, further, whole, before, stuck, framed, bounded, and_param, first_on, after_class_params, after_module_params, after_alias_params, after_constant, after_heading, params_begin, after_name, name_goes, after_parent_name, parent_goes, after_self, after_self_name, self_goes, param_named, varied, variance_at, after_unchecked, param_begins, after_param, after_param_name, after_bound_name, bound_goes, bound_first, in_bound, after_bound_singleton, bound_class_closed, bound_class_goes, use_of}
use Rattle.rbs_declarations.proofs.Places.{InNameAt, ProgressAt, WholeNameAt, HeadingAt, NamedAt, ParentAt, SelfAt, ParameterizedAt, ParamsAt, ParamAt, BoundAt, BoundedAt, SingleAt, BoundNamingAt, BehindDecl, BehindMember, StepAt}
use Rattle.rbs_declarations.proofs.NamePlaces.{name_first, naming_at, in_name, name_begins, bare_name, name_applied}
use Rattle.rbs_declarations.proofs.PartPlaces.{part_at}

module _ (file last : ℕ) (text : List Token) where
  abbrev Declared : PlainDecls → List Frame → PlainDecl → List Token → Type 0
  Declared = BehindDecl file last text

  abbrev Membered : PlainDecls → List Frame → Place → Notes → PlainMember → List Token → Type 0
  Membered = BehindMember file last text

  abbrev Next : Option State → List Token → Type 0
  Next = StepAt file last text

  -- ---- type parameters

  abbrev ParamsIn : PlainDecls → List Frame → Owner → List PlainParam → List Token → Type 0
  ParamsIn ds fs = ParamsAt file last (Declared ds fs) (Membered ds fs)

  abbrev ParamIn : PlainDecls → List Frame → Owner → List PlainParam → PlainParam → List Token → Type 0
  ParamIn ds fs = ParamAt file last (Declared ds fs) (Membered ds fs)

  abbrev BoundIn : PlainDecls → List Frame → Owner → List PlainParam → a_param.Param → List Token → Type 0
  BoundIn ds fs = BoundAt file last (Declared ds fs) (Membered ds fs)

  abbrev BoundedIn : PlainDecls → List Frame → Owner → List PlainParam → a_param.Param → PlainTy → List Token → Type 0
  BoundedIn ds fs = BoundedAt file last (Declared ds fs) (Membered ds fs)

  -- behind a whole parameter
  pub param_at : (o : Owner) (ps done : List PlainParam) (p : PlainParam) (ds : PlainDecls) (fs : List Frame) (k : Kind) (s : Spot) (ts : List Token) → ps ≡ done ++ p ∷ [] → ParamIn ds fs o done p (token k s ∷ ts)
      → Next (after_param file o ps ds fs k) ts
  param_at o ps done p ds fs (kind.Mark mark.Comma) s ts e h = subst (λ x. ParamsIn ds fs o x ts) (sym e) (λ all s' rest d. h.1 all s' rest (more_params s h.2 h.3 d))
  param_at o ps done p ds fs (kind.Mark mark.CloseSquare) s ts e h =
      subst (λ x. ParameterizedAt file last (Declared ds fs) (Membered ds fs) o x ts) (sym e) (h.1 (done ++ p ∷ []) s ts (last_param h.2 h.3))
  param_at o ps done p ds fs _ s ts e h = tt

  -- a variance is read
  variance_read : (v : Variance) (k : Kind) (s : Spot) (ts : List Token) → variance_at file k ≡ Some v → Varied v (token k s ∷ ts) ts
  variance_read v (kind.Keyword k) s ts e = a_variance k v s e
  variance_read v _ s ts e = absurd (cc)

  -- a parameter's name is taken where it is new
  new_param : (o : Owner) (done : List PlainParam) (unchecked : Bool) (v : Variance) (x : List ℕ) (ds : PlainDecls) (fs : List Frame) (s : Spot) (m mid ts : List Token) (b : Bool) → is_new_param x done ≡ b
      → ParamsIn ds fs o done m → Unchecked unchecked m mid → Varied v mid (token (kind.Upper x) s ∷ ts)
      → Next (if b then at (focus.ParamName o done (record { name = x; unchecked = unchecked; variance = v })) ds fs else None) ts
  new_param o done unchecked v x ds fs s m mid ts true e h a b = λ t rest c. (m, h, e, param x s a b c)
  new_param o done unchecked v x ds fs s m mid ts false e h a b = tt

  pub param_name_at : (o : Owner) (done : List PlainParam) (unchecked : Bool) (v : Variance) (ds : PlainDecls) (fs : List Frame) (m mid : List Token) (k : Kind) (s : Spot) (ts : List Token)
      → ParamsIn ds fs o done m → Unchecked unchecked m mid → Varied v mid (token k s ∷ ts) → Next (param_named file o done unchecked v ds fs k) ts
  param_name_at o done unchecked v ds fs m mid (kind.Upper x) s ts h a b = new_param o done unchecked v x ds fs s m mid ts (is_new_param x done) refl h a b
  param_name_at o done unchecked v ds fs m mid _ s ts h a b = tt

  variance_or_name : (o : Owner) (done : List PlainParam) (unchecked : Bool) (ds : PlainDecls) (fs : List Frame) (v : Option Variance) (m : List Token) (k : Kind) (s : Spot) (ts : List Token) → variance_at file k ≡ v
      → ParamsIn ds fs o done m → Unchecked unchecked m (token k s ∷ ts) → Next (varied file o done unchecked ds fs k v) ts
  variance_or_name o done unchecked ds fs (Some v) m k s ts e h a = (m, token k s ∷ ts, h, a, variance_read v k s ts e)
  variance_or_name o done unchecked ds fs None m k s ts e h a = param_name_at o done unchecked variance.Fixed ds fs m (token k s ∷ ts) k s ts h a fixed

  pub unchecked_at : (o : Owner) (done : List PlainParam) (unchecked : Bool) (ds : PlainDecls) (fs : List Frame) (m : List Token) (k : Kind) (s : Spot) (ts : List Token) → ParamsIn ds fs o done m
      → Unchecked unchecked m (token k s ∷ ts) → Next (after_unchecked file o done unchecked ds fs k) ts
  unchecked_at o done unchecked ds fs m k s ts h a = variance_or_name o done unchecked ds fs (variance_at file k) m k s ts refl h a

  pub param_begins_at : (o : Owner) (done : List PlainParam) (ds : PlainDecls) (fs : List Frame) (k : Kind) (s : Spot) (ts : List Token) → ParamsIn ds fs o done (token k s ∷ ts) → Next (param_begins file o done ds fs k) ts
  param_begins_at o done ds fs (kind.Keyword keyword.Unchecked) s ts h = (s, h)
  param_begins_at o done ds fs k s ts h = unchecked_at o done false ds fs (token k s ∷ ts) k s ts h checked

  pub bound_or_further : (o : Owner) (done : List PlainParam) (p : a_param.Param) (ds : PlainDecls) (fs : List Frame) (k : Kind) (s : Spot) (ts : List Token) → BoundIn ds fs o done p (token k s ∷ ts)
      → Next (after_param_name file o done p ds fs k) ts
  bound_or_further o done p ds fs (kind.Mark mark.Less) s ts h = (refl, s, h)
  bound_or_further o done p ds fs k s ts h = param_at o (and_param done p None) done (bounded p None) ds fs k s ts refl (h None (token k s ∷ ts) unbound)

  pub bound_name_at : (o : Owner) (done : List PlainParam) (p : a_param.Param) (n : TypeName) (ds : PlainDecls) (fs : List Frame) (k : Kind) (s : Spot) (ts : List Token)
      → WholeNameAt of_class_or_interface (BoundedIn ds fs o done p) n (token k s ∷ ts) → Next (after_bound_name file o done p n ds fs k) ts
  bound_name_at o done p n ds fs (kind.Mark mark.OpenSquare) s ts h =
      (arguments_of n, ts, at_start (arguments_of n) ts, name_applied of_class_or_interface (BoundedIn ds fs o done p) n s ts h)
  bound_name_at o done p n ds fs k s ts h =
      param_at o (and_param done p (Some (plain.name n plain.no_tys))) done (bounded p (Some (plain.name n plain.no_tys))) ds fs k s ts refl
      (bare_name of_class_or_interface (BoundedIn ds fs o done p) n (token k s ∷ ts) h)

  -- inside the name of a bound
  bound_inside : (o : Owner) (done : List PlainParam) (p : a_param.Param) (n : TypeName) (x : Step) (ds : PlainDecls) (fs : List Frame) (ts : List Token)
      → InNameAt of_class_or_interface (WholeNameAt of_class_or_interface (BoundedIn ds fs o done p)) n x ts → BoundNamingAt file last (Declared ds fs) (Membered ds fs) o done p n x ts
  bound_inside o done p n step_at.Start ds fs ts h = absurd h
  bound_inside o done p n step_at.Scope ds fs ts h = h
  bound_inside o done p n step_at.Upper ds fs ts h = h

  bound_on : (o : Owner) (done : List PlainParam) (p : a_param.Param) (g : Progress) (ds : PlainDecls) (fs : List Frame) (k : Kind) (s : Spot) (ts : List Token)
      → ProgressAt of_class_or_interface (WholeNameAt of_class_or_interface (BoundedIn ds fs o done p)) g k s ts → Next (bound_goes file o done p g ds fs k) ts
  bound_on o done p (further naming) ds fs k s ts h = bound_inside o done p naming.name naming.step ds fs ts h
  bound_on o done p (whole n) ds fs k s ts h = h
  bound_on o done p (before n) ds fs k s ts h = bound_name_at o done p n ds fs k s ts h
  bound_on o done p stuck ds fs k s ts h = tt

  bound_first_at : (o : Owner) (done : List PlainParam) (p : a_param.Param) (n : TypeName) (ds : PlainDecls) (fs : List Frame) (k : Kind) (s s' : Spot) (ts : List Token) → n ≡ no_name
      → BoundIn ds fs o done p (sign mark.Less s' ∷ token k s ∷ ts) → Next (bound_first file o done p n ds fs k) ts
  bound_first_at o done p n ds fs (kind.Keyword keyword.Singleton) s s' ts e h = (s', s, h)
  bound_first_at o done p n ds fs k s s' ts e h =
      bound_on o done p (first_on of_class_or_interface n k) ds fs k s ts
      (name_first of_class_or_interface (WholeNameAt of_class_or_interface (BoundedIn ds fs o done p)) n k s ts e (λ v rest d. (token k s ∷ ts, λ t end a. h (Some t) end (bound s' a), d)))

  pub in_bound_at : (o : Owner) (done : List PlainParam) (p : a_param.Param) (n : TypeName) (x : Step) (ds : PlainDecls) (fs : List Frame) (k : Kind) (s : Spot) (ts : List Token)
      → BoundNamingAt file last (Declared ds fs) (Membered ds fs) o done p n x (token k s ∷ ts) → Next (in_bound file o done p n x ds fs k s) ts
  in_bound_at o done p n step_at.Start ds fs k s ts h = bound_first_at o done p n ds fs k s h.1 ts h.0 h.2
  in_bound_at o done p n step_at.Scope ds fs k s ts h =
      bound_on o done p (named_on of_class_or_interface n step_at.Scope k s) ds fs k s ts (naming_at of_class_or_interface (WholeNameAt of_class_or_interface (BoundedIn ds fs o done p)) n step_at.Scope k s ts h)
  in_bound_at o done p n step_at.Upper ds fs k s ts h =
      bound_on o done p (named_on of_class_or_interface n step_at.Upper k s) ds fs k s ts (naming_at of_class_or_interface (WholeNameAt of_class_or_interface (BoundedIn ds fs o done p)) n step_at.Upper k s ts h)

  pub bound_singleton_at : (o : Owner) (done : List PlainParam) (p : a_param.Param) (ds : PlainDecls) (fs : List Frame) (k : Kind) (s s' s'' : Spot) (ts : List Token)
      → BoundIn ds fs o done p (sign mark.Less s' ∷ word keyword.Singleton s'' ∷ token k s ∷ ts) → Next (after_bound_singleton file o done p ds fs k) ts
  bound_singleton_at o done p ds fs (kind.Mark mark.Open) s s' s'' ts h = (refl, λ v rest d. (s', s'', s, ts, h, d))
  bound_singleton_at o done p ds fs _ s s' s'' ts h = tt

  bound_class_end : (o : Owner) (done : List PlainParam) (p : a_param.Param) (n : TypeName) (ds : PlainDecls) (fs : List Frame) (k : Kind) (s : Spot) (ts : List Token)
      → SingleAt file last (Declared ds fs) (Membered ds fs) o done p n (token k s ∷ ts) → Next (bound_class_closed file o done p n ds fs k) ts
  bound_class_end o done p n ds fs (kind.Mark mark.Close) s ts h =
      (done, bounded p (Some (plain.single n)), refl, h.4 (Some (plain.single n)) ts (bound_single h.0 h.1 h.2 s h.5))
  bound_class_end o done p n ds fs _ s ts h = tt

  pub bound_class_at : (o : Owner) (done : List PlainParam) (p : a_param.Param) (g : Progress) (ds : PlainDecls) (fs : List Frame) (k : Kind) (s : Spot) (ts : List Token)
      → ProgressAt of_class (SingleAt file last (Declared ds fs) (Membered ds fs) o done p) g k s ts → Next (bound_class_goes file o done p g ds fs k) ts
  bound_class_at o done p (further naming) ds fs k s ts h = in_name of_class (SingleAt file last (Declared ds fs) (Membered ds fs) o done p) naming.name naming.step ts h
  bound_class_at o done p (before n) ds fs k s ts h = bound_class_end o done p n ds fs k s ts h
  bound_class_at o done p _ ds fs k s ts h = tt

  -- ---- superclasses

  abbrev ParentIn : PlainDecls → List Frame → Begun → TypeName → List PlainParam → PlainTy → List Token → Type 0
  ParentIn ds fs = ParentAt file last (Declared ds fs) (Membered ds fs)

  parent_name_at : (begun : Begun) (n : TypeName) (ps : List PlainParam) (v : TypeName) (ds : PlainDecls) (fs : List Frame) (k : Kind) (s : Spot) (ts : List Token)
      → WholeNameAt of_class (ParentIn ds fs begun n ps) v (token k s ∷ ts) → Next (after_parent_name file begun n ps v ds fs k s) ts
  parent_name_at begun n ps v ds fs (kind.Mark mark.OpenSquare) s ts h = (arguments_of v, ts, at_start (arguments_of v) ts, name_applied of_class (ParentIn ds fs begun n ps) v s ts h)
  parent_name_at begun n ps v ds fs k s ts h =
      part_at file last text ds (framed begun (heading.Class n ps (Some (plain.name v plain.no_tys))) ∷ fs) k s ts (bare_name of_class (ParentIn ds fs begun n ps) v (token k s ∷ ts) h)

  pub parent_at : (begun : Begun) (n : TypeName) (ps : List PlainParam) (g : Progress) (ds : PlainDecls) (fs : List Frame) (k : Kind) (s : Spot) (ts : List Token)
      → ProgressAt of_class (WholeNameAt of_class (ParentIn ds fs begun n ps)) g k s ts → Next (parent_goes file begun n ps g ds fs k s) ts
  parent_at begun n ps (further naming) ds fs k s ts h = in_name of_class (WholeNameAt of_class (ParentIn ds fs begun n ps)) naming.name naming.step ts h
  parent_at begun n ps (before v) ds fs k s ts h = parent_name_at begun n ps v ds fs k s ts h
  parent_at begun n ps _ ds fs k s ts h = tt

  -- ---- self types

  abbrev SelfIn : PlainDecls → List Frame → Begun → TypeName → List PlainParam → PlainTys → PlainTy → List Token → Type 0
  SelfIn ds fs = SelfAt file last (Declared ds fs) (Membered ds fs)

  -- behind a whole self type
  pub self_at : (begun : Begun) (n : TypeName) (ps : List PlainParam) (us : PlainTys) (t : PlainTy) (ds : PlainDecls) (fs : List Frame) (k : Kind) (s : Spot) (ts : List Token)
      → SelfIn ds fs begun n ps us t (token k s ∷ ts) → Next (after_self file begun n ps (and_ty us t) ds fs k s) ts
  self_at begun n ps us t ds fs (kind.Mark mark.Comma) s ts h =
      name_begins of_class_or_interface (SelfIn ds fs begun n ps (and_ty us t)) ts (λ u rest a. (ts, λ all end d. h.1 all end (more_selves s h.2 d), a))
  self_at begun n ps us t ds fs k s ts h = part_at file last text ds (framed begun (heading.Module n ps (and_ty us t)) ∷ fs) k s ts (h.1 (and_ty us t) (token k s ∷ ts) (last_self h.2))

  pub self_name_at : (begun : Begun) (n : TypeName) (ps : List PlainParam) (us : PlainTys) (v : TypeName) (ds : PlainDecls) (fs : List Frame) (k : Kind) (s : Spot) (ts : List Token)
      → WholeNameAt of_class_or_interface (SelfIn ds fs begun n ps us) v (token k s ∷ ts) → Next (after_self_name file begun n ps us v ds fs k s) ts
  self_name_at begun n ps us v ds fs (kind.Mark mark.OpenSquare) s ts h =
      (arguments_of v, ts, at_start (arguments_of v) ts, name_applied of_class_or_interface (SelfIn ds fs begun n ps us) v s ts h)
  self_name_at begun n ps us v ds fs k s ts h =
      self_at begun n ps us (plain.name v plain.no_tys) ds fs k s ts (bare_name of_class_or_interface (SelfIn ds fs begun n ps us) v (token k s ∷ ts) h)

  pub selves_at : (begun : Begun) (n : TypeName) (ps : List PlainParam) (us : PlainTys) (g : Progress) (ds : PlainDecls) (fs : List Frame) (k : Kind) (s : Spot) (ts : List Token)
      → ProgressAt of_class_or_interface (WholeNameAt of_class_or_interface (SelfIn ds fs begun n ps us)) g k s ts → Next (self_goes file begun n ps us g ds fs k s) ts
  selves_at begun n ps us (further naming) ds fs k s ts h = in_name of_class_or_interface (WholeNameAt of_class_or_interface (SelfIn ds fs begun n ps us)) naming.name naming.step ts h
  selves_at begun n ps us (whole v) ds fs k s ts h = h
  selves_at begun n ps us (before v) ds fs k s ts h = self_name_at begun n ps us v ds fs k s ts h
  selves_at begun n ps us stuck ds fs k s ts h = tt

  -- ---- headings

  abbrev HeadingIn : PlainDecls → List Frame → Begun → Sort → TypeName → List PlainParam → List Token → Type 0
  HeadingIn ds fs = HeadingAt file last (Declared ds fs) (Membered ds fs)

  class_at : (begun : Begun) (n : TypeName) (ps : List PlainParam) (ds : PlainDecls) (fs : List Frame) (k : Kind) (s : Spot) (ts : List Token) → HeadingIn ds fs begun sort.Class n ps (token k s ∷ ts)
      → Next (after_class_params file begun n ps ds fs k s) ts
  class_at begun n ps ds fs (kind.Mark mark.Less) s ts h = name_begins of_class (ParentIn ds fs begun n ps) ts (λ t rest a. h (Some t) rest (parent s a))
  class_at begun n ps ds fs k s ts h = part_at file last text ds (framed begun (heading.Class n ps None) ∷ fs) k s ts (h None (token k s ∷ ts) no_parent)

  module_at : (begun : Begun) (n : TypeName) (ps : List PlainParam) (ds : PlainDecls) (fs : List Frame) (k : Kind) (s : Spot) (ts : List Token) → HeadingIn ds fs begun sort.Module n ps (token k s ∷ ts)
      → Next (after_module_params file begun n ps ds fs k s) ts
  module_at begun n ps ds fs (kind.Mark mark.Colon) s ts h =
      name_begins of_class_or_interface (SelfIn ds fs begun n ps plain.no_tys) ts (λ t rest a. (ts, λ all end d. h all end (selves s d), a))
  module_at begun n ps ds fs k s ts h = part_at file last text ds (framed begun (heading.Module n ps plain.no_tys) ∷ fs) k s ts (h plain.no_tys (token k s ∷ ts) no_selves)

  alias_at : (begun : Begun) (n : TypeName) (ps : List PlainParam) (ds : PlainDecls) (fs : List Frame) (k : Kind) (s : Spot) (ts : List Token) → HeadingIn ds fs begun sort.Alias n ps (token k s ∷ ts)
      → Next (after_alias_params file begun n ps ds fs k) ts
  alias_at begun n ps ds fs (kind.Mark mark.Equals) s ts h = (a_type, ts, at_start a_type ts, λ t rest d. h.3 (decl.alias n ps t) (end_at last rest) rest (type_body h.0 s h.4 h.5 d))
  alias_at begun n ps ds fs _ s ts h = tt

  constant_at : (begun : Begun) (n : TypeName) (ds : PlainDecls) (fs : List Frame) (k : Kind) (s : Spot) (ts : List Token) → HeadingIn ds fs begun sort.Constant n [] (token k s ∷ ts)
      → Next (after_constant file begun n ds fs k) ts
  constant_at begun n ds fs (kind.Mark mark.Colon) s ts h = (a_type, ts, at_start a_type ts, λ t rest d. h.1 (decl.const n t) (end_at last rest) rest (a_constant s h.2 d))
  constant_at begun n ds fs _ s ts h = tt

  pub heading_at : (begun : Begun) (x : Sort) (n : TypeName) (ps : List PlainParam) (ds : PlainDecls) (fs : List Frame) (k : Kind) (s : Spot) (ts : List Token) → HeadingIn ds fs begun x n ps (token k s ∷ ts)
      → Next (after_heading file begun x n ps ds fs k s) ts
  heading_at begun sort.Class n ps ds fs k s ts h = class_at begun n ps ds fs k s ts h
  heading_at begun sort.Module n ps ds fs k s ts h = module_at begun n ps ds fs k s ts h
  heading_at begun sort.Interface n ps ds fs k s ts h = part_at file last text ds (framed begun (heading.Interface n ps) ∷ fs) k s ts h
  heading_at begun sort.Alias n ps ds fs k s ts h = alias_at begun n ps ds fs k s ts h
  heading_at begun sort.Constant n ps ds fs k s ts h = constant_at begun n ds fs k s ts h

  -- ---- names

  abbrev NamedIn : PlainDecls → List Frame → Begun → Sort → TypeName → List Token → Type 0
  NamedIn ds fs = NamedAt file last (Declared ds fs) (Membered ds fs)

  params_at : (begun : Begun) (x : Sort) (n : TypeName) (ds : PlainDecls) (fs : List Frame) (s : Spot) (ts : List Token) → NamedIn ds fs begun x n (sign mark.OpenSquare s ∷ ts) → Next (params_begin file begun x n ds fs) ts
  params_at begun sort.Constant n ds fs s ts h = tt
  params_at begun sort.Class n ds fs s ts h = λ ps s' rest d. h ps rest (params s s' d)
  params_at begun sort.Module n ds fs s ts h = λ ps s' rest d. h ps rest (params s s' d)
  params_at begun sort.Interface n ds fs s ts h = λ ps s' rest d. h ps rest (params s s' d)
  params_at begun sort.Alias n ds fs s ts h = λ ps s' rest d. h ps rest (params s s' d)

  -- no type parameters follow
  unparameterized : (begun : Begun) (x : Sort) (n : TypeName) (ds : PlainDecls) (fs : List Frame) (ts : List Token) → NamedIn ds fs begun x n ts → HeadingIn ds fs begun x n [] ts
  unparameterized begun sort.Constant n ds fs ts h = h
  unparameterized begun sort.Class n ds fs ts h = h [] ts no_params
  unparameterized begun sort.Module n ds fs ts h = h [] ts no_params
  unparameterized begun sort.Interface n ds fs ts h = h [] ts no_params
  unparameterized begun sort.Alias n ds fs ts h = h [] ts no_params

  pub named_at : (begun : Begun) (x : Sort) (n : TypeName) (ds : PlainDecls) (fs : List Frame) (k : Kind) (s : Spot) (ts : List Token) → NamedIn ds fs begun x n (token k s ∷ ts)
      → Next (after_name file begun x n ds fs k s) ts
  named_at begun x n ds fs (kind.Mark mark.OpenSquare) s ts h = params_at begun x n ds fs s ts h
  named_at begun x n ds fs k s ts h = heading_at begun x n [] ds fs k s ts (unparameterized begun x n ds fs (token k s ∷ ts) h)

  pub name_at : (begun : Begun) (x : Sort) (g : Progress) (ds : PlainDecls) (fs : List Frame) (k : Kind) (s : Spot) (ts : List Token) → ProgressAt (use_of x) (NamedIn ds fs begun x) g k s ts
      → Next (name_goes file begun x g ds fs k s) ts
  name_at begun x (further naming) ds fs k s ts h = in_name (use_of x) (NamedIn ds fs begun x) naming.name naming.step ts h
  name_at begun x (whole n) ds fs k s ts h = h
  name_at begun x (before n) ds fs k s ts h = named_at begun x n ds fs k s ts h
  name_at begun x stuck ds fs k s ts h = tt
