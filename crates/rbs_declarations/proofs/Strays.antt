-- A byte that begins no token continues no text of declarations.
use Rattle.std.proofs.Common.{ℕ, ◌≡◌, refl, ◌∙◌, ap, Bool, true, false, if◌then◌else◌, ◌&&◌, List, [], ◌∷◌, ◌++◌, Option, Some, None, option_and_then}
use Rattle.rbs_terminals.specs.declared.token.Token.{Token}
use Rattle.rbs_terminals.specs.declared.token.Spot.{Spot}
use Rattle.rbs_terminals.specs.declared.token.Kind.TheVariants as kind
use Rattle.sig_model.specs.declared.ty.TypeName.{TypeName}
use Rattle.sig_model.specs.declared.decl.MixKind.{MixKind}
use Rattle.sig_model.specs.PlainTy.{PlainTy, PlainTys}
use Rattle.sig_model.specs.PlainMember.{PlainParam}
use Rattle.sig_model.specs.PlainDecl.{PlainDecls}
use Rattle.viable_prefixes.specs.Runs.{reads}
use Rattle.viable_prefixes.proofs.Goes.{none_some}
use Rattle.rbs_types.specs.declared.state.State.{State as TypeState}
use Rattle.rbs_types.specs.Symbols.{token, on_line, scope_at}
use Rattle.rbs_types.specs.Grammar.{Use, ends_capital, of_class, of_class_or_interface}
use Rattle.rbs_types.specs.Answers.{last_end}
use Rattle.rbs_types.specs.Machine as types
use Rattle.rbs_types.proofs.Strays as type_strays
use Rattle.rbs_declarations.specs.declared.state.Begun.{Begun}
use Rattle.rbs_declarations.specs.declared.state.Step.{Step}
use Rattle.rbs_declarations.specs.declared.state.Step.TheVariants as step_at
use Rattle.rbs_declarations.specs.declared.state.Naming.{Naming}
use Rattle.rbs_declarations.specs.declared.state.Sort.{Sort}
use Rattle.rbs_declarations.specs.declared.state.Sort.TheVariants as sort
use Rattle.rbs_declarations.specs.declared.state.Frame.{Frame}
use Rattle.rbs_declarations.specs.declared.state.Owner.{Owner}
use Rattle.rbs_declarations.specs.declared.state.Owner.TheVariants as owner
use Rattle.rbs_declarations.specs.declared.state.Param.{Param}
use Rattle.rbs_declarations.specs.declared.state.Purpose.{Purpose}
use Rattle.rbs_declarations.specs.declared.state.Purpose.TheVariants as purpose
use Rattle.rbs_declarations.specs.declared.state.Focus.{Focus}
use Rattle.rbs_declarations.specs.declared.state.Focus.TheVariants as focus
use Rattle.rbs_declarations.specs.declared.state.State.{State}
use Rattle.rbs_declarations.specs.Operators.{is_operator}
use Rattle.rbs_declarations.specs.Words.{takes_vis}
use Rattle.rbs_declarations.specs.Machine.{start_of_file, Progress, further, whole, before, stuck, before_if, named_on, naming_on, use_of, site_of, mixin_use, then_part, after_heading, name_goes, parent_goes, self_goes, in_bound, bound_class_goes, with_method, and_overload, after_parameterized, after_whole, after_final, typed_on, mixin_goes, step, next, final}
use Rattle.rbs_declarations.specs.Limits.{IsWritten}
use Rattle.rbs_declarations.proofs.Complete.{complete}

abbrev none : Option State
none = None

either_ends : (b : Bool) → (if b then none else none) ≡ none
either_ends true = refl
either_ends false = refl

-- ---- names

-- a name doesn't take the token
abbrev Closes : Progress → Type 0
Closes (before n) = Unit {0}
Closes stuck = Unit {0}
Closes _ = ⊥

before_closes : (b : Bool) (n : TypeName) → Closes (before_if b n)
before_closes true n = tt
before_closes false n = tt

named_closes : (u : Use) (n : TypeName) (x : Step) (s : Spot) → Closes (named_on u n x kind.Stray s)
named_closes u n step_at.Start s = tt
named_closes u n step_at.Scope s = tt
named_closes u n step_at.Upper s = before_closes (ends_capital u) n

naming_closes : (u : Use) (naming : Naming) (s : Spot) → Closes (naming_on u naming kind.Stray s)
naming_closes u naming s = named_closes u naming.name naming.step s

-- In the file of this number.
module _ (file : ℕ) where
  -- ---- no state takes it

  then_ends : (o : Option State) (s : Spot) → then_part file o kind.Stray s ≡ None
  then_ends None s = refl
  then_ends (Some m) s = refl

  heading_ends : (begun : Begun) (x : Sort) (n : TypeName) (ps : List PlainParam) (ds : PlainDecls) (fs : List Frame) (s : Spot) → after_heading file begun x n ps ds fs kind.Stray s ≡ None
  heading_ends begun sort.Class n ps ds fs s = refl
  heading_ends begun sort.Module n ps ds fs s = refl
  heading_ends begun sort.Interface n ps ds fs s = refl
  heading_ends begun sort.Alias n ps ds fs s = refl
  heading_ends begun sort.Constant n ps ds fs s = refl

  name_ends : (begun : Begun) (x : Sort) (p : Progress) (ds : PlainDecls) (fs : List Frame) (s : Spot) → Closes p → name_goes file begun x p ds fs kind.Stray s ≡ None
  name_ends begun x (before n) ds fs s h = heading_ends begun x n [] ds fs s
  name_ends begun x stuck ds fs s h = refl
  name_ends begun x (further naming) ds fs s h = absurd h
  name_ends begun x (whole n) ds fs s h = absurd h

  parent_ends : (begun : Begun) (n : TypeName) (ps : List PlainParam) (p : Progress) (ds : PlainDecls) (fs : List Frame) (s : Spot) → Closes p → parent_goes file begun n ps p ds fs kind.Stray s ≡ None
  parent_ends begun n ps (before m) ds fs s h = refl
  parent_ends begun n ps stuck ds fs s h = refl
  parent_ends begun n ps (further naming) ds fs s h = absurd h
  parent_ends begun n ps (whole m) ds fs s h = absurd h

  self_ends : (begun : Begun) (n : TypeName) (ps : List PlainParam) (us : PlainTys) (p : Progress) (ds : PlainDecls) (fs : List Frame) (s : Spot) → Closes p
      → self_goes file begun n ps us p ds fs kind.Stray s ≡ None
  self_ends begun n ps us (before m) ds fs s h = refl
  self_ends begun n ps us stuck ds fs s h = refl
  self_ends begun n ps us (further naming) ds fs s h = absurd h
  self_ends begun n ps us (whole m) ds fs s h = absurd h

  bound_ends : (o : Owner) (done : List PlainParam) (p : Param) (n : TypeName) (x : Step) (ds : PlainDecls) (fs : List Frame) (s : Spot) → in_bound file o done p n x ds fs kind.Stray s ≡ None
  bound_ends o done p n step_at.Start ds fs s = refl
  bound_ends o done p n step_at.Scope ds fs s = refl
  bound_ends o done p n step_at.Upper ds fs s = refl

  class_ends : (o : Owner) (done : List PlainParam) (p : Param) (g : Progress) (ds : PlainDecls) (fs : List Frame) → Closes g → bound_class_goes file o done p g ds fs kind.Stray ≡ None
  class_ends o done p (before m) ds fs h = refl
  class_ends o done p stuck ds fs h = refl
  class_ends o done p (further naming) ds fs h = absurd h
  class_ends o done p (whole m) ds fs h = absurd h

  parameterized_ends : (o : Owner) (ps : List PlainParam) (ds : PlainDecls) (fs : List Frame) (s : Spot) → after_parameterized file o ps ds fs kind.Stray s ≡ None
  parameterized_ends (owner.Heading begun x n) ps ds fs s = heading_ends begun x n ps ds fs s
  parameterized_ends (owner.Overload sig done) ps ds fs s = refl

  mixin_ends : (begun : Begun) (m : MixKind) (p : Progress) (ds : PlainDecls) (fs : List Frame) (s : Spot) → Closes p → mixin_goes file begun m p ds fs kind.Stray s ≡ None
  mixin_ends begun m (before n) ds fs s h = refl
  mixin_ends begun m stuck ds fs s h = refl
  mixin_ends begun m (further naming) ds fs s h = absurd h
  mixin_ends begun m (whole n) ds fs s h = absurd h

  whole_ends : (p : Purpose) (t : PlainTy) (ds : PlainDecls) (fs : List Frame) (s : Spot) → after_whole file p t ds fs kind.Stray s ≡ None
  whole_ends (purpose.Overload sig done ps) t ds fs s = then_ends (with_method file sig (and_overload done ps t) s.before ds fs) s
  whole_ends (purpose.SelfType begun n ps us) t ds fs s = refl
  whole_ends (purpose.Bound o done p) t ds fs s = refl
  whole_ends (purpose.Alias begun n ps) t ds fs s = refl
  whole_ends (purpose.Constant begun n) t ds fs s = refl
  whole_ends (purpose.Attribute begun v a w) t ds fs s = refl
  whole_ends (purpose.Variable begun single w) t ds fs s = refl
  whole_ends (purpose.Parent begun n ps) t ds fs s = refl
  whole_ends (purpose.Mixin begun m) t ds fs s = refl

  final_ends : (p : Purpose) (o : Option PlainTy) (ds : PlainDecls) (fs : List Frame) (s : Spot) → after_final file p o ds fs kind.Stray s ≡ None
  final_ends p None ds fs s = refl
  final_ends p (Some t) ds fs s = whole_ends p t ds fs s

  typed_ends : (p : Purpose) (i : TypeState) (ds : PlainDecls) (fs : List Frame) (s : Spot) → typed_on file p i (types.next i (token kind.Stray s)) ds fs kind.Stray s ≡ None
  typed_ends p i ds fs s = ap (λ o. typed_on file p i o ds fs kind.Stray s) (type_strays.stray_ends i s) ∙ final_ends p (types.final i) ds fs s

  step_ends : (f : Focus) (ds : PlainDecls) (fs : List Frame) (s : Spot) → step file f ds fs kind.Stray s ≡ None
  step_ends focus.Parts ds fs s = refl
  step_ends (focus.Noted begun) ds fs s = refl
  step_ends (focus.Visible begun v e) ds fs s = either_ends (on_line s && takes_vis kind.Stray)
  step_ends (focus.Name begun x naming) ds fs s = name_ends begun x (naming_on (use_of x) naming kind.Stray s) ds fs s (naming_closes (use_of x) naming s)
  step_ends (focus.Named begun x n) ds fs s = heading_ends begun x n [] ds fs s
  step_ends (focus.Param o done) ds fs s = refl
  step_ends (focus.Unchecked o done) ds fs s = refl
  step_ends (focus.Varied o done unchecked v) ds fs s = refl
  step_ends (focus.ParamName o done p) ds fs s = refl
  step_ends (focus.Bound o done p naming) ds fs s = bound_ends o done p naming.name naming.step ds fs s
  step_ends (focus.BoundNamed o done p m) ds fs s = refl
  step_ends (focus.BoundSingleton o done p) ds fs s = refl
  step_ends (focus.BoundClass o done p naming) ds fs s = class_ends o done p (naming_on of_class naming kind.Stray s) ds fs (naming_closes of_class naming s)
  step_ends (focus.Bounded o ps) ds fs s = refl
  step_ends (focus.Parameterized o ps) ds fs s = parameterized_ends o ps ds fs s
  step_ends (focus.Parent begun n ps naming) ds fs s = parent_ends begun n ps (naming_on of_class naming kind.Stray s) ds fs s (naming_closes of_class naming s)
  step_ends (focus.SelfType begun n ps us naming) ds fs s =
      self_ends begun n ps us (naming_on of_class_or_interface naming kind.Stray s) ds fs s (naming_closes of_class_or_interface naming s)
  step_ends (focus.SelfNamed begun n ps us m) ds fs s = refl
  step_ends (focus.Def begun v) ds fs s = refl
  step_ends (focus.DefSelf begun v) ds fs s = refl
  step_ends (focus.MethodStart begun v single) ds fs s = refl
  step_ends (focus.MethodWord sig) ds fs s = refl
  step_ends (focus.MethodOperator begun v single o) ds fs s = either_ends (is_operator o)
  step_ends (focus.MethodName sig) ds fs s = refl
  step_ends (focus.Overload sig done) ds fs s = refl
  step_ends (focus.Attribute begun v a) ds fs s = refl
  step_ends (focus.AttributeName begun v a w) ds fs s = refl
  step_ends (focus.Mixin begun m naming) ds fs s =
      mixin_ends begun m (naming_on (mixin_use (site_of fs)) naming kind.Stray s) ds fs s (naming_closes (mixin_use (site_of fs)) naming s)
  step_ends (focus.MixinNamed begun m n) ds fs s = refl
  step_ends (focus.Alias begun) ds fs s = refl
  step_ends (focus.NewWord begun w) ds fs s = refl
  step_ends (focus.NewEquals begun w) ds fs s = refl
  step_ends (focus.NewEqualsEquals begun w) ds fs s = refl
  step_ends (focus.NewOperator begun o) ds fs s = either_ends (is_operator o)
  step_ends (focus.NewName begun new) ds fs s = refl
  step_ends (focus.OldWord begun new w capital) ds fs s = either_ends (capital && scope_at kind.Stray s)
  step_ends (focus.OldOperator begun new o) ds fs s = either_ends (is_operator o)
  step_ends (focus.OldName begun new old) ds fs s = refl
  step_ends (focus.SelfWord begun) ds fs s = refl
  step_ends (focus.SelfDot begun) ds fs s = refl
  step_ends (focus.Variable begun single w) ds fs s = refl
  step_ends (focus.Typed p i) ds fs s = typed_ends p i ds fs s

  pub stray_ends : (m : State) (s : Spot) → next file m (token kind.Stray s) ≡ None
  stray_ends m s = step_ends m.focus m.decls m.frames s

  -- ---- and so it stands in no text

  -- what is left behind some tokens, with the byte at the end
  abbrev left : ℕ → List Token → Spot → State → Option PlainDecls
  left e ts s m = reads (next file) (final file e) m (ts ++ token kind.Stray s ∷ [])

  reads_none : (e : ℕ) (ts : List Token) (m : State) (s : Spot) → left e ts s m ≡ None
  unfolding reads
  reads_none e [] m s = ap (option_and_then (λ m. reads (next file) (final file e) m [])) (stray_ends m s)
  reads_none e (c ∷ ts) m s = go (next file m c) (λ m. reads_none e ts m s)
    where
      go : (o : Option State) → ((m : State) → left e ts s m ≡ None) → option_and_then (left e ts s) o ≡ None
      go None ih = refl
      go (Some m) ih = ih m

  pub stray_unwritten : (ds : PlainDecls) (ts : List Token) (s : Spot) → IsWritten file ds (ts ++ token kind.Stray s ∷ []) → ⊥
  stray_unwritten ds ts s w =
      let all : List Token = ts ++ token kind.Stray s ∷ [] in
      none_some _ ds (reads_none (last_end all) ts start_of_file s) (complete file (last_end all) ds all w)
