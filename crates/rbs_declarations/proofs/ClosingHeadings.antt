-- Names and headings of declarations, and type parameters, are finished.
use Rattle.std.proofs.Common.{max, ℕ, ◌+◌, ◌≤◌, ◌≡◌, refl, ◌∙◌, ap, Bool, true, false, if◌then◌else◌, List, [], ◌∷◌, Option, Some, None, arith}
use Rattle.rbs_terminals.specs.declared.token.Token.{Token}
use Rattle.rbs_terminals.specs.declared.token.Mark.TheVariants as mark
use Rattle.rbs_terminals.specs.declared.token.Keyword.TheVariants as keyword
use Rattle.rbs_terminals.specs.declared.token.Kind.{Kind}
use Rattle.rbs_terminals.specs.declared.token.Kind.TheVariants as kind
use Rattle.sig_model.specs.declared.ty.TypeName.{TypeName}
use Rattle.sig_model.specs.declared.decl.Variance.{Variance}
use Rattle.sig_model.specs.declared.decl.Variance.TheVariants as variance
use Rattle.sig_model.specs.PlainTy as plain
use Rattle.sig_model.specs.PlainTy.{PlainTy, PlainTys}
use Rattle.sig_model.specs.PlainMember.{PlainParam, PlainMethod}
use Rattle.sig_model.specs.PlainDecl.{PlainDecls}
use Rattle.rbs_types.specs.declared.state.State.{State as TypeState}
use Rattle.rbs_types.specs.declared.state.Focus.TheVariants as type_focus
use Rattle.rbs_types.specs.Symbols.{token, sign}
use Rattle.rbs_types.specs.Plains.{and_ty}
use Rattle.rbs_types.specs.Parts.{grown, no_name, nothing_listed}
use Rattle.rbs_types.specs.Grammar.{ends_capital, a_function}
use Rattle.rbs_types.specs.Machine.{start, headed, closed_level}
use Rattle.rbs_types.proofs.Closing.{here}
use Rattle.rbs_types.proofs.Heights.{tallest_and}
use Rattle.rbs_declarations.specs.declared.state.Begun.{Begun}
use Rattle.rbs_declarations.specs.declared.state.Step.{Step}
use Rattle.rbs_declarations.specs.declared.state.Step.TheVariants as step_at
use Rattle.rbs_declarations.specs.declared.state.Sort.{Sort}
use Rattle.rbs_declarations.specs.declared.state.Sort.TheVariants as sort
use Rattle.rbs_declarations.specs.declared.state.Heading.TheVariants as heading
use Rattle.rbs_declarations.specs.declared.state.Frame.{Frame}
use Rattle.rbs_declarations.specs.declared.state.Signature.{Signature}
use Rattle.rbs_declarations.specs.declared.state.Owner.{Owner}
use Rattle.rbs_declarations.specs.declared.state.Owner.TheVariants as owner
use Rattle.rbs_declarations.specs.declared.state.Param.{Param}
use Rattle.rbs_declarations.specs.declared.state.Purpose.{Purpose}
use Rattle.rbs_declarations.specs.declared.state.Purpose.TheVariants as purpose
use Rattle.rbs_declarations.specs.declared.state.Focus.{Focus}
use Rattle.rbs_declarations.specs.declared.state.Focus.TheVariants as focus
use Rattle.rbs_declarations.specs.Machine.{state_of, at, naming_of, use_of, bounded, and_param, after_heading, after_name, param_named, next}
use Rattle.rbs_declarations.specs.Heights.{params_height}
use Rattle.rbs_declarations.specs.Needs.{owner_height, focus_height, sort_open, owner_open, focus_open}
use Rattle.rbs_declarations.proofs.Valid.{Led}
use Rattle.rbs_declarations.proofs.Fresh.{fresh_param, fresh_param_is_new}
use Rattle.rbs_declarations.proofs.Heights.{params_and}
use Rattle.rbs_declarations.proofs.Closes.{Closes, first, heading_ends, capital, underscored, small_word}
use Rattle.rbs_declarations.proofs.WholeTypes.{completed}
use Rattle.rbs_declarations.proofs.ClosingTypes.{inside, closes_on, goes_behind, in_alias, in_constant, in_overload}

-- the token that ends a declaration behind its name and parameters, or leads to its type
abbrev closer : Sort → Kind
closer sort.Alias = kind.Mark mark.Equals
closer sort.Constant = kind.Mark mark.Colon
closer _ = kind.Keyword keyword.End

-- the arrow of a function with no parameters
arrow : Token
arrow = sign mark.Arrow here

-- behind that arrow
abbrev arrowed : TypeState
arrowed = record { frames = []; focus = type_focus.Type (headed (record { listed = nothing_listed; block = plain.no_block }) closed_level) }

led_by_arrow : Led a_function arrowed
led_by_arrow = (sign mark.Arrow here ∷ [], (arrowed, refl, tt, refl))

-- In the file of this number.
module _ (file : ℕ) where
  -- ---- declarations behind their names and parameters

  heading_whole : (x : Sort) (f : Focus) (begun : Begun) (n : TypeName) (ps : List PlainParam) (ds : PlainDecls) (fs : List Frame)
      → next file (state_of f ds fs) (token (closer x) here) ≡ after_heading file begun x n ps ds fs (closer x) here → params_height ps ≤ max (focus_height f) 1 → sort_open x ≤ focus_open f → Closes file (state_of f ds fs)
  heading_whole sort.Class f begun n ps ds fs goes tall far = heading_ends file f begun (heading.Class n ps None) ds fs goes (omega (arith, tall)) far
  heading_whole sort.Module f begun n ps ds fs goes tall far = heading_ends file f begun (heading.Module n ps plain.no_tys) ds fs goes (omega (arith, tall)) far
  heading_whole sort.Interface f begun n ps ds fs goes tall far = heading_ends file f begun (heading.Interface n ps) ds fs goes (omega (arith, tall)) far
  heading_whole sort.Alias f begun n ps ds fs goes tall far =
      first file (sign mark.Equals here) (record { goes = goes; tall = omega (arith, tall); far = omega arith; small = tt }) (in_alias file begun n ps start ds fs)
  heading_whole sort.Constant f begun n ps ds fs goes tall far =
      first file (sign mark.Colon here) (record { goes = goes; tall = omega (arith, tall); far = omega arith; small = tt }) (in_constant file begun n start ds fs)

  -- ---- names of declarations

  name_closes : (x : Sort) (begun : Begun) (n : TypeName) (ds : PlainDecls) (fs : List Frame) → after_name file begun x n ds fs (closer x) here ≡ after_heading file begun x n [] ds fs (closer x) here
  name_closes sort.Class begun n ds fs = refl
  name_closes sort.Module begun n ds fs = refl
  name_closes sort.Interface begun n ds fs = refl
  name_closes sort.Alias begun n ds fs = refl
  name_closes sort.Constant begun n ds fs = refl

  pub finish_named : (begun : Begun) (x : Sort) (n : TypeName) (ds : PlainDecls) (fs : List Frame) → Closes file (state_of (focus.Named begun x n) ds fs)
  finish_named begun x n ds fs = heading_whole x (focus.Named begun x n) begun n [] ds fs (name_closes x begun n ds fs) (omega arith) (omega arith)

  -- a capital word, with which the name may end
  upper_name : (begun : Begun) (x : Sort) (n : TypeName) (ds : PlainDecls) (fs : List Frame) → ends_capital (use_of x) ≡ true → Closes file (state_of (focus.Name begun x (naming_of n step_at.Upper)) ds fs)
  upper_name begun sort.Class n ds fs e = heading_whole sort.Class (focus.Name begun sort.Class (naming_of n step_at.Upper)) begun n [] ds fs refl (omega arith) (omega arith)
  upper_name begun sort.Module n ds fs e = heading_whole sort.Module (focus.Name begun sort.Module (naming_of n step_at.Upper)) begun n [] ds fs refl (omega arith) (omega arith)
  upper_name begun sort.Interface n ds fs e = absurd (cc)
  upper_name begun sort.Alias n ds fs e = absurd (cc)
  upper_name begun sort.Constant n ds fs e = heading_whole sort.Constant (focus.Name begun sort.Constant (naming_of n step_at.Upper)) begun n [] ds fs refl (omega arith) (omega arith)

  word_name : (begun : Begun) (x : Sort) (n : TypeName) (s : Step) (ds : PlainDecls) (fs : List Frame) → ends_capital (use_of x) ≡ true → Closes file (state_of (focus.Name begun x (naming_of n s)) ds fs)
  word_name begun x n step_at.Upper ds fs e = upper_name begun x n ds fs e
  word_name begun x n step_at.Scope ds fs e = first file capital (record { goes = refl; tall = omega arith; far = omega arith; small = tt }) (upper_name begun x (grown n (65 ∷ [])) ds fs e)
  word_name begun x n step_at.Start ds fs e = first file capital (record { goes = refl; tall = omega arith; far = omega arith; small = tt }) (upper_name begun x (grown n (65 ∷ [])) ds fs e)

  interface_scope : (begun : Begun) (n : TypeName) (ds : PlainDecls) (fs : List Frame) → Closes file (state_of (focus.Name begun sort.Interface (naming_of n step_at.Scope)) ds fs)
  interface_scope begun n ds fs = first file underscored (record { goes = refl; tall = omega arith; far = omega arith; small = tt }) (finish_named begun sort.Interface (grown n (95 ∷ 65 ∷ [])) ds fs)

  alias_scope : (begun : Begun) (n : TypeName) (ds : PlainDecls) (fs : List Frame) → Closes file (state_of (focus.Name begun sort.Alias (naming_of n step_at.Scope)) ds fs)
  alias_scope begun n ds fs = first file small_word (record { goes = refl; tall = omega arith; far = omega arith; small = tt }) (finish_named begun sort.Alias (grown n (97 ∷ [])) ds fs)

  pub finish_name : (begun : Begun) (x : Sort) (n : TypeName) (s : Step) (ds : PlainDecls) (fs : List Frame) → Closes file (state_of (focus.Name begun x (naming_of n s)) ds fs)
  finish_name begun sort.Interface n step_at.Start ds fs =
      first file underscored (record { goes = refl; tall = omega arith; far = omega arith; small = tt }) (finish_named begun sort.Interface (grown n (95 ∷ 65 ∷ [])) ds fs)
  finish_name begun sort.Interface n step_at.Scope ds fs = interface_scope begun n ds fs
  finish_name begun sort.Interface n step_at.Upper ds fs = first file (sign mark.Scope here) (record { goes = refl; tall = omega arith; far = omega arith; small = tt }) (interface_scope begun n ds fs)
  finish_name begun sort.Alias n step_at.Start ds fs = first file small_word (record { goes = refl; tall = omega arith; far = omega arith; small = tt }) (finish_named begun sort.Alias (grown n (97 ∷ [])) ds fs)
  finish_name begun sort.Alias n step_at.Scope ds fs = alias_scope begun n ds fs
  finish_name begun sort.Alias n step_at.Upper ds fs = first file (sign mark.Scope here) (record { goes = refl; tall = omega arith; far = omega arith; small = tt }) (alias_scope begun n ds fs)
  finish_name begun x n s ds fs = word_name begun x n s ds fs refl

  -- ---- superclasses and self types

  upper_parent : (begun : Begun) (n : TypeName) (ps : List PlainParam) (m : TypeName) (ds : PlainDecls) (fs : List Frame) → Closes file (state_of (focus.Parent begun n ps (naming_of m step_at.Upper)) ds fs)
  upper_parent begun n ps m ds fs =
      heading_ends file (focus.Parent begun n ps (naming_of m step_at.Upper)) begun (heading.Class n ps (Some (plain.name m plain.no_tys))) ds fs refl (omega arith) (omega arith)

  pub finish_parent : (begun : Begun) (n : TypeName) (ps : List PlainParam) (m : TypeName) (s : Step) (ds : PlainDecls) (fs : List Frame) → Closes file (state_of (focus.Parent begun n ps (naming_of m s)) ds fs)
  finish_parent begun n ps m step_at.Upper ds fs = upper_parent begun n ps m ds fs
  finish_parent begun n ps m step_at.Scope ds fs = first file capital (record { goes = refl; tall = omega arith; far = omega arith; small = tt }) (upper_parent begun n ps (grown m (65 ∷ [])) ds fs)
  finish_parent begun n ps m step_at.Start ds fs = first file capital (record { goes = refl; tall = omega arith; far = omega arith; small = tt }) (upper_parent begun n ps (grown m (65 ∷ [])) ds fs)

  upper_self : (begun : Begun) (n : TypeName) (ps : List PlainParam) (us : PlainTys) (m : TypeName) (ds : PlainDecls) (fs : List Frame) → Closes file (state_of (focus.SelfType begun n ps us (naming_of m step_at.Upper)) ds fs)
  upper_self begun n ps us m ds fs =
      let t : PlainTy = plain.name m plain.no_tys in
      heading_ends file (focus.SelfType begun n ps us (naming_of m step_at.Upper)) begun (heading.Module n ps (and_ty us t)) ds fs refl (omega (arith, tallest_and us t)) (omega arith)

  pub finish_self : (begun : Begun) (n : TypeName) (ps : List PlainParam) (us : PlainTys) (m : TypeName) (s : Step) (ds : PlainDecls) (fs : List Frame) → Closes file (state_of (focus.SelfType begun n ps us (naming_of m s)) ds fs)
  finish_self begun n ps us m step_at.Upper ds fs = upper_self begun n ps us m ds fs
  finish_self begun n ps us m step_at.Scope ds fs = first file capital (record { goes = refl; tall = omega arith; far = omega arith; small = tt }) (upper_self begun n ps us (grown m (65 ∷ [])) ds fs)
  finish_self begun n ps us m step_at.Start ds fs = first file capital (record { goes = refl; tall = omega arith; far = omega arith; small = tt }) (upper_self begun n ps us (grown m (65 ∷ [])) ds fs)

  pub finish_self_named : (begun : Begun) (n : TypeName) (ps : List PlainParam) (us : PlainTys) (m : TypeName) (ds : PlainDecls) (fs : List Frame) → Closes file (state_of (focus.SelfNamed begun n ps us m) ds fs)
  finish_self_named begun n ps us m ds fs =
      let t : PlainTy = plain.name m plain.no_tys in
      heading_ends file (focus.SelfNamed begun n ps us m) begun (heading.Module n ps (and_ty us t)) ds fs refl (omega (arith, tallest_and us t)) (omega arith)

  -- ---- overloads, which begin with the arrow

  pub finish_overload : (sig : Signature) (done : List PlainMethod) (ds : PlainDecls) (fs : List Frame) → Closes file (state_of (focus.Overload sig done) ds fs)
  unfolding arrow
  finish_overload sig done ds fs = first file arrow (record { goes = refl; tall = omega arith; far = omega arith; small = tt }) (in_overload file sig done [] arrowed ds fs led_by_arrow)

  -- ---- behind type parameters

  pub finish_parameterized : (o : Owner) (ps : List PlainParam) (ds : PlainDecls) (fs : List Frame) → Closes file (state_of (focus.Parameterized o ps) ds fs)
  unfolding arrow
  finish_parameterized (owner.Heading begun x n) ps ds fs = heading_whole x (focus.Parameterized (owner.Heading begun x n) ps) begun n ps ds fs refl (omega arith) (omega arith)
  finish_parameterized (owner.Overload sig done) ps ds fs = first file arrow (record { goes = refl; tall = omega arith; far = omega arith; small = tt }) (in_overload file sig done ps arrowed ds fs led_by_arrow)

  pub finish_bounded : (o : Owner) (ps : List PlainParam) (ds : PlainDecls) (fs : List Frame) → Closes file (state_of (focus.Bounded o ps) ds fs)
  finish_bounded o ps ds fs = first file (sign mark.CloseSquare here) (record { goes = refl; tall = omega arith; far = omega arith; small = tt }) (finish_parameterized o ps ds fs)

  -- ---- type parameters

  -- a parameter with this bound, or none, is whole before the bracket
  param_closes : (f : Focus) (o : Owner) (done : List PlainParam) (p : Param) (t : Option PlainTy) (ds : PlainDecls) (fs : List Frame)
      → next file (state_of f ds fs) (sign mark.CloseSquare here) ≡ at (focus.Parameterized o (and_param done p t)) ds fs
      → params_height (and_param done p t) ≤ max (focus_height f) 1 → owner_height o ≤ max (focus_height f) 1 → owner_open o ≤ focus_open f → Closes file (state_of f ds fs)
  param_closes f o done p t ds fs goes tall owned far =
      first file (sign mark.CloseSquare here) (record { goes = goes; tall = omega (arith, tall, owned); far = omega arith; small = tt }) (finish_parameterized o (and_param done p t) ds fs)

  pub finish_param_name : (o : Owner) (done : List PlainParam) (p : Param) (ds : PlainDecls) (fs : List Frame) → Closes file (state_of (focus.ParamName o done p) ds fs)
  finish_param_name o done p ds fs = param_closes (focus.ParamName o done p) o done p None ds fs refl (omega (arith, params_and done (bounded p None))) (omega arith) (omega arith)

  -- a fresh name
  fresh_name : (f : Focus) (o : Owner) (done : List PlainParam) (unchecked : Bool) (v : Variance) (ds : PlainDecls) (fs : List Frame)
      → next file (state_of f ds fs) (token (kind.Upper (fresh_param done)) here) ≡ param_named file o done unchecked v ds fs (kind.Upper (fresh_param done))
      → focus_height f ≡ max (owner_height o) (params_height done) → focus_open f ≡ owner_open o + 1 → Closes file (state_of f ds fs)
  fresh_name f o done unchecked v ds fs goes tall far =
      let p : Param = record { name = fresh_param done; unchecked = unchecked; variance = v } in
      first file (token (kind.Upper (fresh_param done)) here)
      (record { goes = goes ∙ ap (λ b. if b then at (focus.ParamName o done p) ds fs else None) (fresh_param_is_new done); tall = omega (arith, tall); far = omega (arith, far); small = tt }) (finish_param_name o done p ds fs)

  pub finish_param : (o : Owner) (done : List PlainParam) (ds : PlainDecls) (fs : List Frame) → Closes file (state_of (focus.Param o done) ds fs)
  finish_param o done ds fs = fresh_name (focus.Param o done) o done false variance.Fixed ds fs refl refl refl

  pub finish_unchecked : (o : Owner) (done : List PlainParam) (ds : PlainDecls) (fs : List Frame) → Closes file (state_of (focus.Unchecked o done) ds fs)
  finish_unchecked o done ds fs = fresh_name (focus.Unchecked o done) o done true variance.Fixed ds fs refl refl refl

  pub finish_varied : (o : Owner) (done : List PlainParam) (unchecked : Bool) (v : Variance) (ds : PlainDecls) (fs : List Frame) → Closes file (state_of (focus.Varied o done unchecked v) ds fs)
  finish_varied o done unchecked v ds fs = fresh_name (focus.Varied o done unchecked v) o done unchecked v ds fs refl refl refl

  -- ---- bounds

  pub finish_bound_named : (o : Owner) (done : List PlainParam) (p : Param) (m : TypeName) (ds : PlainDecls) (fs : List Frame) → Closes file (state_of (focus.BoundNamed o done p m) ds fs)
  finish_bound_named o done p m ds fs =
      let t : Option PlainTy = Some (plain.name m plain.no_tys) in
      param_closes (focus.BoundNamed o done p m) o done p t ds fs refl (omega (arith, params_and done (bounded p t))) (omega arith) (omega arith)

  upper_bound : (o : Owner) (done : List PlainParam) (p : Param) (m : TypeName) (ds : PlainDecls) (fs : List Frame) → Closes file (state_of (focus.Bound o done p (naming_of m step_at.Upper)) ds fs)
  upper_bound o done p m ds fs =
      let t : Option PlainTy = Some (plain.name m plain.no_tys) in
      param_closes (focus.Bound o done p (naming_of m step_at.Upper)) o done p t ds fs refl (omega (arith, params_and done (bounded p t))) (omega arith) (omega arith)

  pub finish_bound : (o : Owner) (done : List PlainParam) (p : Param) (m : TypeName) (s : Step) (ds : PlainDecls) (fs : List Frame) → Closes file (state_of (focus.Bound o done p (naming_of m s)) ds fs)
  finish_bound o done p m step_at.Upper ds fs = upper_bound o done p m ds fs
  finish_bound o done p m step_at.Scope ds fs = first file capital (record { goes = refl; tall = omega arith; far = omega arith; small = tt }) (upper_bound o done p (grown m (65 ∷ [])) ds fs)
  finish_bound o done p m step_at.Start ds fs = first file capital (record { goes = refl; tall = omega arith; far = omega arith; small = tt }) (upper_bound o done p (grown m (65 ∷ [])) ds fs)

  -- the parenthesis behind the name of `singleton`
  upper_bound_class : (o : Owner) (done : List PlainParam) (p : Param) (m : TypeName) (ds : PlainDecls) (fs : List Frame) → Closes file (state_of (focus.BoundClass o done p (naming_of m step_at.Upper)) ds fs)
  upper_bound_class o done p m ds fs =
      let t : Option PlainTy = Some (plain.single m) in
      first file (sign mark.Close here) (record { goes = refl; tall = omega (arith, params_and done (bounded p t)); far = omega arith; small = tt }) (finish_bounded o (and_param done p t) ds fs)

  pub finish_bound_class : (o : Owner) (done : List PlainParam) (p : Param) (m : TypeName) (s : Step) (ds : PlainDecls) (fs : List Frame) → Closes file (state_of (focus.BoundClass o done p (naming_of m s)) ds fs)
  finish_bound_class o done p m step_at.Upper ds fs = upper_bound_class o done p m ds fs
  finish_bound_class o done p m step_at.Scope ds fs = first file capital (record { goes = refl; tall = omega arith; far = omega arith; small = tt }) (upper_bound_class o done p (grown m (65 ∷ [])) ds fs)
  finish_bound_class o done p m step_at.Start ds fs = first file capital (record { goes = refl; tall = omega arith; far = omega arith; small = tt }) (upper_bound_class o done p (grown m (65 ∷ [])) ds fs)

  pub finish_bound_singleton : (o : Owner) (done : List PlainParam) (p : Param) (ds : PlainDecls) (fs : List Frame) → Closes file (state_of (focus.BoundSingleton o done p) ds fs)
  finish_bound_singleton o done p ds fs =
      first file (sign mark.Open here) (record { goes = refl; tall = omega arith; far = omega arith; small = tt }) (finish_bound_class o done p no_name step_at.Start ds fs)

  -- the arguments of a bound
  pub in_bound : (o : Owner) (done : List PlainParam) (p : Param) (i : TypeState) (ds : PlainDecls) (fs : List Frame) → Closes file (inside (purpose.Bound o done p) i ds fs)
  in_bound o done p i ds fs =
      let c = completed i in
      let x : Purpose = purpose.Bound o done p in
      let goes = goes_behind file x c.m c.t ds fs c.whole (sign mark.CloseSquare here) (tt, refl) in
      closes_on file x i ds fs c
      (param_closes (focus.Typed x c.m) o done p (Some c.t) ds fs goes (omega (arith, params_and done (bounded p (Some c.t)), c.whole.tall)) (omega arith) (omega arith))
