-- What is whole behind a token is no higher than what the state before it needs, or than a single name.
use Rattle.std.proofs.Common.{ℕ, max, ◌≤◌, ◌≡◌, refl, sym, subst, Bool, true, false, if◌then◌else◌, ◌&&◌, List, [], ◌∷◌, Option, Some, None, arith}
use Rattle.rbs_terminals.specs.declared.token.Token.{Token}
use Rattle.rbs_terminals.specs.declared.token.Spot.{Spot}
use Rattle.rbs_terminals.specs.declared.token.Mark.{Mark}
use Rattle.rbs_terminals.specs.declared.token.Mark.TheVariants as mark
use Rattle.rbs_terminals.specs.declared.token.Keyword.{Keyword}
use Rattle.rbs_terminals.specs.declared.token.Keyword.TheVariants as keyword
use Rattle.rbs_terminals.specs.declared.token.Kind.{Kind}
use Rattle.rbs_terminals.specs.declared.token.Kind.TheVariants as kind
use Rattle.rbs_terminals.specs.Kinds.{lower_of}
use Rattle.sig_model.specs.declared.ty.TypeName.{TypeName}
use Rattle.sig_model.specs.declared.decl.Notes.{Notes}
use Rattle.sig_model.specs.declared.decl.Variance.{Variance}
use Rattle.sig_model.specs.declared.decl.Variance.TheVariants as variance
use Rattle.sig_model.specs.declared.decl.Vis.{Vis}
use Rattle.sig_model.specs.declared.decl.AttrKind.{AttrKind}
use Rattle.sig_model.specs.declared.decl.MixKind.{MixKind}
use Rattle.sig_model.specs.PlainTy as plain
use Rattle.sig_model.specs.PlainTy.{PlainTy, PlainTys}
use Rattle.sig_model.specs.Height.{height, tallest}
use Rattle.sig_model.specs.PlainMember.{PlainParam, PlainMethod, PlainMember, method, attr, mixin, alias, ivar, section}
use Rattle.sig_model.specs.PlainDecl as decl
use Rattle.sig_model.specs.PlainDecl.{PlainDecl, PlainBody, PlainDecls}
use Rattle.rbs_types.specs.declared.state.State.{State as TypeState}
use Rattle.rbs_types.specs.Symbols.{token, on_line, scope_at}
use Rattle.rbs_types.specs.Plains.{and_ty}
use Rattle.rbs_types.specs.Parts.{grown, no_name, root}
use Rattle.rbs_types.specs.Grammar.{of_class, of_class_or_interface}
use Rattle.rbs_types.specs.Machine as types
use Rattle.rbs_types.specs.Machine.{start_function}
use Rattle.rbs_types.specs.Needs as type_needs
use Rattle.rbs_types.proofs.Heights.{tallest_and}
use Rattle.rbs_types.proofs.Needs.{need_final as type_need_final}
use Rattle.rbs_declarations.specs.declared.operators.Operator.{Operator}
use Rattle.rbs_declarations.specs.declared.state.Begun.{Begun}
use Rattle.rbs_declarations.specs.declared.state.Step.{Step}
use Rattle.rbs_declarations.specs.declared.state.Step.TheVariants as step_at
use Rattle.rbs_declarations.specs.declared.state.Sort.{Sort}
use Rattle.rbs_declarations.specs.declared.state.Sort.TheVariants as sort
use Rattle.rbs_declarations.specs.declared.state.Frame.{Frame}
use Rattle.rbs_declarations.specs.declared.state.Signature.{Signature}
use Rattle.rbs_declarations.specs.declared.state.Owner.{Owner}
use Rattle.rbs_declarations.specs.declared.state.Owner.TheVariants as owner
use Rattle.rbs_declarations.specs.declared.state.Param.{Param}
use Rattle.rbs_declarations.specs.declared.state.Purpose.{Purpose}
use Rattle.rbs_declarations.specs.declared.state.Purpose.TheVariants as purpose
use Rattle.rbs_declarations.specs.declared.state.Focus.{Focus}
use Rattle.rbs_declarations.specs.declared.state.Focus.TheVariants as focus
use Rattle.rbs_declarations.specs.declared.state.State.{State}
use Rattle.rbs_declarations.specs.Operators.{operator_text, is_operator}
use Rattle.rbs_declarations.specs.Words.{vis_of, attribute_of, mixin_of, method_word, is_joined, extended_at, takes_vis}
use Rattle.rbs_declarations.specs.Grammar.{is_new_param}
use Rattle.rbs_declarations.specs.Machine.{Progress, further, whole, before, stuck, first_on, named_on, naming_on, use_of, with_decl, opened, body_of, text_of_self, double_equals, with_equals, and_overload, bounded, and_param, Site, in_file, in_class, in_interface, site_of, mixin_use, place_from, declared, membered, declaration_keyword, mixin_begins, attribute_begins, vis_begins, member_keyword, interface_keyword, keyword_begins, constant_begins, variable_begins, begun_at, begins, ended_frame, no_notes_at, part_begins, then_part, after_class_params, after_module_params, after_alias_params, after_constant, after_heading, params_begin, after_name, name_goes, with_parent, after_parent_name, parent_goes, with_selves, after_self, after_self_name, self_goes, param_named, varied, variance_at, after_unchecked, param_begins, after_param, after_param_name, after_bound_name, bound_goes, bound_first, in_bound, after_bound_singleton, bound_class_closed, bound_class_goes, signed, after_method_name, ending_at, method_ending, operator_ended, operator_begins, operator_at, method_begins, after_def, after_def_self, typed, function_begins, after_overload, after_parameterized, with_method, next_overload, after_function, after_whole, after_final, typed_on, attribute_named, after_attribute_name, after_mixin_name, mixin_goes, visible_attribute, visible_member, after_vis, after_self_word, after_self_dot, after_variable, old_operator, old_begins, after_new, new_operator, new_begins, new_marked, new_marked_if, after_new_word, joined_equals, after_new_equals, after_new_equals_equals, new_operator_ended, old_word_ended, old_operator_ended, step, next}
use Rattle.rbs_declarations.specs.Heights.{option_height, params_height, methods_height, member_height, decl_height, body_height, decls_height}
use Rattle.rbs_declarations.specs.WholeHeights.{whole_height}
use Rattle.rbs_declarations.specs.Needs.{frames_height, owner_height, purpose_height, phrase_height, focus_height, need}
use Rattle.rbs_declarations.proofs.Heights.{params_and, inner_and, member_and, decls_and, body_of_height, AreHigh, overload_and}

-- what is whole may be so high among these, where the highest type at the focus has the height `h`; a name has the height 1
abbrev beside : PlainDecls → List Frame → ℕ → ℕ
beside ds fs h = max 1 (max (decls_height ds) (max (frames_height fs) h))

-- behind these parameters
abbrev behind_params : Owner → List PlainParam → PlainDecls → List Frame → ℕ
behind_params o ps ds fs = beside ds fs (max (owner_height o) (params_height ps))

-- at a type that is read for the purpose, or is whole, and has the height `h`
abbrev around : Purpose → ℕ → PlainDecls → List Frame → ℕ
around p h ds fs = beside ds fs (max (purpose_height p) (phrase_height p h))

-- what is whole in the next state is no higher
abbrev AtMost : ℕ → Option State → Type 0
AtMost n None = Unit {0}
AtMost n (Some m) = whole_height m ≤ n

alike : (a : ℕ) → a ≤ max 1 a
alike a = omega arith

at_most : (a b : ℕ) (o : Option State) → b ≤ a → AtMost b o → AtMost a o
at_most a b None h l = tt
at_most a b (Some m) h l = omega arith

if_most : (b : Bool) (n : ℕ) (o : Option State) → AtMost n o → AtMost n (if b then o else None)
if_most true n o h = h
if_most false n o h = tt

either_most : (b : Bool) (n : ℕ) (o p : Option State) → AtMost n o → AtMost n p → AtMost n (if b then o else p)
either_most true n o p h l = h
either_most false n o p h l = l

-- ---- what is whole keeps its height where it belongs

with_decl_most : (ds : PlainDecls) (fs : List Frame) (d : PlainDecl) → whole_height (with_decl ds fs d) ≤ beside ds fs (decl_height d)
with_decl_most ds [] d = omega (arith, decls_and ds d)
with_decl_most ds (f ∷ fs) d = omega (arith, inner_and f.parts d)

-- what was settled among the parts is no higher
abbrev Settled : ℕ → Option State → Type 0
Settled n None = Unit {0}
Settled n (Some m) = beside m.decls m.frames 0 ≤ n

opened_most : (begun : Begun) (x : Sort) (n : TypeName) (ps : List PlainParam) (ds : PlainDecls) (fs : List Frame) → Settled (beside ds fs (params_height ps)) (opened begun x n ps ds fs)
opened_most begun sort.Class n ps ds fs = omega arith
opened_most begun sort.Module n ps ds fs = omega arith
opened_most begun sort.Interface n ps ds fs = omega arith
opened_most begun sort.Alias n ps ds fs = tt
opened_most begun sort.Constant n ps ds fs = tt

-- In the file of this number.
module _ (file : ℕ) where
  declared_most : (begun : Begun) (e : ℕ) (b : PlainBody) (ds : PlainDecls) (fs : List Frame) → Settled (beside ds fs (body_height b)) (Some (declared file begun e b ds fs))
  declared_most begun e b ds [] = omega (arith, decls_and ds (decl.decl (place_from file begun e) begun.notes b))
  declared_most begun e b ds (f ∷ fs) = omega (arith, inner_and f.parts (decl.decl (place_from file begun e) begun.notes b))

  membered_most : (begun : Begun) (e : ℕ) (m : PlainMember) (ds : PlainDecls) (fs : List Frame) → Settled (beside ds fs (member_height m)) (Some (membered file begun e m ds fs))
  membered_most begun e m ds [] = omega arith
  membered_most begun e m ds (f ∷ fs) = omega (arith, member_and f.parts (place_from file begun e) begun.notes m)

  -- ---- where a declaration or a part begins

  declaration_most : (begun : Begun) (ds : PlainDecls) (fs : List Frame) (k : Keyword) → AtMost (beside ds fs 0) (declaration_keyword file begun ds fs k)
  declaration_most begun ds fs keyword.Class = alike _
  declaration_most begun ds fs keyword.Module = alike _
  declaration_most begun ds fs keyword.Interface = alike _
  declaration_most begun ds fs keyword.Type = alike _
  declaration_most begun ds fs _ = tt

  mixin_begins_most : (begun : Begun) (ds : PlainDecls) (fs : List Frame) (k : Keyword) (m : Option MixKind) → AtMost (beside ds fs 0) (mixin_begins file begun ds fs k m)
  mixin_begins_most begun ds fs k (Some m) = alike _
  mixin_begins_most begun ds fs k None = declaration_most begun ds fs k

  attribute_begins_most : (begun : Begun) (ds : PlainDecls) (fs : List Frame) (k : Keyword) (a : Option AttrKind) → AtMost (beside ds fs 0) (attribute_begins file begun ds fs k a)
  attribute_begins_most begun ds fs k (Some a) = alike _
  attribute_begins_most begun ds fs k None = mixin_begins_most begun ds fs k (mixin_of k)

  vis_begins_most : (begun : Begun) (ds : PlainDecls) (fs : List Frame) (k : Keyword) (s : Spot) (v : Option Vis) → AtMost (beside ds fs 0) (vis_begins file begun ds fs k s v)
  vis_begins_most begun ds fs k s (Some v) = alike _
  vis_begins_most begun ds fs k s None = attribute_begins_most begun ds fs k (attribute_of k)

  member_keyword_most : (begun : Begun) (ds : PlainDecls) (fs : List Frame) (k : Keyword) (s : Spot) → AtMost (beside ds fs 0) (member_keyword file begun ds fs k s)
  member_keyword_most begun ds fs keyword.Def s = alike _
  member_keyword_most begun ds fs keyword.Alias s = alike _
  member_keyword_most begun ds fs keyword.SelfWord s = alike _
  member_keyword_most begun ds fs k s = vis_begins_most begun ds fs k s (vis_of k)

  interface_keyword_most : (begun : Begun) (ds : PlainDecls) (fs : List Frame) (k : Keyword) → AtMost (beside ds fs 0) (interface_keyword file begun ds fs k)
  interface_keyword_most begun ds fs keyword.Def = alike _
  interface_keyword_most begun ds fs keyword.Include = alike _
  interface_keyword_most begun ds fs _ = tt

  keyword_most : (w : Site) (begun : Begun) (ds : PlainDecls) (fs : List Frame) (k : Keyword) (s : Spot) → AtMost (beside ds fs 0) (keyword_begins file w begun ds fs k s)
  keyword_most in_file begun ds fs k s = declaration_most begun ds fs k
  keyword_most in_class begun ds fs k s = member_keyword_most begun ds fs k s
  keyword_most in_interface begun ds fs k s = interface_keyword_most begun ds fs k

  constant_most : (w : Site) (begun : Begun) (n : TypeName) (x : Step) (ds : PlainDecls) (fs : List Frame) → AtMost (beside ds fs 0) (constant_begins file w begun n x ds fs)
  constant_most in_file begun n x ds fs = alike _
  constant_most in_class begun n x ds fs = alike _
  constant_most in_interface begun n x ds fs = tt

  variable_most : (w : Site) (begun : Begun) (n : List ℕ) (ds : PlainDecls) (fs : List Frame) → AtMost (beside ds fs 0) (variable_begins file w begun n ds fs)
  variable_most in_file begun n ds fs = tt
  variable_most in_class begun n ds fs = alike _
  variable_most in_interface begun n ds fs = tt

  begins_most : (n : Notes) (ds : PlainDecls) (fs : List Frame) (k : Kind) (s : Spot) → AtMost (beside ds fs 0) (begins file n ds fs k s)
  begins_most n ds fs (kind.Annotation w) s = alike _
  begins_most n ds fs (kind.Keyword k) s = keyword_most (site_of fs) (begun_at file n s) ds fs k s
  begins_most n ds fs (kind.Upper w) s = constant_most (site_of fs) (begun_at file n s) (grown no_name w) step_at.Upper ds fs
  begins_most n ds fs (kind.Mark mark.Scope) s = constant_most (site_of fs) (begun_at file n s) root step_at.Scope ds fs
  begins_most n ds fs (kind.Variable w) s = variable_most (site_of fs) (begun_at file n s) w ds fs
  begins_most n ds fs _ s = tt

  ended_most : (ds : PlainDecls) (fs : List Frame) (s : Spot) → AtMost (beside ds fs 0) (ended_frame file ds fs s)
  ended_most ds [] s = tt
  ended_most ds (f ∷ fs) s =
      omega (arith, with_decl_most ds fs (decl.decl (place_from file f.begun s.end) f.begun.notes (body_of f.heading f.parts)), body_of_height f.heading f.parts)

  part_most : (ds : PlainDecls) (fs : List Frame) (k : Kind) (s : Spot) → AtMost (beside ds fs 0) (part_begins file ds fs k s)
  part_most ds fs (kind.Keyword keyword.End) s = ended_most ds fs s
  part_most ds fs k s = begins_most (no_notes_at file s) ds fs k s

  then_most : (n : ℕ) (o : Option State) (k : Kind) (s : Spot) → Settled n o → AtMost n (then_part file o k s)
  then_most n None k s h = tt
  then_most n (Some m) k s h = at_most n (beside m.decls m.frames 0) (part_begins file m.decls m.frames k s) h (part_most m.decls m.frames k s)

  -- ---- headings

  class_params_most : (begun : Begun) (n : TypeName) (ps : List PlainParam) (ds : PlainDecls) (fs : List Frame) (k : Kind) (s : Spot)
      → AtMost (beside ds fs (params_height ps)) (after_class_params file begun n ps ds fs k s)
  class_params_most begun n ps ds fs (kind.Mark mark.Less) s = alike _
  class_params_most begun n ps ds fs k s = then_most _ (opened begun sort.Class n ps ds fs) k s (opened_most begun sort.Class n ps ds fs)

  module_params_most : (begun : Begun) (n : TypeName) (ps : List PlainParam) (ds : PlainDecls) (fs : List Frame) (k : Kind) (s : Spot)
      → AtMost (beside ds fs (params_height ps)) (after_module_params file begun n ps ds fs k s)
  module_params_most begun n ps ds fs (kind.Mark mark.Colon) s = omega arith
  module_params_most begun n ps ds fs k s = then_most _ (opened begun sort.Module n ps ds fs) k s (opened_most begun sort.Module n ps ds fs)

  alias_params_most : (begun : Begun) (n : TypeName) (ps : List PlainParam) (ds : PlainDecls) (fs : List Frame) (k : Kind)
      → AtMost (beside ds fs (params_height ps)) (after_alias_params file begun n ps ds fs k)
  alias_params_most begun n ps ds fs (kind.Mark mark.Equals) = omega arith
  alias_params_most begun n ps ds fs _ = tt

  constant_type_most : (begun : Begun) (n : TypeName) (ds : PlainDecls) (fs : List Frame) (k : Kind) → AtMost (beside ds fs 0) (after_constant file begun n ds fs k)
  constant_type_most begun n ds fs (kind.Mark mark.Colon) = omega arith
  constant_type_most begun n ds fs _ = tt

  heading_most : (begun : Begun) (x : Sort) (n : TypeName) (ps : List PlainParam) (ds : PlainDecls) (fs : List Frame) (k : Kind) (s : Spot)
      → AtMost (beside ds fs (params_height ps)) (after_heading file begun x n ps ds fs k s)
  heading_most begun sort.Class n ps ds fs k s = class_params_most begun n ps ds fs k s
  heading_most begun sort.Module n ps ds fs k s = module_params_most begun n ps ds fs k s
  heading_most begun sort.Interface n ps ds fs k s = then_most _ (opened begun sort.Interface n ps ds fs) k s (opened_most begun sort.Interface n ps ds fs)
  heading_most begun sort.Alias n ps ds fs k s = alias_params_most begun n ps ds fs k
  heading_most begun sort.Constant n ps ds fs k s =
      at_most (beside ds fs (params_height ps)) (beside ds fs 0) (after_constant file begun n ds fs k) (omega arith) (constant_type_most begun n ds fs k)

  -- without parameters
  bare_heading_most : (begun : Begun) (x : Sort) (n : TypeName) (ds : PlainDecls) (fs : List Frame) (k : Kind) (s : Spot) → AtMost (beside ds fs 0) (after_heading file begun x n [] ds fs k s)
  bare_heading_most begun sort.Class n ds fs k s = heading_most begun sort.Class n [] ds fs k s
  bare_heading_most begun sort.Module n ds fs k s = heading_most begun sort.Module n [] ds fs k s
  bare_heading_most begun sort.Interface n ds fs k s = heading_most begun sort.Interface n [] ds fs k s
  bare_heading_most begun sort.Alias n ds fs k s = heading_most begun sort.Alias n [] ds fs k s
  bare_heading_most begun sort.Constant n ds fs k s = constant_type_most begun n ds fs k

  params_begin_most : (begun : Begun) (x : Sort) (n : TypeName) (ds : PlainDecls) (fs : List Frame) → AtMost (beside ds fs 0) (params_begin file begun x n ds fs)
  params_begin_most begun sort.Class n ds fs = omega arith
  params_begin_most begun sort.Module n ds fs = omega arith
  params_begin_most begun sort.Interface n ds fs = omega arith
  params_begin_most begun sort.Alias n ds fs = omega arith
  params_begin_most begun sort.Constant n ds fs = tt

  name_most : (begun : Begun) (x : Sort) (n : TypeName) (ds : PlainDecls) (fs : List Frame) (k : Kind) (s : Spot) → AtMost (beside ds fs 0) (after_name file begun x n ds fs k s)
  name_most begun x n ds fs (kind.Mark mark.OpenSquare) s = params_begin_most begun x n ds fs
  name_most begun x n ds fs k s = bare_heading_most begun x n ds fs k s

  name_goes_most : (begun : Begun) (x : Sort) (p : Progress) (ds : PlainDecls) (fs : List Frame) (k : Kind) (s : Spot) → AtMost (beside ds fs 0) (name_goes file begun x p ds fs k s)
  name_goes_most begun x (further naming) ds fs k s = alike _
  name_goes_most begun x (whole n) ds fs k s = alike _
  name_goes_most begun x (before n) ds fs k s = name_most begun x n ds fs k s
  name_goes_most begun x stuck ds fs k s = tt

  -- ---- superclasses and self types

  parent_name_most : (begun : Begun) (n : TypeName) (ps : List PlainParam) (m : TypeName) (ds : PlainDecls) (fs : List Frame) (k : Kind) (s : Spot)
      → AtMost (beside ds fs (params_height ps)) (after_parent_name file begun n ps m ds fs k s)
  parent_name_most begun n ps m ds fs (kind.Mark mark.OpenSquare) s = omega arith
  parent_name_most begun n ps m ds fs k s = then_most (beside ds fs (params_height ps)) (with_parent file begun n ps (plain.name m plain.no_tys) ds fs) k s (omega arith)

  parent_goes_most : (begun : Begun) (n : TypeName) (ps : List PlainParam) (p : Progress) (ds : PlainDecls) (fs : List Frame) (k : Kind) (s : Spot)
      → AtMost (beside ds fs (params_height ps)) (parent_goes file begun n ps p ds fs k s)
  parent_goes_most begun n ps (further naming) ds fs k s = alike _
  parent_goes_most begun n ps (before m) ds fs k s = parent_name_most begun n ps m ds fs k s
  parent_goes_most begun n ps _ ds fs k s = tt

  self_most : (begun : Begun) (n : TypeName) (ps : List PlainParam) (us : PlainTys) (ds : PlainDecls) (fs : List Frame) (k : Kind) (s : Spot)
      → AtMost (beside ds fs (max (params_height ps) (tallest us))) (after_self file begun n ps us ds fs k s)
  self_most begun n ps us ds fs (kind.Mark mark.Comma) s = alike _
  self_most begun n ps us ds fs k s = then_most (beside ds fs (max (params_height ps) (tallest us))) (with_selves file begun n ps us ds fs) k s (omega arith)

  self_name_most : (begun : Begun) (n : TypeName) (ps : List PlainParam) (us : PlainTys) (m : TypeName) (ds : PlainDecls) (fs : List Frame) (k : Kind) (s : Spot)
      → AtMost (beside ds fs (max (params_height ps) (tallest us))) (after_self_name file begun n ps us m ds fs k s)
  self_name_most begun n ps us m ds fs (kind.Mark mark.OpenSquare) s = omega arith
  self_name_most begun n ps us m ds fs k s =
      let vs : PlainTys = and_ty us (plain.name m plain.no_tys) in
      at_most (beside ds fs (max (params_height ps) (tallest us))) (beside ds fs (max (params_height ps) (tallest vs))) (after_self file begun n ps vs ds fs k s) (omega (arith, tallest_and us (plain.name m plain.no_tys))) (self_most begun n ps vs ds fs k s)

  self_goes_most : (begun : Begun) (n : TypeName) (ps : List PlainParam) (us : PlainTys) (p : Progress) (ds : PlainDecls) (fs : List Frame) (k : Kind) (s : Spot)
      → AtMost (beside ds fs (max (params_height ps) (tallest us))) (self_goes file begun n ps us p ds fs k s)
  self_goes_most begun n ps us (further naming) ds fs k s = alike _
  self_goes_most begun n ps us (whole m) ds fs k s = alike _
  self_goes_most begun n ps us (before m) ds fs k s = self_name_most begun n ps us m ds fs k s
  self_goes_most begun n ps us stuck ds fs k s = tt

  -- ---- type parameters

  param_named_most : (o : Owner) (done : List PlainParam) (unchecked : Bool) (v : Variance) (ds : PlainDecls) (fs : List Frame) (k : Kind)
      → AtMost (behind_params o done ds fs) (param_named file o done unchecked v ds fs k)
  param_named_most o done unchecked v ds fs (kind.Upper w) = if_most (is_new_param w done) _ _ (alike _)
  param_named_most o done unchecked v ds fs _ = tt

  varied_most : (o : Owner) (done : List PlainParam) (unchecked : Bool) (ds : PlainDecls) (fs : List Frame) (k : Kind) (v : Option Variance)
      → AtMost (behind_params o done ds fs) (varied file o done unchecked ds fs k v)
  varied_most o done unchecked ds fs k (Some v) = alike _
  varied_most o done unchecked ds fs k None = param_named_most o done unchecked variance.Fixed ds fs k

  unchecked_most : (o : Owner) (done : List PlainParam) (unchecked : Bool) (ds : PlainDecls) (fs : List Frame) (k : Kind)
      → AtMost (behind_params o done ds fs) (after_unchecked file o done unchecked ds fs k)
  unchecked_most o done unchecked ds fs k = varied_most o done unchecked ds fs k (variance_at file k)

  param_most : (o : Owner) (done : List PlainParam) (ds : PlainDecls) (fs : List Frame) (k : Kind) → AtMost (behind_params o done ds fs) (param_begins file o done ds fs k)
  param_most o done ds fs (kind.Keyword keyword.Unchecked) = alike _
  param_most o done ds fs k = unchecked_most o done false ds fs k

  after_param_most : (o : Owner) (ps : List PlainParam) (ds : PlainDecls) (fs : List Frame) (k : Kind) → AtMost (behind_params o ps ds fs) (after_param file o ps ds fs k)
  after_param_most o ps ds fs (kind.Mark mark.Comma) = alike _
  after_param_most o ps ds fs (kind.Mark mark.CloseSquare) = alike _
  after_param_most o ps ds fs _ = tt

  -- behind one more, with this bound
  more_params_most : (o : Owner) (done : List PlainParam) (p : Param) (t : Option PlainTy) (ds : PlainDecls) (fs : List Frame) (k : Kind)
      → AtMost (beside ds fs (max (max (owner_height o) (params_height done)) (option_height t))) (after_param file o (and_param done p t) ds fs k)
  more_params_most o done p t ds fs k =
      at_most (beside ds fs (max (max (owner_height o) (params_height done)) (option_height t))) (behind_params o (and_param done p t) ds fs) (after_param file o (and_param done p t) ds fs k) (omega (arith, params_and done (bounded p t))) (after_param_most o (and_param done p t) ds fs k)

  plain_param_most : (o : Owner) (done : List PlainParam) (p : Param) (t : Option PlainTy) (ds : PlainDecls) (fs : List Frame) (k : Kind)
      → option_height t ≤ 1 → AtMost (behind_params o done ds fs) (after_param file o (and_param done p t) ds fs k)
  plain_param_most o done p t ds fs k h =
      at_most (behind_params o done ds fs) (beside ds fs (max (max (owner_height o) (params_height done)) (option_height t))) (after_param file o (and_param done p t) ds fs k) (omega (arith, h)) (more_params_most o done p t ds fs k)

  param_name_most : (o : Owner) (done : List PlainParam) (p : Param) (ds : PlainDecls) (fs : List Frame) (k : Kind) → AtMost (behind_params o done ds fs) (after_param_name file o done p ds fs k)
  param_name_most o done p ds fs (kind.Mark mark.Less) = alike _
  param_name_most o done p ds fs k = plain_param_most o done p None ds fs k (omega arith)

  bound_name_most : (o : Owner) (done : List PlainParam) (p : Param) (m : TypeName) (ds : PlainDecls) (fs : List Frame) (k : Kind)
      → AtMost (behind_params o done ds fs) (after_bound_name file o done p m ds fs k)
  bound_name_most o done p m ds fs (kind.Mark mark.OpenSquare) = omega arith
  bound_name_most o done p m ds fs k = plain_param_most o done p (Some (plain.name m plain.no_tys)) ds fs k (omega arith)

  bound_goes_most : (o : Owner) (done : List PlainParam) (p : Param) (x : Progress) (ds : PlainDecls) (fs : List Frame) (k : Kind)
      → AtMost (behind_params o done ds fs) (bound_goes file o done p x ds fs k)
  bound_goes_most o done p (further naming) ds fs k = alike _
  bound_goes_most o done p (whole m) ds fs k = alike _
  bound_goes_most o done p (before m) ds fs k = bound_name_most o done p m ds fs k
  bound_goes_most o done p stuck ds fs k = tt

  bound_first_most : (o : Owner) (done : List PlainParam) (p : Param) (n : TypeName) (ds : PlainDecls) (fs : List Frame) (k : Kind)
      → AtMost (behind_params o done ds fs) (bound_first file o done p n ds fs k)
  bound_first_most o done p n ds fs (kind.Keyword keyword.Singleton) = alike _
  bound_first_most o done p n ds fs k = bound_goes_most o done p (first_on of_class_or_interface n k) ds fs k

  in_bound_most : (o : Owner) (done : List PlainParam) (p : Param) (n : TypeName) (x : Step) (ds : PlainDecls) (fs : List Frame) (k : Kind) (s : Spot)
      → AtMost (behind_params o done ds fs) (in_bound file o done p n x ds fs k s)
  in_bound_most o done p n step_at.Start ds fs k s = bound_first_most o done p n ds fs k
  in_bound_most o done p n x ds fs k s = bound_goes_most o done p (named_on of_class_or_interface n x k s) ds fs k

  bound_singleton_most : (o : Owner) (done : List PlainParam) (p : Param) (ds : PlainDecls) (fs : List Frame) (k : Kind)
      → AtMost (behind_params o done ds fs) (after_bound_singleton file o done p ds fs k)
  bound_singleton_most o done p ds fs (kind.Mark mark.Open) = alike _
  bound_singleton_most o done p ds fs _ = tt

  class_closed_most : (o : Owner) (done : List PlainParam) (p : Param) (m : TypeName) (ds : PlainDecls) (fs : List Frame) (k : Kind)
      → AtMost (behind_params o done ds fs) (bound_class_closed file o done p m ds fs k)
  class_closed_most o done p m ds fs (kind.Mark mark.Close) = omega (arith, params_and done (bounded p (Some (plain.single m))))
  class_closed_most o done p m ds fs _ = tt

  class_goes_most : (o : Owner) (done : List PlainParam) (p : Param) (x : Progress) (ds : PlainDecls) (fs : List Frame) (k : Kind)
      → AtMost (behind_params o done ds fs) (bound_class_goes file o done p x ds fs k)
  class_goes_most o done p (further naming) ds fs k = alike _
  class_goes_most o done p (before m) ds fs k = class_closed_most o done p m ds fs k
  class_goes_most o done p _ ds fs k = tt

  -- ---- methods

  method_name_most : (sig : Signature) (ds : PlainDecls) (fs : List Frame) (k : Kind) → AtMost (beside ds fs 0) (after_method_name file sig ds fs k)
  method_name_most sig ds fs (kind.Mark mark.Colon) = alike _
  method_name_most sig ds fs _ = tt

  method_ending_most : (sig : Signature) (ds : PlainDecls) (fs : List Frame) (k : Kind) (e : Option (List ℕ)) → AtMost (beside ds fs 0) (method_ending file sig ds fs k e)
  method_ending_most sig ds fs k (Some e) = alike _
  method_ending_most sig ds fs k None = method_name_most sig ds fs k

  operator_ended_most : (begun : Begun) (v : Option Vis) (single : Bool) (o : Operator) (ds : PlainDecls) (fs : List Frame) (k : Kind) (x : Option Operator)
      → AtMost (beside ds fs 0) (operator_ended file begun v single o ds fs k x)
  operator_ended_most begun v single o ds fs k (Some x) = alike _
  operator_ended_most begun v single o ds fs k None = if_most (is_operator o) _ _ (method_name_most (signed file begun v single (operator_text o)) ds fs k)

  operator_begins_most : (begun : Begun) (v : Option Vis) (single : Bool) (ds : PlainDecls) (fs : List Frame) (o : Option Operator) → AtMost (beside ds fs 0) (operator_begins file begun v single ds fs o)
  operator_begins_most begun v single ds fs (Some o) = alike _
  operator_begins_most begun v single ds fs None = tt

  method_begins_most : (begun : Begun) (v : Option Vis) (single : Bool) (ds : PlainDecls) (fs : List Frame) (k : Kind) (w : Option (List ℕ))
      → AtMost (beside ds fs 0) (method_begins file begun v single ds fs k w)
  method_begins_most begun v single ds fs k (Some w) = alike _
  method_begins_most begun v single ds fs k None = operator_begins_most begun v single ds fs (operator_at file k)

  def_most : (begun : Begun) (v : Option Vis) (ds : PlainDecls) (fs : List Frame) (k : Kind) → AtMost (beside ds fs 0) (after_def file begun v ds fs k)
  def_most begun v ds fs (kind.Keyword keyword.SelfWord) = alike _
  def_most begun v ds fs k = method_begins_most begun v false ds fs k (method_word k)

  def_self_most : (begun : Begun) (v : Option Vis) (ds : PlainDecls) (fs : List Frame) (k : Kind) (s : Spot) → AtMost (beside ds fs 0) (after_def_self file begun v ds fs k s)
  def_self_most begun v ds fs (kind.Mark mark.Dot) s = alike _
  def_self_most begun v ds fs k s = method_ending_most (signed file begun v false text_of_self) ds fs k (ending_at file k s)

  -- ---- inside of types

  typed_most : (p : Purpose) (ds : PlainDecls) (fs : List Frame) (i : Option TypeState) → AtMost (beside ds fs (purpose_height p)) (typed file p ds fs i)
  typed_most p ds fs None = tt
  typed_most p ds fs (Some i) = omega arith

  function_most : (sig : Signature) (done : List PlainMethod) (ps : List PlainParam) (ds : PlainDecls) (fs : List Frame) (k : Kind) (s : Spot)
      → AtMost (beside ds fs (max (methods_height done) (params_height ps))) (function_begins file sig done ps ds fs k s)
  function_most sig done ps ds fs k s = typed_most (purpose.Overload sig done ps) ds fs (types.next start_function (token k s))

  overload_most : (sig : Signature) (done : List PlainMethod) (ds : PlainDecls) (fs : List Frame) (k : Kind) (s : Spot)
      → AtMost (beside ds fs (methods_height done)) (after_overload file sig done ds fs k s)
  overload_most sig done ds fs (kind.Mark mark.OpenSquare) s = omega arith
  overload_most sig done ds fs k s =
      at_most (beside ds fs (methods_height done)) (beside ds fs (max (methods_height done) 0)) (function_begins file sig done [] ds fs k s) (omega arith) (function_most sig done [] ds fs k s)

  parameterized_most : (o : Owner) (ps : List PlainParam) (ds : PlainDecls) (fs : List Frame) (k : Kind) (s : Spot)
      → AtMost (behind_params o ps ds fs) (after_parameterized file o ps ds fs k s)
  parameterized_most (owner.Heading begun x n) ps ds fs k s =
      at_most (behind_params (owner.Heading begun x n) ps ds fs) (beside ds fs (params_height ps)) (after_heading file begun x n ps ds fs k s) (omega arith) (heading_most begun x n ps ds fs k s)
  parameterized_most (owner.Overload sig done) ps ds fs k s = function_most sig done ps ds fs k s

  next_overload_most : (n : ℕ) (sig : Signature) (ms : Option (List PlainMethod)) (ds : PlainDecls) (fs : List Frame) → AreHigh n ms → AtMost (beside ds fs n) (next_overload file sig ms ds fs)
  next_overload_most n sig None ds fs h = tt
  next_overload_most n sig (Some ms) ds fs h = omega arith

  method_most : (n : ℕ) (sig : Signature) (ms : Option (List PlainMethod)) (e : ℕ) (ds : PlainDecls) (fs : List Frame) → AreHigh n ms → Settled (beside ds fs n) (with_method file sig ms e ds fs)
  method_most n sig None e ds fs h = tt
  method_most n sig (Some ms) e ds fs h = omega (arith, h, membered_most sig.begun e (method sig.vis sig.single sig.name ms) ds fs)

  after_function_most : (sig : Signature) (done : List PlainMethod) (ps : List PlainParam) (t : PlainTy) (ds : PlainDecls) (fs : List Frame) (k : Kind) (s : Spot)
      → AtMost (around (purpose.Overload sig done ps) (height t) ds fs) (after_function file sig done ps t ds fs k s)
  after_function_most sig done ps t ds fs (kind.Mark mark.Bar) s = next_overload_most _ sig (and_overload done ps t) ds fs (overload_and done ps t)
  after_function_most sig done ps t ds fs k s =
      then_most _ (with_method file sig (and_overload done ps t) s.before ds fs) k s (method_most _ sig (and_overload done ps t) s.before ds fs (overload_and done ps t))

  whole_most : (p : Purpose) (t : PlainTy) (ds : PlainDecls) (fs : List Frame) (k : Kind) (s : Spot) → AtMost (around p (height t) ds fs) (after_whole file p t ds fs k s)
  whole_most (purpose.Overload sig done ps) t ds fs k s = after_function_most sig done ps t ds fs k s
  whole_most (purpose.SelfType begun n ps us) t ds fs k s =
      at_most (around (purpose.SelfType begun n ps us) (height t) ds fs) (beside ds fs (max (params_height ps) (tallest (and_ty us t)))) (after_self file begun n ps (and_ty us t) ds fs k s) (omega (arith, tallest_and us t)) (self_most begun n ps (and_ty us t) ds fs k s)
  whole_most (purpose.Bound o done p) t ds fs k s = more_params_most o done p (Some t) ds fs k
  whole_most (purpose.Alias begun n ps) t ds fs k s = then_most _ (Some (declared file begun s.before (decl.alias n ps t) ds fs)) k s (declared_most begun s.before (decl.alias n ps t) ds fs)
  whole_most (purpose.Constant begun n) t ds fs k s =
      then_most (around (purpose.Constant begun n) (height t) ds fs) (Some (declared file begun s.before (decl.const n t) ds fs)) k s (omega (arith, declared_most begun s.before (decl.const n t) ds fs))
  whole_most (purpose.Attribute begun v a w) t ds fs k s =
      then_most (around (purpose.Attribute begun v a w) (height t) ds fs) (Some (membered file begun s.before (attr v a w t) ds fs)) k s (omega (arith, membered_most begun s.before (attr v a w t) ds fs))
  whole_most (purpose.Variable begun single w) t ds fs k s =
      then_most (around (purpose.Variable begun single w) (height t) ds fs) (Some (membered file begun s.before (ivar single w t) ds fs)) k s (omega (arith, membered_most begun s.before (ivar single w t) ds fs))
  whole_most (purpose.Parent begun n ps) t ds fs k s = then_most (around (purpose.Parent begun n ps) (height t) ds fs) (with_parent file begun n ps t ds fs) k s (omega arith)
  whole_most (purpose.Mixin begun m) t ds fs k s =
      then_most (around (purpose.Mixin begun m) (height t) ds fs) (Some (membered file begun s.before (mixin m t) ds fs)) k s (omega (arith, membered_most begun s.before (mixin m t) ds fs))

  type_most : (p : Purpose) (i : TypeState) (ds : PlainDecls) (fs : List Frame) (k : Kind) (s : Spot)
      → AtMost (around p (type_needs.need i) ds fs) (typed_on file p i (types.next i (token k s)) ds fs k s)
  type_most p i ds fs k s = go (types.next i (token k s)) refl
    where
      ended : (t : Option PlainTy) → types.final i ≡ t → AtMost (around p (type_needs.need i) ds fs) (after_final file p t ds fs k s)
      ended None e = tt
      ended (Some t) e = subst (λ n. AtMost (around p n ds fs) (after_whole file p t ds fs k s)) (sym (type_need_final i t e)) (whole_most p t ds fs k s)

      go : (o : Option TypeState) → types.next i (token k s) ≡ o → AtMost (around p (type_needs.need i) ds fs) (typed_on file p i o ds fs k s)
      go None e = ended (types.final i) refl
      go (Some m) e = omega arith

  -- ---- other members

  attribute_named_most : (begun : Begun) (v : Option Vis) (a : AttrKind) (ds : PlainDecls) (fs : List Frame) (w : Option (List ℕ)) → AtMost (beside ds fs 0) (attribute_named file begun v a ds fs w)
  attribute_named_most begun v a ds fs None = tt
  attribute_named_most begun v a ds fs (Some w) = alike _

  attribute_name_most : (begun : Begun) (v : Option Vis) (a : AttrKind) (w : List ℕ) (ds : PlainDecls) (fs : List Frame) (k : Kind)
      → AtMost (beside ds fs 0) (after_attribute_name file begun v a w ds fs k)
  attribute_name_most begun v a w ds fs (kind.Mark mark.Colon) = omega arith
  attribute_name_most begun v a w ds fs _ = tt

  -- a member that holds no type but a name
  low_most : (begun : Begun) (e : ℕ) (m : PlainMember) (ds : PlainDecls) (fs : List Frame) (k : Kind) (s : Spot) → member_height m ≤ 1
      → AtMost (beside ds fs 0) (then_part file (Some (membered file begun e m ds fs)) k s)
  low_most begun e m ds fs k s h = then_most (beside ds fs 0) (Some (membered file begun e m ds fs)) k s (omega (arith, h, membered_most begun e m ds fs))

  mixin_name_most : (begun : Begun) (m : MixKind) (n : TypeName) (ds : PlainDecls) (fs : List Frame) (k : Kind) (s : Spot)
      → AtMost (beside ds fs 0) (after_mixin_name file begun m n ds fs k s)
  mixin_name_most begun m n ds fs (kind.Mark mark.OpenSquare) s = omega arith
  mixin_name_most begun m n ds fs k s = low_most begun s.before (mixin m (plain.name n plain.no_tys)) ds fs k s (omega arith)

  mixin_goes_most : (begun : Begun) (m : MixKind) (p : Progress) (ds : PlainDecls) (fs : List Frame) (k : Kind) (s : Spot)
      → AtMost (beside ds fs 0) (mixin_goes file begun m p ds fs k s)
  mixin_goes_most begun m (further naming) ds fs k s = alike _
  mixin_goes_most begun m (whole n) ds fs k s = alike _
  mixin_goes_most begun m (before n) ds fs k s = mixin_name_most begun m n ds fs k s
  mixin_goes_most begun m stuck ds fs k s = tt

  visible_attribute_most : (begun : Begun) (v : Vis) (ds : PlainDecls) (fs : List Frame) (a : Option AttrKind) → AtMost (beside ds fs 0) (visible_attribute file begun v ds fs a)
  visible_attribute_most begun v ds fs (Some a) = alike _
  visible_attribute_most begun v ds fs None = tt

  visible_member_most : (begun : Begun) (v : Vis) (ds : PlainDecls) (fs : List Frame) (k : Kind) → AtMost (beside ds fs 0) (visible_member file begun v ds fs k)
  visible_member_most begun v ds fs (kind.Keyword keyword.Def) = alike _
  visible_member_most begun v ds fs (kind.Keyword k) = visible_attribute_most begun v ds fs (attribute_of k)
  visible_member_most begun v ds fs _ = tt

  vis_most : (begun : Begun) (v : Vis) (e : ℕ) (ds : PlainDecls) (fs : List Frame) (k : Kind) (s : Spot) → AtMost (beside ds fs 0) (after_vis file begun v e ds fs k s)
  vis_most begun v e ds fs k s = either_most (on_line s && takes_vis k) _ _ _ (visible_member_most begun v ds fs k) (low_most begun e (section v) ds fs k s (omega arith))

  self_word_most : (begun : Begun) (ds : PlainDecls) (fs : List Frame) (k : Kind) → AtMost (beside ds fs 0) (after_self_word file begun ds fs k)
  self_word_most begun ds fs (kind.Mark mark.Dot) = alike _
  self_word_most begun ds fs _ = tt

  self_dot_most : (begun : Begun) (ds : PlainDecls) (fs : List Frame) (k : Kind) → AtMost (beside ds fs 0) (after_self_dot file begun ds fs k)
  self_dot_most begun ds fs (kind.Variable w) = alike _
  self_dot_most begun ds fs _ = tt

  after_variable_most : (begun : Begun) (single : Bool) (w : List ℕ) (ds : PlainDecls) (fs : List Frame) (k : Kind) → AtMost (beside ds fs 0) (after_variable file begun single w ds fs k)
  after_variable_most begun single w ds fs (kind.Mark mark.Colon) = omega arith
  after_variable_most begun single w ds fs _ = tt

  -- ---- aliases of methods

  old_operator_most : (begun : Begun) (new : List ℕ) (ds : PlainDecls) (fs : List Frame) (o : Option Operator) → AtMost (beside ds fs 0) (old_operator file begun new ds fs o)
  old_operator_most begun new ds fs (Some o) = alike _
  old_operator_most begun new ds fs None = tt

  old_begins_most : (begun : Begun) (new : List ℕ) (ds : PlainDecls) (fs : List Frame) (k : Kind) (w : Option (List ℕ)) → AtMost (beside ds fs 0) (old_begins file begun new ds fs k w)
  old_begins_most begun new ds fs k (Some w) = alike _
  old_begins_most begun new ds fs k None = old_operator_most begun new ds fs (operator_at file k)

  new_name_most : (begun : Begun) (new : List ℕ) (ds : PlainDecls) (fs : List Frame) (k : Kind) → AtMost (beside ds fs 0) (after_new file begun new ds fs k)
  new_name_most begun new ds fs k = old_begins_most begun new ds fs k (method_word k)

  new_operator_most : (begun : Begun) (ds : PlainDecls) (fs : List Frame) (o : Option Operator) → AtMost (beside ds fs 0) (new_operator file begun ds fs o)
  new_operator_most begun ds fs (Some o) = alike _
  new_operator_most begun ds fs None = tt

  new_begins_most : (begun : Begun) (ds : PlainDecls) (fs : List Frame) (k : Kind) (w : Option (List ℕ)) → AtMost (beside ds fs 0) (new_begins file begun ds fs k w)
  new_begins_most begun ds fs k (Some w) = alike _
  new_begins_most begun ds fs k None = new_operator_most begun ds fs (operator_at file k)

  new_marked_most : (begun : Begun) (w : List ℕ) (ds : PlainDecls) (fs : List Frame) (m : Mark) → AtMost (beside ds fs 0) (new_marked file begun w ds fs m)
  new_marked_most begun w ds fs mark.Question = alike _
  new_marked_most begun w ds fs mark.Bang = alike _
  new_marked_most begun w ds fs mark.Equals = alike _
  new_marked_most begun w ds fs m = new_name_most begun w ds fs (kind.Mark m)

  new_marked_if_most : (b : Bool) (begun : Begun) (w : List ℕ) (ds : PlainDecls) (fs : List Frame) (m : Mark) → AtMost (beside ds fs 0) (new_marked_if file b begun w ds fs m)
  new_marked_if_most true begun w ds fs m = new_marked_most begun w ds fs m
  new_marked_if_most false begun w ds fs m = new_name_most begun w ds fs (kind.Mark m)

  new_word_most : (begun : Begun) (w : List ℕ) (ds : PlainDecls) (fs : List Frame) (k : Kind) (s : Spot) → AtMost (beside ds fs 0) (after_new_word file begun w ds fs k s)
  new_word_most begun w ds fs (kind.Mark m) s = new_marked_if_most (is_joined s) begun w ds fs m
  new_word_most begun w ds fs k s = new_name_most begun w ds fs k

  new_equals_most : (begun : Begun) (w : List ℕ) (ds : PlainDecls) (fs : List Frame) (k : Kind) (s : Spot) → AtMost (beside ds fs 0) (after_new_equals file begun w ds fs k s)
  new_equals_most begun w ds fs k s = either_most (joined_equals file k s) _ _ _ (alike _) (new_name_most begun (with_equals w) ds fs k)

  new_equals_equals_most : (begun : Begun) (w : List ℕ) (ds : PlainDecls) (fs : List Frame) (k : Kind) (s : Spot)
      → AtMost (beside ds fs 0) (after_new_equals_equals file begun w ds fs k s)
  new_equals_equals_most begun w ds fs k s = either_most (joined_equals file k s) _ _ _ (alike _) (low_most begun s.before (alias w double_equals) ds fs k s (omega arith))

  new_operator_ended_most : (begun : Begun) (o : Operator) (ds : PlainDecls) (fs : List Frame) (k : Kind) (x : Option Operator) → AtMost (beside ds fs 0) (new_operator_ended file begun o ds fs k x)
  new_operator_ended_most begun o ds fs k (Some x) = alike _
  new_operator_ended_most begun o ds fs k None = if_most (is_operator o) _ _ (new_name_most begun (operator_text o) ds fs k)

  old_word_most : (begun : Begun) (new w : List ℕ) (ds : PlainDecls) (fs : List Frame) (k : Kind) (s : Spot) (e : Option (List ℕ))
      → AtMost (beside ds fs 0) (old_word_ended file begun new w ds fs k s e)
  old_word_most begun new w ds fs k s (Some e) = alike _
  old_word_most begun new w ds fs k s None = low_most begun s.before (alias new w) ds fs k s (omega arith)

  unless_most : (b : Bool) (n : ℕ) (o : Option State) → AtMost n o → AtMost n (if b then None else o)
  unless_most true n o h = tt
  unless_most false n o h = h

  old_operator_ended_most : (begun : Begun) (new : List ℕ) (o : Operator) (ds : PlainDecls) (fs : List Frame) (k : Kind) (s : Spot) (x : Option Operator)
      → AtMost (beside ds fs 0) (old_operator_ended file begun new o ds fs k s x)
  old_operator_ended_most begun new o ds fs k s (Some x) = alike _
  old_operator_ended_most begun new o ds fs k s None = if_most (is_operator o) _ _ (low_most begun s.before (alias new (operator_text o)) ds fs k s (omega arith))

  -- ---- all

  step_most : (f : Focus) (ds : PlainDecls) (fs : List Frame) (k : Kind) (s : Spot) → AtMost (beside ds fs (focus_height f)) (step file f ds fs k s)
  step_most focus.Parts ds fs k s = part_most ds fs k s
  step_most (focus.Noted begun) ds fs k s = begins_most begun.notes ds fs k s
  step_most (focus.Visible begun v e) ds fs k s = vis_most begun v e ds fs k s
  step_most (focus.Name begun x naming) ds fs k s = name_goes_most begun x (naming_on (use_of x) naming k s) ds fs k s
  step_most (focus.Named begun x n) ds fs k s = name_most begun x n ds fs k s
  step_most (focus.Param o done) ds fs k s = param_most o done ds fs k
  step_most (focus.Unchecked o done) ds fs k s = unchecked_most o done true ds fs k
  step_most (focus.Varied o done unchecked v) ds fs k s = param_named_most o done unchecked v ds fs k
  step_most (focus.ParamName o done p) ds fs k s = param_name_most o done p ds fs k
  step_most (focus.Bound o done p naming) ds fs k s = in_bound_most o done p naming.name naming.step ds fs k s
  step_most (focus.BoundNamed o done p m) ds fs k s = bound_name_most o done p m ds fs k
  step_most (focus.BoundSingleton o done p) ds fs k s = bound_singleton_most o done p ds fs k
  step_most (focus.BoundClass o done p naming) ds fs k s = class_goes_most o done p (naming_on of_class naming k s) ds fs k
  step_most (focus.Bounded o ps) ds fs k s = after_param_most o ps ds fs k
  step_most (focus.Parameterized o ps) ds fs k s = parameterized_most o ps ds fs k s
  step_most (focus.Parent begun n ps naming) ds fs k s = parent_goes_most begun n ps (naming_on of_class naming k s) ds fs k s
  step_most (focus.SelfType begun n ps us naming) ds fs k s = self_goes_most begun n ps us (naming_on of_class_or_interface naming k s) ds fs k s
  step_most (focus.SelfNamed begun n ps us m) ds fs k s = self_name_most begun n ps us m ds fs k s
  step_most (focus.Def begun v) ds fs k s = def_most begun v ds fs k
  step_most (focus.DefSelf begun v) ds fs k s = def_self_most begun v ds fs k s
  step_most (focus.MethodStart begun v single) ds fs k s = method_begins_most begun v single ds fs k (method_word k)
  step_most (focus.MethodWord sig) ds fs k s = method_ending_most sig ds fs k (ending_at file k s)
  step_most (focus.MethodOperator begun v single o) ds fs k s = operator_ended_most begun v single o ds fs k (extended_at o k s)
  step_most (focus.MethodName sig) ds fs k s = method_name_most sig ds fs k
  step_most (focus.Overload sig done) ds fs k s = overload_most sig done ds fs k s
  step_most (focus.Attribute begun v a) ds fs k s = attribute_named_most begun v a ds fs (lower_of k)
  step_most (focus.AttributeName begun v a w) ds fs k s = attribute_name_most begun v a w ds fs k
  step_most (focus.Mixin begun m naming) ds fs k s = mixin_goes_most begun m (naming_on (mixin_use (site_of fs)) naming k s) ds fs k s
  step_most (focus.MixinNamed begun m n) ds fs k s = mixin_name_most begun m n ds fs k s
  step_most (focus.Alias begun) ds fs k s = new_begins_most begun ds fs k (method_word k)
  step_most (focus.NewWord begun w) ds fs k s = new_word_most begun w ds fs k s
  step_most (focus.NewEquals begun w) ds fs k s = new_equals_most begun w ds fs k s
  step_most (focus.NewEqualsEquals begun w) ds fs k s = new_equals_equals_most begun w ds fs k s
  step_most (focus.NewOperator begun o) ds fs k s = new_operator_ended_most begun o ds fs k (extended_at o k s)
  step_most (focus.NewName begun new) ds fs k s = new_name_most begun new ds fs k
  step_most (focus.OldWord begun new w capital) ds fs k s = unless_most (capital && scope_at k s) _ _ (old_word_most begun new w ds fs k s (ending_at file k s))
  step_most (focus.OldOperator begun new o) ds fs k s = old_operator_ended_most begun new o ds fs k s (extended_at o k s)
  step_most (focus.OldName begun new old) ds fs k s = low_most begun s.before (alias new old) ds fs k s (omega arith)
  step_most (focus.SelfWord begun) ds fs k s = self_word_most begun ds fs k
  step_most (focus.SelfDot begun) ds fs k s = self_dot_most begun ds fs k
  step_most (focus.Variable begun single w) ds fs k s = after_variable_most begun single w ds fs k
  step_most (focus.Typed p i) ds fs k s = type_most p i ds fs k s

  whole_next : (s : State) (c : Token) (m : State) → next file s c ≡ Some m → whole_height m ≤ max 1 (need s)
  whole_next s c m e = subst (AtMost (max 1 (need s))) e (step_most s.focus s.decls s.frames c.kind c.spot)

  -- no higher than a limit that the state before keeps
  pub whole_low : (s : State) (c : Token) (m : State) → need s ≤ 200 → next file s c ≡ Some m → whole_height m ≤ 200
  whole_low s c m low e = omega (arith, low, whole_next s c m e)
