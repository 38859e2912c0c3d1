-- The height of the highest type of a text that goes on from a state only grows, and at the end it is the height of the declarations.
use Rattle.std.proofs.Common.{ℕ, max, ◌≤◌, ◌≡◌, refl, sym, subst, Bool, true, false, if◌then◌else◌, ◌&&◌, List, [], ◌∷◌, Option, Some, None, arith}
use Rattle.rbs_terminals.specs.declared.token.Token.{Token}
use Rattle.rbs_terminals.specs.declared.token.Spot.{Spot}
use Rattle.rbs_terminals.specs.declared.token.Mark.{Mark}
use Rattle.rbs_terminals.specs.declared.token.Mark.TheVariants as mark
use Rattle.rbs_terminals.specs.declared.token.Keyword.{Keyword}
use Rattle.rbs_terminals.specs.declared.token.Keyword.TheVariants as keyword
use Rattle.rbs_terminals.specs.declared.token.Kind.{Kind}
use Rattle.rbs_terminals.specs.declared.token.Kind.TheVariants as kind
use Rattle.rbs_terminals.specs.Kinds.{lower_of}
use Rattle.sig_model.specs.declared.ty.TypeName.{TypeName}
use Rattle.sig_model.specs.declared.decl.Notes.{Notes}
use Rattle.sig_model.specs.declared.decl.Variance.{Variance}
use Rattle.sig_model.specs.declared.decl.Variance.TheVariants as variance
use Rattle.sig_model.specs.declared.decl.Vis.{Vis}
use Rattle.sig_model.specs.declared.decl.AttrKind.{AttrKind}
use Rattle.sig_model.specs.declared.decl.MixKind.{MixKind}
use Rattle.sig_model.specs.PlainTy as plain
use Rattle.sig_model.specs.PlainTy.{PlainTy, PlainTys}
use Rattle.sig_model.specs.Height.{height, tallest}
use Rattle.sig_model.specs.PlainMember.{PlainParam, PlainMethod, PlainMember, method, attr, mixin, alias, ivar, section}
use Rattle.sig_model.specs.PlainDecl as decl
use Rattle.sig_model.specs.PlainDecl.{PlainDecl, PlainBody, PlainDecls}
use Rattle.rbs_types.specs.declared.state.State.{State as TypeState}
use Rattle.rbs_types.specs.Symbols.{token, on_line, scope_at}
use Rattle.rbs_types.specs.Plains.{and_ty}
use Rattle.rbs_types.specs.Parts.{grown, no_name, root}
use Rattle.rbs_types.specs.Grammar.{of_class, of_class_or_interface}
use Rattle.rbs_types.specs.Machine as types
use Rattle.rbs_types.specs.Machine.{start_function}
use Rattle.rbs_types.specs.Needs as type_needs
use Rattle.rbs_types.proofs.Heights.{tallest_and}
use Rattle.rbs_types.proofs.Needs.{need_next as type_need_next, need_final as type_need_final}
use Rattle.rbs_declarations.specs.declared.operators.Operator.{Operator}
use Rattle.rbs_declarations.specs.declared.state.Begun.{Begun}
use Rattle.rbs_declarations.specs.declared.state.Step.{Step}
use Rattle.rbs_declarations.specs.declared.state.Step.TheVariants as step_at
use Rattle.rbs_declarations.specs.declared.state.Sort.{Sort}
use Rattle.rbs_declarations.specs.declared.state.Sort.TheVariants as sort
use Rattle.rbs_declarations.specs.declared.state.Frame.{Frame}
use Rattle.rbs_declarations.specs.declared.state.Signature.{Signature}
use Rattle.rbs_declarations.specs.declared.state.Owner.{Owner}
use Rattle.rbs_declarations.specs.declared.state.Owner.TheVariants as owner
use Rattle.rbs_declarations.specs.declared.state.Param.{Param}
use Rattle.rbs_declarations.specs.declared.state.Purpose.{Purpose}
use Rattle.rbs_declarations.specs.declared.state.Purpose.TheVariants as purpose
use Rattle.rbs_declarations.specs.declared.state.Focus.{Focus}
use Rattle.rbs_declarations.specs.declared.state.Focus.TheVariants as focus
use Rattle.rbs_declarations.specs.declared.state.State.{State}
use Rattle.rbs_declarations.specs.Operators.{operator_text, is_operator}
use Rattle.rbs_declarations.specs.Words.{vis_of, attribute_of, mixin_of, method_word, is_joined, extended_at, takes_vis}
use Rattle.rbs_declarations.specs.Grammar.{is_new_param}
use Rattle.rbs_declarations.specs.Machine.{Progress, further, whole, before, stuck, first_on, named_on, naming_on, use_of, with_decl, opened, body_of, text_of_self, double_equals, with_equals, and_overload, bounded, and_param, Site, in_file, in_class, in_interface, site_of, mixin_use, place_from, declared, membered, declaration_keyword, mixin_begins, attribute_begins, vis_begins, member_keyword, interface_keyword, keyword_begins, constant_begins, variable_begins, begun_at, begins, ended_frame, no_notes_at, part_begins, then_part, after_class_params, after_module_params, after_alias_params, after_constant, after_heading, params_begin, after_name, name_goes, with_parent, after_parent_name, parent_goes, with_selves, after_self, after_self_name, self_goes, param_named, varied, variance_at, after_unchecked, param_begins, after_param, after_param_name, after_bound_name, bound_goes, bound_first, in_bound, after_bound_singleton, bound_class_closed, bound_class_goes, signed, after_method_name, ending_at, method_ending, operator_ended, operator_begins, operator_at, method_begins, after_def, after_def_self, typed, function_begins, after_overload, after_parameterized, with_method, settled_type, next_overload, after_function, after_whole, after_final, typed_on, attribute_named, after_attribute_name, after_mixin_name, mixin_goes, visible_attribute, visible_member, after_vis, after_self_word, after_self_dot, after_variable, old_operator, old_begins, after_new, new_operator, new_begins, new_marked, new_marked_if, after_new_word, joined_equals, after_new_equals, after_new_equals_equals, new_operator_ended, old_word_ended, old_operator_ended, step, next, type_ended, settled, whole_file, final}
use Rattle.rbs_declarations.specs.Heights.{option_height, params_height, methods_height, member_height, decl_height, body_height, decls_height}
use Rattle.rbs_declarations.specs.Needs.{frames_height, owner_height, purpose_height, phrase_height, focus_height, need}
use Rattle.rbs_declarations.proofs.Heights.{params_and, inner_and, member_and, decls_and, body_of_height, AreHigh, overload_and, phrase_mono}
use Rattle.rbs_declarations.proofs.Valid.{InClass, TakesMethod, TakesMixin, TakesParams, OwnerFits, PurposeFits, Fits, Valid}

-- what is needed among these, where the highest type at the focus has the height `h`
abbrev beside : PlainDecls → List Frame → ℕ → ℕ
beside ds fs h = max (decls_height ds) (max (frames_height fs) h)

-- what is needed behind these parameters
abbrev behind_params : Owner → List PlainParam → PlainDecls → List Frame → ℕ
behind_params o ps ds fs = beside ds fs (max (owner_height o) (params_height ps))

-- what is needed at a type that is read for the purpose, or is whole, and has the height `h`
abbrev around : Purpose → ℕ → PlainDecls → List Frame → ℕ
around p h ds fs = beside ds fs (max (purpose_height p) (phrase_height p h))

-- what the next state needs is at least that
abbrev AtLeast : ℕ → Option State → Type 0
AtLeast n None = Unit {0}
AtLeast n (Some m) = n ≤ need m

alike : (a : ℕ) → a ≤ a
alike a = omega arith

at_least : (a b : ℕ) (o : Option State) → a ≤ b → AtLeast b o → AtLeast a o
at_least a b None h l = tt
at_least a b (Some m) h l = omega arith

if_least : (b : Bool) (n : ℕ) (o : Option State) → AtLeast n o → AtLeast n (if b then o else None)
if_least true n o h = h
if_least false n o h = tt

either_least : (b : Bool) (n : ℕ) (o p : Option State) → AtLeast n o → AtLeast n p → AtLeast n (if b then o else p)
either_least true n o p h l = h
either_least false n o p h l = l

-- ---- what is whole keeps its height where it belongs

with_decl_need : (ds : PlainDecls) (fs : List Frame) (d : PlainDecl) → beside ds fs (decl_height d) ≡ need (with_decl ds fs d)
with_decl_need ds [] d = omega (arith, decls_and ds d)
with_decl_need ds (f ∷ fs) d = omega (arith, inner_and f.parts d)

-- a member has a frame
abbrev Inside : List Frame → Type 0
Inside [] = ⊥
Inside (f ∷ fs) = Unit {0}

class_inside : (fs : List Frame) → InClass (site_of fs) → Inside fs
class_inside [] h = h
class_inside (f ∷ fs) h = tt

method_inside : (fs : List Frame) (v : Option Vis) (single : Bool) → TakesMethod (site_of fs) v single → Inside fs
method_inside [] v single h = h
method_inside (f ∷ fs) v single h = tt

mixin_inside : (fs : List Frame) (m : MixKind) → TakesMixin (site_of fs) m → Inside fs
mixin_inside [] m h = h
mixin_inside (f ∷ fs) m h = tt

-- what was settled among the parts needs at least that
abbrev Settled : ℕ → Option State → Type 0
Settled n None = Unit {0}
Settled n (Some m) = n ≤ beside m.decls m.frames 0

opened_need : (begun : Begun) (x : Sort) (n : TypeName) (ps : List PlainParam) (ds : PlainDecls) (fs : List Frame) → Settled (beside ds fs (params_height ps)) (opened begun x n ps ds fs)
opened_need begun sort.Class n ps ds fs = omega arith
opened_need begun sort.Module n ps ds fs = omega arith
opened_need begun sort.Interface n ps ds fs = omega arith
opened_need begun sort.Alias n ps ds fs = tt
opened_need begun sort.Constant n ps ds fs = tt

-- whole declarations are that high
abbrev HasHeight : ℕ → Option PlainDecls → Type 0
HasHeight n None = Unit {0}
HasHeight n (Some ds) = n ≡ decls_height ds

-- In the file of this number.
module _ (file : ℕ) where
  declared_need : (begun : Begun) (e : ℕ) (b : PlainBody) (ds : PlainDecls) (fs : List Frame) → Settled (beside ds fs (body_height b)) (Some (declared file begun e b ds fs))
  declared_need begun e b ds [] = omega (arith, decls_and ds (decl.decl (place_from file begun e) begun.notes b))
  declared_need begun e b ds (f ∷ fs) = omega (arith, inner_and f.parts (decl.decl (place_from file begun e) begun.notes b))

  membered_need : (begun : Begun) (e : ℕ) (m : PlainMember) (ds : PlainDecls) (fs : List Frame) → Inside fs → Settled (beside ds fs (member_height m)) (Some (membered file begun e m ds fs))
  membered_need begun e m ds [] h = absurd h
  membered_need begun e m ds (f ∷ fs) h = omega (arith, member_and f.parts (place_from file begun e) begun.notes m)

  -- ---- where a declaration or a part begins

  declaration_need : (begun : Begun) (ds : PlainDecls) (fs : List Frame) (k : Keyword) → AtLeast (beside ds fs 0) (declaration_keyword file begun ds fs k)
  declaration_need begun ds fs keyword.Class = alike _
  declaration_need begun ds fs keyword.Module = alike _
  declaration_need begun ds fs keyword.Interface = alike _
  declaration_need begun ds fs keyword.Type = alike _
  declaration_need begun ds fs _ = tt

  mixin_begins_need : (begun : Begun) (ds : PlainDecls) (fs : List Frame) (k : Keyword) (m : Option MixKind) → AtLeast (beside ds fs 0) (mixin_begins file begun ds fs k m)
  mixin_begins_need begun ds fs k (Some m) = alike _
  mixin_begins_need begun ds fs k None = declaration_need begun ds fs k

  attribute_begins_need : (begun : Begun) (ds : PlainDecls) (fs : List Frame) (k : Keyword) (a : Option AttrKind) → AtLeast (beside ds fs 0) (attribute_begins file begun ds fs k a)
  attribute_begins_need begun ds fs k (Some a) = alike _
  attribute_begins_need begun ds fs k None = mixin_begins_need begun ds fs k (mixin_of k)

  vis_begins_need : (begun : Begun) (ds : PlainDecls) (fs : List Frame) (k : Keyword) (s : Spot) (v : Option Vis) → AtLeast (beside ds fs 0) (vis_begins file begun ds fs k s v)
  vis_begins_need begun ds fs k s (Some v) = alike _
  vis_begins_need begun ds fs k s None = attribute_begins_need begun ds fs k (attribute_of k)

  member_keyword_need : (begun : Begun) (ds : PlainDecls) (fs : List Frame) (k : Keyword) (s : Spot) → AtLeast (beside ds fs 0) (member_keyword file begun ds fs k s)
  member_keyword_need begun ds fs keyword.Def s = alike _
  member_keyword_need begun ds fs keyword.Alias s = alike _
  member_keyword_need begun ds fs keyword.SelfWord s = alike _
  member_keyword_need begun ds fs k s = vis_begins_need begun ds fs k s (vis_of k)

  interface_keyword_need : (begun : Begun) (ds : PlainDecls) (fs : List Frame) (k : Keyword) → AtLeast (beside ds fs 0) (interface_keyword file begun ds fs k)
  interface_keyword_need begun ds fs keyword.Def = alike _
  interface_keyword_need begun ds fs keyword.Include = alike _
  interface_keyword_need begun ds fs _ = tt

  keyword_need : (w : Site) (begun : Begun) (ds : PlainDecls) (fs : List Frame) (k : Keyword) (s : Spot) → AtLeast (beside ds fs 0) (keyword_begins file w begun ds fs k s)
  keyword_need in_file begun ds fs k s = declaration_need begun ds fs k
  keyword_need in_class begun ds fs k s = member_keyword_need begun ds fs k s
  keyword_need in_interface begun ds fs k s = interface_keyword_need begun ds fs k

  constant_need : (w : Site) (begun : Begun) (n : TypeName) (x : Step) (ds : PlainDecls) (fs : List Frame) → AtLeast (beside ds fs 0) (constant_begins file w begun n x ds fs)
  constant_need in_file begun n x ds fs = alike _
  constant_need in_class begun n x ds fs = alike _
  constant_need in_interface begun n x ds fs = tt

  variable_need : (w : Site) (begun : Begun) (n : List ℕ) (ds : PlainDecls) (fs : List Frame) → AtLeast (beside ds fs 0) (variable_begins file w begun n ds fs)
  variable_need in_file begun n ds fs = tt
  variable_need in_class begun n ds fs = alike _
  variable_need in_interface begun n ds fs = tt

  begins_need : (n : Notes) (ds : PlainDecls) (fs : List Frame) (k : Kind) (s : Spot) → AtLeast (beside ds fs 0) (begins file n ds fs k s)
  begins_need n ds fs (kind.Annotation w) s = alike _
  begins_need n ds fs (kind.Keyword k) s = keyword_need (site_of fs) (begun_at file n s) ds fs k s
  begins_need n ds fs (kind.Upper w) s = constant_need (site_of fs) (begun_at file n s) (grown no_name w) step_at.Upper ds fs
  begins_need n ds fs (kind.Mark mark.Scope) s = constant_need (site_of fs) (begun_at file n s) root step_at.Scope ds fs
  begins_need n ds fs (kind.Variable w) s = variable_need (site_of fs) (begun_at file n s) w ds fs
  begins_need n ds fs _ s = tt

  ended_need : (ds : PlainDecls) (fs : List Frame) (s : Spot) → AtLeast (beside ds fs 0) (ended_frame file ds fs s)
  ended_need ds [] s = tt
  ended_need ds (f ∷ fs) s =
      omega (arith, with_decl_need ds fs (decl.decl (place_from file f.begun s.end) f.begun.notes (body_of f.heading f.parts)), body_of_height f.heading f.parts)

  part_need : (ds : PlainDecls) (fs : List Frame) (k : Kind) (s : Spot) → AtLeast (beside ds fs 0) (part_begins file ds fs k s)
  part_need ds fs (kind.Keyword keyword.End) s = ended_need ds fs s
  part_need ds fs k s = begins_need (no_notes_at file s) ds fs k s

  then_need : (n : ℕ) (o : Option State) (k : Kind) (s : Spot) → Settled n o → AtLeast n (then_part file o k s)
  then_need n None k s h = tt
  then_need n (Some m) k s h = at_least n (beside m.decls m.frames 0) (part_begins file m.decls m.frames k s) h (part_need m.decls m.frames k s)

  -- ---- headings

  class_params_need : (begun : Begun) (n : TypeName) (ps : List PlainParam) (ds : PlainDecls) (fs : List Frame) (k : Kind) (s : Spot)
      → AtLeast (beside ds fs (params_height ps)) (after_class_params file begun n ps ds fs k s)
  class_params_need begun n ps ds fs (kind.Mark mark.Less) s = alike _
  class_params_need begun n ps ds fs k s = then_need _ (opened begun sort.Class n ps ds fs) k s (opened_need begun sort.Class n ps ds fs)

  module_params_need : (begun : Begun) (n : TypeName) (ps : List PlainParam) (ds : PlainDecls) (fs : List Frame) (k : Kind) (s : Spot)
      → AtLeast (beside ds fs (params_height ps)) (after_module_params file begun n ps ds fs k s)
  module_params_need begun n ps ds fs (kind.Mark mark.Colon) s = omega arith
  module_params_need begun n ps ds fs k s = then_need _ (opened begun sort.Module n ps ds fs) k s (opened_need begun sort.Module n ps ds fs)

  alias_params_need : (begun : Begun) (n : TypeName) (ps : List PlainParam) (ds : PlainDecls) (fs : List Frame) (k : Kind)
      → AtLeast (beside ds fs (params_height ps)) (after_alias_params file begun n ps ds fs k)
  alias_params_need begun n ps ds fs (kind.Mark mark.Equals) = omega arith
  alias_params_need begun n ps ds fs _ = tt

  constant_type_need : (begun : Begun) (n : TypeName) (ds : PlainDecls) (fs : List Frame) (k : Kind) → AtLeast (beside ds fs 0) (after_constant file begun n ds fs k)
  constant_type_need begun n ds fs (kind.Mark mark.Colon) = omega arith
  constant_type_need begun n ds fs _ = tt

  heading_need : (begun : Begun) (x : Sort) (n : TypeName) (ps : List PlainParam) (ds : PlainDecls) (fs : List Frame) (k : Kind) (s : Spot) → TakesParams x
      → AtLeast (beside ds fs (params_height ps)) (after_heading file begun x n ps ds fs k s)
  heading_need begun sort.Class n ps ds fs k s h = class_params_need begun n ps ds fs k s
  heading_need begun sort.Module n ps ds fs k s h = module_params_need begun n ps ds fs k s
  heading_need begun sort.Interface n ps ds fs k s h = then_need _ (opened begun sort.Interface n ps ds fs) k s (opened_need begun sort.Interface n ps ds fs)
  heading_need begun sort.Alias n ps ds fs k s h = alias_params_need begun n ps ds fs k
  heading_need begun sort.Constant n ps ds fs k s h = absurd h

  -- without parameters
  bare_heading_need : (begun : Begun) (x : Sort) (n : TypeName) (ds : PlainDecls) (fs : List Frame) (k : Kind) (s : Spot) → AtLeast (beside ds fs 0) (after_heading file begun x n [] ds fs k s)
  bare_heading_need begun sort.Class n ds fs k s = heading_need begun sort.Class n [] ds fs k s tt
  bare_heading_need begun sort.Module n ds fs k s = heading_need begun sort.Module n [] ds fs k s tt
  bare_heading_need begun sort.Interface n ds fs k s = heading_need begun sort.Interface n [] ds fs k s tt
  bare_heading_need begun sort.Alias n ds fs k s = heading_need begun sort.Alias n [] ds fs k s tt
  bare_heading_need begun sort.Constant n ds fs k s = constant_type_need begun n ds fs k

  params_begin_need : (begun : Begun) (x : Sort) (n : TypeName) (ds : PlainDecls) (fs : List Frame) → AtLeast (beside ds fs 0) (params_begin file begun x n ds fs)
  params_begin_need begun sort.Class n ds fs = omega arith
  params_begin_need begun sort.Module n ds fs = omega arith
  params_begin_need begun sort.Interface n ds fs = omega arith
  params_begin_need begun sort.Alias n ds fs = omega arith
  params_begin_need begun sort.Constant n ds fs = tt

  name_need : (begun : Begun) (x : Sort) (n : TypeName) (ds : PlainDecls) (fs : List Frame) (k : Kind) (s : Spot) → AtLeast (beside ds fs 0) (after_name file begun x n ds fs k s)
  name_need begun x n ds fs (kind.Mark mark.OpenSquare) s = params_begin_need begun x n ds fs
  name_need begun x n ds fs k s = bare_heading_need begun x n ds fs k s

  name_goes_need : (begun : Begun) (x : Sort) (p : Progress) (ds : PlainDecls) (fs : List Frame) (k : Kind) (s : Spot) → AtLeast (beside ds fs 0) (name_goes file begun x p ds fs k s)
  name_goes_need begun x (further naming) ds fs k s = alike _
  name_goes_need begun x (whole n) ds fs k s = alike _
  name_goes_need begun x (before n) ds fs k s = name_need begun x n ds fs k s
  name_goes_need begun x stuck ds fs k s = tt

  -- ---- superclasses and self types

  parent_name_need : (begun : Begun) (n : TypeName) (ps : List PlainParam) (m : TypeName) (ds : PlainDecls) (fs : List Frame) (k : Kind) (s : Spot)
      → AtLeast (beside ds fs (params_height ps)) (after_parent_name file begun n ps m ds fs k s)
  parent_name_need begun n ps m ds fs (kind.Mark mark.OpenSquare) s = omega arith
  parent_name_need begun n ps m ds fs k s = then_need (beside ds fs (params_height ps)) (with_parent file begun n ps (plain.name m plain.no_tys) ds fs) k s (omega arith)

  parent_goes_need : (begun : Begun) (n : TypeName) (ps : List PlainParam) (p : Progress) (ds : PlainDecls) (fs : List Frame) (k : Kind) (s : Spot)
      → AtLeast (beside ds fs (params_height ps)) (parent_goes file begun n ps p ds fs k s)
  parent_goes_need begun n ps (further naming) ds fs k s = alike _
  parent_goes_need begun n ps (before m) ds fs k s = parent_name_need begun n ps m ds fs k s
  parent_goes_need begun n ps _ ds fs k s = tt

  self_need : (begun : Begun) (n : TypeName) (ps : List PlainParam) (us : PlainTys) (ds : PlainDecls) (fs : List Frame) (k : Kind) (s : Spot)
      → AtLeast (beside ds fs (max (params_height ps) (tallest us))) (after_self file begun n ps us ds fs k s)
  self_need begun n ps us ds fs (kind.Mark mark.Comma) s = alike _
  self_need begun n ps us ds fs k s = then_need (beside ds fs (max (params_height ps) (tallest us))) (with_selves file begun n ps us ds fs) k s (omega arith)

  self_name_need : (begun : Begun) (n : TypeName) (ps : List PlainParam) (us : PlainTys) (m : TypeName) (ds : PlainDecls) (fs : List Frame) (k : Kind) (s : Spot)
      → AtLeast (beside ds fs (max (params_height ps) (tallest us))) (after_self_name file begun n ps us m ds fs k s)
  self_name_need begun n ps us m ds fs (kind.Mark mark.OpenSquare) s = omega arith
  self_name_need begun n ps us m ds fs k s =
      let vs : PlainTys = and_ty us (plain.name m plain.no_tys) in
      at_least (beside ds fs (max (params_height ps) (tallest us))) (beside ds fs (max (params_height ps) (tallest vs))) (after_self file begun n ps vs ds fs k s) (omega (arith, tallest_and us (plain.name m plain.no_tys))) (self_need begun n ps vs ds fs k s)

  self_goes_need : (begun : Begun) (n : TypeName) (ps : List PlainParam) (us : PlainTys) (p : Progress) (ds : PlainDecls) (fs : List Frame) (k : Kind) (s : Spot)
      → AtLeast (beside ds fs (max (params_height ps) (tallest us))) (self_goes file begun n ps us p ds fs k s)
  self_goes_need begun n ps us (further naming) ds fs k s = alike _
  self_goes_need begun n ps us (whole m) ds fs k s = alike _
  self_goes_need begun n ps us (before m) ds fs k s = self_name_need begun n ps us m ds fs k s
  self_goes_need begun n ps us stuck ds fs k s = tt

  -- ---- type parameters

  param_named_need : (o : Owner) (done : List PlainParam) (unchecked : Bool) (v : Variance) (ds : PlainDecls) (fs : List Frame) (k : Kind)
      → AtLeast (behind_params o done ds fs) (param_named file o done unchecked v ds fs k)
  param_named_need o done unchecked v ds fs (kind.Upper w) = if_least (is_new_param w done) _ _ (alike _)
  param_named_need o done unchecked v ds fs _ = tt

  varied_need : (o : Owner) (done : List PlainParam) (unchecked : Bool) (ds : PlainDecls) (fs : List Frame) (k : Kind) (v : Option Variance)
      → AtLeast (behind_params o done ds fs) (varied file o done unchecked ds fs k v)
  varied_need o done unchecked ds fs k (Some v) = alike _
  varied_need o done unchecked ds fs k None = param_named_need o done unchecked variance.Fixed ds fs k

  unchecked_need : (o : Owner) (done : List PlainParam) (unchecked : Bool) (ds : PlainDecls) (fs : List Frame) (k : Kind)
      → AtLeast (behind_params o done ds fs) (after_unchecked file o done unchecked ds fs k)
  unchecked_need o done unchecked ds fs k = varied_need o done unchecked ds fs k (variance_at file k)

  param_need : (o : Owner) (done : List PlainParam) (ds : PlainDecls) (fs : List Frame) (k : Kind) → AtLeast (behind_params o done ds fs) (param_begins file o done ds fs k)
  param_need o done ds fs (kind.Keyword keyword.Unchecked) = alike _
  param_need o done ds fs k = unchecked_need o done false ds fs k

  after_param_need : (o : Owner) (ps : List PlainParam) (ds : PlainDecls) (fs : List Frame) (k : Kind) → AtLeast (behind_params o ps ds fs) (after_param file o ps ds fs k)
  after_param_need o ps ds fs (kind.Mark mark.Comma) = alike _
  after_param_need o ps ds fs (kind.Mark mark.CloseSquare) = alike _
  after_param_need o ps ds fs _ = tt

  -- behind one more, with this bound
  more_params_need : (o : Owner) (done : List PlainParam) (p : Param) (t : Option PlainTy) (ds : PlainDecls) (fs : List Frame) (k : Kind)
      → AtLeast (beside ds fs (max (max (owner_height o) (params_height done)) (option_height t))) (after_param file o (and_param done p t) ds fs k)
  more_params_need o done p t ds fs k =
      at_least (beside ds fs (max (max (owner_height o) (params_height done)) (option_height t))) (behind_params o (and_param done p t) ds fs) (after_param file o (and_param done p t) ds fs k) (omega (arith, params_and done (bounded p t))) (after_param_need o (and_param done p t) ds fs k)

  plain_param_need : (o : Owner) (done : List PlainParam) (p : Param) (t : Option PlainTy) (ds : PlainDecls) (fs : List Frame) (k : Kind)
      → AtLeast (behind_params o done ds fs) (after_param file o (and_param done p t) ds fs k)
  plain_param_need o done p t ds fs k =
      at_least (behind_params o done ds fs) (beside ds fs (max (max (owner_height o) (params_height done)) (option_height t))) (after_param file o (and_param done p t) ds fs k) (omega arith) (more_params_need o done p t ds fs k)

  param_name_need : (o : Owner) (done : List PlainParam) (p : Param) (ds : PlainDecls) (fs : List Frame) (k : Kind) → AtLeast (behind_params o done ds fs) (after_param_name file o done p ds fs k)
  param_name_need o done p ds fs (kind.Mark mark.Less) = alike _
  param_name_need o done p ds fs k = plain_param_need o done p None ds fs k

  bound_name_need : (o : Owner) (done : List PlainParam) (p : Param) (m : TypeName) (ds : PlainDecls) (fs : List Frame) (k : Kind)
      → AtLeast (behind_params o done ds fs) (after_bound_name file o done p m ds fs k)
  bound_name_need o done p m ds fs (kind.Mark mark.OpenSquare) = omega arith
  bound_name_need o done p m ds fs k = plain_param_need o done p (Some (plain.name m plain.no_tys)) ds fs k

  bound_goes_need : (o : Owner) (done : List PlainParam) (p : Param) (x : Progress) (ds : PlainDecls) (fs : List Frame) (k : Kind)
      → AtLeast (behind_params o done ds fs) (bound_goes file o done p x ds fs k)
  bound_goes_need o done p (further naming) ds fs k = alike _
  bound_goes_need o done p (whole m) ds fs k = alike _
  bound_goes_need o done p (before m) ds fs k = bound_name_need o done p m ds fs k
  bound_goes_need o done p stuck ds fs k = tt

  bound_first_need : (o : Owner) (done : List PlainParam) (p : Param) (n : TypeName) (ds : PlainDecls) (fs : List Frame) (k : Kind)
      → AtLeast (behind_params o done ds fs) (bound_first file o done p n ds fs k)
  bound_first_need o done p n ds fs (kind.Keyword keyword.Singleton) = alike _
  bound_first_need o done p n ds fs k = bound_goes_need o done p (first_on of_class_or_interface n k) ds fs k

  in_bound_need : (o : Owner) (done : List PlainParam) (p : Param) (n : TypeName) (x : Step) (ds : PlainDecls) (fs : List Frame) (k : Kind) (s : Spot)
      → AtLeast (behind_params o done ds fs) (in_bound file o done p n x ds fs k s)
  in_bound_need o done p n step_at.Start ds fs k s = bound_first_need o done p n ds fs k
  in_bound_need o done p n x ds fs k s = bound_goes_need o done p (named_on of_class_or_interface n x k s) ds fs k

  bound_singleton_need : (o : Owner) (done : List PlainParam) (p : Param) (ds : PlainDecls) (fs : List Frame) (k : Kind)
      → AtLeast (behind_params o done ds fs) (after_bound_singleton file o done p ds fs k)
  bound_singleton_need o done p ds fs (kind.Mark mark.Open) = alike _
  bound_singleton_need o done p ds fs _ = tt

  class_closed_need : (o : Owner) (done : List PlainParam) (p : Param) (m : TypeName) (ds : PlainDecls) (fs : List Frame) (k : Kind)
      → AtLeast (behind_params o done ds fs) (bound_class_closed file o done p m ds fs k)
  class_closed_need o done p m ds fs (kind.Mark mark.Close) = omega (arith, params_and done (bounded p (Some (plain.single m))))
  class_closed_need o done p m ds fs _ = tt

  class_goes_need : (o : Owner) (done : List PlainParam) (p : Param) (x : Progress) (ds : PlainDecls) (fs : List Frame) (k : Kind)
      → AtLeast (behind_params o done ds fs) (bound_class_goes file o done p x ds fs k)
  class_goes_need o done p (further naming) ds fs k = alike _
  class_goes_need o done p (before m) ds fs k = class_closed_need o done p m ds fs k
  class_goes_need o done p _ ds fs k = tt

  -- ---- methods

  method_name_need : (sig : Signature) (ds : PlainDecls) (fs : List Frame) (k : Kind) → AtLeast (beside ds fs 0) (after_method_name file sig ds fs k)
  method_name_need sig ds fs (kind.Mark mark.Colon) = alike _
  method_name_need sig ds fs _ = tt

  method_ending_need : (sig : Signature) (ds : PlainDecls) (fs : List Frame) (k : Kind) (e : Option (List ℕ)) → AtLeast (beside ds fs 0) (method_ending file sig ds fs k e)
  method_ending_need sig ds fs k (Some e) = alike _
  method_ending_need sig ds fs k None = method_name_need sig ds fs k

  operator_ended_need : (begun : Begun) (v : Option Vis) (single : Bool) (o : Operator) (ds : PlainDecls) (fs : List Frame) (k : Kind) (x : Option Operator)
      → AtLeast (beside ds fs 0) (operator_ended file begun v single o ds fs k x)
  operator_ended_need begun v single o ds fs k (Some x) = alike _
  operator_ended_need begun v single o ds fs k None = if_least (is_operator o) _ _ (method_name_need (signed file begun v single (operator_text o)) ds fs k)

  operator_begins_need : (begun : Begun) (v : Option Vis) (single : Bool) (ds : PlainDecls) (fs : List Frame) (o : Option Operator) → AtLeast (beside ds fs 0) (operator_begins file begun v single ds fs o)
  operator_begins_need begun v single ds fs (Some o) = alike _
  operator_begins_need begun v single ds fs None = tt

  method_begins_need : (begun : Begun) (v : Option Vis) (single : Bool) (ds : PlainDecls) (fs : List Frame) (k : Kind) (w : Option (List ℕ))
      → AtLeast (beside ds fs 0) (method_begins file begun v single ds fs k w)
  method_begins_need begun v single ds fs k (Some w) = alike _
  method_begins_need begun v single ds fs k None = operator_begins_need begun v single ds fs (operator_at file k)

  def_need : (begun : Begun) (v : Option Vis) (ds : PlainDecls) (fs : List Frame) (k : Kind) → AtLeast (beside ds fs 0) (after_def file begun v ds fs k)
  def_need begun v ds fs (kind.Keyword keyword.SelfWord) = alike _
  def_need begun v ds fs k = method_begins_need begun v false ds fs k (method_word k)

  def_self_need : (begun : Begun) (v : Option Vis) (ds : PlainDecls) (fs : List Frame) (k : Kind) (s : Spot) → AtLeast (beside ds fs 0) (after_def_self file begun v ds fs k s)
  def_self_need begun v ds fs (kind.Mark mark.Dot) s = alike _
  def_self_need begun v ds fs k s = method_ending_need (signed file begun v false text_of_self) ds fs k (ending_at file k s)

  -- ---- inside of types

  typed_need : (p : Purpose) (ds : PlainDecls) (fs : List Frame) (i : Option TypeState) → AtLeast (beside ds fs (purpose_height p)) (typed file p ds fs i)
  typed_need p ds fs None = tt
  typed_need p ds fs (Some i) = omega arith

  function_need : (sig : Signature) (done : List PlainMethod) (ps : List PlainParam) (ds : PlainDecls) (fs : List Frame) (k : Kind) (s : Spot)
      → AtLeast (beside ds fs (max (methods_height done) (params_height ps))) (function_begins file sig done ps ds fs k s)
  function_need sig done ps ds fs k s = typed_need (purpose.Overload sig done ps) ds fs (types.next start_function (token k s))

  overload_need : (sig : Signature) (done : List PlainMethod) (ds : PlainDecls) (fs : List Frame) (k : Kind) (s : Spot)
      → AtLeast (beside ds fs (methods_height done)) (after_overload file sig done ds fs k s)
  overload_need sig done ds fs (kind.Mark mark.OpenSquare) s = omega arith
  overload_need sig done ds fs k s =
      at_least (beside ds fs (methods_height done)) (beside ds fs (max (methods_height done) 0)) (function_begins file sig done [] ds fs k s) (omega arith) (function_need sig done [] ds fs k s)

  parameterized_need : (o : Owner) (ps : List PlainParam) (ds : PlainDecls) (fs : List Frame) (k : Kind) (s : Spot) → OwnerFits (site_of fs) o
      → AtLeast (behind_params o ps ds fs) (after_parameterized file o ps ds fs k s)
  parameterized_need (owner.Heading begun x n) ps ds fs k s h =
      at_least (behind_params (owner.Heading begun x n) ps ds fs) (beside ds fs (params_height ps)) (after_heading file begun x n ps ds fs k s) (omega arith) (heading_need begun x n ps ds fs k s h)
  parameterized_need (owner.Overload sig done) ps ds fs k s h = function_need sig done ps ds fs k s

  next_overload_need : (n : ℕ) (sig : Signature) (ms : Option (List PlainMethod)) (ds : PlainDecls) (fs : List Frame) → AreHigh n ms → AtLeast (beside ds fs n) (next_overload file sig ms ds fs)
  next_overload_need n sig None ds fs h = tt
  next_overload_need n sig (Some ms) ds fs h = omega arith

  method_need : (n : ℕ) (sig : Signature) (ms : Option (List PlainMethod)) (e : ℕ) (ds : PlainDecls) (fs : List Frame) → Inside fs → AreHigh n ms → Settled (beside ds fs n) (with_method file sig ms e ds fs)
  method_need n sig None e ds fs i h = tt
  method_need n sig (Some ms) e ds fs i h = omega (arith, membered_need sig.begun e (method sig.vis sig.single sig.name ms) ds fs i)

  after_function_need : (sig : Signature) (done : List PlainMethod) (ps : List PlainParam) (t : PlainTy) (ds : PlainDecls) (fs : List Frame) (k : Kind) (s : Spot) → Inside fs
      → AtLeast (around (purpose.Overload sig done ps) (height t) ds fs) (after_function file sig done ps t ds fs k s)
  after_function_need sig done ps t ds fs (kind.Mark mark.Bar) s i = next_overload_need _ sig (and_overload done ps t) ds fs (overload_and done ps t)
  after_function_need sig done ps t ds fs k s i =
      then_need _ (with_method file sig (and_overload done ps t) s.before ds fs) k s (method_need _ sig (and_overload done ps t) s.before ds fs i (overload_and done ps t))

  whole_need : (p : Purpose) (t : PlainTy) (ds : PlainDecls) (fs : List Frame) (k : Kind) (s : Spot) → PurposeFits (site_of fs) p → AtLeast (around p (height t) ds fs) (after_whole file p t ds fs k s)
  whole_need (purpose.Overload sig done ps) t ds fs k s h = after_function_need sig done ps t ds fs k s (method_inside fs sig.vis sig.single h)
  whole_need (purpose.SelfType begun n ps us) t ds fs k s h =
      at_least (around (purpose.SelfType begun n ps us) (height t) ds fs) (beside ds fs (max (params_height ps) (tallest (and_ty us t)))) (after_self file begun n ps (and_ty us t) ds fs k s) (omega (arith, tallest_and us t)) (self_need begun n ps (and_ty us t) ds fs k s)
  whole_need (purpose.Bound o done p) t ds fs k s h = more_params_need o done p (Some t) ds fs k
  whole_need (purpose.Alias begun n ps) t ds fs k s h = then_need _ (Some (declared file begun s.before (decl.alias n ps t) ds fs)) k s (declared_need begun s.before (decl.alias n ps t) ds fs)
  whole_need (purpose.Constant begun n) t ds fs k s h =
      then_need (around (purpose.Constant begun n) (height t) ds fs) (Some (declared file begun s.before (decl.const n t) ds fs)) k s (omega (arith, declared_need begun s.before (decl.const n t) ds fs))
  whole_need (purpose.Attribute begun v a w) t ds fs k s h =
      then_need (around (purpose.Attribute begun v a w) (height t) ds fs) (Some (membered file begun s.before (attr v a w t) ds fs)) k s (omega (arith, membered_need begun s.before (attr v a w t) ds fs (class_inside fs h)))
  whole_need (purpose.Variable begun single w) t ds fs k s h =
      then_need (around (purpose.Variable begun single w) (height t) ds fs) (Some (membered file begun s.before (ivar single w t) ds fs)) k s (omega (arith, membered_need begun s.before (ivar single w t) ds fs (class_inside fs h)))
  whole_need (purpose.Parent begun n ps) t ds fs k s h = then_need (around (purpose.Parent begun n ps) (height t) ds fs) (with_parent file begun n ps t ds fs) k s (omega arith)
  whole_need (purpose.Mixin begun m) t ds fs k s h =
      then_need (around (purpose.Mixin begun m) (height t) ds fs) (Some (membered file begun s.before (mixin m t) ds fs)) k s (omega (arith, membered_need begun s.before (mixin m t) ds fs (mixin_inside fs m h)))

  type_need : (p : Purpose) (i : TypeState) (ds : PlainDecls) (fs : List Frame) (k : Kind) (s : Spot) → PurposeFits (site_of fs) p
      → AtLeast (around p (type_needs.need i) ds fs) (typed_on file p i (types.next i (token k s)) ds fs k s)
  type_need p i ds fs k s h = go (types.next i (token k s)) refl
    where
      ended : (t : Option PlainTy) → types.final i ≡ t → AtLeast (around p (type_needs.need i) ds fs) (after_final file p t ds fs k s)
      ended None e = tt
      ended (Some t) e = subst (λ n. AtLeast (around p n ds fs) (after_whole file p t ds fs k s)) (sym (type_need_final i t e)) (whole_need p t ds fs k s h)

      go : (o : Option TypeState) → types.next i (token k s) ≡ o → AtLeast (around p (type_needs.need i) ds fs) (typed_on file p i o ds fs k s)
      go None e = ended (types.final i) refl
      go (Some m) e = omega (arith, phrase_mono p (type_needs.need i) (type_needs.need m) (type_need_next i (token k s) m e))

  -- ---- other members

  attribute_named_need : (begun : Begun) (v : Option Vis) (a : AttrKind) (ds : PlainDecls) (fs : List Frame) (w : Option (List ℕ)) → AtLeast (beside ds fs 0) (attribute_named file begun v a ds fs w)
  attribute_named_need begun v a ds fs None = tt
  attribute_named_need begun v a ds fs (Some w) = alike _

  attribute_name_need : (begun : Begun) (v : Option Vis) (a : AttrKind) (w : List ℕ) (ds : PlainDecls) (fs : List Frame) (k : Kind)
      → AtLeast (beside ds fs 0) (after_attribute_name file begun v a w ds fs k)
  attribute_name_need begun v a w ds fs (kind.Mark mark.Colon) = omega arith
  attribute_name_need begun v a w ds fs _ = tt

  -- a member that holds no type that must be kept
  low_need : (begun : Begun) (e : ℕ) (m : PlainMember) (ds : PlainDecls) (fs : List Frame) (k : Kind) (s : Spot) → Inside fs → AtLeast (beside ds fs 0) (then_part file (Some (membered file begun e m ds fs)) k s)
  low_need begun e m ds fs k s h = then_need (beside ds fs 0) (Some (membered file begun e m ds fs)) k s (omega (arith, membered_need begun e m ds fs h))

  mixin_name_need : (begun : Begun) (m : MixKind) (n : TypeName) (ds : PlainDecls) (fs : List Frame) (k : Kind) (s : Spot) → TakesMixin (site_of fs) m
      → AtLeast (beside ds fs 0) (after_mixin_name file begun m n ds fs k s)
  mixin_name_need begun m n ds fs (kind.Mark mark.OpenSquare) s h = omega arith
  mixin_name_need begun m n ds fs k s h = low_need begun s.before (mixin m (plain.name n plain.no_tys)) ds fs k s (mixin_inside fs m h)

  mixin_goes_need : (begun : Begun) (m : MixKind) (p : Progress) (ds : PlainDecls) (fs : List Frame) (k : Kind) (s : Spot) → TakesMixin (site_of fs) m
      → AtLeast (beside ds fs 0) (mixin_goes file begun m p ds fs k s)
  mixin_goes_need begun m (further naming) ds fs k s h = alike _
  mixin_goes_need begun m (whole n) ds fs k s h = alike _
  mixin_goes_need begun m (before n) ds fs k s h = mixin_name_need begun m n ds fs k s h
  mixin_goes_need begun m stuck ds fs k s h = tt

  visible_attribute_need : (begun : Begun) (v : Vis) (ds : PlainDecls) (fs : List Frame) (a : Option AttrKind) → AtLeast (beside ds fs 0) (visible_attribute file begun v ds fs a)
  visible_attribute_need begun v ds fs (Some a) = alike _
  visible_attribute_need begun v ds fs None = tt

  visible_member_need : (begun : Begun) (v : Vis) (ds : PlainDecls) (fs : List Frame) (k : Kind) → AtLeast (beside ds fs 0) (visible_member file begun v ds fs k)
  visible_member_need begun v ds fs (kind.Keyword keyword.Def) = alike _
  visible_member_need begun v ds fs (kind.Keyword k) = visible_attribute_need begun v ds fs (attribute_of k)
  visible_member_need begun v ds fs _ = tt

  vis_need : (begun : Begun) (v : Vis) (e : ℕ) (ds : PlainDecls) (fs : List Frame) (k : Kind) (s : Spot) → InClass (site_of fs) → AtLeast (beside ds fs 0) (after_vis file begun v e ds fs k s)
  vis_need begun v e ds fs k s h = either_least (on_line s && takes_vis k) _ _ _ (visible_member_need begun v ds fs k) (low_need begun e (section v) ds fs k s (class_inside fs h))

  self_word_need : (begun : Begun) (ds : PlainDecls) (fs : List Frame) (k : Kind) → AtLeast (beside ds fs 0) (after_self_word file begun ds fs k)
  self_word_need begun ds fs (kind.Mark mark.Dot) = alike _
  self_word_need begun ds fs _ = tt

  self_dot_need : (begun : Begun) (ds : PlainDecls) (fs : List Frame) (k : Kind) → AtLeast (beside ds fs 0) (after_self_dot file begun ds fs k)
  self_dot_need begun ds fs (kind.Variable w) = alike _
  self_dot_need begun ds fs _ = tt

  after_variable_need : (begun : Begun) (single : Bool) (w : List ℕ) (ds : PlainDecls) (fs : List Frame) (k : Kind) → AtLeast (beside ds fs 0) (after_variable file begun single w ds fs k)
  after_variable_need begun single w ds fs (kind.Mark mark.Colon) = omega arith
  after_variable_need begun single w ds fs _ = tt

  -- ---- aliases of methods

  old_operator_need : (begun : Begun) (new : List ℕ) (ds : PlainDecls) (fs : List Frame) (o : Option Operator) → AtLeast (beside ds fs 0) (old_operator file begun new ds fs o)
  old_operator_need begun new ds fs (Some o) = alike _
  old_operator_need begun new ds fs None = tt

  old_begins_need : (begun : Begun) (new : List ℕ) (ds : PlainDecls) (fs : List Frame) (k : Kind) (w : Option (List ℕ)) → AtLeast (beside ds fs 0) (old_begins file begun new ds fs k w)
  old_begins_need begun new ds fs k (Some w) = alike _
  old_begins_need begun new ds fs k None = old_operator_need begun new ds fs (operator_at file k)

  new_name_need : (begun : Begun) (new : List ℕ) (ds : PlainDecls) (fs : List Frame) (k : Kind) → AtLeast (beside ds fs 0) (after_new file begun new ds fs k)
  new_name_need begun new ds fs k = old_begins_need begun new ds fs k (method_word k)

  new_operator_need : (begun : Begun) (ds : PlainDecls) (fs : List Frame) (o : Option Operator) → AtLeast (beside ds fs 0) (new_operator file begun ds fs o)
  new_operator_need begun ds fs (Some o) = alike _
  new_operator_need begun ds fs None = tt

  new_begins_need : (begun : Begun) (ds : PlainDecls) (fs : List Frame) (k : Kind) (w : Option (List ℕ)) → AtLeast (beside ds fs 0) (new_begins file begun ds fs k w)
  new_begins_need begun ds fs k (Some w) = alike _
  new_begins_need begun ds fs k None = new_operator_need begun ds fs (operator_at file k)

  new_marked_need : (begun : Begun) (w : List ℕ) (ds : PlainDecls) (fs : List Frame) (m : Mark) → AtLeast (beside ds fs 0) (new_marked file begun w ds fs m)
  new_marked_need begun w ds fs mark.Question = alike _
  new_marked_need begun w ds fs mark.Bang = alike _
  new_marked_need begun w ds fs mark.Equals = alike _
  new_marked_need begun w ds fs m = new_name_need begun w ds fs (kind.Mark m)

  new_marked_if_need : (b : Bool) (begun : Begun) (w : List ℕ) (ds : PlainDecls) (fs : List Frame) (m : Mark) → AtLeast (beside ds fs 0) (new_marked_if file b begun w ds fs m)
  new_marked_if_need true begun w ds fs m = new_marked_need begun w ds fs m
  new_marked_if_need false begun w ds fs m = new_name_need begun w ds fs (kind.Mark m)

  new_word_need : (begun : Begun) (w : List ℕ) (ds : PlainDecls) (fs : List Frame) (k : Kind) (s : Spot) → AtLeast (beside ds fs 0) (after_new_word file begun w ds fs k s)
  new_word_need begun w ds fs (kind.Mark m) s = new_marked_if_need (is_joined s) begun w ds fs m
  new_word_need begun w ds fs k s = new_name_need begun w ds fs k

  new_equals_need : (begun : Begun) (w : List ℕ) (ds : PlainDecls) (fs : List Frame) (k : Kind) (s : Spot) → AtLeast (beside ds fs 0) (after_new_equals file begun w ds fs k s)
  new_equals_need begun w ds fs k s = either_least (joined_equals file k s) _ _ _ (alike _) (new_name_need begun (with_equals w) ds fs k)

  new_equals_equals_need : (begun : Begun) (w : List ℕ) (ds : PlainDecls) (fs : List Frame) (k : Kind) (s : Spot) → InClass (site_of fs)
      → AtLeast (beside ds fs 0) (after_new_equals_equals file begun w ds fs k s)
  new_equals_equals_need begun w ds fs k s h = either_least (joined_equals file k s) _ _ _ (alike _) (low_need begun s.before (alias w double_equals) ds fs k s (class_inside fs h))

  new_operator_ended_need : (begun : Begun) (o : Operator) (ds : PlainDecls) (fs : List Frame) (k : Kind) (x : Option Operator) → AtLeast (beside ds fs 0) (new_operator_ended file begun o ds fs k x)
  new_operator_ended_need begun o ds fs k (Some x) = alike _
  new_operator_ended_need begun o ds fs k None = if_least (is_operator o) _ _ (new_name_need begun (operator_text o) ds fs k)

  old_word_need : (begun : Begun) (new w : List ℕ) (ds : PlainDecls) (fs : List Frame) (k : Kind) (s : Spot) (e : Option (List ℕ)) → InClass (site_of fs)
      → AtLeast (beside ds fs 0) (old_word_ended file begun new w ds fs k s e)
  old_word_need begun new w ds fs k s (Some e) h = alike _
  old_word_need begun new w ds fs k s None h = low_need begun s.before (alias new w) ds fs k s (class_inside fs h)

  unless_least : (b : Bool) (n : ℕ) (o : Option State) → AtLeast n o → AtLeast n (if b then None else o)
  unless_least true n o h = tt
  unless_least false n o h = h

  old_operator_ended_need : (begun : Begun) (new : List ℕ) (o : Operator) (ds : PlainDecls) (fs : List Frame) (k : Kind) (s : Spot) (x : Option Operator) → InClass (site_of fs)
      → AtLeast (beside ds fs 0) (old_operator_ended file begun new o ds fs k s x)
  old_operator_ended_need begun new o ds fs k s (Some x) h = alike _
  old_operator_ended_need begun new o ds fs k s None h = if_least (is_operator o) _ _ (low_need begun s.before (alias new (operator_text o)) ds fs k s (class_inside fs h))

  -- ---- all

  step_need : (f : Focus) (ds : PlainDecls) (fs : List Frame) (k : Kind) (s : Spot) → Fits (site_of fs) f → AtLeast (beside ds fs (focus_height f)) (step file f ds fs k s)
  step_need focus.Parts ds fs k s h = part_need ds fs k s
  step_need (focus.Noted begun) ds fs k s h = begins_need begun.notes ds fs k s
  step_need (focus.Visible begun v e) ds fs k s h = vis_need begun v e ds fs k s h
  step_need (focus.Name begun x naming) ds fs k s h = name_goes_need begun x (naming_on (use_of x) naming k s) ds fs k s
  step_need (focus.Named begun x n) ds fs k s h = name_need begun x n ds fs k s
  step_need (focus.Param o done) ds fs k s h = param_need o done ds fs k
  step_need (focus.Unchecked o done) ds fs k s h = unchecked_need o done true ds fs k
  step_need (focus.Varied o done unchecked v) ds fs k s h = param_named_need o done unchecked v ds fs k
  step_need (focus.ParamName o done p) ds fs k s h = param_name_need o done p ds fs k
  step_need (focus.Bound o done p naming) ds fs k s h = in_bound_need o done p naming.name naming.step ds fs k s
  step_need (focus.BoundNamed o done p m) ds fs k s h = bound_name_need o done p m ds fs k
  step_need (focus.BoundSingleton o done p) ds fs k s h = bound_singleton_need o done p ds fs k
  step_need (focus.BoundClass o done p naming) ds fs k s h = class_goes_need o done p (naming_on of_class naming k s) ds fs k
  step_need (focus.Bounded o ps) ds fs k s h = after_param_need o ps ds fs k
  step_need (focus.Parameterized o ps) ds fs k s h = parameterized_need o ps ds fs k s h
  step_need (focus.Parent begun n ps naming) ds fs k s h = parent_goes_need begun n ps (naming_on of_class naming k s) ds fs k s
  step_need (focus.SelfType begun n ps us naming) ds fs k s h = self_goes_need begun n ps us (naming_on of_class_or_interface naming k s) ds fs k s
  step_need (focus.SelfNamed begun n ps us m) ds fs k s h = self_name_need begun n ps us m ds fs k s
  step_need (focus.Def begun v) ds fs k s h = def_need begun v ds fs k
  step_need (focus.DefSelf begun v) ds fs k s h = def_self_need begun v ds fs k s
  step_need (focus.MethodStart begun v single) ds fs k s h = method_begins_need begun v single ds fs k (method_word k)
  step_need (focus.MethodWord sig) ds fs k s h = method_ending_need sig ds fs k (ending_at file k s)
  step_need (focus.MethodOperator begun v single o) ds fs k s h = operator_ended_need begun v single o ds fs k (extended_at o k s)
  step_need (focus.MethodName sig) ds fs k s h = method_name_need sig ds fs k
  step_need (focus.Overload sig done) ds fs k s h = overload_need sig done ds fs k s
  step_need (focus.Attribute begun v a) ds fs k s h = attribute_named_need begun v a ds fs (lower_of k)
  step_need (focus.AttributeName begun v a w) ds fs k s h = attribute_name_need begun v a w ds fs k
  step_need (focus.Mixin begun m naming) ds fs k s h = mixin_goes_need begun m (naming_on (mixin_use (site_of fs)) naming k s) ds fs k s h
  step_need (focus.MixinNamed begun m n) ds fs k s h = mixin_name_need begun m n ds fs k s h
  step_need (focus.Alias begun) ds fs k s h = new_begins_need begun ds fs k (method_word k)
  step_need (focus.NewWord begun w) ds fs k s h = new_word_need begun w ds fs k s
  step_need (focus.NewEquals begun w) ds fs k s h = new_equals_need begun w ds fs k s
  step_need (focus.NewEqualsEquals begun w) ds fs k s h = new_equals_equals_need begun w ds fs k s h
  step_need (focus.NewOperator begun o) ds fs k s h = new_operator_ended_need begun o ds fs k (extended_at o k s)
  step_need (focus.NewName begun new) ds fs k s h = new_name_need begun new ds fs k
  step_need (focus.OldWord begun new w capital) ds fs k s h = unless_least (capital && scope_at k s) _ _ (old_word_need begun new w ds fs k s (ending_at file k s) h)
  step_need (focus.OldOperator begun new o) ds fs k s h = old_operator_ended_need begun new o ds fs k s (extended_at o k s) h
  step_need (focus.OldName begun new old) ds fs k s h = low_need begun s.before (alias new old) ds fs k s (class_inside fs h)
  step_need (focus.SelfWord begun) ds fs k s h = self_word_need begun ds fs k
  step_need (focus.SelfDot begun) ds fs k s h = self_dot_need begun ds fs k
  step_need (focus.Variable begun single w) ds fs k s h = after_variable_need begun single w ds fs k
  step_need (focus.Typed p i) ds fs k s h = type_need p i ds fs k s h.0

  pub need_next : (s : State) (c : Token) (m : State) → Valid s → next file s c ≡ Some m → need s ≤ need m
  need_next s c m v e = subst (AtLeast (need s)) e (step_need s.focus s.decls s.frames c.kind c.spot v)

  -- ---- whole declarations have the height that their state needs

  declared_height : (begun : Begun) (e : ℕ) (b : PlainBody) (h : ℕ) (ds : PlainDecls) (fs : List Frame) → h ≡ body_height b → HasHeight (beside ds fs h) (whole_file file (Some (declared file begun e b ds fs)))
  declared_height begun e b h ds [] is = omega (arith, decls_and ds (decl.decl (place_from file begun e) begun.notes b))
  declared_height begun e b h ds (f ∷ fs) is = tt

  membered_height : (begun : Begun) (e : ℕ) (m : PlainMember) (h : ℕ) (ds : PlainDecls) (fs : List Frame) → Inside fs → HasHeight (beside ds fs h) (whole_file file (Some (membered file begun e m ds fs)))
  membered_height begun e m h ds [] i = absurd i
  membered_height begun e m h ds (f ∷ fs) i = tt

  method_height : (sig : Signature) (ms : Option (List PlainMethod)) (e h : ℕ) (ds : PlainDecls) (fs : List Frame) → Inside fs → HasHeight (beside ds fs h) (whole_file file (with_method file sig ms e ds fs))
  method_height sig None e h ds fs i = tt
  method_height sig (Some ms) e h ds fs i = membered_height sig.begun e (method sig.vis sig.single sig.name ms) h ds fs i

  settled_height : (p : Purpose) (t : PlainTy) (e : ℕ) (ds : PlainDecls) (fs : List Frame) → PurposeFits (site_of fs) p → HasHeight (around p (height t) ds fs) (whole_file file (settled_type file p t e ds fs))
  settled_height (purpose.Alias begun n ps) t e ds fs h = declared_height begun e (decl.alias n ps t) _ ds fs refl
  settled_height (purpose.Constant begun n) t e ds fs h = declared_height begun e (decl.const n t) _ ds fs (omega arith)
  settled_height (purpose.Attribute begun v a w) t e ds fs h = membered_height begun e (attr v a w t) _ ds fs (class_inside fs h)
  settled_height (purpose.Variable begun single w) t e ds fs h = membered_height begun e (ivar single w t) _ ds fs (class_inside fs h)
  settled_height (purpose.Overload sig done ps) t e ds fs h = method_height sig (and_overload done ps t) e _ ds fs (method_inside fs sig.vis sig.single h)
  settled_height (purpose.Parent begun n ps) t e ds fs h = tt
  settled_height (purpose.SelfType begun n ps us) t e ds fs h = tt
  settled_height (purpose.Mixin begun m) t e ds fs h = membered_height begun e (mixin m t) _ ds fs (mixin_inside fs m h)
  settled_height (purpose.Bound o done p) t e ds fs h = tt

  parts_end : (e : ℕ) (ds : PlainDecls) (fs : List Frame) → HasHeight (beside ds fs 0) (whole_file file (settled file focus.Parts e ds fs))
  parts_end e ds [] = omega arith
  parts_end e ds (f ∷ fs) = tt

  type_end : (p : Purpose) (i : TypeState) (e : ℕ) (ds : PlainDecls) (fs : List Frame) → PurposeFits (site_of fs) p
      → HasHeight (around p (type_needs.need i) ds fs) (whole_file file (type_ended file p (types.final i) e ds fs))
  type_end p i e ds fs h = go (types.final i) refl
    where
      go : (t : Option PlainTy) → types.final i ≡ t → HasHeight (around p (type_needs.need i) ds fs) (whole_file file (type_ended file p t e ds fs))
      go None is = tt
      go (Some t) is = subst (λ n. HasHeight (around p n ds fs) (whole_file file (settled_type file p t e ds fs))) (sym (type_need_final i t is)) (settled_height p t e ds fs h)

  end_need : (f : Focus) (e : ℕ) (ds : PlainDecls) (fs : List Frame) → Fits (site_of fs) f → HasHeight (beside ds fs (focus_height f)) (whole_file file (settled file f e ds fs))
  end_need focus.Parts e ds fs h = parts_end e ds fs
  end_need (focus.Typed p i) e ds fs h = type_end p i e ds fs h.0
  end_need _ e ds fs h = tt

  pub need_final : (e : ℕ) (s : State) (ds : PlainDecls) → Valid s → final file e s ≡ Some ds → need s ≡ decls_height ds
  need_final e s ds v is = subst (HasHeight (need s)) is (end_need s.focus e s.decls s.frames v)
