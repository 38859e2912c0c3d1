-- The states that a text can lead to.
use Rattle.std.proofs.Common.{ℕ, ◌≡◌, refl, sym, subst, Bool, true, false, if◌then◌else◌, ◌&&◌, List, [], ◌∷◌, ◌++◌, Option, Some, None}
use Rattle.rbs_terminals.specs.declared.token.Token.{Token}
use Rattle.rbs_terminals.specs.declared.token.Spot.{Spot}
use Rattle.rbs_terminals.specs.declared.token.Mark.{Mark}
use Rattle.rbs_terminals.specs.declared.token.Mark.TheVariants as mark
use Rattle.rbs_terminals.specs.declared.token.Keyword.{Keyword}
use Rattle.rbs_terminals.specs.declared.token.Keyword.TheVariants as keyword
use Rattle.rbs_terminals.specs.declared.token.Kind.{Kind}
use Rattle.rbs_terminals.specs.declared.token.Kind.TheVariants as kind
use Rattle.rbs_terminals.specs.Kinds.{lower_of}
use Rattle.sig_model.specs.declared.ty.TypeName.{TypeName}
use Rattle.sig_model.specs.declared.decl.Notes.{Notes}
use Rattle.sig_model.specs.declared.decl.Variance.{Variance}
use Rattle.sig_model.specs.declared.decl.Variance.TheVariants as variance
use Rattle.sig_model.specs.declared.decl.Vis.{Vis}
use Rattle.sig_model.specs.declared.decl.AttrKind.{AttrKind}
use Rattle.sig_model.specs.declared.decl.MixKind.{MixKind}
use Rattle.sig_model.specs.declared.decl.MixKind.TheVariants as mixing
use Rattle.sig_model.specs.PlainTy as plain
use Rattle.sig_model.specs.PlainTy.{PlainTy, PlainTys}
use Rattle.sig_model.specs.PlainMember.{PlainParam, PlainMethod}
use Rattle.sig_model.specs.PlainDecl.{PlainDecl, PlainDecls}
use Rattle.viable_prefixes.proofs.Goes.{Goes, goes_more}
use Rattle.rbs_types.specs.declared.state.State.{State as TypeState}
use Rattle.rbs_types.specs.Symbols.{token, on_line, scope_at}
use Rattle.rbs_types.specs.Plains.{and_ty}
use Rattle.rbs_types.specs.Parts.{grown, no_name, root}
use Rattle.rbs_types.specs.Grammar.{Phrase, a_type, a_function, arguments_of, of_class, of_class_or_interface}
use Rattle.rbs_types.specs.Machine as types
use Rattle.rbs_types.specs.Machine.{start_of, start_function}
use Rattle.rbs_declarations.specs.declared.operators.Operator.{Operator}
use Rattle.rbs_declarations.specs.declared.state.Begun.{Begun}
use Rattle.rbs_declarations.specs.declared.state.Step.{Step}
use Rattle.rbs_declarations.specs.declared.state.Step.TheVariants as step_at
use Rattle.rbs_declarations.specs.declared.state.Sort.{Sort}
use Rattle.rbs_declarations.specs.declared.state.Sort.TheVariants as sort
use Rattle.rbs_declarations.specs.declared.state.Frame.{Frame}
use Rattle.rbs_declarations.specs.declared.state.Signature.{Signature}
use Rattle.rbs_declarations.specs.declared.state.Owner.{Owner}
use Rattle.rbs_declarations.specs.declared.state.Owner.TheVariants as owner
use Rattle.rbs_declarations.specs.declared.state.Param.{Param}
use Rattle.rbs_declarations.specs.declared.state.Purpose.{Purpose}
use Rattle.rbs_declarations.specs.declared.state.Purpose.TheVariants as purpose
use Rattle.rbs_declarations.specs.declared.state.Focus.{Focus}
use Rattle.rbs_declarations.specs.declared.state.Focus.TheVariants as focus
use Rattle.rbs_declarations.specs.declared.state.State.{State}
use Rattle.rbs_declarations.specs.Operators.{operator_text, is_operator}
use Rattle.rbs_declarations.specs.Words.{vis_of, attribute_of, mixin_of, method_word, is_joined, extended_at, takes_vis}
use Rattle.rbs_declarations.specs.Grammar.{is_new_param}
use Rattle.rbs_declarations.specs.Machine.{start_of_file, Progress, further, whole, before, stuck, first_on, named_on, naming_on, use_of, with_decl, opened, text_of_self, double_equals, with_equals, and_overload, and_param, Site, in_file, in_class, in_interface, site_of, mixin_use, declaration_keyword, mixin_begins, attribute_begins, vis_begins, member_keyword, interface_keyword, keyword_begins, constant_begins, variable_begins, begun_at, begins, ended_frame, no_notes_at, part_begins, then_part, after_class_params, after_module_params, after_alias_params, after_constant, after_heading, params_begin, after_name, name_goes, with_parent, after_parent_name, parent_goes, with_selves, after_self, after_self_name, self_goes, param_named, varied, variance_at, after_unchecked, param_begins, after_param, after_param_name, after_bound_name, bound_goes, bound_first, in_bound, after_bound_singleton, bound_class_closed, bound_class_goes, signed, after_method_name, ending_at, method_ending, operator_ended, operator_begins, operator_at, method_begins, after_def, after_def_self, typed, function_begins, after_overload, after_parameterized, with_method, settled_type, next_overload, after_function, after_whole, after_final, typed_on, attribute_named, after_attribute_name, with_mixin, after_mixin_name, mixin_goes, with_section, visible_attribute, visible_member, after_vis, after_self_word, after_self_dot, after_variable, with_alias, old_operator, old_begins, after_new, new_operator, new_begins, new_marked, new_marked_if, after_new_word, joined_equals, after_new_equals, after_new_equals_equals, new_operator_ended, old_word_ended, old_operator_ended, step, next}

-- what stands among the parts of a class or a module alone
abbrev pub InClass : Site → Type 0
InClass in_class = Unit {0}
InClass _ = ⊥

-- a method may stand here; in an interface it has no visibility and no `self.`
abbrev pub TakesMethod : Site → Option Vis → Bool → Type 0
TakesMethod in_class v single = Unit {0}
TakesMethod in_interface None false = Unit {0}
TakesMethod _ v single = ⊥

-- in an interface only an `include`
abbrev pub TakesMixin : Site → MixKind → Type 0
TakesMixin in_class m = Unit {0}
TakesMixin in_interface mixing.Include = Unit {0}
TakesMixin _ m = ⊥

abbrev pub TakesParams : Sort → Type 0
TakesParams sort.Constant = ⊥
TakesParams _ = Unit {0}

abbrev pub OwnerFits : Site → Owner → Type 0
OwnerFits w (owner.Heading begun x n) = TakesParams x
OwnerFits w (owner.Overload sig done) = TakesMethod w sig.vis sig.single

abbrev pub PurposeFits : Site → Purpose → Type 0
PurposeFits w (purpose.Attribute begun v a n) = InClass w
PurposeFits w (purpose.Variable begun single n) = InClass w
PurposeFits w (purpose.Overload sig done ps) = TakesMethod w sig.vis sig.single
PurposeFits w (purpose.Mixin begun m) = TakesMixin w m
PurposeFits w (purpose.Bound o done p) = OwnerFits w o
PurposeFits w _ = Unit {0}

-- some tokens led the reader of types from where the phrase begins to this state
abbrev pub Led : Phrase → TypeState → Type 0
Led p i = (w : List Token) × Goes types.next (λ m c. Unit {0}) (start_of p) w i

-- the same, of the phrase that is read for the purpose
abbrev pub Leads : Purpose → TypeState → Type 0
Leads (purpose.Overload sig done ps) i = Led a_function i
Leads (purpose.Parent begun n ps) i = (m : TypeName) × Led (arguments_of m) i
Leads (purpose.SelfType begun n ps us) i = (m : TypeName) × Led (arguments_of m) i
Leads (purpose.Mixin begun k) i = (m : TypeName) × Led (arguments_of m) i
Leads (purpose.Bound o done p) i = (m : TypeName) × Led (arguments_of m) i
Leads _ i = Led a_type i

-- the focus may stand among such parts
abbrev pub Fits : Site → Focus → Type 0
Fits w (focus.Visible begun v e) = InClass w
Fits w (focus.Param o done) = OwnerFits w o
Fits w (focus.Unchecked o done) = OwnerFits w o
Fits w (focus.Varied o done unchecked v) = OwnerFits w o
Fits w (focus.ParamName o done p) = OwnerFits w o
Fits w (focus.Bound o done p naming) = OwnerFits w o
Fits w (focus.BoundNamed o done p m) = OwnerFits w o
Fits w (focus.BoundSingleton o done p) = OwnerFits w o
Fits w (focus.BoundClass o done p naming) = OwnerFits w o
Fits w (focus.Bounded o ps) = OwnerFits w o
Fits w (focus.Parameterized o ps) = OwnerFits w o
Fits w (focus.Def begun v) = InClass w
Fits w (focus.DefSelf begun v) = InClass w
Fits w (focus.MethodStart begun v single) = TakesMethod w v single
Fits w (focus.MethodWord sig) = TakesMethod w sig.vis sig.single
Fits w (focus.MethodOperator begun v single o) = TakesMethod w v single
Fits w (focus.MethodName sig) = TakesMethod w sig.vis sig.single
Fits w (focus.Overload sig done) = TakesMethod w sig.vis sig.single
Fits w (focus.Attribute begun v a) = InClass w
Fits w (focus.AttributeName begun v a n) = InClass w
Fits w (focus.Mixin begun m naming) = TakesMixin w m
Fits w (focus.MixinNamed begun m n) = TakesMixin w m
Fits w (focus.Alias begun) = InClass w
Fits w (focus.NewWord begun n) = InClass w
Fits w (focus.NewEquals begun n) = InClass w
Fits w (focus.NewEqualsEquals begun n) = InClass w
Fits w (focus.NewOperator begun o) = InClass w
Fits w (focus.NewName begun new) = InClass w
Fits w (focus.OldWord begun new n capital) = InClass w
Fits w (focus.OldOperator begun new o) = InClass w
Fits w (focus.OldName begun new old) = InClass w
Fits w (focus.SelfWord begun) = InClass w
Fits w (focus.SelfDot begun) = InClass w
Fits w (focus.Variable begun single n) = InClass w
Fits w (focus.Typed p i) = PurposeFits w p × Leads p i
Fits w _ = Unit {0}

abbrev pub Valid : State → Type 0
Valid m = Fits (site_of m.frames) m.focus

pub valid_start : Valid start_of_file
valid_start = tt

-- ---- what follows is valid, where something does

abbrev ValidAt : Option State → Type 0
ValidAt None = Unit {0}
ValidAt (Some m) = Valid m

if_valid : (b : Bool) (o : Option State) → ValidAt o → ValidAt (if b then o else None)
if_valid true o h = h
if_valid false o h = tt

either_valid : (b : Bool) (o p : Option State) → ValidAt o → ValidAt p → ValidAt (if b then o else p)
either_valid true o p h l = h
either_valid false o p h l = l

class_method : (w : Site) (v : Option Vis) (single : Bool) → InClass w → TakesMethod w v single
class_method in_class v single h = tt
class_method in_file v single h = absurd h
class_method in_interface v single h = absurd h

class_mixin : (w : Site) (m : MixKind) → InClass w → TakesMixin w m
class_mixin in_class m h = tt
class_mixin in_file m h = absurd h
class_mixin in_interface m h = absurd h

-- one more token
led_more : (p : Phrase) (i m : TypeState) (c : Token) → types.next i c ≡ Some m → Led p i → Led p m
led_more p i m c e l = (l.0 ++ c ∷ [], goes_more types.next (λ m c. Unit {0}) l.0 (start_of p) i m c l.1 e tt)

leads_more : (p : Purpose) (i m : TypeState) (c : Token) → types.next i c ≡ Some m → Leads p i → Leads p m
leads_more (purpose.Overload sig done ps) i m c e l = led_more a_function i m c e l
leads_more (purpose.Parent begun n ps) i m c e l = (l.0, led_more (arguments_of l.0) i m c e l.1)
leads_more (purpose.SelfType begun n ps us) i m c e l = (l.0, led_more (arguments_of l.0) i m c e l.1)
leads_more (purpose.Mixin begun k) i m c e l = (l.0, led_more (arguments_of l.0) i m c e l.1)
leads_more (purpose.Bound o done p) i m c e l = (l.0, led_more (arguments_of l.0) i m c e l.1)
leads_more (purpose.Alias begun n ps) i m c e l = led_more a_type i m c e l
leads_more (purpose.Constant begun n) i m c e l = led_more a_type i m c e l
leads_more (purpose.Attribute begun v a n) i m c e l = led_more a_type i m c e l
leads_more (purpose.Variable begun single n) i m c e l = led_more a_type i m c e l

declared_valid : (ds : PlainDecls) (fs : List Frame) (d : PlainDecl) → Valid (with_decl ds fs d)
declared_valid ds [] d = tt
declared_valid ds (f ∷ fs) d = tt

-- In the file of this number.
module _ (file : ℕ) where
  -- ---- where a declaration or a part begins

  declaration_valid : (begun : Begun) (ds : PlainDecls) (fs : List Frame) (k : Keyword) → ValidAt (declaration_keyword file begun ds fs k)
  declaration_valid begun ds fs keyword.Class = tt
  declaration_valid begun ds fs keyword.Module = tt
  declaration_valid begun ds fs keyword.Interface = tt
  declaration_valid begun ds fs keyword.Type = tt
  declaration_valid begun ds fs _ = tt

  mixin_begins_valid : (begun : Begun) (ds : PlainDecls) (fs : List Frame) (k : Keyword) (m : Option MixKind) → InClass (site_of fs) → ValidAt (mixin_begins file begun ds fs k m)
  mixin_begins_valid begun ds fs k (Some m) h = class_mixin (site_of fs) m h
  mixin_begins_valid begun ds fs k None h = declaration_valid begun ds fs k

  attribute_begins_valid : (begun : Begun) (ds : PlainDecls) (fs : List Frame) (k : Keyword) (a : Option AttrKind) → InClass (site_of fs) → ValidAt (attribute_begins file begun ds fs k a)
  attribute_begins_valid begun ds fs k (Some a) h = h
  attribute_begins_valid begun ds fs k None h = mixin_begins_valid begun ds fs k (mixin_of k) h

  vis_begins_valid : (begun : Begun) (ds : PlainDecls) (fs : List Frame) (k : Keyword) (s : Spot) (v : Option Vis) → InClass (site_of fs) → ValidAt (vis_begins file begun ds fs k s v)
  vis_begins_valid begun ds fs k s (Some v) h = h
  vis_begins_valid begun ds fs k s None h = attribute_begins_valid begun ds fs k (attribute_of k) h

  member_keyword_valid : (begun : Begun) (ds : PlainDecls) (fs : List Frame) (k : Keyword) (s : Spot) → InClass (site_of fs) → ValidAt (member_keyword file begun ds fs k s)
  member_keyword_valid begun ds fs keyword.Def s h = h
  member_keyword_valid begun ds fs keyword.Alias s h = h
  member_keyword_valid begun ds fs keyword.SelfWord s h = h
  member_keyword_valid begun ds fs k s h = vis_begins_valid begun ds fs k s (vis_of k) h

  interface_keyword_valid : (begun : Begun) (ds : PlainDecls) (fs : List Frame) (k : Keyword) → site_of fs ≡ in_interface → ValidAt (interface_keyword file begun ds fs k)
  interface_keyword_valid begun ds fs keyword.Def e = subst (λ w. TakesMethod w None false) (sym e) tt
  interface_keyword_valid begun ds fs keyword.Include e = subst (λ w. TakesMixin w mixing.Include) (sym e) tt
  interface_keyword_valid begun ds fs _ e = tt

  keyword_valid : (w : Site) (begun : Begun) (ds : PlainDecls) (fs : List Frame) (k : Keyword) (s : Spot) → site_of fs ≡ w → ValidAt (keyword_begins file w begun ds fs k s)
  keyword_valid in_file begun ds fs k s e = declaration_valid begun ds fs k
  keyword_valid in_class begun ds fs k s e = member_keyword_valid begun ds fs k s (subst InClass (sym e) tt)
  keyword_valid in_interface begun ds fs k s e = interface_keyword_valid begun ds fs k e

  constant_valid : (w : Site) (begun : Begun) (n : TypeName) (x : Step) (ds : PlainDecls) (fs : List Frame) → ValidAt (constant_begins file w begun n x ds fs)
  constant_valid in_file begun n x ds fs = tt
  constant_valid in_class begun n x ds fs = tt
  constant_valid in_interface begun n x ds fs = tt

  variable_valid : (w : Site) (begun : Begun) (n : List ℕ) (ds : PlainDecls) (fs : List Frame) → site_of fs ≡ w → ValidAt (variable_begins file w begun n ds fs)
  variable_valid in_file begun n ds fs e = tt
  variable_valid in_class begun n ds fs e = subst InClass (sym e) tt
  variable_valid in_interface begun n ds fs e = tt

  begins_valid : (n : Notes) (ds : PlainDecls) (fs : List Frame) (k : Kind) (s : Spot) → ValidAt (begins file n ds fs k s)
  begins_valid n ds fs (kind.Annotation w) s = tt
  begins_valid n ds fs (kind.Keyword k) s = keyword_valid (site_of fs) (begun_at file n s) ds fs k s refl
  begins_valid n ds fs (kind.Upper w) s = constant_valid (site_of fs) (begun_at file n s) (grown no_name w) step_at.Upper ds fs
  begins_valid n ds fs (kind.Mark mark.Scope) s = constant_valid (site_of fs) (begun_at file n s) root step_at.Scope ds fs
  begins_valid n ds fs (kind.Variable w) s = variable_valid (site_of fs) (begun_at file n s) w ds fs refl
  begins_valid n ds fs _ s = tt

  ended_valid : (ds : PlainDecls) (fs : List Frame) (s : Spot) → ValidAt (ended_frame file ds fs s)
  ended_valid ds [] s = tt
  ended_valid ds (f ∷ fs) s = declared_valid ds fs _

  part_valid : (ds : PlainDecls) (fs : List Frame) (k : Kind) (s : Spot) → ValidAt (part_begins file ds fs k s)
  part_valid ds fs (kind.Keyword keyword.End) s = ended_valid ds fs s
  part_valid ds fs k s = begins_valid (no_notes_at file s) ds fs k s

  then_valid : (o : Option State) (k : Kind) (s : Spot) → ValidAt (then_part file o k s)
  then_valid None k s = tt
  then_valid (Some m) k s = part_valid m.decls m.frames k s

  -- ---- headings

  class_params_valid : (begun : Begun) (n : TypeName) (ps : List PlainParam) (ds : PlainDecls) (fs : List Frame) (k : Kind) (s : Spot) → ValidAt (after_class_params file begun n ps ds fs k s)
  class_params_valid begun n ps ds fs (kind.Mark mark.Less) s = tt
  class_params_valid begun n ps ds fs k s = then_valid (opened begun sort.Class n ps ds fs) k s

  module_params_valid : (begun : Begun) (n : TypeName) (ps : List PlainParam) (ds : PlainDecls) (fs : List Frame) (k : Kind) (s : Spot) → ValidAt (after_module_params file begun n ps ds fs k s)
  module_params_valid begun n ps ds fs (kind.Mark mark.Colon) s = tt
  module_params_valid begun n ps ds fs k s = then_valid (opened begun sort.Module n ps ds fs) k s

  alias_params_valid : (begun : Begun) (n : TypeName) (ps : List PlainParam) (ds : PlainDecls) (fs : List Frame) (k : Kind) → ValidAt (after_alias_params file begun n ps ds fs k)
  alias_params_valid begun n ps ds fs (kind.Mark mark.Equals) = (tt, ([], refl))
  alias_params_valid begun n ps ds fs _ = tt

  constant_type_valid : (begun : Begun) (n : TypeName) (ds : PlainDecls) (fs : List Frame) (k : Kind) → ValidAt (after_constant file begun n ds fs k)
  constant_type_valid begun n ds fs (kind.Mark mark.Colon) = (tt, ([], refl))
  constant_type_valid begun n ds fs _ = tt

  heading_valid : (begun : Begun) (x : Sort) (n : TypeName) (ps : List PlainParam) (ds : PlainDecls) (fs : List Frame) (k : Kind) (s : Spot) → ValidAt (after_heading file begun x n ps ds fs k s)
  heading_valid begun sort.Class n ps ds fs k s = class_params_valid begun n ps ds fs k s
  heading_valid begun sort.Module n ps ds fs k s = module_params_valid begun n ps ds fs k s
  heading_valid begun sort.Interface n ps ds fs k s = then_valid (opened begun sort.Interface n ps ds fs) k s
  heading_valid begun sort.Alias n ps ds fs k s = alias_params_valid begun n ps ds fs k
  heading_valid begun sort.Constant n ps ds fs k s = constant_type_valid begun n ds fs k

  params_begin_valid : (begun : Begun) (x : Sort) (n : TypeName) (ds : PlainDecls) (fs : List Frame) → ValidAt (params_begin file begun x n ds fs)
  params_begin_valid begun sort.Class n ds fs = tt
  params_begin_valid begun sort.Module n ds fs = tt
  params_begin_valid begun sort.Interface n ds fs = tt
  params_begin_valid begun sort.Alias n ds fs = tt
  params_begin_valid begun sort.Constant n ds fs = tt

  name_valid : (begun : Begun) (x : Sort) (n : TypeName) (ds : PlainDecls) (fs : List Frame) (k : Kind) (s : Spot) → ValidAt (after_name file begun x n ds fs k s)
  name_valid begun x n ds fs (kind.Mark mark.OpenSquare) s = params_begin_valid begun x n ds fs
  name_valid begun x n ds fs k s = heading_valid begun x n [] ds fs k s

  name_goes_valid : (begun : Begun) (x : Sort) (p : Progress) (ds : PlainDecls) (fs : List Frame) (k : Kind) (s : Spot) → ValidAt (name_goes file begun x p ds fs k s)
  name_goes_valid begun x (further naming) ds fs k s = tt
  name_goes_valid begun x (whole n) ds fs k s = tt
  name_goes_valid begun x (before n) ds fs k s = name_valid begun x n ds fs k s
  name_goes_valid begun x stuck ds fs k s = tt

  -- ---- superclasses and self types

  parent_name_valid : (begun : Begun) (n : TypeName) (ps : List PlainParam) (m : TypeName) (ds : PlainDecls) (fs : List Frame) (k : Kind) (s : Spot) → ValidAt (after_parent_name file begun n ps m ds fs k s)
  parent_name_valid begun n ps m ds fs (kind.Mark mark.OpenSquare) s = (tt, (m, ([], refl)))
  parent_name_valid begun n ps m ds fs k s = then_valid (with_parent file begun n ps (plain.name m plain.no_tys) ds fs) k s

  parent_goes_valid : (begun : Begun) (n : TypeName) (ps : List PlainParam) (p : Progress) (ds : PlainDecls) (fs : List Frame) (k : Kind) (s : Spot) → ValidAt (parent_goes file begun n ps p ds fs k s)
  parent_goes_valid begun n ps (further naming) ds fs k s = tt
  parent_goes_valid begun n ps (before m) ds fs k s = parent_name_valid begun n ps m ds fs k s
  parent_goes_valid begun n ps _ ds fs k s = tt

  self_valid : (begun : Begun) (n : TypeName) (ps : List PlainParam) (us : PlainTys) (ds : PlainDecls) (fs : List Frame) (k : Kind) (s : Spot) → ValidAt (after_self file begun n ps us ds fs k s)
  self_valid begun n ps us ds fs (kind.Mark mark.Comma) s = tt
  self_valid begun n ps us ds fs k s = then_valid (with_selves file begun n ps us ds fs) k s

  self_name_valid : (begun : Begun) (n : TypeName) (ps : List PlainParam) (us : PlainTys) (m : TypeName) (ds : PlainDecls) (fs : List Frame) (k : Kind) (s : Spot)
      → ValidAt (after_self_name file begun n ps us m ds fs k s)
  self_name_valid begun n ps us m ds fs (kind.Mark mark.OpenSquare) s = (tt, (m, ([], refl)))
  self_name_valid begun n ps us m ds fs k s = self_valid begun n ps (and_ty us (plain.name m plain.no_tys)) ds fs k s

  self_goes_valid : (begun : Begun) (n : TypeName) (ps : List PlainParam) (us : PlainTys) (p : Progress) (ds : PlainDecls) (fs : List Frame) (k : Kind) (s : Spot)
      → ValidAt (self_goes file begun n ps us p ds fs k s)
  self_goes_valid begun n ps us (further naming) ds fs k s = tt
  self_goes_valid begun n ps us (whole m) ds fs k s = tt
  self_goes_valid begun n ps us (before m) ds fs k s = self_name_valid begun n ps us m ds fs k s
  self_goes_valid begun n ps us stuck ds fs k s = tt

  -- ---- type parameters

  param_named_valid : (o : Owner) (done : List PlainParam) (unchecked : Bool) (v : Variance) (ds : PlainDecls) (fs : List Frame) (k : Kind) → OwnerFits (site_of fs) o
      → ValidAt (param_named file o done unchecked v ds fs k)
  param_named_valid o done unchecked v ds fs (kind.Upper w) h = if_valid (is_new_param w done) _ h
  param_named_valid o done unchecked v ds fs _ h = tt

  varied_valid : (o : Owner) (done : List PlainParam) (unchecked : Bool) (ds : PlainDecls) (fs : List Frame) (k : Kind) (v : Option Variance) → OwnerFits (site_of fs) o
      → ValidAt (varied file o done unchecked ds fs k v)
  varied_valid o done unchecked ds fs k (Some v) h = h
  varied_valid o done unchecked ds fs k None h = param_named_valid o done unchecked variance.Fixed ds fs k h

  unchecked_valid : (o : Owner) (done : List PlainParam) (unchecked : Bool) (ds : PlainDecls) (fs : List Frame) (k : Kind) → OwnerFits (site_of fs) o
      → ValidAt (after_unchecked file o done unchecked ds fs k)
  unchecked_valid o done unchecked ds fs k h = varied_valid o done unchecked ds fs k (variance_at file k) h

  param_valid : (o : Owner) (done : List PlainParam) (ds : PlainDecls) (fs : List Frame) (k : Kind) → OwnerFits (site_of fs) o → ValidAt (param_begins file o done ds fs k)
  param_valid o done ds fs (kind.Keyword keyword.Unchecked) h = h
  param_valid o done ds fs k h = unchecked_valid o done false ds fs k h

  after_param_valid : (o : Owner) (ps : List PlainParam) (ds : PlainDecls) (fs : List Frame) (k : Kind) → OwnerFits (site_of fs) o → ValidAt (after_param file o ps ds fs k)
  after_param_valid o ps ds fs (kind.Mark mark.Comma) h = h
  after_param_valid o ps ds fs (kind.Mark mark.CloseSquare) h = h
  after_param_valid o ps ds fs _ h = tt

  param_name_valid : (o : Owner) (done : List PlainParam) (p : Param) (ds : PlainDecls) (fs : List Frame) (k : Kind) → OwnerFits (site_of fs) o → ValidAt (after_param_name file o done p ds fs k)
  param_name_valid o done p ds fs (kind.Mark mark.Less) h = h
  param_name_valid o done p ds fs k h = after_param_valid o (and_param done p None) ds fs k h

  bound_name_valid : (o : Owner) (done : List PlainParam) (p : Param) (m : TypeName) (ds : PlainDecls) (fs : List Frame) (k : Kind) → OwnerFits (site_of fs) o
      → ValidAt (after_bound_name file o done p m ds fs k)
  bound_name_valid o done p m ds fs (kind.Mark mark.OpenSquare) h = (h, (m, ([], refl)))
  bound_name_valid o done p m ds fs k h = after_param_valid o (and_param done p (Some (plain.name m plain.no_tys))) ds fs k h

  bound_goes_valid : (o : Owner) (done : List PlainParam) (p : Param) (x : Progress) (ds : PlainDecls) (fs : List Frame) (k : Kind) → OwnerFits (site_of fs) o
      → ValidAt (bound_goes file o done p x ds fs k)
  bound_goes_valid o done p (further naming) ds fs k h = h
  bound_goes_valid o done p (whole m) ds fs k h = h
  bound_goes_valid o done p (before m) ds fs k h = bound_name_valid o done p m ds fs k h
  bound_goes_valid o done p stuck ds fs k h = tt

  bound_first_valid : (o : Owner) (done : List PlainParam) (p : Param) (n : TypeName) (ds : PlainDecls) (fs : List Frame) (k : Kind) → OwnerFits (site_of fs) o
      → ValidAt (bound_first file o done p n ds fs k)
  bound_first_valid o done p n ds fs (kind.Keyword keyword.Singleton) h = h
  bound_first_valid o done p n ds fs k h = bound_goes_valid o done p (first_on of_class_or_interface n k) ds fs k h

  in_bound_valid : (o : Owner) (done : List PlainParam) (p : Param) (n : TypeName) (x : Step) (ds : PlainDecls) (fs : List Frame) (k : Kind) (s : Spot) → OwnerFits (site_of fs) o
      → ValidAt (in_bound file o done p n x ds fs k s)
  in_bound_valid o done p n step_at.Start ds fs k s h = bound_first_valid o done p n ds fs k h
  in_bound_valid o done p n x ds fs k s h = bound_goes_valid o done p (named_on of_class_or_interface n x k s) ds fs k h

  bound_singleton_valid : (o : Owner) (done : List PlainParam) (p : Param) (ds : PlainDecls) (fs : List Frame) (k : Kind) → OwnerFits (site_of fs) o
      → ValidAt (after_bound_singleton file o done p ds fs k)
  bound_singleton_valid o done p ds fs (kind.Mark mark.Open) h = h
  bound_singleton_valid o done p ds fs _ h = tt

  class_closed_valid : (o : Owner) (done : List PlainParam) (p : Param) (m : TypeName) (ds : PlainDecls) (fs : List Frame) (k : Kind) → OwnerFits (site_of fs) o
      → ValidAt (bound_class_closed file o done p m ds fs k)
  class_closed_valid o done p m ds fs (kind.Mark mark.Close) h = h
  class_closed_valid o done p m ds fs _ h = tt

  class_goes_valid : (o : Owner) (done : List PlainParam) (p : Param) (x : Progress) (ds : PlainDecls) (fs : List Frame) (k : Kind) → OwnerFits (site_of fs) o
      → ValidAt (bound_class_goes file o done p x ds fs k)
  class_goes_valid o done p (further naming) ds fs k h = h
  class_goes_valid o done p (before m) ds fs k h = class_closed_valid o done p m ds fs k h
  class_goes_valid o done p _ ds fs k h = tt

  -- ---- methods

  method_name_valid : (sig : Signature) (ds : PlainDecls) (fs : List Frame) (k : Kind) → TakesMethod (site_of fs) sig.vis sig.single → ValidAt (after_method_name file sig ds fs k)
  method_name_valid sig ds fs (kind.Mark mark.Colon) h = h
  method_name_valid sig ds fs _ h = tt

  method_ending_valid : (sig : Signature) (ds : PlainDecls) (fs : List Frame) (k : Kind) (e : Option (List ℕ)) → TakesMethod (site_of fs) sig.vis sig.single
      → ValidAt (method_ending file sig ds fs k e)
  method_ending_valid sig ds fs k (Some e) h = h
  method_ending_valid sig ds fs k None h = method_name_valid sig ds fs k h

  operator_ended_valid : (begun : Begun) (v : Option Vis) (single : Bool) (o : Operator) (ds : PlainDecls) (fs : List Frame) (k : Kind) (x : Option Operator) → TakesMethod (site_of fs) v single
      → ValidAt (operator_ended file begun v single o ds fs k x)
  operator_ended_valid begun v single o ds fs k (Some x) h = h
  operator_ended_valid begun v single o ds fs k None h = if_valid (is_operator o) _ (method_name_valid (signed file begun v single (operator_text o)) ds fs k h)

  operator_begins_valid : (begun : Begun) (v : Option Vis) (single : Bool) (ds : PlainDecls) (fs : List Frame) (o : Option Operator) → TakesMethod (site_of fs) v single
      → ValidAt (operator_begins file begun v single ds fs o)
  operator_begins_valid begun v single ds fs (Some o) h = h
  operator_begins_valid begun v single ds fs None h = tt

  method_begins_valid : (begun : Begun) (v : Option Vis) (single : Bool) (ds : PlainDecls) (fs : List Frame) (k : Kind) (w : Option (List ℕ)) → TakesMethod (site_of fs) v single
      → ValidAt (method_begins file begun v single ds fs k w)
  method_begins_valid begun v single ds fs k (Some w) h = h
  method_begins_valid begun v single ds fs k None h = operator_begins_valid begun v single ds fs (operator_at file k) h

  def_valid : (begun : Begun) (v : Option Vis) (ds : PlainDecls) (fs : List Frame) (k : Kind) → InClass (site_of fs) → ValidAt (after_def file begun v ds fs k)
  def_valid begun v ds fs (kind.Keyword keyword.SelfWord) h = h
  def_valid begun v ds fs k h = method_begins_valid begun v false ds fs k (method_word k) (class_method (site_of fs) v false h)

  def_self_valid : (begun : Begun) (v : Option Vis) (ds : PlainDecls) (fs : List Frame) (k : Kind) (s : Spot) → InClass (site_of fs) → ValidAt (after_def_self file begun v ds fs k s)
  def_self_valid begun v ds fs (kind.Mark mark.Dot) s h = class_method (site_of fs) v true h
  def_self_valid begun v ds fs k s h = method_ending_valid (signed file begun v false text_of_self) ds fs k (ending_at file k s) (class_method (site_of fs) v false h)

  -- ---- inside of types

  function_valid : (sig : Signature) (done : List PlainMethod) (ps : List PlainParam) (ds : PlainDecls) (fs : List Frame) (k : Kind) (s : Spot) → TakesMethod (site_of fs) sig.vis sig.single
      → ValidAt (function_begins file sig done ps ds fs k s)
  function_valid sig done ps ds fs k s h = go (types.next start_function (token k s)) refl
    where
      go : (o : Option TypeState) → types.next start_function (token k s) ≡ o → ValidAt (typed file (purpose.Overload sig done ps) ds fs o)
      go None e = tt
      go (Some i) e = (h, (token k s ∷ [], (i, e, tt, refl)))

  overload_valid : (sig : Signature) (done : List PlainMethod) (ds : PlainDecls) (fs : List Frame) (k : Kind) (s : Spot) → TakesMethod (site_of fs) sig.vis sig.single
      → ValidAt (after_overload file sig done ds fs k s)
  overload_valid sig done ds fs (kind.Mark mark.OpenSquare) s h = h
  overload_valid sig done ds fs k s h = function_valid sig done [] ds fs k s h

  parameterized_valid : (o : Owner) (ps : List PlainParam) (ds : PlainDecls) (fs : List Frame) (k : Kind) (s : Spot) → OwnerFits (site_of fs) o → ValidAt (after_parameterized file o ps ds fs k s)
  parameterized_valid (owner.Heading begun x n) ps ds fs k s h = heading_valid begun x n ps ds fs k s
  parameterized_valid (owner.Overload sig done) ps ds fs k s h = function_valid sig done ps ds fs k s h

  next_overload_valid : (sig : Signature) (ms : Option (List PlainMethod)) (ds : PlainDecls) (fs : List Frame) → TakesMethod (site_of fs) sig.vis sig.single → ValidAt (next_overload file sig ms ds fs)
  next_overload_valid sig None ds fs h = tt
  next_overload_valid sig (Some ms) ds fs h = h

  after_function_valid : (sig : Signature) (done : List PlainMethod) (ps : List PlainParam) (t : PlainTy) (ds : PlainDecls) (fs : List Frame) (k : Kind) (s : Spot)
      → TakesMethod (site_of fs) sig.vis sig.single → ValidAt (after_function file sig done ps t ds fs k s)
  after_function_valid sig done ps t ds fs (kind.Mark mark.Bar) s h = next_overload_valid sig (and_overload done ps t) ds fs h
  after_function_valid sig done ps t ds fs k s h = then_valid (with_method file sig (and_overload done ps t) s.before ds fs) k s

  whole_valid : (p : Purpose) (t : PlainTy) (ds : PlainDecls) (fs : List Frame) (k : Kind) (s : Spot) → PurposeFits (site_of fs) p → ValidAt (after_whole file p t ds fs k s)
  whole_valid (purpose.Overload sig done ps) t ds fs k s h = after_function_valid sig done ps t ds fs k s h
  whole_valid (purpose.SelfType begun n ps us) t ds fs k s h = self_valid begun n ps (and_ty us t) ds fs k s
  whole_valid (purpose.Bound o done p) t ds fs k s h = after_param_valid o (and_param done p (Some t)) ds fs k h
  whole_valid p t ds fs k s h = then_valid (settled_type file p t s.before ds fs) k s

  final_valid : (p : Purpose) (t : Option PlainTy) (ds : PlainDecls) (fs : List Frame) (k : Kind) (s : Spot) → PurposeFits (site_of fs) p → ValidAt (after_final file p t ds fs k s)
  final_valid p None ds fs k s h = tt
  final_valid p (Some t) ds fs k s h = whole_valid p t ds fs k s h

  typed_valid : (p : Purpose) (i : TypeState) (ds : PlainDecls) (fs : List Frame) (k : Kind) (s : Spot) → PurposeFits (site_of fs) p → Leads p i
      → ValidAt (typed_on file p i (types.next i (token k s)) ds fs k s)
  typed_valid p i ds fs k s h l = go (types.next i (token k s)) refl
    where
      go : (o : Option TypeState) → types.next i (token k s) ≡ o → ValidAt (typed_on file p i o ds fs k s)
      go None e = final_valid p (types.final i) ds fs k s h
      go (Some m) e = (h, leads_more p i m (token k s) e l)

  -- ---- other members

  attribute_named_valid : (begun : Begun) (v : Option Vis) (a : AttrKind) (ds : PlainDecls) (fs : List Frame) (w : Option (List ℕ)) → InClass (site_of fs)
      → ValidAt (attribute_named file begun v a ds fs w)
  attribute_named_valid begun v a ds fs None h = tt
  attribute_named_valid begun v a ds fs (Some w) h = h

  attribute_name_valid : (begun : Begun) (v : Option Vis) (a : AttrKind) (w : List ℕ) (ds : PlainDecls) (fs : List Frame) (k : Kind) → InClass (site_of fs)
      → ValidAt (after_attribute_name file begun v a w ds fs k)
  attribute_name_valid begun v a w ds fs (kind.Mark mark.Colon) h = (h, ([], refl))
  attribute_name_valid begun v a w ds fs _ h = tt

  mixin_name_valid : (begun : Begun) (m : MixKind) (n : TypeName) (ds : PlainDecls) (fs : List Frame) (k : Kind) (s : Spot) → TakesMixin (site_of fs) m
      → ValidAt (after_mixin_name file begun m n ds fs k s)
  mixin_name_valid begun m n ds fs (kind.Mark mark.OpenSquare) s h = (h, (n, ([], refl)))
  mixin_name_valid begun m n ds fs k s h = then_valid (Some (with_mixin file begun m n s.before ds fs)) k s

  mixin_goes_valid : (begun : Begun) (m : MixKind) (p : Progress) (ds : PlainDecls) (fs : List Frame) (k : Kind) (s : Spot) → TakesMixin (site_of fs) m
      → ValidAt (mixin_goes file begun m p ds fs k s)
  mixin_goes_valid begun m (further naming) ds fs k s h = h
  mixin_goes_valid begun m (whole n) ds fs k s h = h
  mixin_goes_valid begun m (before n) ds fs k s h = mixin_name_valid begun m n ds fs k s h
  mixin_goes_valid begun m stuck ds fs k s h = tt

  visible_attribute_valid : (begun : Begun) (v : Vis) (ds : PlainDecls) (fs : List Frame) (a : Option AttrKind) → InClass (site_of fs) → ValidAt (visible_attribute file begun v ds fs a)
  visible_attribute_valid begun v ds fs (Some a) h = h
  visible_attribute_valid begun v ds fs None h = tt

  visible_member_valid : (begun : Begun) (v : Vis) (ds : PlainDecls) (fs : List Frame) (k : Kind) → InClass (site_of fs) → ValidAt (visible_member file begun v ds fs k)
  visible_member_valid begun v ds fs (kind.Keyword keyword.Def) h = h
  visible_member_valid begun v ds fs (kind.Keyword k) h = visible_attribute_valid begun v ds fs (attribute_of k) h
  visible_member_valid begun v ds fs _ h = tt

  vis_valid : (begun : Begun) (v : Vis) (e : ℕ) (ds : PlainDecls) (fs : List Frame) (k : Kind) (s : Spot) → InClass (site_of fs) → ValidAt (after_vis file begun v e ds fs k s)
  vis_valid begun v e ds fs k s h = either_valid (on_line s && takes_vis k) _ _ (visible_member_valid begun v ds fs k h) (then_valid (Some (with_section file begun v e ds fs)) k s)

  self_word_valid : (begun : Begun) (ds : PlainDecls) (fs : List Frame) (k : Kind) → InClass (site_of fs) → ValidAt (after_self_word file begun ds fs k)
  self_word_valid begun ds fs (kind.Mark mark.Dot) h = h
  self_word_valid begun ds fs _ h = tt

  self_dot_valid : (begun : Begun) (ds : PlainDecls) (fs : List Frame) (k : Kind) → InClass (site_of fs) → ValidAt (after_self_dot file begun ds fs k)
  self_dot_valid begun ds fs (kind.Variable w) h = h
  self_dot_valid begun ds fs _ h = tt

  after_variable_valid : (begun : Begun) (single : Bool) (w : List ℕ) (ds : PlainDecls) (fs : List Frame) (k : Kind) → InClass (site_of fs) → ValidAt (after_variable file begun single w ds fs k)
  after_variable_valid begun single w ds fs (kind.Mark mark.Colon) h = (h, ([], refl))
  after_variable_valid begun single w ds fs _ h = tt

  -- ---- aliases of methods

  old_operator_valid : (begun : Begun) (new : List ℕ) (ds : PlainDecls) (fs : List Frame) (o : Option Operator) → InClass (site_of fs) → ValidAt (old_operator file begun new ds fs o)
  old_operator_valid begun new ds fs (Some o) h = h
  old_operator_valid begun new ds fs None h = tt

  old_begins_valid : (begun : Begun) (new : List ℕ) (ds : PlainDecls) (fs : List Frame) (k : Kind) (w : Option (List ℕ)) → InClass (site_of fs) → ValidAt (old_begins file begun new ds fs k w)
  old_begins_valid begun new ds fs k (Some w) h = h
  old_begins_valid begun new ds fs k None h = old_operator_valid begun new ds fs (operator_at file k) h

  new_name_valid : (begun : Begun) (new : List ℕ) (ds : PlainDecls) (fs : List Frame) (k : Kind) → InClass (site_of fs) → ValidAt (after_new file begun new ds fs k)
  new_name_valid begun new ds fs k h = old_begins_valid begun new ds fs k (method_word k) h

  new_operator_valid : (begun : Begun) (ds : PlainDecls) (fs : List Frame) (o : Option Operator) → InClass (site_of fs) → ValidAt (new_operator file begun ds fs o)
  new_operator_valid begun ds fs (Some o) h = h
  new_operator_valid begun ds fs None h = tt

  new_begins_valid : (begun : Begun) (ds : PlainDecls) (fs : List Frame) (k : Kind) (w : Option (List ℕ)) → InClass (site_of fs) → ValidAt (new_begins file begun ds fs k w)
  new_begins_valid begun ds fs k (Some w) h = h
  new_begins_valid begun ds fs k None h = new_operator_valid begun ds fs (operator_at file k) h

  new_marked_valid : (begun : Begun) (w : List ℕ) (ds : PlainDecls) (fs : List Frame) (m : Mark) → InClass (site_of fs) → ValidAt (new_marked file begun w ds fs m)
  new_marked_valid begun w ds fs mark.Question h = h
  new_marked_valid begun w ds fs mark.Bang h = h
  new_marked_valid begun w ds fs mark.Equals h = h
  new_marked_valid begun w ds fs m h = new_name_valid begun w ds fs (kind.Mark m) h

  new_marked_if_valid : (b : Bool) (begun : Begun) (w : List ℕ) (ds : PlainDecls) (fs : List Frame) (m : Mark) → InClass (site_of fs) → ValidAt (new_marked_if file b begun w ds fs m)
  new_marked_if_valid true begun w ds fs m h = new_marked_valid begun w ds fs m h
  new_marked_if_valid false begun w ds fs m h = new_name_valid begun w ds fs (kind.Mark m) h

  new_word_valid : (begun : Begun) (w : List ℕ) (ds : PlainDecls) (fs : List Frame) (k : Kind) (s : Spot) → InClass (site_of fs) → ValidAt (after_new_word file begun w ds fs k s)
  new_word_valid begun w ds fs (kind.Mark m) s h = new_marked_if_valid (is_joined s) begun w ds fs m h
  new_word_valid begun w ds fs k s h = new_name_valid begun w ds fs k h

  new_equals_valid : (begun : Begun) (w : List ℕ) (ds : PlainDecls) (fs : List Frame) (k : Kind) (s : Spot) → InClass (site_of fs) → ValidAt (after_new_equals file begun w ds fs k s)
  new_equals_valid begun w ds fs k s h = either_valid (joined_equals file k s) _ _ h (new_name_valid begun (with_equals w) ds fs k h)

  new_equals_equals_valid : (begun : Begun) (w : List ℕ) (ds : PlainDecls) (fs : List Frame) (k : Kind) (s : Spot) → InClass (site_of fs)
      → ValidAt (after_new_equals_equals file begun w ds fs k s)
  new_equals_equals_valid begun w ds fs k s h = either_valid (joined_equals file k s) _ _ h (then_valid (Some (with_alias file begun w double_equals s.before ds fs)) k s)

  new_operator_ended_valid : (begun : Begun) (o : Operator) (ds : PlainDecls) (fs : List Frame) (k : Kind) (x : Option Operator) → InClass (site_of fs)
      → ValidAt (new_operator_ended file begun o ds fs k x)
  new_operator_ended_valid begun o ds fs k (Some x) h = h
  new_operator_ended_valid begun o ds fs k None h = if_valid (is_operator o) _ (new_name_valid begun (operator_text o) ds fs k h)

  old_word_valid : (begun : Begun) (new w : List ℕ) (ds : PlainDecls) (fs : List Frame) (k : Kind) (s : Spot) (e : Option (List ℕ)) → InClass (site_of fs)
      → ValidAt (old_word_ended file begun new w ds fs k s e)
  old_word_valid begun new w ds fs k s (Some e) h = h
  old_word_valid begun new w ds fs k s None h = then_valid (Some (with_alias file begun new w s.before ds fs)) k s

  unless_valid : (b : Bool) (o : Option State) → ValidAt o → ValidAt (if b then None else o)
  unless_valid true o h = tt
  unless_valid false o h = h

  old_operator_ended_valid : (begun : Begun) (new : List ℕ) (o : Operator) (ds : PlainDecls) (fs : List Frame) (k : Kind) (s : Spot) (x : Option Operator) → InClass (site_of fs)
      → ValidAt (old_operator_ended file begun new o ds fs k s x)
  old_operator_ended_valid begun new o ds fs k s (Some x) h = h
  old_operator_ended_valid begun new o ds fs k s None h = if_valid (is_operator o) _ (then_valid (Some (with_alias file begun new (operator_text o) s.before ds fs)) k s)

  -- ---- all

  step_valid : (f : Focus) (ds : PlainDecls) (fs : List Frame) (k : Kind) (s : Spot) → Fits (site_of fs) f → ValidAt (step file f ds fs k s)
  step_valid focus.Parts ds fs k s h = part_valid ds fs k s
  step_valid (focus.Noted begun) ds fs k s h = begins_valid begun.notes ds fs k s
  step_valid (focus.Visible begun v e) ds fs k s h = vis_valid begun v e ds fs k s h
  step_valid (focus.Name begun x naming) ds fs k s h = name_goes_valid begun x (naming_on (use_of x) naming k s) ds fs k s
  step_valid (focus.Named begun x n) ds fs k s h = name_valid begun x n ds fs k s
  step_valid (focus.Param o done) ds fs k s h = param_valid o done ds fs k h
  step_valid (focus.Unchecked o done) ds fs k s h = unchecked_valid o done true ds fs k h
  step_valid (focus.Varied o done unchecked v) ds fs k s h = param_named_valid o done unchecked v ds fs k h
  step_valid (focus.ParamName o done p) ds fs k s h = param_name_valid o done p ds fs k h
  step_valid (focus.Bound o done p naming) ds fs k s h = in_bound_valid o done p naming.name naming.step ds fs k s h
  step_valid (focus.BoundNamed o done p m) ds fs k s h = bound_name_valid o done p m ds fs k h
  step_valid (focus.BoundSingleton o done p) ds fs k s h = bound_singleton_valid o done p ds fs k h
  step_valid (focus.BoundClass o done p naming) ds fs k s h = class_goes_valid o done p (naming_on of_class naming k s) ds fs k h
  step_valid (focus.Bounded o ps) ds fs k s h = after_param_valid o ps ds fs k h
  step_valid (focus.Parameterized o ps) ds fs k s h = parameterized_valid o ps ds fs k s h
  step_valid (focus.Parent begun n ps naming) ds fs k s h = parent_goes_valid begun n ps (naming_on of_class naming k s) ds fs k s
  step_valid (focus.SelfType begun n ps us naming) ds fs k s h = self_goes_valid begun n ps us (naming_on of_class_or_interface naming k s) ds fs k s
  step_valid (focus.SelfNamed begun n ps us m) ds fs k s h = self_name_valid begun n ps us m ds fs k s
  step_valid (focus.Def begun v) ds fs k s h = def_valid begun v ds fs k h
  step_valid (focus.DefSelf begun v) ds fs k s h = def_self_valid begun v ds fs k s h
  step_valid (focus.MethodStart begun v single) ds fs k s h = method_begins_valid begun v single ds fs k (method_word k) h
  step_valid (focus.MethodWord sig) ds fs k s h = method_ending_valid sig ds fs k (ending_at file k s) h
  step_valid (focus.MethodOperator begun v single o) ds fs k s h = operator_ended_valid begun v single o ds fs k (extended_at o k s) h
  step_valid (focus.MethodName sig) ds fs k s h = method_name_valid sig ds fs k h
  step_valid (focus.Overload sig done) ds fs k s h = overload_valid sig done ds fs k s h
  step_valid (focus.Attribute begun v a) ds fs k s h = attribute_named_valid begun v a ds fs (lower_of k) h
  step_valid (focus.AttributeName begun v a w) ds fs k s h = attribute_name_valid begun v a w ds fs k h
  step_valid (focus.Mixin begun m naming) ds fs k s h = mixin_goes_valid begun m (naming_on (mixin_use (site_of fs)) naming k s) ds fs k s h
  step_valid (focus.MixinNamed begun m n) ds fs k s h = mixin_name_valid begun m n ds fs k s h
  step_valid (focus.Alias begun) ds fs k s h = new_begins_valid begun ds fs k (method_word k) h
  step_valid (focus.NewWord begun w) ds fs k s h = new_word_valid begun w ds fs k s h
  step_valid (focus.NewEquals begun w) ds fs k s h = new_equals_valid begun w ds fs k s h
  step_valid (focus.NewEqualsEquals begun w) ds fs k s h = new_equals_equals_valid begun w ds fs k s h
  step_valid (focus.NewOperator begun o) ds fs k s h = new_operator_ended_valid begun o ds fs k (extended_at o k s) h
  step_valid (focus.NewName begun new) ds fs k s h = new_name_valid begun new ds fs k h
  step_valid (focus.OldWord begun new w capital) ds fs k s h = unless_valid (capital && scope_at k s) _ (old_word_valid begun new w ds fs k s (ending_at file k s) h)
  step_valid (focus.OldOperator begun new o) ds fs k s h = old_operator_ended_valid begun new o ds fs k s (extended_at o k s) h
  step_valid (focus.OldName begun new old) ds fs k s h = then_valid (Some (with_alias file begun new old s.before ds fs)) k s
  step_valid (focus.SelfWord begun) ds fs k s h = self_word_valid begun ds fs k h
  step_valid (focus.SelfDot begun) ds fs k s h = self_dot_valid begun ds fs k h
  step_valid (focus.Variable begun single w) ds fs k s h = after_variable_valid begun single w ds fs k h
  step_valid (focus.Typed p i) ds fs k s h = typed_valid p i ds fs k s h.0 h.1

  pub valid_next : (s : State) (c : Token) (m : State) → Valid s → next file s c ≡ Some m → Valid m
  valid_next s c m v e = subst ValidAt e (step_valid s.focus s.decls s.frames c.kind c.spot v)
