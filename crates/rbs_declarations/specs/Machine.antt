-- A reader of declarations that takes one token at a time, without limits.
use Rattle.std.specs.Prelude.{ℕ, Bool, true, false, ◌&&◌, if◌then◌else◌, codes, List, [], ◌∷◌, ◌++◌, Option, Some, None}
use Rattle.rbs_terminals.specs.declared.token.Token.{Token}
use Rattle.rbs_terminals.specs.declared.token.Spot.{Spot}
use Rattle.rbs_terminals.specs.declared.token.Mark.{Mark}
use Rattle.rbs_terminals.specs.declared.token.Mark.TheVariants as mark
use Rattle.rbs_terminals.specs.declared.token.Keyword.{Keyword}
use Rattle.rbs_terminals.specs.declared.token.Keyword.TheVariants as keyword
use Rattle.rbs_terminals.specs.declared.token.Kind.{Kind}
use Rattle.rbs_terminals.specs.declared.token.Kind.TheVariants as kind
use Rattle.rbs_terminals.specs.Kinds.{lower_of}
use Rattle.sig_model.specs.declared.place.Place.{Place}
use Rattle.sig_model.specs.declared.ty.TypeName.{TypeName}
use Rattle.sig_model.specs.declared.decl.Notes.{Notes}
use Rattle.sig_model.specs.declared.decl.Variance.{Variance}
use Rattle.sig_model.specs.declared.decl.Variance.TheVariants as variance
use Rattle.sig_model.specs.declared.decl.Vis.{Vis}
use Rattle.sig_model.specs.declared.decl.AttrKind.{AttrKind}
use Rattle.sig_model.specs.declared.decl.MixKind.{MixKind}
use Rattle.sig_model.specs.declared.decl.MixKind.TheVariants as mixing
use Rattle.sig_model.specs.PlainTy as plain
use Rattle.sig_model.specs.PlainTy.{PlainTy, PlainTys}
use Rattle.sig_model.specs.PlainMember.{PlainParam, PlainMethod, PlainMember, method, attr, mixin, alias, ivar, section}
use Rattle.sig_model.specs.PlainDecl as decl
use Rattle.sig_model.specs.PlainDecl.{PlainDecl, PlainBody, PlainParts, PlainDecls}
use Rattle.rbs_types.specs.declared.state.State.{State as TypeState}
use Rattle.rbs_types.specs.Symbols.{token, on_line, scope_at}
use Rattle.rbs_types.specs.Plains.{and_ty}
use Rattle.rbs_types.specs.Parts.{grown, no_name, root}
use Rattle.rbs_types.specs.Grammar.{Use, of_class, of_interface, of_alias, of_class_or_interface, ends_capital, ends_interface, ends_small}
use Rattle.rbs_types.specs.Machine as types
use Rattle.rbs_types.specs.Machine.{start, start_function, start_arguments}
use Rattle.rbs_declarations.specs.declared.operators.Operator.{Operator}
use Rattle.rbs_declarations.specs.declared.state.Begun.{Begun}
use Rattle.rbs_declarations.specs.declared.state.Step.{Step}
use Rattle.rbs_declarations.specs.declared.state.Step.TheVariants as step_at
use Rattle.rbs_declarations.specs.declared.state.Naming.{Naming}
use Rattle.rbs_declarations.specs.declared.state.Sort.{Sort}
use Rattle.rbs_declarations.specs.declared.state.Sort.TheVariants as sort
use Rattle.rbs_declarations.specs.declared.state.Heading.{Heading}
use Rattle.rbs_declarations.specs.declared.state.Heading.TheVariants as heading
use Rattle.rbs_declarations.specs.declared.state.Frame.{Frame}
use Rattle.rbs_declarations.specs.declared.state.Signature.{Signature}
use Rattle.rbs_declarations.specs.declared.state.Owner.{Owner}
use Rattle.rbs_declarations.specs.declared.state.Owner.TheVariants as owner
use Rattle.rbs_declarations.specs.declared.state.Param.{Param}
use Rattle.rbs_declarations.specs.declared.state.Purpose.{Purpose}
use Rattle.rbs_declarations.specs.declared.state.Purpose.TheVariants as purpose
use Rattle.rbs_declarations.specs.declared.state.Focus.{Focus}
use Rattle.rbs_declarations.specs.declared.state.Focus.TheVariants as focus
use Rattle.rbs_declarations.specs.declared.state.State.{State}
use Rattle.rbs_declarations.specs.Operators.{operator_text, is_operator, begun_by}
use Rattle.rbs_declarations.specs.Words.{vis_of, attribute_of, mixin_of, variance_of, method_word, is_capital, is_joined, ending_of, extended_at, takes_vis}
use Rattle.rbs_declarations.specs.Grammar.{is_new_param, and_inner, and_member, and_decl}

abbrev pub state_of : Focus → PlainDecls → List Frame → State
state_of f ds fs = record { decls = ds; frames = fs; focus = f }

abbrev pub at : Focus → PlainDecls → List Frame → Option State
at f ds fs = Some (state_of f ds fs)

abbrev pub start_of_file : State
start_of_file = state_of focus.Parts decl.no_decls []

-- ---- names

-- what a token does in a name: the name goes on, or is whole with the token, or was whole before it
pub data Progress : Type 0 where
  further : Naming → Progress
  whole : TypeName → Progress
  before : TypeName → Progress
  stuck : Progress

abbrev pub naming_of : TypeName → Step → Naming
naming_of n s = record { name = n; step = s }

abbrev pub no_naming : Naming
no_naming = naming_of no_name step_at.Start

abbrev pub whole_if : Bool → TypeName → Progress
whole_if true n = whole n
whole_if false n = stuck

abbrev pub before_if : Bool → TypeName → Progress
before_if true n = before n
before_if false n = stuck

abbrev pub word_on : Use → TypeName → Kind → Progress
word_on u n (kind.Upper w) = further (naming_of (grown n w) step_at.Upper)
word_on u n (kind.Interface w) = whole_if (ends_interface u) (grown n w)
word_on u n (kind.Lower w) = whole_if (ends_small u) (grown n w)
word_on u n _ = stuck

abbrev pub first_on : Use → TypeName → Kind → Progress
first_on u n (kind.Mark mark.Scope) = further (naming_of root step_at.Scope)
first_on u n k = word_on u n k

abbrev pub upper_on : Use → TypeName → Bool → Progress
upper_on u n true = further (naming_of n step_at.Scope)
upper_on u n false = before_if (ends_capital u) n

abbrev pub named_on : Use → TypeName → Step → Kind → Spot → Progress
named_on u n step_at.Start k s = first_on u n k
named_on u n step_at.Scope k s = word_on u n k
named_on u n step_at.Upper k s = upper_on u n (scope_at k s)

abbrev pub naming_on : Use → Naming → Kind → Spot → Progress
naming_on u naming k s = named_on u naming.name naming.step k s

abbrev pub use_of : Sort → Use
use_of sort.Class = of_class
use_of sort.Module = of_class
use_of sort.Interface = of_interface
use_of sort.Alias = of_alias
use_of sort.Constant = of_class

-- ---- what is whole goes to where it belongs

abbrev pub with_inner : Frame → PlainDecl → Frame
with_inner f d = record { begun = f.begun; heading = f.heading; parts = and_inner f.parts d }

abbrev pub with_decl : PlainDecls → List Frame → PlainDecl → State
with_decl ds [] d = state_of focus.Parts (and_decl ds d) []
with_decl ds (f ∷ fs) d = state_of focus.Parts ds (with_inner f d ∷ fs)

abbrev pub with_part : Frame → Place → Notes → PlainMember → Frame
with_part f p n m = record { begun = f.begun; heading = f.heading; parts = and_member f.parts p n m }

abbrev pub with_member : PlainDecls → List Frame → Place → Notes → PlainMember → State
with_member ds [] p n m = state_of focus.Parts ds []
with_member ds (f ∷ fs) p n m = state_of focus.Parts ds (with_part f p n m ∷ fs)

abbrev pub framed : Begun → Heading → Frame
framed begun h = record { begun = begun; heading = h; parts = decl.no_parts }

abbrev pub opening : Begun → Heading → PlainDecls → List Frame → Option State
opening begun h ds fs = at focus.Parts ds (framed begun h ∷ fs)

-- the declaration's parts begin
abbrev pub opened : Begun → Sort → TypeName → List PlainParam → PlainDecls → List Frame → Option State
opened begun sort.Class n ps ds fs = opening begun (heading.Class n ps None) ds fs
opened begun sort.Module n ps ds fs = opening begun (heading.Module n ps plain.no_tys) ds fs
opened begun sort.Interface n ps ds fs = opening begun (heading.Interface n ps) ds fs
opened begun _ n ps ds fs = None

abbrev pub body_of : Heading → PlainParts → PlainBody
body_of (heading.Class n ps t) parts = decl.class n ps t parts
body_of (heading.Module n ps us) parts = decl.module n ps us parts
body_of (heading.Interface n ps) parts = decl.iface n ps parts

abbrev pub text_of_self : List ℕ
text_of_self = codes "self"

abbrev pub double_equals : List ℕ
double_equals = codes "=="

abbrev pub with_equals : List ℕ → List ℕ
with_equals w = w ++ codes "="

-- the overloads, and one more, if the type is a function
abbrev pub and_overload : List PlainMethod → List PlainParam → PlainTy → Option (List PlainMethod)
and_overload done ps (plain.fun f) = Some (done ++ record { params = ps; fun = f } ∷ [])
and_overload done ps _ = None

abbrev pub bounded : Param → Option PlainTy → PlainParam
bounded p t = record { name = p.name; unchecked = p.unchecked; variance = p.variance; bound = t }

abbrev pub and_param : List PlainParam → Param → Option PlainTy → List PlainParam
and_param done p t = done ++ bounded p t ∷ []

-- where a part stands
pub data Site : Type 0 where
  in_file : Site
  in_class : Site
  in_interface : Site

abbrev pub site_in : Heading → Site
site_in (heading.Interface n ps) = in_interface
site_in _ = in_class

abbrev pub site_of : List Frame → Site
site_of [] = in_file
site_of (f ∷ fs) = site_in f.heading

-- what an `include` and the like may name
abbrev pub mixin_use : Site → Use
mixin_use in_interface = of_interface
mixin_use _ = of_class

-- In the file of this number.
module _ (file : ℕ) where
  abbrev pub place_from : Begun → ℕ → Place
  place_from begun e = record { file = file; start = begun.start; end = e }

  abbrev pub declared : Begun → ℕ → PlainBody → PlainDecls → List Frame → State
  declared begun e b ds fs = with_decl ds fs (decl.decl (place_from begun e) begun.notes b)

  abbrev pub membered : Begun → ℕ → PlainMember → PlainDecls → List Frame → State
  membered begun e m ds fs = with_member ds fs (place_from begun e) begun.notes m

  -- ---- where a declaration or a part begins

  abbrev pub declaring : Begun → Sort → PlainDecls → List Frame → Option State
  declaring begun x ds fs = at (focus.Name begun x no_naming) ds fs

  abbrev pub declaration_keyword : Begun → PlainDecls → List Frame → Keyword → Option State
  declaration_keyword begun ds fs keyword.Class = declaring begun sort.Class ds fs
  declaration_keyword begun ds fs keyword.Module = declaring begun sort.Module ds fs
  declaration_keyword begun ds fs keyword.Interface = declaring begun sort.Interface ds fs
  declaration_keyword begun ds fs keyword.Type = declaring begun sort.Alias ds fs
  declaration_keyword begun ds fs _ = None

  abbrev pub mixin_begins : Begun → PlainDecls → List Frame → Keyword → Option MixKind → Option State
  mixin_begins begun ds fs k (Some m) = at (focus.Mixin begun m no_naming) ds fs
  mixin_begins begun ds fs k None = declaration_keyword begun ds fs k

  abbrev pub attribute_begins : Begun → PlainDecls → List Frame → Keyword → Option AttrKind → Option State
  attribute_begins begun ds fs k (Some a) = at (focus.Attribute begun None a) ds fs
  attribute_begins begun ds fs k None = mixin_begins begun ds fs k (mixin_of k)

  abbrev pub vis_begins : Begun → PlainDecls → List Frame → Keyword → Spot → Option Vis → Option State
  vis_begins begun ds fs k s (Some v) = at (focus.Visible begun v s.end) ds fs
  vis_begins begun ds fs k s None = attribute_begins begun ds fs k (attribute_of k)

  abbrev pub member_keyword : Begun → PlainDecls → List Frame → Keyword → Spot → Option State
  member_keyword begun ds fs keyword.Def s = at (focus.Def begun None) ds fs
  member_keyword begun ds fs keyword.Alias s = at (focus.Alias begun) ds fs
  member_keyword begun ds fs keyword.SelfWord s = at (focus.SelfWord begun) ds fs
  member_keyword begun ds fs k s = vis_begins begun ds fs k s (vis_of k)

  abbrev pub interface_keyword : Begun → PlainDecls → List Frame → Keyword → Option State
  interface_keyword begun ds fs keyword.Def = at (focus.MethodStart begun None false) ds fs
  interface_keyword begun ds fs keyword.Include = at (focus.Mixin begun mixing.Include no_naming) ds fs
  interface_keyword begun ds fs _ = None

  abbrev pub keyword_begins : Site → Begun → PlainDecls → List Frame → Keyword → Spot → Option State
  keyword_begins in_file begun ds fs k s = declaration_keyword begun ds fs k
  keyword_begins in_class begun ds fs k s = member_keyword begun ds fs k s
  keyword_begins in_interface begun ds fs k s = interface_keyword begun ds fs k

  abbrev pub constant_begins : Site → Begun → TypeName → Step → PlainDecls → List Frame → Option State
  constant_begins in_interface begun n x ds fs = None
  constant_begins w begun n x ds fs = at (focus.Name begun sort.Constant (naming_of n x)) ds fs

  abbrev pub variable_begins : Site → Begun → List ℕ → PlainDecls → List Frame → Option State
  variable_begins in_class begun w ds fs = at (focus.Variable begun false w) ds fs
  variable_begins _ begun w ds fs = None

  abbrev pub begun_at : Notes → Spot → Begun
  begun_at n s = record { start = s.start; notes = n }

  abbrev pub annotated : Notes → List ℕ → Notes
  annotated n w = record { comments = n.comments; annotations = n.annotations ++ w ∷ [] }

  -- behind these notes
  abbrev pub begins : Notes → PlainDecls → List Frame → Kind → Spot → Option State
  begins n ds fs (kind.Annotation w) s = at (focus.Noted (begun_at (annotated n w) s)) ds fs
  begins n ds fs (kind.Keyword k) s = keyword_begins (site_of fs) (begun_at n s) ds fs k s
  begins n ds fs (kind.Upper w) s = constant_begins (site_of fs) (begun_at n s) (grown no_name w) step_at.Upper ds fs
  begins n ds fs (kind.Mark mark.Scope) s = constant_begins (site_of fs) (begun_at n s) root step_at.Scope ds fs
  begins n ds fs (kind.Variable w) s = variable_begins (site_of fs) (begun_at n s) w ds fs
  begins n ds fs _ s = None

  abbrev pub ended_frame : PlainDecls → List Frame → Spot → Option State
  ended_frame ds [] s = None
  ended_frame ds (f ∷ fs) s = Some (declared f.begun s.end (body_of f.heading f.parts) ds fs)

  abbrev pub no_notes_at : Spot → Notes
  no_notes_at s = record { comments = s.comments; annotations = [] }

  -- where nothing is noted yet, and the innermost declaration may end
  abbrev pub part_begins : PlainDecls → List Frame → Kind → Spot → Option State
  part_begins ds fs (kind.Keyword keyword.End) s = ended_frame ds fs s
  part_begins ds fs k s = begins (no_notes_at s) ds fs k s

  -- behind what is whole
  abbrev pub then_part : Option State → Kind → Spot → Option State
  then_part None k s = None
  then_part (Some m) k s = part_begins m.decls m.frames k s

  -- ---- headings

  abbrev pub after_class_params : Begun → TypeName → List PlainParam → PlainDecls → List Frame → Kind → Spot → Option State
  after_class_params begun n ps ds fs (kind.Mark mark.Less) s = at (focus.Parent begun n ps no_naming) ds fs
  after_class_params begun n ps ds fs k s = then_part (opened begun sort.Class n ps ds fs) k s

  abbrev pub after_module_params : Begun → TypeName → List PlainParam → PlainDecls → List Frame → Kind → Spot → Option State
  after_module_params begun n ps ds fs (kind.Mark mark.Colon) s = at (focus.SelfType begun n ps plain.no_tys no_naming) ds fs
  after_module_params begun n ps ds fs k s = then_part (opened begun sort.Module n ps ds fs) k s

  abbrev pub after_alias_params : Begun → TypeName → List PlainParam → PlainDecls → List Frame → Kind → Option State
  after_alias_params begun n ps ds fs (kind.Mark mark.Equals) = at (focus.Typed (purpose.Alias begun n ps) start) ds fs
  after_alias_params begun n ps ds fs _ = None

  abbrev pub after_constant : Begun → TypeName → PlainDecls → List Frame → Kind → Option State
  after_constant begun n ds fs (kind.Mark mark.Colon) = at (focus.Typed (purpose.Constant begun n) start) ds fs
  after_constant begun n ds fs _ = None

  abbrev pub after_heading : Begun → Sort → TypeName → List PlainParam → PlainDecls → List Frame → Kind → Spot → Option State
  after_heading begun sort.Class n ps ds fs k s = after_class_params begun n ps ds fs k s
  after_heading begun sort.Module n ps ds fs k s = after_module_params begun n ps ds fs k s
  after_heading begun sort.Interface n ps ds fs k s = then_part (opened begun sort.Interface n ps ds fs) k s
  after_heading begun sort.Alias n ps ds fs k s = after_alias_params begun n ps ds fs k
  after_heading begun sort.Constant n ps ds fs k s = after_constant begun n ds fs k

  abbrev pub params_begin : Begun → Sort → TypeName → PlainDecls → List Frame → Option State
  params_begin begun sort.Constant n ds fs = None
  params_begin begun x n ds fs = at (focus.Param (owner.Heading begun x n) []) ds fs

  abbrev pub after_name : Begun → Sort → TypeName → PlainDecls → List Frame → Kind → Spot → Option State
  after_name begun x n ds fs (kind.Mark mark.OpenSquare) s = params_begin begun x n ds fs
  after_name begun x n ds fs k s = after_heading begun x n [] ds fs k s

  abbrev pub name_goes : Begun → Sort → Progress → PlainDecls → List Frame → Kind → Spot → Option State
  name_goes begun x (further naming) ds fs k s = at (focus.Name begun x naming) ds fs
  name_goes begun x (whole n) ds fs k s = at (focus.Named begun x n) ds fs
  name_goes begun x (before n) ds fs k s = after_name begun x n ds fs k s
  name_goes begun x stuck ds fs k s = None

  -- ---- superclasses and self types

  abbrev pub with_parent : Begun → TypeName → List PlainParam → PlainTy → PlainDecls → List Frame → Option State
  with_parent begun n ps t ds fs = opening begun (heading.Class n ps (Some t)) ds fs

  abbrev pub after_parent_name : Begun → TypeName → List PlainParam → TypeName → PlainDecls → List Frame → Kind → Spot → Option State
  after_parent_name begun n ps m ds fs (kind.Mark mark.OpenSquare) s = at (focus.Typed (purpose.Parent begun n ps) (start_arguments m)) ds fs
  after_parent_name begun n ps m ds fs k s = then_part (with_parent begun n ps (plain.name m plain.no_tys) ds fs) k s

  abbrev pub parent_goes : Begun → TypeName → List PlainParam → Progress → PlainDecls → List Frame → Kind → Spot → Option State
  parent_goes begun n ps (further naming) ds fs k s = at (focus.Parent begun n ps naming) ds fs
  parent_goes begun n ps (before m) ds fs k s = after_parent_name begun n ps m ds fs k s
  parent_goes begun n ps _ ds fs k s = None

  abbrev pub with_selves : Begun → TypeName → List PlainParam → PlainTys → PlainDecls → List Frame → Option State
  with_selves begun n ps us ds fs = opening begun (heading.Module n ps us) ds fs

  -- behind self types that are whole
  abbrev pub after_self : Begun → TypeName → List PlainParam → PlainTys → PlainDecls → List Frame → Kind → Spot → Option State
  after_self begun n ps us ds fs (kind.Mark mark.Comma) s = at (focus.SelfType begun n ps us no_naming) ds fs
  after_self begun n ps us ds fs k s = then_part (with_selves begun n ps us ds fs) k s

  abbrev pub after_self_name : Begun → TypeName → List PlainParam → PlainTys → TypeName → PlainDecls → List Frame → Kind → Spot → Option State
  after_self_name begun n ps us m ds fs (kind.Mark mark.OpenSquare) s = at (focus.Typed (purpose.SelfType begun n ps us) (start_arguments m)) ds fs
  after_self_name begun n ps us m ds fs k s = after_self begun n ps (and_ty us (plain.name m plain.no_tys)) ds fs k s

  abbrev pub self_goes : Begun → TypeName → List PlainParam → PlainTys → Progress → PlainDecls → List Frame → Kind → Spot → Option State
  self_goes begun n ps us (further naming) ds fs k s = at (focus.SelfType begun n ps us naming) ds fs
  self_goes begun n ps us (whole m) ds fs k s = at (focus.SelfNamed begun n ps us m) ds fs
  self_goes begun n ps us (before m) ds fs k s = after_self_name begun n ps us m ds fs k s
  self_goes begun n ps us stuck ds fs k s = None

  -- ---- type parameters

  abbrev pub param_named : Owner → List PlainParam → Bool → Variance → PlainDecls → List Frame → Kind → Option State
  param_named o done unchecked v ds fs (kind.Upper w) = if is_new_param w done then at (focus.ParamName o done (record { name = w; unchecked = unchecked; variance = v })) ds fs else None
  param_named o done unchecked v ds fs _ = None

  abbrev pub varied : Owner → List PlainParam → Bool → PlainDecls → List Frame → Kind → Option Variance → Option State
  varied o done unchecked ds fs k (Some v) = at (focus.Varied o done unchecked v) ds fs
  varied o done unchecked ds fs k None = param_named o done unchecked variance.Fixed ds fs k

  abbrev pub variance_at : Kind → Option Variance
  variance_at (kind.Keyword k) = variance_of k
  variance_at _ = None

  abbrev pub after_unchecked : Owner → List PlainParam → Bool → PlainDecls → List Frame → Kind → Option State
  after_unchecked o done unchecked ds fs k = varied o done unchecked ds fs k (variance_at k)

  abbrev pub param_begins : Owner → List PlainParam → PlainDecls → List Frame → Kind → Option State
  param_begins o done ds fs (kind.Keyword keyword.Unchecked) = at (focus.Unchecked o done) ds fs
  param_begins o done ds fs k = after_unchecked o done false ds fs k

  -- behind a parameter that is whole, the last of these
  abbrev pub after_param : Owner → List PlainParam → PlainDecls → List Frame → Kind → Option State
  after_param o ps ds fs (kind.Mark mark.Comma) = at (focus.Param o ps) ds fs
  after_param o ps ds fs (kind.Mark mark.CloseSquare) = at (focus.Parameterized o ps) ds fs
  after_param o ps ds fs _ = None

  abbrev pub after_param_name : Owner → List PlainParam → Param → PlainDecls → List Frame → Kind → Option State
  after_param_name o done p ds fs (kind.Mark mark.Less) = at (focus.Bound o done p no_naming) ds fs
  after_param_name o done p ds fs k = after_param o (and_param done p None) ds fs k

  abbrev pub after_bound_name : Owner → List PlainParam → Param → TypeName → PlainDecls → List Frame → Kind → Option State
  after_bound_name o done p m ds fs (kind.Mark mark.OpenSquare) = at (focus.Typed (purpose.Bound o done p) (start_arguments m)) ds fs
  after_bound_name o done p m ds fs k = after_param o (and_param done p (Some (plain.name m plain.no_tys))) ds fs k

  abbrev pub bound_goes : Owner → List PlainParam → Param → Progress → PlainDecls → List Frame → Kind → Option State
  bound_goes o done p (further naming) ds fs k = at (focus.Bound o done p naming) ds fs
  bound_goes o done p (whole m) ds fs k = at (focus.BoundNamed o done p m) ds fs
  bound_goes o done p (before m) ds fs k = after_bound_name o done p m ds fs k
  bound_goes o done p stuck ds fs k = None

  abbrev pub bound_first : Owner → List PlainParam → Param → TypeName → PlainDecls → List Frame → Kind → Option State
  bound_first o done p n ds fs (kind.Keyword keyword.Singleton) = at (focus.BoundSingleton o done p) ds fs
  bound_first o done p n ds fs k = bound_goes o done p (first_on of_class_or_interface n k) ds fs k

  abbrev pub in_bound : Owner → List PlainParam → Param → TypeName → Step → PlainDecls → List Frame → Kind → Spot → Option State
  in_bound o done p n step_at.Start ds fs k s = bound_first o done p n ds fs k
  in_bound o done p n x ds fs k s = bound_goes o done p (named_on of_class_or_interface n x k s) ds fs k

  abbrev pub after_bound_singleton : Owner → List PlainParam → Param → PlainDecls → List Frame → Kind → Option State
  after_bound_singleton o done p ds fs (kind.Mark mark.Open) = at (focus.BoundClass o done p no_naming) ds fs
  after_bound_singleton o done p ds fs _ = None

  abbrev pub bound_class_closed : Owner → List PlainParam → Param → TypeName → PlainDecls → List Frame → Kind → Option State
  bound_class_closed o done p m ds fs (kind.Mark mark.Close) = at (focus.Bounded o (and_param done p (Some (plain.single m)))) ds fs
  bound_class_closed o done p m ds fs _ = None

  abbrev pub bound_class_goes : Owner → List PlainParam → Param → Progress → PlainDecls → List Frame → Kind → Option State
  bound_class_goes o done p (further naming) ds fs k = at (focus.BoundClass o done p naming) ds fs
  bound_class_goes o done p (before m) ds fs k = bound_class_closed o done p m ds fs k
  bound_class_goes o done p _ ds fs k = None

  -- ---- methods

  abbrev pub signed : Begun → Option Vis → Bool → List ℕ → Signature
  signed begun v single w = record { begun = begun; vis = v; single = single; name = w }

  abbrev pub after_method_name : Signature → PlainDecls → List Frame → Kind → Option State
  after_method_name sig ds fs (kind.Mark mark.Colon) = at (focus.Overload sig []) ds fs
  after_method_name sig ds fs _ = None

  abbrev pub renamed_with : Signature → List ℕ → Signature
  renamed_with sig e = record { begun = sig.begun; vis = sig.vis; single = sig.single; name = sig.name ++ e }

  -- the ending that a token is for the word directly before it
  abbrev pub ending_if : Bool → Mark → Option (List ℕ)
  ending_if true m = ending_of m
  ending_if false m = None

  abbrev pub ending_at : Kind → Spot → Option (List ℕ)
  ending_at (kind.Mark m) s = ending_if (is_joined s) m
  ending_at _ s = None

  abbrev pub method_ending : Signature → PlainDecls → List Frame → Kind → Option (List ℕ) → Option State
  method_ending sig ds fs k (Some e) = at (focus.MethodName (renamed_with sig e)) ds fs
  method_ending sig ds fs k None = after_method_name sig ds fs k

  abbrev pub after_method_word : Signature → PlainDecls → List Frame → Kind → Spot → Option State
  after_method_word sig ds fs k s = method_ending sig ds fs k (ending_at k s)

  abbrev pub operator_ended : Begun → Option Vis → Bool → Operator → PlainDecls → List Frame → Kind → Option Operator → Option State
  operator_ended begun v single o ds fs k (Some o') = at (focus.MethodOperator begun v single o') ds fs
  operator_ended begun v single o ds fs k None = if is_operator o then after_method_name (signed begun v single (operator_text o)) ds fs k else None

  abbrev pub operator_begins : Begun → Option Vis → Bool → PlainDecls → List Frame → Option Operator → Option State
  operator_begins begun v single ds fs (Some o) = at (focus.MethodOperator begun v single o) ds fs
  operator_begins begun v single ds fs None = None

  abbrev pub operator_at : Kind → Option Operator
  operator_at (kind.Mark m) = begun_by m
  operator_at _ = None

  abbrev pub method_begins : Begun → Option Vis → Bool → PlainDecls → List Frame → Kind → Option (List ℕ) → Option State
  method_begins begun v single ds fs k (Some w) = at (focus.MethodWord (signed begun v single w)) ds fs
  method_begins begun v single ds fs k None = operator_begins begun v single ds fs (operator_at k)

  abbrev pub method_start : Begun → Option Vis → Bool → PlainDecls → List Frame → Kind → Option State
  method_start begun v single ds fs k = method_begins begun v single ds fs k (method_word k)

  abbrev pub after_def : Begun → Option Vis → PlainDecls → List Frame → Kind → Option State
  after_def begun v ds fs (kind.Keyword keyword.SelfWord) = at (focus.DefSelf begun v) ds fs
  after_def begun v ds fs k = method_start begun v false ds fs k

  abbrev pub after_def_self : Begun → Option Vis → PlainDecls → List Frame → Kind → Spot → Option State
  after_def_self begun v ds fs (kind.Mark mark.Dot) s = at (focus.MethodStart begun v true) ds fs
  after_def_self begun v ds fs k s = after_method_word (signed begun v false text_of_self) ds fs k s

  -- ---- inside of types

  abbrev pub typed : Purpose → PlainDecls → List Frame → Option TypeState → Option State
  typed p ds fs None = None
  typed p ds fs (Some i) = at (focus.Typed p i) ds fs

  abbrev pub function_begins : Signature → List PlainMethod → List PlainParam → PlainDecls → List Frame → Kind → Spot → Option State
  function_begins sig done ps ds fs k s = typed (purpose.Overload sig done ps) ds fs (types.next start_function (token k s))

  abbrev pub after_overload : Signature → List PlainMethod → PlainDecls → List Frame → Kind → Spot → Option State
  after_overload sig done ds fs (kind.Mark mark.OpenSquare) s = at (focus.Param (owner.Overload sig done) []) ds fs
  after_overload sig done ds fs k s = function_begins sig done [] ds fs k s

  abbrev pub after_parameterized : Owner → List PlainParam → PlainDecls → List Frame → Kind → Spot → Option State
  after_parameterized (owner.Heading begun x n) ps ds fs k s = after_heading begun x n ps ds fs k s
  after_parameterized (owner.Overload sig done) ps ds fs k s = function_begins sig done ps ds fs k s

  abbrev pub with_method : Signature → Option (List PlainMethod) → ℕ → PlainDecls → List Frame → Option State
  with_method sig None e ds fs = None
  with_method sig (Some ms) e ds fs = Some (membered sig.begun e (method sig.vis sig.single sig.name ms) ds fs)

  -- the state behind a whole type, where it isn't for a type parameter, and ends at the byte `e`
  abbrev pub settled_type : Purpose → PlainTy → ℕ → PlainDecls → List Frame → Option State
  settled_type (purpose.Alias begun n ps) t e ds fs = Some (declared begun e (decl.alias n ps t) ds fs)
  settled_type (purpose.Constant begun n) t e ds fs = Some (declared begun e (decl.const n t) ds fs)
  settled_type (purpose.Attribute begun v a w) t e ds fs = Some (membered begun e (attr v a w t) ds fs)
  settled_type (purpose.Variable begun single w) t e ds fs = Some (membered begun e (ivar single w t) ds fs)
  settled_type (purpose.Overload sig done ps) t e ds fs = with_method sig (and_overload done ps t) e ds fs
  settled_type (purpose.Parent begun n ps) t e ds fs = with_parent begun n ps t ds fs
  settled_type (purpose.SelfType begun n ps us) t e ds fs = with_selves begun n ps (and_ty us t) ds fs
  settled_type (purpose.Mixin begun m) t e ds fs = Some (membered begun e (mixin m t) ds fs)
  settled_type (purpose.Bound o done p) t e ds fs = None

  abbrev pub next_overload : Signature → Option (List PlainMethod) → PlainDecls → List Frame → Option State
  next_overload sig None ds fs = None
  next_overload sig (Some ms) ds fs = at (focus.Overload sig ms) ds fs

  abbrev pub after_function : Signature → List PlainMethod → List PlainParam → PlainTy → PlainDecls → List Frame → Kind → Spot → Option State
  after_function sig done ps t ds fs (kind.Mark mark.Bar) s = next_overload sig (and_overload done ps t) ds fs
  after_function sig done ps t ds fs k s = then_part (with_method sig (and_overload done ps t) s.before ds fs) k s

  abbrev pub after_whole : Purpose → PlainTy → PlainDecls → List Frame → Kind → Spot → Option State
  after_whole (purpose.Overload sig done ps) t ds fs k s = after_function sig done ps t ds fs k s
  after_whole (purpose.SelfType begun n ps us) t ds fs k s = after_self begun n ps (and_ty us t) ds fs k s
  after_whole (purpose.Bound o done p) t ds fs k s = after_param o (and_param done p (Some t)) ds fs k
  after_whole p t ds fs k s = then_part (settled_type p t s.before ds fs) k s

  abbrev pub after_final : Purpose → Option PlainTy → PlainDecls → List Frame → Kind → Spot → Option State
  after_final p None ds fs k s = None
  after_final p (Some t) ds fs k s = after_whole p t ds fs k s

  -- a token goes to the type; where that doesn't take it, behind the type
  abbrev pub typed_on : Purpose → TypeState → Option TypeState → PlainDecls → List Frame → Kind → Spot → Option State
  typed_on p i (Some m) ds fs k s = at (focus.Typed p m) ds fs
  typed_on p i None ds fs k s = after_final p (types.final i) ds fs k s

  -- ---- other members

  abbrev pub attribute_named : Begun → Option Vis → AttrKind → PlainDecls → List Frame → Option (List ℕ) → Option State
  attribute_named begun v a ds fs None = None
  attribute_named begun v a ds fs (Some w) = at (focus.AttributeName begun v a w) ds fs

  abbrev pub after_attribute_name : Begun → Option Vis → AttrKind → List ℕ → PlainDecls → List Frame → Kind → Option State
  after_attribute_name begun v a w ds fs (kind.Mark mark.Colon) = at (focus.Typed (purpose.Attribute begun v a w) start) ds fs
  after_attribute_name begun v a w ds fs _ = None

  abbrev pub with_mixin : Begun → MixKind → TypeName → ℕ → PlainDecls → List Frame → State
  with_mixin begun m n e ds fs = membered begun e (mixin m (plain.name n plain.no_tys)) ds fs

  abbrev pub after_mixin_name : Begun → MixKind → TypeName → PlainDecls → List Frame → Kind → Spot → Option State
  after_mixin_name begun m n ds fs (kind.Mark mark.OpenSquare) s = at (focus.Typed (purpose.Mixin begun m) (start_arguments n)) ds fs
  after_mixin_name begun m n ds fs k s = then_part (Some (with_mixin begun m n s.before ds fs)) k s

  abbrev pub mixin_goes : Begun → MixKind → Progress → PlainDecls → List Frame → Kind → Spot → Option State
  mixin_goes begun m (further naming) ds fs k s = at (focus.Mixin begun m naming) ds fs
  mixin_goes begun m (whole n) ds fs k s = at (focus.MixinNamed begun m n) ds fs
  mixin_goes begun m (before n) ds fs k s = after_mixin_name begun m n ds fs k s
  mixin_goes begun m stuck ds fs k s = None

  abbrev pub with_section : Begun → Vis → ℕ → PlainDecls → List Frame → State
  with_section begun v e ds fs = membered begun e (section v) ds fs

  abbrev pub visible_attribute : Begun → Vis → PlainDecls → List Frame → Option AttrKind → Option State
  visible_attribute begun v ds fs (Some a) = at (focus.Attribute begun (Some v) a) ds fs
  visible_attribute begun v ds fs None = None

  abbrev pub visible_member : Begun → Vis → PlainDecls → List Frame → Kind → Option State
  visible_member begun v ds fs (kind.Keyword keyword.Def) = at (focus.Def begun (Some v)) ds fs
  visible_member begun v ds fs (kind.Keyword k) = visible_attribute begun v ds fs (attribute_of k)
  visible_member begun v ds fs _ = None

  abbrev pub after_vis : Begun → Vis → ℕ → PlainDecls → List Frame → Kind → Spot → Option State
  after_vis begun v e ds fs k s = if on_line s && takes_vis k then visible_member begun v ds fs k else then_part (Some (with_section begun v e ds fs)) k s

  abbrev pub after_self_word : Begun → PlainDecls → List Frame → Kind → Option State
  after_self_word begun ds fs (kind.Mark mark.Dot) = at (focus.SelfDot begun) ds fs
  after_self_word begun ds fs _ = None

  abbrev pub after_self_dot : Begun → PlainDecls → List Frame → Kind → Option State
  after_self_dot begun ds fs (kind.Variable w) = at (focus.Variable begun true w) ds fs
  after_self_dot begun ds fs _ = None

  abbrev pub after_variable : Begun → Bool → List ℕ → PlainDecls → List Frame → Kind → Option State
  after_variable begun single w ds fs (kind.Mark mark.Colon) = at (focus.Typed (purpose.Variable begun single w) start) ds fs
  after_variable begun single w ds fs _ = None

  -- ---- aliases of methods

  abbrev pub with_alias : Begun → List ℕ → List ℕ → ℕ → PlainDecls → List Frame → State
  with_alias begun new old e ds fs = membered begun e (alias new old) ds fs

  abbrev pub old_operator : Begun → List ℕ → PlainDecls → List Frame → Option Operator → Option State
  old_operator begun new ds fs (Some o) = at (focus.OldOperator begun new o) ds fs
  old_operator begun new ds fs None = None

  abbrev pub old_begins : Begun → List ℕ → PlainDecls → List Frame → Kind → Option (List ℕ) → Option State
  old_begins begun new ds fs k (Some w) = at (focus.OldWord begun new w (is_capital k)) ds fs
  old_begins begun new ds fs k None = old_operator begun new ds fs (operator_at k)

  -- behind the new name
  abbrev pub after_new : Begun → List ℕ → PlainDecls → List Frame → Kind → Option State
  after_new begun new ds fs k = old_begins begun new ds fs k (method_word k)

  abbrev pub new_operator : Begun → PlainDecls → List Frame → Option Operator → Option State
  new_operator begun ds fs (Some o) = at (focus.NewOperator begun o) ds fs
  new_operator begun ds fs None = None

  abbrev pub new_begins : Begun → PlainDecls → List Frame → Kind → Option (List ℕ) → Option State
  new_begins begun ds fs k (Some w) = at (focus.NewWord begun w) ds fs
  new_begins begun ds fs k None = new_operator begun ds fs (operator_at k)

  -- a mark directly behind the new name's word; a `=` may begin the old name too
  abbrev pub new_marked : Begun → List ℕ → PlainDecls → List Frame → Mark → Option State
  new_marked begun w ds fs mark.Question = at (focus.NewName begun (w ++ codes "?")) ds fs
  new_marked begun w ds fs mark.Bang = at (focus.NewName begun (w ++ codes "!")) ds fs
  new_marked begun w ds fs mark.Equals = at (focus.NewEquals begun w) ds fs
  new_marked begun w ds fs m = after_new begun w ds fs (kind.Mark m)

  abbrev pub new_marked_if : Bool → Begun → List ℕ → PlainDecls → List Frame → Mark → Option State
  new_marked_if true begun w ds fs m = new_marked begun w ds fs m
  new_marked_if false begun w ds fs m = after_new begun w ds fs (kind.Mark m)

  abbrev pub after_new_word : Begun → List ℕ → PlainDecls → List Frame → Kind → Spot → Option State
  after_new_word begun w ds fs (kind.Mark m) s = new_marked_if (is_joined s) begun w ds fs m
  after_new_word begun w ds fs k s = after_new begun w ds fs k

  abbrev pub joined_equals : Kind → Spot → Bool
  joined_equals (kind.Mark mark.Equals) s = is_joined s
  joined_equals _ s = false

  abbrev pub after_new_equals : Begun → List ℕ → PlainDecls → List Frame → Kind → Spot → Option State
  after_new_equals begun w ds fs k s = if joined_equals k s then at (focus.NewEqualsEquals begun w) ds fs else after_new begun (with_equals w) ds fs k

  abbrev pub after_new_equals_equals : Begun → List ℕ → PlainDecls → List Frame → Kind → Spot → Option State
  after_new_equals_equals begun w ds fs k s =
      if joined_equals k s then at (focus.OldName begun (with_equals w) double_equals) ds fs else then_part (Some (with_alias begun w double_equals s.before ds fs)) k s

  abbrev pub new_operator_ended : Begun → Operator → PlainDecls → List Frame → Kind → Option Operator → Option State
  new_operator_ended begun o ds fs k (Some o') = at (focus.NewOperator begun o') ds fs
  new_operator_ended begun o ds fs k None = if is_operator o then after_new begun (operator_text o) ds fs k else None

  abbrev pub old_word_ended : Begun → List ℕ → List ℕ → PlainDecls → List Frame → Kind → Spot → Option (List ℕ) → Option State
  old_word_ended begun new w ds fs k s (Some e) = at (focus.OldName begun new (w ++ e)) ds fs
  old_word_ended begun new w ds fs k s None = then_part (Some (with_alias begun new w s.before ds fs)) k s

  -- behind a capital word on its line a `::` begins no constant
  abbrev pub old_ending : Begun → List ℕ → List ℕ → Bool → PlainDecls → List Frame → Kind → Spot → Option State
  old_ending begun new w capital ds fs k s = if capital && scope_at k s then None else old_word_ended begun new w ds fs k s (ending_at k s)

  abbrev pub old_operator_ended : Begun → List ℕ → Operator → PlainDecls → List Frame → Kind → Spot → Option Operator → Option State
  old_operator_ended begun new o ds fs k s (Some o') = at (focus.OldOperator begun new o') ds fs
  old_operator_ended begun new o ds fs k s None = if is_operator o then then_part (Some (with_alias begun new (operator_text o) s.before ds fs)) k s else None

  -- ---- all

  abbrev pub step : Focus → PlainDecls → List Frame → Kind → Spot → Option State
  step focus.Parts ds fs k s = part_begins ds fs k s
  step (focus.Noted begun) ds fs k s = begins begun.notes ds fs k s
  step (focus.Visible begun v e) ds fs k s = after_vis begun v e ds fs k s
  step (focus.Name begun x naming) ds fs k s = name_goes begun x (naming_on (use_of x) naming k s) ds fs k s
  step (focus.Named begun x n) ds fs k s = after_name begun x n ds fs k s
  step (focus.Param o done) ds fs k s = param_begins o done ds fs k
  step (focus.Unchecked o done) ds fs k s = after_unchecked o done true ds fs k
  step (focus.Varied o done unchecked v) ds fs k s = param_named o done unchecked v ds fs k
  step (focus.ParamName o done p) ds fs k s = after_param_name o done p ds fs k
  step (focus.Bound o done p naming) ds fs k s = in_bound o done p naming.name naming.step ds fs k s
  step (focus.BoundNamed o done p m) ds fs k s = after_bound_name o done p m ds fs k
  step (focus.BoundSingleton o done p) ds fs k s = after_bound_singleton o done p ds fs k
  step (focus.BoundClass o done p naming) ds fs k s = bound_class_goes o done p (naming_on of_class naming k s) ds fs k
  step (focus.Bounded o ps) ds fs k s = after_param o ps ds fs k
  step (focus.Parameterized o ps) ds fs k s = after_parameterized o ps ds fs k s
  step (focus.Parent begun n ps naming) ds fs k s = parent_goes begun n ps (naming_on of_class naming k s) ds fs k s
  step (focus.SelfType begun n ps us naming) ds fs k s = self_goes begun n ps us (naming_on of_class_or_interface naming k s) ds fs k s
  step (focus.SelfNamed begun n ps us m) ds fs k s = after_self_name begun n ps us m ds fs k s
  step (focus.Def begun v) ds fs k s = after_def begun v ds fs k
  step (focus.DefSelf begun v) ds fs k s = after_def_self begun v ds fs k s
  step (focus.MethodStart begun v single) ds fs k s = method_start begun v single ds fs k
  step (focus.MethodWord sig) ds fs k s = after_method_word sig ds fs k s
  step (focus.MethodOperator begun v single o) ds fs k s = operator_ended begun v single o ds fs k (extended_at o k s)
  step (focus.MethodName sig) ds fs k s = after_method_name sig ds fs k
  step (focus.Overload sig done) ds fs k s = after_overload sig done ds fs k s
  step (focus.Attribute begun v a) ds fs k s = attribute_named begun v a ds fs (lower_of k)
  step (focus.AttributeName begun v a w) ds fs k s = after_attribute_name begun v a w ds fs k
  step (focus.Mixin begun m naming) ds fs k s = mixin_goes begun m (naming_on (mixin_use (site_of fs)) naming k s) ds fs k s
  step (focus.MixinNamed begun m n) ds fs k s = after_mixin_name begun m n ds fs k s
  step (focus.Alias begun) ds fs k s = new_begins begun ds fs k (method_word k)
  step (focus.NewWord begun w) ds fs k s = after_new_word begun w ds fs k s
  step (focus.NewEquals begun w) ds fs k s = after_new_equals begun w ds fs k s
  step (focus.NewEqualsEquals begun w) ds fs k s = after_new_equals_equals begun w ds fs k s
  step (focus.NewOperator begun o) ds fs k s = new_operator_ended begun o ds fs k (extended_at o k s)
  step (focus.NewName begun new) ds fs k s = after_new begun new ds fs k
  step (focus.OldWord begun new w capital) ds fs k s = old_ending begun new w capital ds fs k s
  step (focus.OldOperator begun new o) ds fs k s = old_operator_ended begun new o ds fs k s (extended_at o k s)
  step (focus.OldName begun new old) ds fs k s = then_part (Some (with_alias begun new old s.before ds fs)) k s
  step (focus.SelfWord begun) ds fs k s = after_self_word begun ds fs k
  step (focus.SelfDot begun) ds fs k s = after_self_dot begun ds fs k
  step (focus.Variable begun single w) ds fs k s = after_variable begun single w ds fs k
  step (focus.Typed p i) ds fs k s = typed_on p i (types.next i (token k s)) ds fs k s

  -- what a token does, where there are no limits
  abbrev pub next : State → Token → Option State
  next m c = step m.focus m.decls m.frames c.kind c.spot

  -- ---- the end of the text, whose last token ends at the byte `e`

  abbrev pub capital_ended : Bool → Step → Option State → Option State
  capital_ended true step_at.Upper o = o
  capital_ended _ _ o = None

  abbrev pub operator_whole : Operator → Option State → Option State
  operator_whole o m = if is_operator o then m else None

  abbrev pub type_ended : Purpose → Option PlainTy → ℕ → PlainDecls → List Frame → Option State
  type_ended p None e ds fs = None
  type_ended p (Some t) e ds fs = settled_type p t e ds fs

  -- the state where what is whole went to where it belongs
  abbrev pub settled : Focus → ℕ → PlainDecls → List Frame → Option State
  settled focus.Parts e ds fs = at focus.Parts ds fs
  settled (focus.Typed p i) e ds fs = type_ended p (types.final i) e ds fs
  settled _ e ds fs = None

  abbrev pub only_decls : PlainDecls → List Frame → Option PlainDecls
  only_decls ds [] = Some ds
  only_decls ds (f ∷ fs) = None

  abbrev pub whole_file : Option State → Option PlainDecls
  whole_file None = None
  whole_file (Some m) = only_decls m.decls m.frames

  -- the declarations of a text that ends here; members and headings need an `end`
  abbrev pub final : ℕ → State → Option PlainDecls
  final e m = whole_file (settled m.focus e m.decls m.frames)
