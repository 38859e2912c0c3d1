-- What is known at each place of a file: which phrases from there on make what was begun before it.
use Rattle.std.specs.Prelude.{ℕ, ◌≡◌, Bool, true, false, List, [], ◌∷◌, ◌++◌, Option, Some, None}
use Rattle.rbs_terminals.specs.declared.token.Token.{Token}
use Rattle.rbs_terminals.specs.declared.token.Spot.{Spot}
use Rattle.rbs_terminals.specs.declared.token.Mark.TheVariants as mark
use Rattle.rbs_terminals.specs.declared.token.Keyword.{Keyword}
use Rattle.rbs_terminals.specs.declared.token.Keyword.TheVariants as keyword
use Rattle.rbs_terminals.specs.declared.token.Kind.{Kind}
use Rattle.rbs_terminals.specs.declared.token.Kind.TheVariants as kind
use Rattle.rbs_terminals.specs.Kinds.{lower_of}
use Rattle.sig_model.specs.declared.place.Place.{Place}
use Rattle.sig_model.specs.declared.ty.TypeName.{TypeName}
use Rattle.sig_model.specs.declared.decl.Notes.{Notes}
use Rattle.sig_model.specs.declared.decl.Vis.{Vis}
use Rattle.sig_model.specs.declared.decl.MixKind.{MixKind}
use Rattle.sig_model.specs.PlainTy as plain
use Rattle.sig_model.specs.PlainTy.{PlainTy, PlainTys, PlainFun}
use Rattle.sig_model.specs.PlainMember.{PlainParam, PlainMethod, PlainMember, method, attr, mixin as mixed, alias as renamed, ivar, section}
use Rattle.sig_model.specs.PlainDecl as decl
use Rattle.sig_model.specs.PlainDecl.{PlainDecl, PlainBody, PlainParts, PlainDecls}
use Rattle.rbs_types.specs.declared.state.State.{State as TypeState}
use Rattle.rbs_types.specs.Symbols.{token, sign, word, on_line, scope_follows}
use Rattle.rbs_types.specs.Parts.{no_name}
use Rattle.rbs_types.specs.Grammar.{Use, of_class, of_alias, of_class_or_interface, ends_capital, Words, Name, Function, Phrase, Spelled}
use Rattle.rbs_types.proofs.Sound.{At}
use Rattle.rbs_declarations.specs.declared.operators.Operator.{Operator}
use Rattle.rbs_declarations.specs.declared.state.Begun.{Begun}
use Rattle.rbs_declarations.specs.declared.state.Step.{Step}
use Rattle.rbs_declarations.specs.declared.state.Step.TheVariants as step_at
use Rattle.rbs_declarations.specs.declared.state.Sort.{Sort}
use Rattle.rbs_declarations.specs.declared.state.Sort.TheVariants as sort
use Rattle.rbs_declarations.specs.declared.state.Heading.{Heading}
use Rattle.rbs_declarations.specs.declared.state.Heading.TheVariants as heading
use Rattle.rbs_declarations.specs.declared.state.Frame.{Frame}
use Rattle.rbs_declarations.specs.declared.state.Signature.{Signature}
use Rattle.rbs_declarations.specs.declared.state.Owner.{Owner}
use Rattle.rbs_declarations.specs.declared.state.Owner.TheVariants as owner
use Rattle.rbs_declarations.specs.declared.state.Param as a_param
use Rattle.rbs_declarations.specs.declared.state.Purpose.{Purpose}
use Rattle.rbs_declarations.specs.declared.state.Purpose.TheVariants as purpose
use Rattle.rbs_declarations.specs.declared.state.Focus.{Focus}
use Rattle.rbs_declarations.specs.declared.state.Focus.TheVariants as focus
use Rattle.rbs_declarations.specs.declared.state.State.{State}
use Rattle.rbs_declarations.specs.Operators.{operator_text}
use Rattle.rbs_declarations.specs.Words.{attribute_of, method_word, is_capital, is_joined, vis_belongs, end_at}
use Rattle.rbs_declarations.specs.Grammar.{Marks, MethodName, Applied, Unchecked, Varied, Bound, is_new_param, Param, ParamList, Params, Overloads, Visible, Single, Member, InterfaceMember, Annotations, Parent, SelfTypes, Selves, and_inner, and_member, and_decl, from, Body, Parts, InterfaceParts, File}
use Rattle.rbs_declarations.specs.Machine.{Progress, further, whole, before, stuck, use_of, body_of, bounded, signed, Site, in_file, in_class, in_interface, site_of, mixin_use, place_from}

-- ---- names of types

-- behind the first token of a name, where `N` is what is known where one is whole
abbrev pub InNameAt : Use → (TypeName → List Token → Type 0) → TypeName → Step → List Token → Type 0
InNameAt u N n step_at.Start ts = ⊥
InNameAt u N n step_at.Scope ts = (v : TypeName) (rest : List Token) → Words u n v ts rest → N v rest
InNameAt u N n step_at.Upper ts =
    (scope_follows ts ≡ false → ends_capital u ≡ true → N n ts)
    × ((s : Spot) (rest : List Token) → ts ≡ sign mark.Scope s ∷ rest → on_line s ≡ true → (v : TypeName) (end : List Token) → Words u n v rest end → N v end)

-- the same, or where it begins
abbrev pub NamingAt : Use → (TypeName → List Token → Type 0) → TypeName → Step → List Token → Type 0
NamingAt u N n step_at.Start ts = (n ≡ no_name) × ((v : TypeName) (rest : List Token) → Name u v ts rest → N v rest)
NamingAt u N n x ts = InNameAt u N n x ts

-- behind what a token does in a name
abbrev pub ProgressAt : Use → (TypeName → List Token → Type 0) → Progress → Kind → Spot → List Token → Type 0
ProgressAt u N (further naming) k s ts = InNameAt u N naming.name naming.step ts
ProgressAt u N (whole n) k s ts = N n ts
ProgressAt u N (before n) k s ts = N n (token k s ∷ ts)
ProgressAt u N stuck k s ts = Unit {0}

-- a name that may have arguments begins at `m`, where `Q` is what is known behind it
abbrev pub AppliedAt : Use → (PlainTy → List Token → Type 0) → List Token → Type 0
AppliedAt u Q m = (t : PlainTy) (rest : List Token) → Applied u t m rest → Q t rest

-- behind the name itself
abbrev pub WholeNameAt : Use → (PlainTy → List Token → Type 0) → TypeName → List Token → Type 0
WholeNameAt u Q n ts = (m : List Token) × AppliedAt u Q m × Name u n m ts

-- ---- names of methods

-- inside an operator that begins at `m`
abbrev pub OperatorAt : Operator → List Token → List Token → Type 0
OperatorAt o m ts = (o' : Operator) (rest : List Token) → Marks o o' ts rest → MethodName (operator_text o') m rest

-- the notes, with all annotations
abbrev pub noted : Notes → List (List ℕ) → Notes
noted n texts = record { comments = n.comments; annotations = texts }

module _ (file last : ℕ) where
  -- ---- open declarations

  abbrev pub PartsOf : Heading → PlainParts → PlainParts → List Token → List Token → Type 0
  PartsOf (heading.Interface n ps) = InterfaceParts file last
  PartsOf _ = Parts file last

  -- behind these parts of a declaration, where `D` is what is known behind the whole
  abbrev pub FrameAt : (PlainDecl → List Token → Type 0) → Begun → Heading → PlainParts → List Token → Type 0
  FrameAt D begun h parts ts =
      (all : PlainParts) (s : Spot) (rest : List Token) → PartsOf h parts all ts (word keyword.End s ∷ rest) → D (decl.decl (place_from file begun s.end) begun.notes (body_of h all)) rest

  -- `D` is what is known behind a declaration, and `M` behind a member
  module _ (D : PlainDecl → List Token → Type 0) (M : Place → Notes → PlainMember → List Token → Type 0) where
    -- ---- where a declaration or a part begins

    -- what is declared begins at `m`, behind its notes
    abbrev pub BodyAt : Begun → List Token → Type 0
    BodyAt begun m = (b : PlainBody) (e : ℕ) (rest : List Token) → Body file last b e m rest → D (decl.decl (place_from file begun e) begun.notes b) rest

    abbrev pub MemberAt : Begun → List Token → Type 0
    MemberAt begun m = (x : PlainMember) (e : ℕ) (rest : List Token) → Member last x e m rest → M (place_from file begun e) begun.notes x rest

    abbrev pub InterfaceMemberAt : Begun → List Token → Type 0
    InterfaceMemberAt begun m = (x : PlainMember) (e : ℕ) (rest : List Token) → InterfaceMember last x e m rest → M (place_from file begun e) begun.notes x rest

    -- behind what ends with the token before
    abbrev pub DeclaredAt : Begun → PlainBody → List Token → Type 0
    DeclaredAt begun b ts = D (decl.decl (place_from file begun (end_at last ts)) begun.notes b) ts

    abbrev pub MemberedAt : Begun → PlainMember → List Token → Type 0
    MemberedAt begun x ts = M (place_from file begun (end_at last ts)) begun.notes x ts

    -- behind these notes, of a declaration or a member
    abbrev pub NotedBodyAt : Notes → List Token → Type 0
    NotedBodyAt n ts = (texts : List (List ℕ)) (b : PlainBody) (e : ℕ) (mid rest : List Token) → Annotations n.annotations texts ts mid → Body file last b e mid rest → D (decl.decl (from file mid e) (noted n texts) b) rest

    abbrev pub NotedMemberAt : Notes → List Token → Type 0
    NotedMemberAt n ts = (texts : List (List ℕ)) (x : PlainMember) (e : ℕ) (mid rest : List Token) → Annotations n.annotations texts ts mid → Member last x e mid rest → M (from file mid e) (noted n texts) x rest

    abbrev pub NotedInterfaceMemberAt : Notes → List Token → Type 0
    NotedInterfaceMemberAt n ts =
        (texts : List (List ℕ)) (x : PlainMember) (e : ℕ) (mid rest : List Token) → Annotations n.annotations texts ts mid → InterfaceMember last x e mid rest → M (from file mid e) (noted n texts) x rest

    abbrev pub SiteAt : Site → Notes → List Token → Type 0
    SiteAt in_file n ts = NotedBodyAt n ts
    SiteAt in_class n ts = NotedBodyAt n ts × NotedMemberAt n ts
    SiteAt in_interface n ts = NotedInterfaceMemberAt n ts

    -- ---- headings

    abbrev pub OpenAt : Begun → Heading → List Token → Type 0
    OpenAt begun h ts = FrameAt D begun h decl.no_parts ts

    -- behind the type parameters
    abbrev pub HeadingAt : Begun → Sort → TypeName → List PlainParam → List Token → Type 0
    HeadingAt begun sort.Class n ps ts = (t : Option PlainTy) (rest : List Token) → Parent t ts rest → OpenAt begun (heading.Class n ps t) rest
    HeadingAt begun sort.Module n ps ts = (us : PlainTys) (rest : List Token) → Selves us ts rest → OpenAt begun (heading.Module n ps us) rest
    HeadingAt begun sort.Interface n ps ts = OpenAt begun (heading.Interface n ps) ts
    HeadingAt begun sort.Alias n ps ts = (s : Spot) × (m : List Token) × (mid : List Token) × BodyAt begun (word keyword.Type s ∷ m) × Name of_alias n m mid × Params ps mid ts
    HeadingAt begun sort.Constant n ps ts = (m : List Token) × BodyAt begun m × Name of_class n m ts

    -- behind the name
    abbrev pub NamedAt : Begun → Sort → TypeName → List Token → Type 0
    NamedAt begun sort.Constant n ts = HeadingAt begun sort.Constant n [] ts
    NamedAt begun x n ts = (ps : List PlainParam) (rest : List Token) → Params ps ts rest → HeadingAt begun x n ps rest

    -- behind a superclass
    abbrev pub ParentAt : Begun → TypeName → List PlainParam → PlainTy → List Token → Type 0
    ParentAt begun n ps t ts = OpenAt begun (heading.Class n ps (Some t)) ts

    -- a self type begins at `m`, behind these
    abbrev pub SelvesAt : Begun → TypeName → List PlainParam → PlainTys → List Token → Type 0
    SelvesAt begun n ps us m = (all : PlainTys) (rest : List Token) → SelfTypes us all m rest → OpenAt begun (heading.Module n ps all) rest

    -- behind it
    abbrev pub SelfAt : Begun → TypeName → List PlainParam → PlainTys → PlainTy → List Token → Type 0
    SelfAt begun n ps us t ts = (m : List Token) × SelvesAt begun n ps us m × Applied of_class_or_interface t m ts

    -- ---- methods

    -- an overload begins at `ts`, behind these
    abbrev pub OverloadsAt : Signature → List PlainMethod → List Token → Type 0
    OverloadsAt sig done ts = (ms : List PlainMethod) (rest : List Token) → Overloads done ms ts rest → MemberedAt sig.begun (method sig.vis sig.single sig.name ms) rest

    -- the name begins at `ts`
    abbrev pub MethodAt : Begun → Option Vis → Bool → List Token → Type 0
    MethodAt begun v single ts = (n : List ℕ) (s : Spot) (rest : List Token) → MethodName n ts (sign mark.Colon s ∷ rest) → OverloadsAt (signed file begun v single n) [] rest

    abbrev pub DefAt : Begun → Option Vis → List Token → Type 0
    DefAt begun v ts = (single : Bool) (mid : List Token) → Single single ts mid → MethodAt begun v single mid

    -- behind the type parameters of an overload
    abbrev pub FunctionAt : Signature → List PlainMethod → List PlainParam → List Token → Type 0
    FunctionAt sig done ps ts = (m : List Token) × OverloadsAt sig done m × Params ps m ts

    -- ---- type parameters

    abbrev pub ParameterizedAt : Owner → List PlainParam → List Token → Type 0
    ParameterizedAt (owner.Heading begun x n) ps ts = HeadingAt begun x n ps ts
    ParameterizedAt (owner.Overload sig done) ps ts = FunctionAt sig done ps ts

    -- a type parameter begins at `ts`, behind these
    abbrev pub ParamsAt : Owner → List PlainParam → List Token → Type 0
    ParamsAt o done ts = (ps : List PlainParam) (s : Spot) (rest : List Token) → ParamList done ps ts (sign mark.CloseSquare s ∷ rest) → ParameterizedAt o ps rest

    -- behind it
    abbrev pub ParamAt : Owner → List PlainParam → PlainParam → List Token → Type 0
    ParamAt o done p ts = (m : List Token) × ParamsAt o done m × (is_new_param p.name done ≡ true) × Param p m ts

    -- the bound of this one begins at `ts`
    abbrev pub BoundAt : Owner → List PlainParam → a_param.Param → List Token → Type 0
    BoundAt o done p ts = (t : Option PlainTy) (rest : List Token) → Bound t ts rest → ParamAt o done (bounded p t) rest

    -- behind its bound
    abbrev pub BoundedAt : Owner → List PlainParam → a_param.Param → PlainTy → List Token → Type 0
    BoundedAt o done p t ts = ParamAt o done (bounded p (Some t)) ts

    -- behind the name of the class of a bound
    abbrev pub SingleAt : Owner → List PlainParam → a_param.Param → TypeName → List Token → Type 0
    SingleAt o done p n ts =
        (s : Spot) × (s' : Spot) × (s'' : Spot) × (m : List Token) × BoundAt o done p (sign mark.Less s ∷ word keyword.Singleton s' ∷ sign mark.Open s'' ∷ m) × Name of_class n m ts

    -- in the name of a bound, or where it begins
    abbrev pub BoundNamingAt : Owner → List PlainParam → a_param.Param → TypeName → Step → List Token → Type 0
    BoundNamingAt o done p n step_at.Start ts = (n ≡ no_name) × (s : Spot) × BoundAt o done p (sign mark.Less s ∷ ts)
    BoundNamingAt o done p n x ts = InNameAt of_class_or_interface (WholeNameAt of_class_or_interface (BoundedAt o done p)) n x ts

    -- behind these, the last of which is whole
    abbrev pub ParamsDoneAt : Owner → List PlainParam → List Token → Type 0
    ParamsDoneAt o ps ts = (done : List PlainParam) × (p : PlainParam) × (ps ≡ done ++ p ∷ []) × ParamAt o done p ts

    -- ---- other members

    -- behind the visibility of a member
    abbrev pub VisAt : Begun → Option Vis → List Token → Type 0
    VisAt begun v ts = (m : List Token) × MemberAt begun m × Visible v m ts

    -- behind a visibility that ends at the byte `e`
    abbrev pub VisibleAt : Begun → Vis → ℕ → List Token → Type 0
    VisibleAt begun v e ts = (vis_belongs ts ≡ false → M (place_from file begun e) begun.notes (section v) ts) × (vis_belongs ts ≡ true → VisAt begun (Some v) ts)

    abbrev pub MixedAt : Begun → MixKind → PlainTy → List Token → Type 0
    MixedAt begun m t ts = MemberedAt begun (mixed m t) ts

    -- the old name begins at `ts`
    abbrev pub OldAt : Begun → List ℕ → List Token → Type 0
    OldAt begun new ts = (old : List ℕ) (rest : List Token) → MethodName old ts rest → MemberedAt begun (renamed new old) rest

    -- the new name begins at `ts`
    abbrev pub AliasAt : Begun → List Token → Type 0
    AliasAt begun ts = (new : List ℕ) (mid : List Token) → MethodName new ts mid → OldAt begun new mid

    -- ---- types

    -- behind a type for this purpose
    abbrev pub BehindAt : Purpose → PlainTy → List Token → Type 0
    BehindAt (purpose.Alias begun n ps) t ts = DeclaredAt begun (decl.alias n ps t) ts
    BehindAt (purpose.Constant begun n) t ts = DeclaredAt begun (decl.const n t) ts
    BehindAt (purpose.Attribute begun v a x) t ts = MemberedAt begun (attr v a x t) ts
    BehindAt (purpose.Variable begun single x) t ts = MemberedAt begun (ivar single x t) ts
    BehindAt (purpose.Overload sig done ps) t ts = (f : PlainFun) × (t ≡ plain.fun f) × (m : List Token) × FunctionAt sig done ps m × Function f m ts
    BehindAt (purpose.Parent begun n ps) t ts = ParentAt begun n ps t ts
    BehindAt (purpose.SelfType begun n ps us) t ts = SelfAt begun n ps us t ts
    BehindAt (purpose.Mixin begun m) t ts = MixedAt begun m t ts
    BehindAt (purpose.Bound o done p) t ts = BoundedAt o done p t ts

    abbrev pub TypedAt : Purpose → TypeState → List Token → Type 0
    TypedAt p i ts = (q : Phrase) × (m : List Token) × At q m i ts × ((t : PlainTy) (rest : List Token) → Spelled q t m rest → BehindAt p t rest)

    -- ---- all

    -- `P` is what is known where a part may begin
    abbrev pub FocusAt : Site → (List Token → Type 0) → Focus → List Token → Type 0
    FocusAt w P focus.Parts ts = P ts
    FocusAt w P (focus.Noted begun) ts = SiteAt w begun.notes ts
    FocusAt w P (focus.Visible begun v e) ts = VisibleAt begun v e ts
    FocusAt w P (focus.Name begun x naming) ts = NamingAt (use_of x) (NamedAt begun x) naming.name naming.step ts
    FocusAt w P (focus.Named begun x n) ts = NamedAt begun x n ts
    FocusAt w P (focus.Param o done) ts = ParamsAt o done ts
    FocusAt w P (focus.Unchecked o done) ts = (s : Spot) × ParamsAt o done (word keyword.Unchecked s ∷ ts)
    FocusAt w P (focus.Varied o done unchecked v) ts = (m : List Token) × (mid : List Token) × ParamsAt o done m × Unchecked unchecked m mid × Varied v mid ts
    FocusAt w P (focus.ParamName o done p) ts = BoundAt o done p ts
    FocusAt w P (focus.Bound o done p naming) ts = BoundNamingAt o done p naming.name naming.step ts
    FocusAt w P (focus.BoundNamed o done p n) ts = WholeNameAt of_class_or_interface (BoundedAt o done p) n ts
    FocusAt w P (focus.BoundSingleton o done p) ts = (s : Spot) × (s' : Spot) × BoundAt o done p (sign mark.Less s ∷ word keyword.Singleton s' ∷ ts)
    FocusAt w P (focus.BoundClass o done p naming) ts = NamingAt of_class (SingleAt o done p) naming.name naming.step ts
    FocusAt w P (focus.Bounded o ps) ts = ParamsDoneAt o ps ts
    FocusAt w P (focus.Parameterized o ps) ts = ParameterizedAt o ps ts
    FocusAt w P (focus.Parent begun n ps naming) ts = NamingAt of_class (WholeNameAt of_class (ParentAt begun n ps)) naming.name naming.step ts
    FocusAt w P (focus.SelfType begun n ps us naming) ts = NamingAt of_class_or_interface (WholeNameAt of_class_or_interface (SelfAt begun n ps us)) naming.name naming.step ts
    FocusAt w P (focus.SelfNamed begun n ps us v) ts = WholeNameAt of_class_or_interface (SelfAt begun n ps us) v ts
    FocusAt w P (focus.Def begun v) ts = DefAt begun v ts
    FocusAt w P (focus.DefSelf begun v) ts = (s : Spot) × DefAt begun v (word keyword.SelfWord s ∷ ts)
    FocusAt w P (focus.MethodStart begun v single) ts = MethodAt begun v single ts
    FocusAt w P (focus.MethodWord sig) ts = (k : Kind) × (s : Spot) × (method_word k ≡ Some sig.name) × MethodAt sig.begun sig.vis sig.single (token k s ∷ ts)
    FocusAt w P (focus.MethodOperator begun v single o) ts = (m : List Token) × MethodAt begun v single m × OperatorAt o m ts
    FocusAt w P (focus.MethodName sig) ts = (m : List Token) × MethodAt sig.begun sig.vis sig.single m × MethodName sig.name m ts
    FocusAt w P (focus.Overload sig done) ts = OverloadsAt sig done ts
    FocusAt w P (focus.Attribute begun v a) ts = (k : Keyword) × (s : Spot) × (attribute_of k ≡ Some a) × VisAt begun v (word k s ∷ ts)
    FocusAt w P (focus.AttributeName begun v a x) ts =
        (k : Keyword) × (s : Spot) × (k' : Kind) × (s' : Spot) × (attribute_of k ≡ Some a) × (lower_of k' ≡ Some x) × VisAt begun v (word k s ∷ token k' s' ∷ ts)
    FocusAt w P (focus.Mixin begun m naming) ts = NamingAt (mixin_use w) (WholeNameAt (mixin_use w) (MixedAt begun m)) naming.name naming.step ts
    FocusAt w P (focus.MixinNamed begun m n) ts = WholeNameAt (mixin_use w) (MixedAt begun m) n ts
    FocusAt w P (focus.Alias begun) ts = AliasAt begun ts
    FocusAt w P (focus.NewWord begun x) ts = (k : Kind) × (s : Spot) × (method_word k ≡ Some x) × AliasAt begun (token k s ∷ ts)
    FocusAt w P (focus.NewEquals begun x) ts = (k : Kind) × (s : Spot) × (s' : Spot) × (method_word k ≡ Some x) × (is_joined s' ≡ true) × AliasAt begun (token k s ∷ sign mark.Equals s' ∷ ts)
    FocusAt w P (focus.NewEqualsEquals begun x) ts = (k : Kind) × (s : Spot) × (s' : Spot) × (s'' : Spot) × (method_word k ≡ Some x) × (is_joined s' ≡ true) × (is_joined s'' ≡ true)
        × AliasAt begun (token k s ∷ sign mark.Equals s' ∷ sign mark.Equals s'' ∷ ts)
    FocusAt w P (focus.NewOperator begun o) ts = (m : List Token) × AliasAt begun m × OperatorAt o m ts
    FocusAt w P (focus.NewName begun new) ts = OldAt begun new ts
    FocusAt w P (focus.OldWord begun new x capital) ts = (k : Kind) × (s : Spot) × (method_word k ≡ Some x) × (is_capital k ≡ capital) × OldAt begun new (token k s ∷ ts)
    FocusAt w P (focus.OldOperator begun new o) ts = (m : List Token) × OldAt begun new m × OperatorAt o m ts
    FocusAt w P (focus.OldName begun new old) ts = MemberedAt begun (renamed new old) ts
    FocusAt w P (focus.SelfWord begun) ts = (s : Spot) × MemberAt begun (word keyword.SelfWord s ∷ ts)
    FocusAt w P (focus.SelfDot begun) ts = (s : Spot) × (s' : Spot) × MemberAt begun (word keyword.SelfWord s ∷ sign mark.Dot s' ∷ ts)
    FocusAt w P (focus.Variable begun single x) ts = (m : List Token) × (s : Spot) × MemberAt begun m × Single single m (token (kind.Variable x) s ∷ ts)
    FocusAt w P (focus.Typed p i) ts = TypedAt p i ts

  -- ---- the whole file, whose tokens are `text`

  module _ (text : List Token) where
    abbrev pub FileAt : PlainDecls → List Token → Type 0
    FileAt ds ts = (all : PlainDecls) → File file last ds all ts → File file last decl.no_decls all text

    -- behind a declaration in the innermost of these frames
    abbrev pub BehindDecl : PlainDecls → List Frame → PlainDecl → List Token → Type 0
    BehindDecl ds [] d ts = FileAt (and_decl ds d) ts
    BehindDecl ds (f ∷ fs) d ts = FrameAt (BehindDecl ds fs) f.begun f.heading (and_inner f.parts d) ts

    -- behind a member there
    abbrev pub BehindMember : PlainDecls → List Frame → Place → Notes → PlainMember → List Token → Type 0
    BehindMember ds [] p n x ts = ⊥
    BehindMember ds (f ∷ fs) p n x ts = FrameAt (BehindDecl ds fs) f.begun f.heading (and_member f.parts p n x) ts

    abbrev pub PartsAt : PlainDecls → List Frame → List Token → Type 0
    PartsAt ds [] ts = FileAt ds ts
    PartsAt ds (f ∷ fs) ts = FrameAt (BehindDecl ds fs) f.begun f.heading f.parts ts

    -- the state is right where `ts` is left
    abbrev pub StateAt : State → List Token → Type 0
    StateAt m ts = FocusAt (BehindDecl m.decls m.frames) (BehindMember m.decls m.frames) (site_of m.frames) (PartsAt m.decls m.frames) m.focus ts

    abbrev pub StepAt : Option State → List Token → Type 0
    StepAt None ts = Unit {0}
    StepAt (Some m) ts = StateAt m ts

    -- the declarations that are whole at the end
    abbrev pub EndAt : Option PlainDecls → Type 0
    EndAt None = Unit {0}
    EndAt (Some all) = File file last decl.no_decls all text
