-- The written grammar of declarations, over terminals.
use Rattle.std.specs.Prelude.{ℕ, ◌≡◌, Bool, true, false, not, ◌&&◌, List, [], ◌∷◌, ◌++◌, Option, Some, None}
use Rattle.names.specs.Places.{same_name}
use Rattle.rbs_terminals.specs.declared.token.Token.{Token}
use Rattle.rbs_terminals.specs.declared.token.Spot.{Spot}
use Rattle.rbs_terminals.specs.declared.token.Mark.{Mark}
use Rattle.rbs_terminals.specs.declared.token.Mark.TheVariants as mark
use Rattle.rbs_terminals.specs.declared.token.Keyword.{Keyword}
use Rattle.rbs_terminals.specs.declared.token.Keyword.TheVariants as keyword
use Rattle.rbs_terminals.specs.declared.token.Kind.{Kind}
use Rattle.rbs_terminals.specs.declared.token.Kind.TheVariants as kind
use Rattle.rbs_terminals.specs.Kinds.{lower_of}
use Rattle.sig_model.specs.declared.place.Place.{Place}
use Rattle.sig_model.specs.declared.ty.TypeName.{TypeName}
use Rattle.sig_model.specs.declared.decl.Notes.{Notes}
use Rattle.sig_model.specs.declared.decl.Variance.{Variance}
use Rattle.sig_model.specs.declared.decl.Variance.TheVariants as variance
use Rattle.sig_model.specs.declared.decl.Vis.{Vis}
use Rattle.sig_model.specs.declared.decl.AttrKind.{AttrKind}
use Rattle.sig_model.specs.declared.decl.MixKind.{MixKind}
use Rattle.sig_model.specs.declared.decl.MixKind.TheVariants as mixin
use Rattle.sig_model.specs.PlainTy as plain
use Rattle.sig_model.specs.PlainTy.{PlainTy, PlainTys, PlainFun}
use Rattle.sig_model.specs.PlainMember.{PlainParam, PlainMethod, PlainMember, method, attr, mixin as mixed, alias as renamed, ivar, section}
use Rattle.sig_model.specs.PlainDecl as decl
use Rattle.sig_model.specs.PlainDecl.{PlainDecl, PlainBody, PlainParts, PlainDecls, append_parts, append_decls}
use Rattle.rbs_types.specs.Symbols.{token, sign, word, scope_follows}
use Rattle.rbs_types.specs.Plains.{and_ty}
use Rattle.rbs_types.specs.Grammar.{Use, of_class, of_interface, of_alias, of_class_or_interface, Name, Spells, type, Lists, Function}
use Rattle.rbs_declarations.specs.declared.operators.Operator.{Operator}
use Rattle.rbs_declarations.specs.Operators.{operator_text, is_operator, begun_by}
use Rattle.rbs_declarations.specs.Words.{vis_of, attribute_of, mixin_of, variance_of, method_word, is_capital, is_joined, ending_of, extended_at, extension, vis_belongs, start_at, end_at, comments_at}

-- ---- names of methods

-- The marks of an operator from the second on: as many as it can have.
pub data Marks : Operator → Operator → List Token → List Token → Type 0 where
  no_more : {o : Operator} {rest : List Token} → is_operator o ≡ true → extension o rest ≡ None → Marks o o rest rest
  one_more : {o o' o'' : Operator} (m : Mark) (s : Spot) {ts rest : List Token} → extended_at o (kind.Mark m) s ≡ Some o' → Marks o' o'' ts rest → Marks o o'' (sign m s ∷ ts) rest

-- A word, alone or with `?`, `!` or `=` directly behind it, or an operator. A `::` behind a capital word on its line begins nothing: it could only go on with a name.
pub data MethodName : List ℕ → List Token → List Token → Type 0 where
  bare_word : (k : Kind) (w : List ℕ) (s : Spot) {rest : List Token} → method_word k ≡ Some w → (is_capital k && scope_follows rest) ≡ false → MethodName w (token k s ∷ rest) rest
  marked_word : (k : Kind) (w e : List ℕ) (m : Mark) (s s' : Spot) {rest : List Token} → method_word k ≡ Some w → ending_of m ≡ Some e → is_joined s' ≡ true
      → MethodName (w ++ e) (token k s ∷ sign m s' ∷ rest) rest
  an_operator : {o o' : Operator} (m : Mark) (s : Spot) {ts rest : List Token} → begun_by m ≡ Some o → Marks o o' ts rest → MethodName (operator_text o') (sign m s ∷ ts) rest

-- ---- names of types with arguments

-- A name that may have arguments, as a type.
pub data Applied : Use → PlainTy → List Token → List Token → Type 0 where
  unapplied : {u : Use} {n : TypeName} {ts rest : List Token} → Name u n ts rest → Applied u (plain.name n plain.no_tys) ts rest
  applied : {u : Use} {n : TypeName} {us : PlainTys} (s s' : Spot) {ts mid rest : List Token} → Name u n ts (sign mark.OpenSquare s ∷ mid) → Lists type mark.Comma plain.no_tys us mid (sign mark.CloseSquare s' ∷ rest)
      → Applied u (plain.name n us) ts rest

-- ---- type parameters

pub data Unchecked : Bool → List Token → List Token → Type 0 where
  checked : {rest : List Token} → Unchecked false rest rest
  unchecked : (s : Spot) {rest : List Token} → Unchecked true (word keyword.Unchecked s ∷ rest) rest

pub data Varied : Variance → List Token → List Token → Type 0 where
  fixed : {rest : List Token} → Varied variance.Fixed rest rest
  varied : (k : Keyword) (v : Variance) (s : Spot) {rest : List Token} → variance_of k ≡ Some v → Varied v (word k s ∷ rest) rest

pub data Bound : Option PlainTy → List Token → List Token → Type 0 where
  unbound : {rest : List Token} → Bound None rest rest
  bound : {t : PlainTy} (s : Spot) {ts rest : List Token} → Applied of_class_or_interface t ts rest → Bound (Some t) (sign mark.Less s ∷ ts) rest
  bound_single : {n : TypeName} (s s' s'' s''' : Spot) {ts rest : List Token} → Name of_class n ts (sign mark.Close s''' ∷ rest)
      → Bound (Some (plain.single n)) (sign mark.Less s ∷ word keyword.Singleton s' ∷ sign mark.Open s'' ∷ ts) rest

-- no parameter has this name
abbrev pub is_new_param : List ℕ → List PlainParam → Bool
is_new_param w [] = true
is_new_param w (p ∷ ps) = not (same_name w p.name) && is_new_param w ps

pub data Param : PlainParam → List Token → List Token → Type 0 where
  param : {u : Bool} {v : Variance} {b : Option PlainTy} (w : List ℕ) (s : Spot) {ts mid mid' rest : List Token} → Unchecked u ts mid → Varied v mid (token (kind.Upper w) s ∷ mid') → Bound b mid' rest
      → Param (record { name = w; unchecked = u; variance = v; bound = b }) ts rest

pub data ParamList : List PlainParam → List PlainParam → List Token → List Token → Type 0 where
  last_param : {before : List PlainParam} {p : PlainParam} {ts rest : List Token} → is_new_param p.name before ≡ true → Param p ts rest → ParamList before (before ++ p ∷ []) ts rest
  more_params : {before all : List PlainParam} {p : PlainParam} (s : Spot) {ts mid rest : List Token} → is_new_param p.name before ≡ true → Param p ts (sign mark.Comma s ∷ mid) → ParamList (before ++ p ∷ []) all mid rest
      → ParamList before all ts rest

pub data Params : List PlainParam → List Token → List Token → Type 0 where
  no_params : {rest : List Token} → Params [] rest rest
  params : {ps : List PlainParam} (s s' : Spot) {ts rest : List Token} → ParamList [] ps ts (sign mark.CloseSquare s' ∷ rest) → Params ps (sign mark.OpenSquare s ∷ ts) rest

-- ---- members

pub data Overloads : List PlainMethod → List PlainMethod → List Token → List Token → Type 0 where
  last_overload : {before : List PlainMethod} {ps : List PlainParam} {f : PlainFun} {ts mid rest : List Token} → Params ps ts mid → Function f mid rest
      → Overloads before (before ++ record { params = ps; fun = f } ∷ []) ts rest
  more_overloads : {before all : List PlainMethod} {ps : List PlainParam} {f : PlainFun} (s : Spot) {ts mid mid' rest : List Token} → Params ps ts mid → Function f mid (sign mark.Bar s ∷ mid')
      → Overloads (before ++ record { params = ps; fun = f } ∷ []) all mid' rest → Overloads before all ts rest

-- A visibility on the member's own line.
pub data Visible : Option Vis → List Token → List Token → Type 0 where
  unsaid : {rest : List Token} → Visible None rest rest
  said : (k : Keyword) (v : Vis) (s : Spot) {rest : List Token} → vis_of k ≡ Some v → vis_belongs rest ≡ true → Visible (Some v) (word k s ∷ rest) rest

pub data Single : Bool → List Token → List Token → Type 0 where
  of_instances : {rest : List Token} → Single false rest rest
  of_itself : (s s' : Spot) {rest : List Token} → Single true (word keyword.SelfWord s ∷ sign mark.Dot s' ∷ rest) rest

-- `Method v m e ts rest`: a method from its `def` on, which ends at the byte `e`.
pub data Method (last : ℕ) : Option Vis → PlainMember → ℕ → List Token → List Token → Type 0 where
  method_of : {v : Option Vis} {single : Bool} {n : List ℕ} {ms : List PlainMethod} (s s' : Spot) {ts mid mid' rest : List Token} → Single single ts mid → MethodName n mid (sign mark.Colon s' ∷ mid') → Overloads [] ms mid' rest
      → Method last v (method v single n ms) (end_at last rest) (word keyword.Def s ∷ ts) rest

-- A member of a class or a module, which ends at the byte `e`.
pub data Member (last : ℕ) : PlainMember → ℕ → List Token → List Token → Type 0 where
  a_method : {v : Option Vis} {m : PlainMember} {e : ℕ} {ts mid rest : List Token} → Visible v ts mid → Method last v m e mid rest → Member last m e ts rest
  attribute : {v : Option Vis} {t : PlainTy} (k : Keyword) (a : AttrKind) (k' : Kind) (w : List ℕ) (s s' s'' : Spot) {ts mid rest : List Token} → Visible v ts (word k s ∷ token k' s' ∷ sign mark.Colon s'' ∷ mid)
      → attribute_of k ≡ Some a → lower_of k' ≡ Some w → Spells type t mid rest → Member last (attr v a w t) (end_at last rest) ts rest
  a_mixin : {t : PlainTy} (k : Keyword) (m : MixKind) (s : Spot) {ts rest : List Token} → mixin_of k ≡ Some m → Applied of_class t ts rest → Member last (mixed m t) (end_at last rest) (word k s ∷ ts) rest
  an_alias : {new old : List ℕ} (s : Spot) {ts mid rest : List Token} → MethodName new ts mid → MethodName old mid rest → Member last (renamed new old) (end_at last rest) (word keyword.Alias s ∷ ts) rest
  variable : {single : Bool} {t : PlainTy} (w : List ℕ) (s s' : Spot) {ts mid rest : List Token} → Single single ts (token (kind.Variable w) s ∷ sign mark.Colon s' ∷ mid) → Spells type t mid rest
      → Member last (ivar single w t) (end_at last rest) ts rest
  a_section : (k : Keyword) (v : Vis) (s : Spot) {rest : List Token} → vis_of k ≡ Some v → vis_belongs rest ≡ false → Member last (section v) s.end (word k s ∷ rest) rest

-- A member of an interface.
pub data InterfaceMember (last : ℕ) : PlainMember → ℕ → List Token → List Token → Type 0 where
  interface_method : {n : List ℕ} {ms : List PlainMethod} (s s' : Spot) {ts mid rest : List Token} → MethodName n ts (sign mark.Colon s' ∷ mid) → Overloads [] ms mid rest
      → InterfaceMember last (method None false n ms) (end_at last rest) (word keyword.Def s ∷ ts) rest
  interface_mixin : {t : PlainTy} (s : Spot) {ts rest : List Token} → Applied of_interface t ts rest → InterfaceMember last (mixed mixin.Include t) (end_at last rest) (word keyword.Include s ∷ ts) rest

-- ---- declarations

pub data Annotations : List (List ℕ) → List (List ℕ) → List Token → List Token → Type 0 where
  no_annotations : {texts : List (List ℕ)} {rest : List Token} → Annotations texts texts rest rest
  annotation : {before all : List (List ℕ)} (w : List ℕ) (s : Spot) {ts rest : List Token} → Annotations (before ++ w ∷ []) all ts rest → Annotations before all (token (kind.Annotation w) s ∷ ts) rest

pub data Parent : Option PlainTy → List Token → List Token → Type 0 where
  no_parent : {rest : List Token} → Parent None rest rest
  parent : {t : PlainTy} (s : Spot) {ts rest : List Token} → Applied of_class t ts rest → Parent (Some t) (sign mark.Less s ∷ ts) rest

pub data SelfTypes : PlainTys → PlainTys → List Token → List Token → Type 0 where
  last_self : {before : PlainTys} {t : PlainTy} {ts rest : List Token} → Applied of_class_or_interface t ts rest → SelfTypes before (and_ty before t) ts rest
  more_selves : {before all : PlainTys} {t : PlainTy} (s : Spot) {ts mid rest : List Token} → Applied of_class_or_interface t ts (sign mark.Comma s ∷ mid) → SelfTypes (and_ty before t) all mid rest → SelfTypes before all ts rest

pub data Selves : PlainTys → List Token → List Token → Type 0 where
  no_selves : {rest : List Token} → Selves plain.no_tys rest rest
  selves : {ts' : PlainTys} (s : Spot) {ts rest : List Token} → SelfTypes plain.no_tys ts' ts rest → Selves ts' (sign mark.Colon s ∷ ts) rest

-- a declaration, or a member, at the end of the parts
abbrev pub and_inner : PlainParts → PlainDecl → PlainParts
and_inner ps d = append_parts ps (decl.inner d decl.no_parts)

abbrev pub and_member : PlainParts → Place → Notes → PlainMember → PlainParts
and_member ps p n m = append_parts ps (decl.member p n m decl.no_parts)

abbrev pub and_decl : PlainDecls → PlainDecl → PlainDecls
and_decl ds d = append_decls ds (decl.more_decls d decl.no_decls)

-- the notes whose comments stand before the first of these tokens
abbrev pub notes_at : List Token → List (List ℕ) → Notes
notes_at ts texts = record { comments = comments_at ts; annotations = texts }

-- from the first of these tokens on, up to a byte
abbrev pub from : ℕ → List Token → ℕ → Place
from file ts e = record { file = file; start = start_at ts; end = e }

-- In the file of this number, whose last token ends at the byte `last`.
module _ (file last : ℕ) where
  mutual
    pub data Declaration : PlainDecl → List Token → List Token → Type 0 where
      declaration : {texts : List (List ℕ)} {b : PlainBody} {e : ℕ} {ts mid rest : List Token} → Annotations [] texts ts mid → Body b e mid rest → Declaration (decl.decl (from file mid e) (notes_at ts texts) b) ts rest

    -- what is declared, which ends at the byte `e`
    pub data Body : PlainBody → ℕ → List Token → List Token → Type 0 where
      a_class : {n : TypeName} {ps : List PlainParam} {t : Option PlainTy} {parts : PlainParts} (s s' : Spot) {ts mid mid' mid'' rest : List Token} → Name of_class n ts mid → Params ps mid mid' → Parent t mid' mid''
          → Parts decl.no_parts parts mid'' (word keyword.End s' ∷ rest) → Body (decl.class n ps t parts) s'.end (word keyword.Class s ∷ ts) rest
      a_module : {n : TypeName} {ps : List PlainParam} {us : PlainTys} {parts : PlainParts} (s s' : Spot) {ts mid mid' mid'' rest : List Token} → Name of_class n ts mid → Params ps mid mid' → Selves us mid' mid''
          → Parts decl.no_parts parts mid'' (word keyword.End s' ∷ rest) → Body (decl.module n ps us parts) s'.end (word keyword.Module s ∷ ts) rest
      an_interface : {n : TypeName} {ps : List PlainParam} {parts : PlainParts} (s s' : Spot) {ts mid mid' rest : List Token} → Name of_interface n ts mid → Params ps mid mid'
          → InterfaceParts decl.no_parts parts mid' (word keyword.End s' ∷ rest) → Body (decl.iface n ps parts) s'.end (word keyword.Interface s ∷ ts) rest
      a_type : {n : TypeName} {ps : List PlainParam} {t : PlainTy} (s s' : Spot) {ts mid mid' rest : List Token} → Name of_alias n ts mid → Params ps mid (sign mark.Equals s' ∷ mid') → Spells type t mid' rest
          → Body (decl.alias n ps t) (end_at last rest) (word keyword.Type s ∷ ts) rest
      a_constant : {n : TypeName} {t : PlainTy} (s : Spot) {ts mid rest : List Token} → Name of_class n ts (sign mark.Colon s ∷ mid) → Spells type t mid rest → Body (decl.const n t) (end_at last rest) ts rest

    -- `Parts before all ts rest`: behind the parts `before`, further ones make them `all`.
    pub data Parts : PlainParts → PlainParts → List Token → List Token → Type 0 where
      no_part : {ps : PlainParts} {rest : List Token} → Parts ps ps rest rest
      inner_part : {before all : PlainParts} {d : PlainDecl} {ts mid rest : List Token} → Declaration d ts mid → Parts (and_inner before d) all mid rest → Parts before all ts rest
      member_part : {before all : PlainParts} {texts : List (List ℕ)} {m : PlainMember} {e : ℕ} {ts mid mid' rest : List Token} → Annotations [] texts ts mid → Member last m e mid mid'
          → Parts (and_member before (from file mid e) (notes_at ts texts) m) all mid' rest → Parts before all ts rest

    pub data InterfaceParts : PlainParts → PlainParts → List Token → List Token → Type 0 where
      no_interface_part : {ps : PlainParts} {rest : List Token} → InterfaceParts ps ps rest rest
      interface_part : {before all : PlainParts} {texts : List (List ℕ)} {m : PlainMember} {e : ℕ} {ts mid mid' rest : List Token} → Annotations [] texts ts mid → InterfaceMember last m e mid mid'
          → InterfaceParts (and_member before (from file mid e) (notes_at ts texts) m) all mid' rest → InterfaceParts before all ts rest

  -- behind the declarations `before`, the rest of the file makes them `all`
  pub data File : PlainDecls → PlainDecls → List Token → Type 0 where
    end_of_file : {ds : PlainDecls} → File ds ds []
    further : {before all : PlainDecls} {d : PlainDecl} {ts mid : List Token} → Declaration d ts mid → File (and_decl before d) all mid → File before all ts
