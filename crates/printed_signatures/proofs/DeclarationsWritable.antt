-- Declarations that terminals spell can be written.
use Rattle.std.specs.Prelude.{◌≡◌, refl, ℕ, Bool, true, false, not, ◌&&◌, ◌⊎◌, codes, List, [], ◌∷◌, ◌++◌, Option, Some, None}
use Rattle.std.proofs.Common.{sym, subst, ap, ◌∙◌, inl, inr}
use Rattle.names.specs.Places.{same_name}
use Rattle.rbs_lexer.specs.Names.{IsUpper, IsLower, IsWord, IsMethodName}
use Rattle.rbs_terminals.specs.declared.token.Token.{Token}
use Rattle.rbs_terminals.specs.declared.token.Spot.{Spot}
use Rattle.rbs_terminals.specs.declared.token.Kind.{Kind}
use Rattle.rbs_terminals.specs.declared.token.Kind.TheVariants as kind
use Rattle.rbs_terminals.specs.declared.token.Mark.{Mark}
use Rattle.rbs_terminals.specs.declared.token.Mark.TheVariants as mark
use Rattle.rbs_terminals.specs.Keywords.{keyword_text}
use Rattle.sig_model.specs.declared.place.Place.{Place}
use Rattle.sig_model.specs.declared.ty.TypeName.{TypeName}
use Rattle.sig_model.specs.declared.decl.Notes.{Notes}
use Rattle.sig_model.specs.declared.decl.Variance.{Variance}
use Rattle.sig_model.specs.declared.decl.Vis.{Vis}
use Rattle.sig_model.specs.declared.decl.MixKind.TheVariants as mixin
use Rattle.sig_model.specs.PlainTy as plain
use Rattle.sig_model.specs.PlainTy.{PlainTy, PlainTys}
use Rattle.sig_model.specs.PlainMember.{PlainParam, PlainMethod, PlainMember}
use Rattle.sig_model.specs.PlainDecl as decl
use Rattle.sig_model.specs.PlainDecl.{PlainDecl, PlainBody, PlainParts, PlainDecls}
use Rattle.rbs_types.specs.Plains.{and_ty}
use Rattle.rbs_types.specs.Grammar.{Use, of_class_or_interface}
use Rattle.rbs_declarations.specs.declared.operators.Operator.{Operator}
use Rattle.rbs_declarations.specs.declared.operators.Operator.TheVariants as operator
use Rattle.rbs_declarations.specs.Operators.{operator_text, is_operator}
use Rattle.rbs_declarations.specs.Words.{method_word, ending_of, comments_at}
use Rattle.rbs_declarations.specs.Grammar.{Marks, no_more, one_more, MethodName, bare_word, marked_word, an_operator, Applied, unapplied, applied, Unchecked, checked, unchecked, Varied, fixed, varied, Bound, unbound, bound, bound_single, is_new_param, Param, param, ParamList, last_param, more_params, Params, no_params, params, Overloads, last_overload, more_overloads, Visible, unsaid, said, Single, of_instances, of_itself, Method, method_of, Member, a_method, attribute, a_mixin, an_alias, variable, a_section, InterfaceMember, interface_method, interface_mixin, Annotations, no_annotations, annotation, Parent, no_parent, parent, SelfTypes, last_self, more_selves, Selves, no_selves, selves, and_inner, and_member, and_decl, notes_at, Declaration, declaration, Body, a_class, a_module, an_interface, a_type, a_constant, Parts, no_part, inner_part, member_part, InterfaceParts, no_interface_part, interface_part, File, end_of_file, further}
use Rattle.printed_signatures.specs.Writable.{IsName, IsType, AreTypes, IsFunction, IsApplied, IsBoundType, IsBound, is_new_name, AreParameters, AreOverloads, IsOverloaded, IsMember, IsInterfaceMember, AreAnnotations, AreComments, AreNotes, IsParent, AreSelves, IsBody, IsDeclaration, AreParts, AreInterfaceParts, AreWritable}
use Rattle.printed_signatures.specs.Lexical.{IsLexical, IsLexicalKind}
use Rattle.printed_signatures.proofs.KeywordWords.{keyword_is_lower}
use Rattle.printed_signatures.proofs.ListsWritable.{and_left, and_right, and_both, differs_turned}
use Rattle.printed_signatures.proofs.TypesWritable.{AreLexical, lower_written, name_written, type_written, types_written, function_of_written}

-- ---- names of methods

word_of : (k : Kind) (w : List ℕ) → method_word k ≡ Some w → IsLexicalKind k → IsWord w
word_of (kind.Lower v) w e h = let same : v ≡ w = cc in subst IsWord same (inl h.0)
word_of (kind.Upper v) w e h = let same : v ≡ w = cc in subst IsWord same (inr h)
word_of (kind.Keyword k) w e h = let same : keyword_text k ≡ w = cc in subst IsWord same (inl (keyword_is_lower k))
word_of (kind.Interface v) w e h = absurd cc
word_of (kind.Variable v) w e h = absurd cc
word_of (kind.Integer v) w e h = absurd cc
word_of (kind.Text v) w e h = absurd cc
word_of (kind.Symbol v) w e h = absurd cc
word_of (kind.Annotation v) w e h = absurd cc
word_of (kind.Mark v) w e h = absurd cc
word_of kind.PastInteger w e h = absurd cc
word_of kind.Stray w e h = absurd cc

ended_word : (w : List ℕ) (m : Mark) (e : List ℕ) → IsWord w → ending_of m ≡ Some e → IsMethodName (w ++ e)
ended_word w mark.Question e h i = let same : codes "?" ≡ e = cc in subst (λ e. IsMethodName (w ++ e)) same (inl (inr (w, 63, h, refl, refl)))
ended_word w mark.Bang e h i = let same : codes "!" ≡ e = cc in subst (λ e. IsMethodName (w ++ e)) same (inl (inr (w, 33, h, refl, refl)))
ended_word w mark.Equals e h i = let same : codes "=" ≡ e = cc in subst (λ e. IsMethodName (w ++ e)) same (inl (inr (w, 61, h, refl, refl)))
ended_word w _ e h i = absurd cc

operator_written : (o : Operator) → is_operator o ≡ true → IsMethodName (operator_text o)
operator_written operator.Assign e = absurd cc
operator_written operator.Open e = absurd cc
operator_written _ e = inr refl

marks_written : {o p : Operator} {ts rest : List Token} → Marks o p ts rest → AreLexical ts → (is_operator p ≡ true) × AreLexical rest
marks_written (no_more i e) h = (i, h)
marks_written (one_more m s e d) h = marks_written d h.1

pub method_name_written : {w : List ℕ} {ts rest : List Token} → MethodName w ts rest → AreLexical ts → IsMethodName w × AreLexical rest
method_name_written (bare_word k w s e f) h = (inl (inl (word_of k w e h.0.kind)), h.1)
method_name_written (marked_word k w e m s s' f g j) h = (ended_word w m e (word_of k w f h.0.kind) g, h.1.1)
method_name_written (an_operator {o' = o} m s e d) h = let a = marks_written d h.1 in (operator_written o a.0, a.1)

-- ---- names with arguments, and type parameters

pub applied_written : {u : Use} {t : PlainTy} {ts rest : List Token} → Applied u t ts rest → AreLexical ts → IsApplied u t × AreLexical rest
applied_written (unapplied d) h = let a = name_written d h in ((a.0, tt), a.1)
applied_written (applied s s' d ds) h = let a = name_written d h in let b = types_written ds tt a.1.1 in ((a.0, b.0), b.1.1)

unchecked_written : {b : Bool} {ts rest : List Token} → Unchecked b ts rest → AreLexical ts → AreLexical rest
unchecked_written checked h = h
unchecked_written (unchecked s) h = h.1

varied_written : {v : Variance} {ts rest : List Token} → Varied v ts rest → AreLexical ts → AreLexical rest
varied_written fixed h = h
varied_written (varied k v s e) h = h.1

bound_of_applied : (t : PlainTy) → IsApplied of_class_or_interface t → IsBoundType t
bound_of_applied (plain.name n ts) h = h
bound_of_applied (plain.single n) h = absurd h
bound_of_applied (plain.opt t) h = absurd h
bound_of_applied (plain.union ts) h = absurd h
bound_of_applied (plain.inter ts) h = absurd h
bound_of_applied (plain.tuple ts) h = absurd h
bound_of_applied (plain.rec ks) h = absurd h
bound_of_applied (plain.fun f) h = absurd h
bound_of_applied (plain.int n) h = absurd h
bound_of_applied (plain.str w) h = absurd h
bound_of_applied (plain.sym w) h = absurd h
bound_of_applied (plain.base b) h = absurd h

bound_written : {b : Option PlainTy} {ts rest : List Token} → Bound b ts rest → AreLexical ts → IsBound b × AreLexical rest
bound_written unbound h = (tt, h)
bound_written (bound {t = t} s d) h = let a = applied_written d h.1 in (bound_of_applied t a.0, a.1)
bound_written (bound_single s s' s'' s''' d) h = let a = name_written d h.1.1.1 in (a.0, a.1.1)

pub record IsParameter (p : PlainParam) : Type 0 where
  pub name : IsUpper p.name
  pub bound : IsBound p.bound

param_written : {p : PlainParam} {ts rest : List Token} → Param p ts rest → AreLexical ts → IsParameter p × AreLexical rest
param_written (param w s u v b) h =
    let i = varied_written v (unchecked_written u h) in
    let j = bound_written b i.1 in
    (record { name = i.0.kind; bound = j.0 }, j.1)

new_name_and : (w : List ℕ) (p : PlainParam) (ps : List PlainParam) → is_new_name w ps ≡ true → not (same_name w p.name) ≡ true → is_new_name w (ps ++ p ∷ []) ≡ true
new_name_and w p [] h d = and_both _ _ d refl
new_name_and w p (q ∷ ps) h d = and_both _ _ (and_left (not (same_name w q.name)) _ h) (new_name_and w p ps (and_right (not (same_name w q.name)) _ h) d)

params_and : (ps : List PlainParam) (p : PlainParam) → AreParameters ps → is_new_param p.name ps ≡ true → IsParameter p → AreParameters (ps ++ p ∷ [])
params_and [] p h d i = (i.name, i.bound, refl, tt)
params_and (q ∷ ps) p h d i =
    (h.0, h.1, new_name_and q.name p ps h.2 (differs_turned p.name q.name (and_left (not (same_name p.name q.name)) _ d)), params_and ps p h.3 (and_right (not (same_name p.name q.name)) _ d) i)

param_list_written : {before all : List PlainParam} {ts rest : List Token} → ParamList before all ts rest → AreParameters before → AreLexical ts → AreParameters all × AreLexical rest
param_list_written {before = before} (last_param {p = p} e d) b h = let a = param_written d h in (params_and before p b e a.0, a.1)
param_list_written {before = before} (more_params {p = p} s e d ds) b h = let a = param_written d h in param_list_written ds (params_and before p b e a.0) a.1.1

pub params_written : {ps : List PlainParam} {ts rest : List Token} → Params ps ts rest → AreLexical ts → AreParameters ps × AreLexical rest
params_written no_params h = (tt, h)
params_written (params s s' ds) h = let a = param_list_written ds tt h.1 in (a.0, a.1.1)

-- ---- members

overloads_and : (ms : List PlainMethod) (m : PlainMethod) → AreOverloads ms → AreParameters m.params → IsFunction m.fun → AreOverloads (ms ++ m ∷ [])
overloads_and [] m h p f = (p, f, tt)
overloads_and (n ∷ ms) m h p f = (h.0, h.1, overloads_and ms m h.2 p f)

some_overloads : (ms : List PlainMethod) (m : PlainMethod) → AreOverloads (ms ++ m ∷ []) → IsOverloaded (ms ++ m ∷ [])
some_overloads [] m h = h
some_overloads (n ∷ ms) m h = h

pub overloads_written : {before all : List PlainMethod} {ts rest : List Token} → Overloads before all ts rest → AreOverloads before → AreLexical ts → IsOverloaded all × AreLexical rest
overloads_written {before = before} (last_overload {ps = ps} {f = f} p d) b h =
    let i = params_written p h in
    let j = function_of_written d i.1 in
    let m : PlainMethod = record { params = ps; fun = f } in
    (some_overloads before m (overloads_and before m b i.0 j.0), j.1)
overloads_written {before = before} (more_overloads {ps = ps} {f = f} s p d ds) b h =
    let i = params_written p h in
    let j = function_of_written d i.1 in
    let m : PlainMethod = record { params = ps; fun = f } in
    overloads_written ds (overloads_and before m b i.0 j.0) j.1.1

visible_written : {v : Option Vis} {ts rest : List Token} → Visible v ts rest → AreLexical ts → AreLexical rest
visible_written unsaid h = h
visible_written (said k v s e f) h = h.1

single_written : {b : Bool} {ts rest : List Token} → Single b ts rest → AreLexical ts → AreLexical rest
single_written of_instances h = h
single_written (of_itself s s') h = h.1.1

module _ (last : ℕ) where
  method_written : {v : Option Vis} {m : PlainMember} {e : ℕ} {ts rest : List Token} → Method last v m e ts rest → AreLexical ts → IsMember m × AreLexical rest
  method_written (method_of s s' d n o) h =
      let a = method_name_written n (single_written d h.1) in
      let b = overloads_written o tt a.1.1 in
      ((a.0, b.0), b.1)

  pub member_written : {m : PlainMember} {e : ℕ} {ts rest : List Token} → Member last m e ts rest → AreLexical ts → IsMember m × AreLexical rest
  member_written (a_method v d) h = method_written d (visible_written v h)
  member_written (attribute k a k' w s s' s'' v e f d) h =
      let i = visible_written v h in
      let j = type_written d i.1.1.1 in
      ((lower_written k' w f i.1.0.kind, j.0), j.1)
  member_written (a_mixin k m s e d) h = applied_written d h.1
  member_written (an_alias s d f) h = let a = method_name_written d h.1 in let b = method_name_written f a.1 in ((a.0, b.0), b.1)
  member_written (variable w s s' d f) h = let i = single_written d h in let j = type_written f i.1.1 in ((i.0.kind, j.0), j.1)
  member_written (a_section k v s e f) h = (tt, h.1)

  pub interface_member_written : {m : PlainMember} {e : ℕ} {ts rest : List Token} → InterfaceMember last m e ts rest → AreLexical ts → IsInterfaceMember m × AreLexical rest
  interface_member_written (interface_method s s' n o) h = let a = method_name_written n h.1 in let b = overloads_written o tt a.1.1 in ((a.0, b.0), b.1)
  interface_member_written (interface_mixin s d) h = applied_written d h.1

-- ---- declarations

annotations_and : (ws : List (List ℕ)) (w : List ℕ) → AreAnnotations ws → IsLexicalKind (kind.Annotation w) → AreAnnotations (ws ++ w ∷ [])
annotations_and [] w h i = (i, tt)
annotations_and (v ∷ ws) w h i = (h.0, annotations_and ws w h.1 i)

annotations_written : {before all : List (List ℕ)} {ts rest : List Token} → Annotations before all ts rest → AreAnnotations before → AreLexical ts → AreAnnotations all × AreLexical rest
annotations_written no_annotations b h = (b, h)
annotations_written {before = before} (annotation w s d) b h = annotations_written d (annotations_and before w b h.0.kind) h.1

comments_written : (ts : List Token) → AreLexical ts → AreComments (comments_at ts)
comments_written [] h = tt
comments_written (c ∷ ts) h = h.0.comments

notes_written : (ts : List Token) (texts : List (List ℕ)) → AreLexical ts → AreAnnotations texts → AreNotes (notes_at ts texts)
notes_written ts texts h i = (comments_written ts h, i)

parent_written : {t : Option PlainTy} {ts rest : List Token} → Parent t ts rest → AreLexical ts → IsParent t × AreLexical rest
parent_written no_parent h = (tt, h)
parent_written (parent s d) h = applied_written d h.1

selves_and : (us : PlainTys) (t : PlainTy) → AreSelves us → IsApplied of_class_or_interface t → AreSelves (and_ty us t)
selves_and plain.no_tys t h i = (i, tt)
selves_and (plain.more_tys u us) t h i = (h.0, selves_and us t h.1 i)

self_types_written : {before all : PlainTys} {ts rest : List Token} → SelfTypes before all ts rest → AreSelves before → AreLexical ts → AreSelves all × AreLexical rest
self_types_written {before = before} (last_self {t = t} d) b h = let a = applied_written d h in (selves_and before t b a.0, a.1)
self_types_written {before = before} (more_selves {t = t} s d ds) b h = let a = applied_written d h in self_types_written ds (selves_and before t b a.0) a.1.1

selves_written : {us : PlainTys} {ts rest : List Token} → Selves us ts rest → AreLexical ts → AreSelves us × AreLexical rest
selves_written no_selves h = (tt, h)
selves_written (selves s d) h = self_types_written d tt h.1

inner_and : (ps : PlainParts) (d : PlainDecl) → AreParts ps → IsDeclaration d → AreParts (and_inner ps d)
inner_and decl.no_parts d h i = (i, tt)
inner_and (decl.inner e ps) d h i = (h.0, inner_and ps d h.1 i)
inner_and (decl.member p n m ps) d h i = (h.0, h.1, inner_and ps d h.2 i)

member_and : (ps : PlainParts) (p : Place) (n : Notes) (m : PlainMember) → AreParts ps → AreNotes n → IsMember m → AreParts (and_member ps p n m)
member_and decl.no_parts p n m h i j = (i, j, tt)
member_and (decl.inner e ps) p n m h i j = (h.0, member_and ps p n m h.1 i j)
member_and (decl.member q o k ps) p n m h i j = (h.0, h.1, member_and ps p n m h.2 i j)

interface_and : (ps : PlainParts) (p : Place) (n : Notes) (m : PlainMember) → AreInterfaceParts ps → AreNotes n → IsInterfaceMember m → AreInterfaceParts (and_member ps p n m)
interface_and decl.no_parts p n m h i j = (i, j, tt)
interface_and (decl.inner e ps) p n m h i j = absurd h
interface_and (decl.member q o k ps) p n m h i j = (h.0, h.1, interface_and ps p n m h.2 i j)

module _ (file last : ℕ) where
  mutual
    pub declaration_written : {d : PlainDecl} {ts rest : List Token} → Declaration file last d ts rest → AreLexical ts → IsDeclaration d × AreLexical rest
    declaration_written {ts = ts} (declaration {texts = texts} a b) h =
        let i = annotations_written a tt h in
        let j = body_written b i.1 in
        ((notes_written ts texts h i.0, j.0), j.1)

    body_written : {b : PlainBody} {e : ℕ} {ts rest : List Token} → Body file last b e ts rest → AreLexical ts → IsBody b × AreLexical rest
    body_written (a_class s s' n p t ps) h =
        let i = name_written n h.1 in
        let j = params_written p i.1 in
        let k = parent_written t j.1 in
        let l = parts_written ps tt k.1 in
        ((i.0, j.0, k.0, l.0), l.1.1)
    body_written (a_module s s' n p t ps) h =
        let i = name_written n h.1 in
        let j = params_written p i.1 in
        let k = selves_written t j.1 in
        let l = parts_written ps tt k.1 in
        ((i.0, j.0, k.0, l.0), l.1.1)
    body_written (an_interface s s' n p ps) h =
        let i = name_written n h.1 in
        let j = params_written p i.1 in
        let l = interface_parts_written ps tt j.1 in
        ((i.0, j.0, l.0), l.1.1)
    body_written (a_type s s' n p t) h =
        let i = name_written n h.1 in
        let j = params_written p i.1 in
        let k = type_written t j.1.1 in
        ((i.0, j.0, k.0), k.1)
    body_written (a_constant s n t) h =
        let i = name_written n h in
        let k = type_written t i.1.1 in
        ((i.0, k.0), k.1)

    parts_written : {before all : PlainParts} {ts rest : List Token} → Parts file last before all ts rest → AreParts before → AreLexical ts → AreParts all × AreLexical rest
    parts_written no_part b h = (b, h)
    parts_written {before = before} (inner_part {d = d} e ds) b h = let i = declaration_written e h in parts_written ds (inner_and before d b i.0) i.1
    parts_written {before = before} {ts = ts} (member_part {texts = texts} {m = m} a d ds) b h =
        let i = annotations_written a tt h in
        let j = member_written last d i.1 in
        parts_written ds (member_and before _ _ m b (notes_written ts texts h i.0) j.0) j.1

    interface_parts_written : {before all : PlainParts} {ts rest : List Token} → InterfaceParts file last before all ts rest → AreInterfaceParts before → AreLexical ts → AreInterfaceParts all × AreLexical rest
    interface_parts_written no_interface_part b h = (b, h)
    interface_parts_written {before = before} {ts = ts} (interface_part {texts = texts} {m = m} a d ds) b h =
        let i = annotations_written a tt h in
        let j = interface_member_written last d i.1 in
        interface_parts_written ds (interface_and before _ _ m b (notes_written ts texts h i.0) j.0) j.1

  decls_and : (ds : PlainDecls) (d : PlainDecl) → AreWritable ds → IsDeclaration d → AreWritable (and_decl ds d)
  decls_and decl.no_decls d h i = (i, tt)
  decls_and (decl.more_decls e ds) d h i = (h.0, decls_and ds d h.1 i)

  pub file_written : {before all : PlainDecls} {ts : List Token} → File file last before all ts → AreWritable before → AreLexical ts → AreWritable all
  file_written end_of_file b h = b
  file_written {before = before} (further {d = d} e ds) b h = let i = declaration_written e h in file_written ds (decls_and before d b i.0) i.1
