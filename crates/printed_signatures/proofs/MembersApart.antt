-- Printed members and headings are told apart.
use Rattle.std.proofs.Common.{ℕ, ◌≡◌, refl, sym, ◌∙◌, ap, subst, Bool, true, false, List, [], ◌∷◌, ◌++◌, inl, inr, arith}
use Rattle.std.specs.Prelude.{◌⊎◌, ◌==◌, ◌||◌, map, codes, Option, Some, None}
use Rattle.sig_model.specs.declared.decl.Variance.{Variance}
use Rattle.sig_model.specs.declared.decl.Variance.TheVariants as variance
use Rattle.sig_model.specs.declared.decl.Vis.{Vis}
use Rattle.sig_model.specs.declared.decl.Vis.TheVariants as vis
use Rattle.sig_model.specs.declared.decl.AttrKind.{AttrKind}
use Rattle.sig_model.specs.declared.decl.AttrKind.TheVariants as attribute
use Rattle.sig_model.specs.declared.decl.MixKind.{MixKind}
use Rattle.sig_model.specs.declared.decl.MixKind.TheVariants as a_mixin
use Rattle.sig_model.specs.PlainTy as plain
use Rattle.sig_model.specs.PlainTy.{PlainTy, PlainTys}
use Rattle.sig_model.specs.PlainMember.{PlainParam, PlainMethod, PlainMember, method, attr, mixin, alias, ivar, section}
use Rattle.sig_model.specs.PlainDecl as decl
use Rattle.sig_model.specs.PlainDecl.{PlainBody}
use Rattle.rbs_lexer.specs.declared.token.TokenKind.TheVariants as token
use Rattle.rbs_lexer.specs.Pieces.{Repeated, IsCharacter, is_note_character}
use Rattle.rbs_lexer.specs.Names.{IsMethodName}
use Rattle.rbs_terminals.specs.declared.token.Mark.TheVariants as mark
use Rattle.rbs_terminals.specs.declared.token.Keyword.TheVariants as a_keyword
use Rattle.rbs_types.specs.Grammar.{Use, of_class, of_interface, of_alias, of_class_or_interface}
use Rattle.rbs_printer.specs.Texts.{vis_text, attribute_text, mixin_text}
use Rattle.rbs_printer.specs.Types.{whole}
use Rattle.printed_tokens.specs.Pieces.{Piece, blank, tok, first_byte, ends, ends_name, Apart}
use Rattle.printed_tokens.specs.Layout.{word, sign, keyword, joined, where_set, placed, comma, name_pieces, method_pieces, type_pieces, types_at, arguments_pieces, function_pieces, bound_pieces, variance_pieces, parameter_pieces, parameters_pieces, overload_parameters, overload_pieces, vis_before, self_before, member_pieces, annotation_piece, parent_pieces, selves_pieces, heading}
use Rattle.printed_signatures.specs.Writable.{IsName, IsType, AreTypes, IsApplied, IsBoundType, IsBound, AreParameters, AreOverloads, IsOverloaded, IsMember, IsInterfaceMember, IsParent, AreSelves, IsBody}
use Rattle.printed_signatures.proofs.KeywordWords.{name_rest}
use Rattle.printed_signatures.proofs.Appended.{first_append, apart_append, is_stop, is_end, stop_is_end, end_of_name, mark_is, Rows}
use Rattle.printed_signatures.proofs.NamesApart.{upper_apart, lower_apart, keyword_apart, name_apart}
use Rattle.printed_signatures.proofs.MethodWords.{method_apart, is_behind_name}
use Rattle.printed_signatures.proofs.TypesApart.{stop_ends, by_commas, by_marks, type_apart, types_apart, function_apart}

-- ---- words of their own

vis_apart : (v : Vis) (ps : List Piece) (b : ℕ) → ends_name (first_byte ps b) ≡ true → Apart ps b → Apart (tok token.Ident (vis_text v) ∷ ps) b
vis_apart vis.Public ps b e h = ((refl, name_rest _ refl, λ h. absurd (omega (arith, h.0))), tt, e, h)
vis_apart vis.Private ps b e h = ((refl, name_rest _ refl, λ h. absurd (omega (arith, h.0))), tt, e, h)

attribute_apart : (k : AttrKind) (ps : List Piece) (b : ℕ) → ends_name (first_byte ps b) ≡ true → Apart ps b → Apart (tok token.Ident (attribute_text k) ∷ ps) b
attribute_apart attribute.Reader ps b e h = ((refl, name_rest _ refl, λ h. absurd (omega (arith, h.0))), tt, e, h)
attribute_apart _ ps b e h = ((refl, name_rest _ refl, λ h. absurd (omega (arith, h.0))), tt, e, h)

mixin_apart : (k : MixKind) (ps : List Piece) (b : ℕ) → ends_name (first_byte ps b) ≡ true → Apart ps b → Apart (tok token.Ident (mixin_text k) ∷ ps) b
mixin_apart a_mixin.Include ps b e h = ((refl, name_rest _ refl, λ h. absurd (omega (arith, h.0))), tt, e, h)
mixin_apart _ ps b e h = ((refl, name_rest _ refl, λ h. absurd (omega (arith, h.0))), tt, e, h)

-- ---- names with arguments, and type parameters

pub applied_apart : (u : Use) (t : PlainTy) → IsApplied u t → (b : ℕ) → is_end b ≡ true → Apart (type_pieces t) b
applied_apart u (plain.name n plain.no_tys) h b e = apart_append (name_pieces n) [] b (name_apart u n h.0 b (end_of_name b e)) tt
applied_apart u (plain.name n (plain.more_tys t ts)) h b e =
    apart_append (name_pieces n) (arguments_pieces (plain.more_tys t ts)) b (name_apart u n h.0 91 refl) (
      mark_is mark.OpenSquare,
      tt,
      refl,
      apart_append (joined comma (type_pieces t ∷ types_at whole ts)) (sign mark.CloseSquare ∷ []) b
          (by_commas (type_pieces t ∷ types_at whole ts) ((λ c f. type_apart t h.1.0 c (stop_ends t c f)), types_apart whole ts h.1.1) 93 refl) (mark_is mark.CloseSquare, tt, refl, tt),
    )
applied_apart u (plain.single n) h b e = absurd h
applied_apart u (plain.opt t) h b e = absurd h
applied_apart u (plain.union ts) h b e = absurd h
applied_apart u (plain.inter ts) h b e = absurd h
applied_apart u (plain.tuple ts) h b e = absurd h
applied_apart u (plain.rec ks) h b e = absurd h
applied_apart u (plain.fun f) h b e = absurd h
applied_apart u (plain.int n) h b e = absurd h
applied_apart u (plain.str w) h b e = absurd h
applied_apart u (plain.sym w) h b e = absurd h
applied_apart u (plain.base t) h b e = absurd h

bound_type_apart : (t : PlainTy) → IsBoundType t → (b : ℕ) → is_end b ≡ true → Apart (type_pieces t) b
bound_type_apart (plain.single n) h b e = type_apart (plain.single n) h b e
bound_type_apart (plain.name n ts) h b e = applied_apart of_class_or_interface (plain.name n ts) h b e
bound_type_apart (plain.opt t) h b e = absurd h
bound_type_apart (plain.union ts) h b e = absurd h
bound_type_apart (plain.inter ts) h b e = absurd h
bound_type_apart (plain.tuple ts) h b e = absurd h
bound_type_apart (plain.rec ks) h b e = absurd h
bound_type_apart (plain.fun f) h b e = absurd h
bound_type_apart (plain.int n) h b e = absurd h
bound_type_apart (plain.str w) h b e = absurd h
bound_type_apart (plain.sym w) h b e = absurd h
bound_type_apart (plain.base t) h b e = absurd h

bound_apart : (o : Option PlainTy) → IsBound o → (b : ℕ) → is_end b ≡ true → Apart (bound_pieces o) b
bound_apart None h b e = tt
bound_apart (Some t) h b e = (mark_is mark.Less, tt, refl, bound_type_apart t h b e)

bound_begins : (o : Option PlainTy) (b : ℕ) → is_end b ≡ true → ends_name (first_byte (bound_pieces o) b) ≡ true
bound_begins None b e = end_of_name b e
bound_begins (Some t) b e = refl

-- what stands before a parameter's name ends in a blank or is nothing
variance_apart : (v : Variance) (b : ℕ) → Apart (variance_pieces v) b
variance_apart variance.Fixed b = tt
variance_apart variance.Out b = keyword_apart a_keyword.Out (blank ∷ []) b refl tt
variance_apart variance.In b = keyword_apart a_keyword.In (blank ∷ []) b refl tt

unchecked_apart : (t : Bool) (b : ℕ) → Apart (where_set t (keyword a_keyword.Unchecked ∷ blank ∷ [])) b
unchecked_apart true b = keyword_apart a_keyword.Unchecked (blank ∷ []) b refl tt
unchecked_apart false b = tt

parameters_rows : (ps : List PlainParam) → AreParameters ps → Rows (map parameter_pieces ps)
parameters_rows [] h = tt
parameters_rows (p ∷ ps) h = (row, parameters_rows ps h.3)
  where
    row : (b : ℕ) → is_stop b ≡ true → Apart (parameter_pieces p) b
    row b e =
        let before = where_set p.unchecked (keyword a_keyword.Unchecked ∷ blank ∷ []) in
        let f = stop_is_end b e in
        apart_append (before ++ variance_pieces p.variance) (word p.name ∷ bound_pieces p.bound) b
        (apart_append before (variance_pieces p.variance) _ (unchecked_apart p.unchecked _) (variance_apart p.variance _))
        (upper_apart p.name h.0 (bound_pieces p.bound) b (bound_begins p.bound b f) (bound_apart p.bound h.1 b f))

pub parameters_apart : (ps : List PlainParam) → AreParameters ps → (b : ℕ) → Apart (parameters_pieces ps) b
parameters_apart [] h b = tt
parameters_apart (p ∷ ps) h b =
    (mark_is mark.OpenSquare, tt, refl, apart_append (joined comma (map parameter_pieces (p ∷ ps))) (sign mark.CloseSquare ∷ []) b (by_commas (map parameter_pieces (p ∷ ps)) (parameters_rows (p ∷ ps) h) 93 refl) (mark_is mark.CloseSquare, tt, refl, tt))

-- ---- overloads

overload_parameters_apart : (ps : List PlainParam) → AreParameters ps → (b : ℕ) → Apart (overload_parameters ps) b
overload_parameters_apart [] h b = tt
overload_parameters_apart (p ∷ ps) h b = apart_append (parameters_pieces (p ∷ ps)) (blank ∷ []) b (parameters_apart (p ∷ ps) h 32) tt

overloads_rows : (ms : List PlainMethod) → AreOverloads ms → Rows (map overload_pieces ms)
overloads_rows [] h = tt
overloads_rows (m ∷ ms) h =
    ((λ b e. apart_append (overload_parameters m.params) (function_pieces m.fun) b (overload_parameters_apart m.params h.0 _) (function_apart m.fun h.1 b (stop_ends (plain.fun m.fun) b e))), overloads_rows ms h.2)

some_overloads : (ms : List PlainMethod) → IsOverloaded ms → AreOverloads ms
some_overloads [] h = absurd h
some_overloads (m ∷ ms) h = h

-- ---- members

vis_before_apart : (v : Option Vis) (b : ℕ) → Apart (vis_before v) b
vis_before_apart None b = tt
vis_before_apart (Some v) b = vis_apart v (blank ∷ []) b refl tt

self_before_apart : (single : Bool) (b : ℕ) → Apart (self_before single) b
self_before_apart true b = keyword_apart a_keyword.SelfWord (sign mark.Dot ∷ []) b refl (mark_is mark.Dot, tt, refl, tt)
self_before_apart false b = tt

method_member : (v : Option Vis) (single : Bool) (w : List ℕ) (ms : List PlainMethod) → IsMethodName w → IsOverloaded ms → Apart (member_pieces (method v single w ms)) 10
method_member v single w ms n o =
    let overloads = joined (blank ∷ sign mark.Bar ∷ blank ∷ []) (map overload_pieces ms) in
    let before = vis_before v ++ keyword a_keyword.Def ∷ blank ∷ self_before single in
    apart_append (before ++ method_pieces w) (sign mark.Colon ∷ blank ∷ overloads) 10
    (apart_append before (method_pieces w) 58
    (apart_append (vis_before v) (keyword a_keyword.Def ∷ blank ∷ self_before single) _ (vis_before_apart v _) (keyword_apart a_keyword.Def (blank ∷ self_before single) _ refl (self_before_apart single _)))
    (method_apart w n 58 refl))
    (mark_is mark.Colon, tt, refl, by_marks mark.Bar refl (map overload_pieces ms) (overloads_rows ms (some_overloads ms o)) 10 refl)

pub member_apart : (m : PlainMember) → IsMember m → Apart (member_pieces m) 10
member_apart (method v single w ms) h = method_member v single w ms h.0 h.1
member_apart (attr v k w t) h =
    apart_append (vis_before v) (tok token.Ident (attribute_text k) ∷ blank ∷ word w ∷ sign mark.Colon ∷ blank ∷ type_pieces t) 10 (vis_before_apart v _)
    (attribute_apart k (blank ∷ word w ∷ sign mark.Colon ∷ blank ∷ type_pieces t) 10 refl (lower_apart w h.0 (sign mark.Colon ∷ blank ∷ type_pieces t) 10 refl (mark_is mark.Colon, tt, refl, type_apart t h.1 10 (stop_ends t 10 refl))))
member_apart (mixin k t) h = mixin_apart k (blank ∷ type_pieces t) 10 refl (applied_apart of_class t h 10 refl)
member_apart (alias new old) h =
    apart_append (keyword a_keyword.Alias ∷ blank ∷ method_pieces new) (blank ∷ method_pieces old) 10
    (keyword_apart a_keyword.Alias (blank ∷ method_pieces new) 32 refl (method_apart new h.0 32 refl)) (method_apart old h.1 10 refl)
member_apart (ivar single w t) h =
    apart_append (self_before single) (tok token.Ivar (64 ∷ w) ∷ sign mark.Colon ∷ blank ∷ type_pieces t) 10 (self_before_apart single _)
    ((refl, h.0), tt, refl, (mark_is mark.Colon, tt, refl, type_apart t h.1 10 (stop_ends t 10 refl)))
member_apart (section v) h = vis_apart v [] 10 refl tt

pub interface_member_apart : (m : PlainMember) → IsInterfaceMember m → Apart (member_pieces m) 10
interface_member_apart (method None false w ms) h = method_member None false w ms h.0 h.1
interface_member_apart (method None true w ms) h = absurd h
interface_member_apart (method (Some v) single w ms) h = absurd h
interface_member_apart (mixin a_mixin.Include t) h = mixin_apart a_mixin.Include (blank ∷ type_pieces t) 10 refl (applied_apart of_interface t h 10 refl)
interface_member_apart (mixin a_mixin.Extend t) h = absurd h
interface_member_apart (mixin a_mixin.Prepend t) h = absurd h
interface_member_apart (attr v k w t) h = absurd h
interface_member_apart (alias new old) h = absurd h
interface_member_apart (ivar single w t) h = absurd h
interface_member_apart (section v) h = absurd h

-- ---- headings

parent_apart : (o : Option PlainTy) → IsParent o → Apart (parent_pieces o) 10
parent_apart None h = tt
parent_apart (Some t) h = (mark_is mark.Less, tt, refl, applied_apart of_class t h 10 refl)

selves_rows : (ts : PlainTys) → AreSelves ts → Rows (types_at whole ts)
selves_rows plain.no_tys h = tt
selves_rows (plain.more_tys t ts) h = ((λ b e. self_row t h.0 b e), selves_rows ts h.1)
  where
    self_row : (t : PlainTy) → IsApplied of_class_or_interface t → (b : ℕ) → is_stop b ≡ true → Apart (placed whole t (type_pieces t)) b
    self_row (plain.name n us) h b e = applied_apart of_class_or_interface (plain.name n us) h b (stop_is_end b e)
    self_row (plain.single n) h b e = absurd h
    self_row (plain.opt t) h b e = absurd h
    self_row (plain.union ts) h b e = absurd h
    self_row (plain.inter ts) h b e = absurd h
    self_row (plain.tuple ts) h b e = absurd h
    self_row (plain.rec ks) h b e = absurd h
    self_row (plain.fun f) h b e = absurd h
    self_row (plain.int n) h b e = absurd h
    self_row (plain.str w) h b e = absurd h
    self_row (plain.sym w) h b e = absurd h
    self_row (plain.base t) h b e = absurd h

selves_apart : (ts : PlainTys) → AreSelves ts → Apart (selves_pieces ts) 10
selves_apart plain.no_tys h = tt
selves_apart (plain.more_tys t ts) h = (mark_is mark.Colon, tt, refl, by_commas (types_at whole (plain.more_tys t ts)) (selves_rows (plain.more_tys t ts) h) 10 refl)

-- ends a name: the first byte of what stands behind a declaration's name
parameters_begin : (ps : List PlainParam) (b : ℕ) → ends_name b ≡ true → ends_name (first_byte (parameters_pieces ps) b) ≡ true
parameters_begin [] b e = e
parameters_begin (p ∷ ps) b e = refl

parent_begins : (o : Option PlainTy) → ends_name (first_byte (parent_pieces o) 10) ≡ true
parent_begins None = refl
parent_begins (Some t) = refl

selves_begin : (ts : PlainTys) → ends_name (first_byte (selves_pieces ts) 10) ≡ true
selves_begin plain.no_tys = refl
selves_begin (plain.more_tys t ts) = refl

pub heading_apart : (b : PlainBody) → IsBody b → Apart (heading b) 10
heading_apart (decl.class n ps t parts) h =
    let next = first_byte (parent_pieces t) 10 in
    apart_append (keyword a_keyword.Class ∷ blank ∷ name_pieces n ++ parameters_pieces ps) (parent_pieces t) 10
    (apart_append (keyword a_keyword.Class ∷ blank ∷ name_pieces n) (parameters_pieces ps) next
    (keyword_apart a_keyword.Class (blank ∷ name_pieces n) _ refl (name_apart of_class n h.0 _ (parameters_begin ps next (parent_begins t)))) (parameters_apart ps h.1 next))
    (parent_apart t h.2)
heading_apart (decl.module n ps ts parts) h =
    let next = first_byte (selves_pieces ts) 10 in
    apart_append (keyword a_keyword.Module ∷ blank ∷ name_pieces n ++ parameters_pieces ps) (selves_pieces ts) 10
    (apart_append (keyword a_keyword.Module ∷ blank ∷ name_pieces n) (parameters_pieces ps) next
    (keyword_apart a_keyword.Module (blank ∷ name_pieces n) _ refl (name_apart of_class n h.0 _ (parameters_begin ps next (selves_begin ts)))) (parameters_apart ps h.1 next))
    (selves_apart ts h.2)
heading_apart (decl.iface n ps parts) h =
    apart_append (keyword a_keyword.Interface ∷ blank ∷ name_pieces n) (parameters_pieces ps) 10
    (keyword_apart a_keyword.Interface (blank ∷ name_pieces n) _ refl (name_apart of_interface n h.0 _ (parameters_begin ps 10 refl))) (parameters_apart ps h.1 10)
heading_apart (decl.alias n ps t) h =
    apart_append (keyword a_keyword.Type ∷ blank ∷ name_pieces n ++ parameters_pieces ps) (blank ∷ sign mark.Equals ∷ blank ∷ type_pieces t) 10
    (apart_append (keyword a_keyword.Type ∷ blank ∷ name_pieces n) (parameters_pieces ps) 32
    (keyword_apart a_keyword.Type (blank ∷ name_pieces n) _ refl (name_apart of_alias n h.0 _ (parameters_begin ps 32 refl))) (parameters_apart ps h.1 32))
    (mark_is mark.Equals, tt, refl, type_apart t h.2 10 (stop_ends t 10 refl))
heading_apart (decl.const n t) h = apart_append (name_pieces n) (sign mark.Colon ∷ blank ∷ type_pieces t) 10 (name_apart of_class n h.0 58 refl) (mark_is mark.Colon, tt, refl, type_apart t h.1 10 (stop_ends t 10 refl))

pub annotation_apart : (w : List ℕ) → Repeated (IsCharacter is_note_character) w → Apart (annotation_piece w ∷ []) 10
annotation_apart w h = ((refl, (refl, (refl, (w, h, refl)))), tt, refl, tt)
