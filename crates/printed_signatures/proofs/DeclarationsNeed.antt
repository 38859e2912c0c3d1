-- Each text of declarations opens as much as they need.
use Rattle.std.proofs.Common.{max, ℕ, ◌+◌, ◌-◌, ◌≤◌, ◌≡◌, refl, sym, ◌∙◌, ap, subst, Bool, true, false, List, [], ◌∷◌, ◌++◌, append_assoc, length, take, arith, length-append}
use Rattle.std.specs.Prelude.{Option, Some, None}
use Rattle.std.proofs.Math.Seq.{take-append_seam}
use Rattle.rbs_terminals.specs.declared.token.Token.{Token}
use Rattle.rbs_terminals.specs.declared.token.Spot.{Spot}
use Rattle.rbs_terminals.specs.declared.token.Mark.TheVariants as mark
use Rattle.rbs_terminals.specs.declared.token.Kind.TheVariants as kind
use Rattle.sig_model.specs.declared.decl.Vis.{Vis}
use Rattle.sig_model.specs.declared.decl.Notes.{Notes}
use Rattle.sig_model.specs.declared.place.Place.{Place}
use Rattle.sig_model.specs.PlainTy as plain
use Rattle.sig_model.specs.PlainTy.{PlainTy, PlainTys}
use Rattle.sig_model.specs.PlainMember.{PlainParam, PlainMethod, PlainMember}
use Rattle.sig_model.specs.PlainDecl as decl
use Rattle.sig_model.specs.PlainDecl.{PlainDecl, PlainBody, PlainParts, PlainDecls}
use Rattle.rbs_types.specs.Depth.{Depth, surely, behind}
use Rattle.rbs_types.specs.Symbols.{sign}
use Rattle.rbs_types.specs.Plains.{and_ty}
use Rattle.rbs_types.specs.Grammar.{Use}
use Rattle.rbs_printer.specs.Types.{whole, needs_parentheses}
use Rattle.rbs_declarations.specs.Grammar.{Applied, unapplied, applied, Bound, unbound, bound, bound_single, Param, param, ParamList, last_param, more_params, Params, no_params, params, Overloads, last_overload, more_overloads, Method, method_of, Member, a_method, attribute, a_mixin, an_alias, variable, a_section, InterfaceMember, interface_method, interface_mixin, Parent, no_parent, parent, SelfTypes, last_self, more_selves, Selves, no_selves, selves, and_inner, and_member, and_decl, notes_at, from, Declaration, declaration, Body, a_class, a_module, an_interface, a_type, a_constant, Parts, no_part, inner_part, member_part, InterfaceParts, no_interface_part, interface_part, File, end_of_file, further}
use Rattle.rbs_declarations.specs.Openness.{most_open, types_open, applied_open, bound_open, param_open, param_list_open, params_open, overloads_open, method_open, member_open, interface_member_open, parent_open, self_types_open, selves_open, declaration_open, body_open, parts_open, interface_parts_open, file_open}
use Rattle.printed_signatures.specs.Nesting.{around, nesting, nestings, function_nesting, option_nesting, bounds_nesting, params_nesting, overloads_nesting, member_nesting, body_nesting, decl_nesting, parts_nesting, decls_nesting}
use Rattle.printed_signatures.proofs.TokensOpen.{Opens, then_token}
use Rattle.printed_signatures.proofs.TypesNeed.{opens_of, name_needs, type_needs, types_need, function_needs}

-- what stands before the rest
pub front_of : (front rest : List Token) → take (length (front ++ rest) - length rest) (front ++ rest) ≡ front
front_of front rest = ap (λ n. take n (front ++ rest)) (omega (arith, length-append front rest)) ∙ take-append_seam front rest

-- tokens that open so much
pub opened : (n k : ℕ) (ts rest : List Token) → Opens k ts rest → n + k ≤ types_open n ts rest
opened n k ts rest h =
    let same : take (length ts - length rest) ts ≡ h.front = ap (λ ts. take (length ts - length rest) ts) h.whole ∙ front_of h.front rest in
    subst (λ front. n + k ≤ most_open (surely n) front) (sym same) (h.most n)

-- ---- names with arguments, and type parameters

applied_needs : {u : Use} {t : PlainTy} {ts rest : List Token} (d : Applied u t ts rest) → nesting t ≤ applied_open d
applied_needs (unapplied n) = omega arith
applied_needs (applied {n = n} {us = us} s s' {mid = mid} {rest = rest} d ds) =
    let (k, h, l) = types_need ds refl refl in
    omega (arith, name_needs n us, l, inside k mid s' rest h)
  where
    -- the closing bracket goes on with them
    inside : (k : ℕ) (mid : List Token) (s : Spot) (rest : List Token) → Opens k mid (sign mark.CloseSquare s ∷ rest) → 1 + k ≤ types_open 1 mid rest
    inside k mid s rest h =
        let whole : mid ≡ (h.front ++ sign mark.CloseSquare s ∷ []) ++ rest = h.whole ∙ sym (append_assoc h.front (sign mark.CloseSquare s ∷ []) rest) in
        let same : take (length mid - length rest) mid ≡ h.front ++ sign mark.CloseSquare s ∷ [] = ap (λ ts. take (length ts - length rest) ts) whole ∙ front_of (h.front ++ sign mark.CloseSquare s ∷ []) rest in
        subst (λ front. 1 + k ≤ most_open (surely 1) front) (sym same) (omega (arith, h.most 1, longer (surely 1) h.front (sign mark.CloseSquare s ∷ [])))
      where
        longer : (d : Depth) (ts us : List Token) → most_open d ts ≤ most_open d (ts ++ us)
        longer d [] [] = omega arith
        longer d [] (c ∷ us) = omega arith
        longer d (c ∷ ts) us = omega (arith, longer (behind d c) ts us)

bound_needs : {b : Option PlainTy} {ts rest : List Token} (d : Bound b ts rest) → option_nesting b ≤ bound_open d
bound_needs unbound = omega arith
bound_needs (bound s t) = applied_needs t
bound_needs (bound_single s s' s'' s''' n) = omega arith

param_needs : {p : PlainParam} {ts rest : List Token} (d : Param p ts rest) → option_nesting p.bound ≤ param_open d
param_needs (param w s u v b) = bound_needs b

bounds_and : (ps : List PlainParam) (p : PlainParam) → bounds_nesting (ps ++ p ∷ []) ≤ max (bounds_nesting ps) (option_nesting p.bound)
bounds_and [] p = omega arith
bounds_and (q ∷ ps) p = omega (arith, bounds_and ps p)

param_list_needs : {before all : List PlainParam} {ts rest : List Token} (d : ParamList before all ts rest) → bounds_nesting all ≤ max (bounds_nesting before) (param_list_open d)
param_list_needs {before = before} (last_param {p = p} e d) = omega (arith, param_needs d, bounds_and before p)
param_list_needs {before = before} (more_params {p = p} s e d ds) = omega (arith, param_needs d, param_list_needs ds, bounds_and before p)

params_at_most : (ps : List PlainParam) → params_nesting ps ≤ 1 + bounds_nesting ps
params_at_most [] = omega arith
params_at_most (p ∷ ps) = omega arith

params_need : {ps : List PlainParam} {ts rest : List Token} (d : Params ps ts rest) → params_nesting ps ≤ params_open d
params_need no_params = omega arith
params_need (params {ps = ps} s s' ds) = omega (arith, params_at_most ps, param_list_needs ds)

-- ---- members

overloads_and : (ms : List PlainMethod) (m : PlainMethod) → overloads_nesting (ms ++ m ∷ []) ≤ max (overloads_nesting ms) (max (params_nesting m.params) (function_nesting m.fun))
overloads_and [] m = omega arith
overloads_and (n ∷ ms) m = omega (arith, overloads_and ms m)

overloads_need : {before all : List PlainMethod} {ts rest : List Token} (d : Overloads before all ts rest) → overloads_nesting all ≤ max (overloads_nesting before) (overloads_open d)
overloads_need {before = before} (last_overload {ps = ps} {f = f} {mid = mid} {rest = rest} p d) =
    omega (arith, params_need p, opened 0 (function_nesting f) mid rest (function_needs d), overloads_and before (record { params = ps; fun = f }))
overloads_need {before = before} (more_overloads {ps = ps} {f = f} s {mid = mid} {mid' = mid'} p d ds) =
    omega (arith, params_need p, opened 0 (function_nesting f) mid (sign mark.Bar s ∷ mid') (function_needs d), overloads_need ds, overloads_and before (record { params = ps; fun = f }))

module _ {last : ℕ} where
  method_needs : {v : Option Vis} {m : PlainMember} {e : ℕ} {ts rest : List Token} (d : Method last v m e ts rest) → member_nesting m ≤ method_open d
  method_needs (method_of s s' i n o) = omega (arith, overloads_need o)

  member_needs : {m : PlainMember} {e : ℕ} {ts rest : List Token} (d : Member last m e ts rest) → member_nesting m ≤ member_open d
  member_needs (a_method v d) = method_needs d
  member_needs (attribute {t = t} k a k' w s s' s'' {mid = mid} {rest = rest} v e f d) = omega (arith, opened 0 (nesting t) mid rest (opens_of (type_needs d)))
  member_needs (a_mixin k m s e d) = applied_needs d
  member_needs (an_alias s d f) = omega arith
  member_needs (variable {t = t} w s s' {mid = mid} {rest = rest} d f) = omega (arith, opened 0 (nesting t) mid rest (opens_of (type_needs f)))
  member_needs (a_section k v s e f) = omega arith

  interface_member_needs : {m : PlainMember} {e : ℕ} {ts rest : List Token} (d : InterfaceMember last m e ts rest) → member_nesting m ≤ interface_member_open d
  interface_member_needs (interface_method s s' n o) = omega (arith, overloads_need o)
  interface_member_needs (interface_mixin s d) = applied_needs d

-- ---- declarations

parent_needs : {t : Option PlainTy} {ts rest : List Token} (d : Parent t ts rest) → option_nesting t ≤ parent_open d
parent_needs no_parent = omega arith
parent_needs (parent s d) = applied_needs d

selves_and : (us : PlainTys) (t : PlainTy) → nestings whole (and_ty us t) ≤ max (nestings whole us) (nesting t)
selves_and plain.no_tys t = omega (arith, bare t)
  where
    bare : (t : PlainTy) → around (needs_parentheses whole t) (nesting t) ≤ nesting t
    bare (plain.union ts) = omega arith
    bare _ = omega arith
selves_and (plain.more_tys u us) t = omega (arith, selves_and us t)

self_types_need : {before all : PlainTys} {ts rest : List Token} (d : SelfTypes before all ts rest) → nestings whole all ≤ max (nestings whole before) (self_types_open d)
self_types_need {before = before} (last_self {t = t} d) = omega (arith, applied_needs d, selves_and before t)
self_types_need {before = before} (more_selves {t = t} s d ds) = omega (arith, applied_needs d, self_types_need ds, selves_and before t)

selves_need : {us : PlainTys} {ts rest : List Token} (d : Selves us ts rest) → nestings whole us ≤ selves_open d
selves_need no_selves = omega arith
selves_need (selves s d) = omega (arith, self_types_need d)

inner_and : (ps : PlainParts) (d : PlainDecl) → parts_nesting (and_inner ps d) ≤ max (parts_nesting ps) (decl_nesting d)
inner_and decl.no_parts d = omega arith
inner_and (decl.inner e ps) d = omega (arith, inner_and ps d)
inner_and (decl.member p n m ps) d = omega (arith, inner_and ps d)

member_and : (ps : PlainParts) (p : Place) (n : Notes) (m : PlainMember) → parts_nesting (and_member ps p n m) ≤ max (parts_nesting ps) (member_nesting m)
member_and decl.no_parts p n m = omega arith
member_and (decl.inner e ps) p n m = omega (arith, member_and ps p n m)
member_and (decl.member q o k ps) p n m = omega (arith, member_and ps p n m)

decls_and : (ds : PlainDecls) (d : PlainDecl) → decls_nesting (and_decl ds d) ≤ max (decls_nesting ds) (decl_nesting d)
decls_and decl.no_decls d = omega arith
decls_and (decl.more_decls e ds) d = omega (arith, decls_and ds d)

module _ {file last : ℕ} where
  mutual
    declaration_needs : {d : PlainDecl} {ts rest : List Token} (h : Declaration file last d ts rest) → decl_nesting d ≤ declaration_open h
    declaration_needs (declaration a b) = body_needs b

    body_needs : {b : PlainBody} {e : ℕ} {ts rest : List Token} (h : Body file last b e ts rest) → body_nesting b ≤ body_open h
    body_needs (a_class s s' n p t ps) = omega (arith, params_need p, parent_needs t, parts_need ps)
    body_needs (a_module s s' n p t ps) = omega (arith, params_need p, selves_need t, parts_need ps)
    body_needs (an_interface s s' n p ps) = omega (arith, params_need p, interface_parts_need ps)
    body_needs (a_type {t = t} s s' {mid' = mid} {rest = rest} n p d) = omega (arith, params_need p, opened 0 (nesting t) mid rest (opens_of (type_needs d)))
    body_needs (a_constant {t = t} s {mid = mid} {rest = rest} n d) = omega (arith, opened 0 (nesting t) mid rest (opens_of (type_needs d)))

    parts_need : {before all : PlainParts} {ts rest : List Token} (h : Parts file last before all ts rest) → parts_nesting all ≤ max (parts_nesting before) (parts_open h)
    parts_need no_part = omega arith
    parts_need {before = before} (inner_part {d = d} e ds) = omega (arith, declaration_needs e, parts_need ds, inner_and before d)
    parts_need {before = before} (member_part {texts = texts} {m = m} {e = end} {ts = ts} {mid = mid} a e ds) = omega (arith, member_needs e, parts_need ds, member_and before (from file mid end) (notes_at ts texts) m)

    interface_parts_need : {before all : PlainParts} {ts rest : List Token} (h : InterfaceParts file last before all ts rest) → parts_nesting all ≤ max (parts_nesting before) (interface_parts_open h)
    interface_parts_need no_interface_part = omega arith
    interface_parts_need {before = before} (interface_part {texts = texts} {m = m} {e = end} {ts = ts} {mid = mid} a e ds) = omega (arith, interface_member_needs e, interface_parts_need ds, member_and before (from file mid end) (notes_at ts texts) m)

  pub file_needs : {before all : PlainDecls} {ts : List Token} (h : File file last before all ts) → decls_nesting all ≤ max (decls_nesting before) (file_open h)
  file_needs end_of_file = omega arith
  file_needs {before = before} (further {d = d} e ds) = omega (arith, declaration_needs e, file_needs ds, decls_and before d)
