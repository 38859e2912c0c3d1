-- Each plain declaration is the twin of a declaration.
use Rattle.std.specs.Prelude.{◌≡◌, refl, false, List, [], ◌∷◌, Option, None, Some}
use Rattle.std.proofs.Common.{ap, ◌∙◌}
use Rattle.sig_model.specs.declared.ty.Ty.{Ty}
use Rattle.sig_model.specs.declared.decl.TyParam.{TyParam}
use Rattle.sig_model.specs.declared.decl.MethodTy.{MethodTy}
use Rattle.sig_model.specs.declared.decl.Member.{Member}
use Rattle.sig_model.specs.declared.decl.Member.TheVariants as a_member
use Rattle.sig_model.specs.declared.decl.Decl as a_decl
use Rattle.sig_model.specs.declared.decl.DeclBody as a_body
use Rattle.sig_model.specs.declared.decl.Part as a_part
use Rattle.sig_model.specs.PlainTy as plain_type
use Rattle.sig_model.specs.PlainTy.{PlainTy, PlainFun, plain_ty}
use Rattle.sig_model.specs.PlainMember as plain
use Rattle.sig_model.specs.PlainMember.{PlainParam, PlainMethod, PlainMember, plain_option, plain_param, plain_params, plain_method, plain_methods, plain_member}
use Rattle.sig_model.specs.PlainDecl as decl
use Rattle.sig_model.specs.PlainDecl.{PlainDecl, PlainBody, PlainParts, PlainDecls, plain_body, plain_decl, plain_parts, plain_decls, part_before}
use Rattle.sig_model.specs.PlainDeclLaws.{plain_body-Class, plain_body-Module, plain_body-Iface, plain_body-Alias, plain_body-Const, part_before-Inner, part_before-Member}
use Rattle.rbs_types.specs.Twins.{ty_of, tys_of, fun_of, plain_ty_of, plain_tys_of, plain_fun_of}

abbrev pub option_of : Option PlainTy → Option Ty
option_of None = None
option_of (Some t) = Some (ty_of t)

pub plain_option_of : (o : Option PlainTy) → plain_option (option_of o) ≡ o
plain_option_of None = refl
plain_option_of (Some t) = ap Some (plain_ty_of t)

abbrev pub param_of : PlainParam → TyParam
param_of p = record { name = p.name; unchecked = p.unchecked; variance = p.variance; bound = option_of p.bound }

abbrev pub params_of : List PlainParam → List TyParam
params_of [] = []
params_of (p ∷ ps) = param_of p ∷ params_of ps

pub plain_params_of : (ps : List PlainParam) → plain_params (params_of ps) ≡ ps
plain_params_of [] = refl
plain_params_of (p ∷ ps) = λ i. record { name = p.name; unchecked = p.unchecked; variance = p.variance; bound = plain_option_of p.bound i } ∷ plain_params_of ps i

abbrev pub methods_of : List PlainMethod → List MethodTy
methods_of [] = []
methods_of (m ∷ ms) = record { params = params_of m.params; fun = fun_of m.fun } ∷ methods_of ms

pub plain_methods_of : (ms : List PlainMethod) → plain_methods (methods_of ms) ≡ ms
plain_methods_of [] = refl
plain_methods_of (m ∷ ms) = λ i. record { params = plain_params_of m.params i; fun = plain_fun_of m.fun i } ∷ plain_methods_of ms i

abbrev pub member_of : PlainMember → Member
member_of (plain.method v s n ms) = a_member.Method v s n (methods_of ms)
member_of (plain.attr v k n t) = a_member.Attr v k n (ty_of t)
member_of (plain.mixin k t) = a_member.Mixin k (ty_of t)
member_of (plain.alias n o) = a_member.Alias n o
member_of (plain.ivar s n t) = a_member.Ivar s n (ty_of t)
member_of (plain.section v) = a_member.Section v

pub plain_member_of : (m : PlainMember) → plain_member (member_of m) ≡ m
plain_member_of (plain.method v s n ms) = ap (plain.method v s n) (plain_methods_of ms)
plain_member_of (plain.attr v k n t) = ap (plain.attr v k n) (plain_ty_of t)
plain_member_of (plain.mixin k t) = ap (plain.mixin k) (plain_ty_of t)
plain_member_of (plain.alias n o) = refl
plain_member_of (plain.ivar s n t) = ap (plain.ivar s n) (plain_ty_of t)
plain_member_of (plain.section v) = refl

abbrev mutual
  pub body_of : PlainBody → a_body.DeclBody
  body_of (decl.class n ps p parts) = a_body.Class n (params_of ps) (option_of p) (parts_of parts)
  body_of (decl.module n ps ts parts) = a_body.Module n (params_of ps) (tys_of ts) (parts_of parts)
  body_of (decl.iface n ps parts) = a_body.Iface n (params_of ps) (parts_of parts)
  body_of (decl.alias n ps t) = a_body.Alias n (params_of ps) (ty_of t)
  body_of (decl.const n t) = a_body.Const n (ty_of t)

  pub decl_of : PlainDecl → a_decl.Decl
  decl_of (decl.decl p n b) = record { place = p; notes = n; body = body_of b }

  pub parts_of : PlainParts → List a_part.Part
  parts_of decl.no_parts = []
  parts_of (decl.inner d ps) = a_part.Inner (decl_of d) ∷ parts_of ps
  parts_of (decl.member p n m ps) = a_part.Member p n (member_of m) ∷ parts_of ps

abbrev pub decls_of : PlainDecls → List a_decl.Decl
decls_of decl.no_decls = []
decls_of (decl.more_decls d ds) = decl_of d ∷ decls_of ds

mutual
  pub plain_body_of : (b : PlainBody) → plain_body (body_of b) ≡ b
  plain_body_of (decl.class n ps p parts) = plain_body-Class n (params_of ps) (option_of p) (parts_of parts) ∙ (λ i. decl.class n (plain_params_of ps i) (plain_option_of p i) (plain_parts_of parts i))
  plain_body_of (decl.module n ps ts parts) = plain_body-Module n (params_of ps) (tys_of ts) (parts_of parts) ∙ (λ i. decl.module n (plain_params_of ps i) (plain_tys_of ts i) (plain_parts_of parts i))
  plain_body_of (decl.iface n ps parts) = plain_body-Iface n (params_of ps) (parts_of parts) ∙ (λ i. decl.iface n (plain_params_of ps i) (plain_parts_of parts i))
  plain_body_of (decl.alias n ps t) = plain_body-Alias n (params_of ps) (ty_of t) ∙ (λ i. decl.alias n (plain_params_of ps i) (plain_ty_of t i))
  plain_body_of (decl.const n t) = plain_body-Const n (ty_of t) ∙ ap (decl.const n) (plain_ty_of t)

  pub plain_decl_of : (d : PlainDecl) → plain_decl (decl_of d) ≡ d
  plain_decl_of (decl.decl p n b) = ap (decl.decl p n) (plain_body_of b)

  pub plain_parts_of : (ps : PlainParts) → plain_parts (parts_of ps) ≡ ps
  plain_parts_of decl.no_parts = refl
  plain_parts_of (decl.inner d ps) = part_before-Inner (decl_of d) (plain_parts (parts_of ps)) ∙ (λ i. decl.inner (plain_decl_of d i) (plain_parts_of ps i))
  plain_parts_of (decl.member p n m ps) = part_before-Member p n (member_of m) (plain_parts (parts_of ps)) ∙ (λ i. decl.member p n (plain_member_of m i) (plain_parts_of ps i))

pub plain_decls_of : (ds : PlainDecls) → plain_decls (decls_of ds) ≡ ds
plain_decls_of decl.no_decls = refl
plain_decls_of (decl.more_decls d ds) = λ i. decl.more_decls (plain_decl_of d i) (plain_decls_of ds i)

-- an overload as a pair of what tells itself apart
abbrev fun_in : PlainTy → PlainFun
fun_in (plain_type.fun f) = f
fun_in t = plain_type.function plain_type.no_args plain_type.no_args plain_type.no_rest plain_type.no_args plain_type.no_keys plain_type.no_rest plain_type.no_block t

abbrev pub method_pairs : List PlainMethod → List (List TyParam × Ty)
method_pairs [] = []
method_pairs (m ∷ ms) = (params_of m.params, ty_of (plain_type.fun m.fun)) ∷ method_pairs ms

abbrev pub from_method_pairs : List (List TyParam × Ty) → List PlainMethod
from_method_pairs [] = []
from_method_pairs (p ∷ ps) = record { params = plain_params p.0; fun = fun_in (plain_ty p.1) } ∷ from_method_pairs ps

pub from_method_pairs_of : (ms : List PlainMethod) → from_method_pairs (method_pairs ms) ≡ ms
from_method_pairs_of [] = refl
from_method_pairs_of (m ∷ ms) = λ i. record { params = plain_params_of m.params i; fun = fun_in (plain_ty_of (plain_type.fun m.fun) i) } ∷ from_method_pairs_of ms i

-- parts as the body of a class
abbrev pub parts_body : PlainParts → a_body.DeclBody
parts_body ps = body_of (decl.class (record { rooted = false; path = [] }) [] None ps)

abbrev parts_in : PlainBody → PlainParts
parts_in (decl.class n qs t ps) = ps
parts_in _ = decl.no_parts

abbrev pub from_parts_body : a_body.DeclBody → PlainParts
from_parts_body b = parts_in (plain_body b)

pub from_parts_body_of : (ps : PlainParts) → from_parts_body (parts_body ps) ≡ ps
from_parts_body_of ps = ap parts_in (plain_body_of (decl.class (record { rooted = false; path = [] }) [] None ps))
