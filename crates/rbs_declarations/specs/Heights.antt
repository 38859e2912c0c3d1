-- How high the types of declarations are: each type of a member has a height of its own.
use Rattle.std.specs.Prelude.{ℕ, max, List, [], ◌∷◌, Option, None, Some}
use Rattle.sig_model.specs.PlainTy.{PlainTy}
use Rattle.sig_model.specs.Height.{height, tallest, fun_height}
use Rattle.sig_model.specs.PlainMember.{PlainParam, PlainMethod, PlainMember, method, attr, mixin, alias, ivar, section}
use Rattle.sig_model.specs.PlainDecl as decl
use Rattle.sig_model.specs.PlainDecl.{PlainDecl, PlainBody, PlainParts, PlainDecls}

abbrev pub option_height : Option PlainTy → ℕ
option_height None = 0
option_height (Some t) = height t

abbrev pub params_height : List PlainParam → ℕ
params_height [] = 0
params_height (p ∷ ps) = max (option_height p.bound) (params_height ps)

abbrev pub methods_height : List PlainMethod → ℕ
methods_height [] = 0
methods_height (m ∷ ms) = max (max (params_height m.params) (fun_height m.fun)) (methods_height ms)

abbrev pub member_height : PlainMember → ℕ
member_height (method v single n ms) = methods_height ms
member_height (attr v a n t) = height t
member_height (mixin m t) = height t
member_height (alias new old) = 0
member_height (ivar single n t) = height t
member_height (section v) = 0

abbrev mutual
  pub body_height : PlainBody → ℕ
  body_height (decl.class n ps t parts) = max (max (params_height ps) (option_height t)) (parts_height parts)
  body_height (decl.module n ps us parts) = max (max (params_height ps) (tallest us)) (parts_height parts)
  body_height (decl.iface n ps parts) = max (params_height ps) (parts_height parts)
  body_height (decl.alias n ps t) = max (params_height ps) (height t)
  body_height (decl.const n t) = height t

  pub decl_height : PlainDecl → ℕ
  decl_height (decl.decl p n b) = body_height b

  -- the height of the highest type of the parts, 0 where there is none
  pub parts_height : PlainParts → ℕ
  parts_height decl.no_parts = 0
  parts_height (decl.inner d ps) = max (decl_height d) (parts_height ps)
  parts_height (decl.member p n m ps) = max (member_height m) (parts_height ps)

abbrev pub decls_height : PlainDecls → ℕ
decls_height decl.no_decls = 0
decls_height (decl.more_decls d ds) = max (decl_height d) (decls_height ds)
