-- How much must be open at once where a type or a declaration is written: no text that spells it has less.
use Rattle.std.specs.Prelude.{ℕ, ◌+◌, max, Bool, true, false, ◌&&◌, List, [], ◌∷◌, Option, Some, None}
use Rattle.sig_model.specs.PlainTy as plain
use Rattle.sig_model.specs.PlainTy.{PlainTy, PlainTys, PlainKeys, PlainArgs, PlainRest, PlainFun, PlainBlock}
use Rattle.sig_model.specs.PlainMember.{PlainParam, PlainMethod, PlainMember, method, attr, mixin, alias, ivar, section}
use Rattle.sig_model.specs.PlainDecl as decl
use Rattle.sig_model.specs.PlainDecl.{PlainDecl, PlainBody, PlainParts, PlainDecls}
use Rattle.rbs_types.specs.Plains.{no_arg, no_rest_yet, no_key}
use Rattle.rbs_printer.specs.Types.{Site, whole, in_union, in_inter, before_question, result, needs_parentheses}

-- with the parentheses that the place needs
abbrev pub around : Bool → ℕ → ℕ
around true k = 1 + k
around false k = k

-- with the parentheses of a list, which has some items
abbrev pub listed : Bool → ℕ → ℕ
listed true k = 0
listed false k = 1 + k

abbrev pub no_parameter : PlainArgs → PlainArgs → PlainRest → PlainArgs → PlainKeys → PlainRest → Bool
no_parameter required optional more trailing keys key_more = no_arg required && (no_arg optional && (no_rest_yet more && (no_arg trailing && (no_key keys && no_rest_yet key_more))))

abbrev mutual
  pub nesting : PlainTy → ℕ
  nesting (plain.name n plain.no_tys) = 0
  nesting (plain.name n (plain.more_tys t ts)) = 1 + max (nesting t) (nestings whole ts)
  nesting (plain.single n) = 1
  nesting (plain.opt t) = around (needs_parentheses before_question t) (nesting t)
  nesting (plain.union ts) = nestings in_union ts
  nesting (plain.inter ts) = nestings in_inter ts
  nesting (plain.tuple ts) = 1 + nestings whole ts
  nesting (plain.rec ks) = 1 + keys_nesting ks
  nesting (plain.fun f) = function_nesting f
  nesting (plain.int n) = 0
  nesting (plain.str w) = 0
  nesting (plain.sym w) = 0
  nesting (plain.base b) = 0

  pub nestings : Site → PlainTys → ℕ
  nestings x plain.no_tys = 0
  nestings x (plain.more_tys t ts) = max (around (needs_parentheses x t) (nesting t)) (nestings x ts)

  pub keys_nesting : PlainKeys → ℕ
  keys_nesting plain.no_keys = 0
  keys_nesting (plain.more_keys w needed t ks) = max (nesting t) (keys_nesting ks)

  pub function_nesting : PlainFun → ℕ
  function_nesting (plain.function required optional more trailing keys key_more blk t) =
      max (listed (no_parameter required optional more trailing keys key_more)
      (max (arguments_nesting required) (max (arguments_nesting optional) (max (rest_nesting more) (max (arguments_nesting trailing) (max (keys_nesting keys) (rest_nesting key_more)))))))
      (max (block_nesting blk) (around (needs_parentheses result t) (nesting t)))

  pub arguments_nesting : PlainArgs → ℕ
  arguments_nesting plain.no_args = 0
  arguments_nesting (plain.more_args t n ts) = max (nesting t) (arguments_nesting ts)

  pub rest_nesting : PlainRest → ℕ
  rest_nesting plain.no_rest = 0
  rest_nesting (plain.rest t n) = nesting t

  pub block_nesting : PlainBlock → ℕ
  block_nesting plain.no_block = 0
  block_nesting (plain.block needed f) = 1 + function_nesting f

-- ---- declarations: a class, a module and an interface are open up to their `end`

abbrev pub option_nesting : Option PlainTy → ℕ
option_nesting None = 0
option_nesting (Some t) = nesting t

abbrev pub bounds_nesting : List PlainParam → ℕ
bounds_nesting [] = 0
bounds_nesting (p ∷ ps) = max (option_nesting p.bound) (bounds_nesting ps)

-- type parameters stand in a bracket
abbrev pub params_nesting : List PlainParam → ℕ
params_nesting [] = 0
params_nesting (p ∷ ps) = 1 + bounds_nesting (p ∷ ps)

abbrev pub overloads_nesting : List PlainMethod → ℕ
overloads_nesting [] = 0
overloads_nesting (m ∷ ms) = max (max (params_nesting m.params) (function_nesting m.fun)) (overloads_nesting ms)

abbrev pub member_nesting : PlainMember → ℕ
member_nesting (method v single w ms) = overloads_nesting ms
member_nesting (attr v k w t) = nesting t
member_nesting (mixin k t) = nesting t
member_nesting (alias new old) = 0
member_nesting (ivar single w t) = nesting t
member_nesting (section v) = 0

abbrev mutual
  pub body_nesting : PlainBody → ℕ
  body_nesting (decl.class n ps t parts) = 1 + max (max (params_nesting ps) (option_nesting t)) (parts_nesting parts)
  body_nesting (decl.module n ps us parts) = 1 + max (max (params_nesting ps) (nestings whole us)) (parts_nesting parts)
  body_nesting (decl.iface n ps parts) = 1 + max (params_nesting ps) (parts_nesting parts)
  body_nesting (decl.alias n ps t) = max (params_nesting ps) (nesting t)
  body_nesting (decl.const n t) = nesting t

  pub decl_nesting : PlainDecl → ℕ
  decl_nesting (decl.decl place notes body) = body_nesting body

  pub parts_nesting : PlainParts → ℕ
  parts_nesting decl.no_parts = 0
  parts_nesting (decl.inner d parts) = max (decl_nesting d) (parts_nesting parts)
  parts_nesting (decl.member place notes m parts) = max (member_nesting m) (parts_nesting parts)

abbrev pub decls_nesting : PlainDecls → ℕ
decls_nesting decl.no_decls = 0
decls_nesting (decl.more_decls d ds) = max (decl_nesting d) (decls_nesting ds)
