-- Each plain type is the twin of a type.
use Rattle.std.specs.Prelude.{◌≡◌, refl, List, [], ◌∷◌, Option, None, Some}
use Rattle.std.proofs.Common.{ap, ◌∙◌}
use Rattle.sig_model.specs.declared.ty.Ty as ty
use Rattle.sig_model.specs.declared.ty.Arg as arg
use Rattle.sig_model.specs.declared.ty.RecKey as key
use Rattle.sig_model.specs.declared.ty.FunTy as fun_ty
use Rattle.sig_model.specs.declared.ty.BlockTy as block_ty
use Rattle.sig_model.specs.PlainTy as plain
use Rattle.sig_model.specs.PlainTy.{PlainTy, PlainTys, PlainKeys, PlainArgs, PlainRest, PlainFun, PlainBlock, plain_ty, plain_tys, plain_keys, plain_args, plain_rest, plain_fun, plain_block}
use Rattle.sig_model.specs.PlainTyLaws.{plain_ty-Name, plain_ty-Single, plain_ty-Opt, plain_ty-Union, plain_ty-Inter, plain_ty-Tuple, plain_ty-Rec, plain_ty-Fun, plain_ty-Int, plain_ty-Str, plain_ty-Sym, plain_ty-Base, plain_fun-roll, out-block}

abbrev mutual
  pub ty_of : PlainTy → ty.Ty
  ty_of (plain.name n ts) = ty.Name n (tys_of ts)
  ty_of (plain.single n) = ty.Single n
  ty_of (plain.opt t) = ty.Opt (ty_of t)
  ty_of (plain.union ts) = ty.Union (tys_of ts)
  ty_of (plain.inter ts) = ty.Inter (tys_of ts)
  ty_of (plain.tuple ts) = ty.Tuple (tys_of ts)
  ty_of (plain.rec ks) = ty.Rec (keys_of ks)
  ty_of (plain.fun f) = ty.Fun (fun_of f)
  ty_of (plain.int n) = ty.Int n
  ty_of (plain.str w) = ty.Str w
  ty_of (plain.sym w) = ty.Sym w
  ty_of (plain.base b) = ty.Base b

  pub tys_of : PlainTys → List ty.Ty
  tys_of plain.no_tys = []
  tys_of (plain.more_tys t ts) = ty_of t ∷ tys_of ts

  pub keys_of : PlainKeys → List key.RecKey
  keys_of plain.no_keys = []
  keys_of (plain.more_keys k n t ks) = record { key = k; needed = n; ty = ty_of t } ∷ keys_of ks

  pub args_of : PlainArgs → List arg.Arg
  args_of plain.no_args = []
  args_of (plain.more_args t n ts) = record { ty = ty_of t; name = n } ∷ args_of ts

  pub rest_of : PlainRest → Option arg.Arg
  rest_of plain.no_rest = None
  rest_of (plain.rest t n) = Some (record { ty = ty_of t; name = n })

  pub fun_of : PlainFun → fun_ty.FunTy
  fun_of (plain.function r o e t k f b u) =
      fun_ty.roll-FunTy (record { required = args_of r; optional = args_of o; rest = rest_of e; trailing = args_of t; keys = keys_of k; key_rest = rest_of f; block = block_of b; result = ty_of u })

  pub block_of : PlainBlock → Option block_ty.BlockTy
  block_of plain.no_block = None
  block_of (plain.block n f) = Some (block_ty.roll-BlockTy (record { needed = n; fun = fun_of f }))

mutual
  pub plain_ty_of : (t : PlainTy) → plain_ty (ty_of t) ≡ t
  plain_ty_of (plain.name n ts) = plain_ty-Name n (tys_of ts) ∙ ap (plain.name n) (plain_tys_of ts)
  plain_ty_of (plain.single n) = plain_ty-Single n
  plain_ty_of (plain.opt t) = plain_ty-Opt (ty_of t) ∙ ap plain.opt (plain_ty_of t)
  plain_ty_of (plain.union ts) = plain_ty-Union (tys_of ts) ∙ ap plain.union (plain_tys_of ts)
  plain_ty_of (plain.inter ts) = plain_ty-Inter (tys_of ts) ∙ ap plain.inter (plain_tys_of ts)
  plain_ty_of (plain.tuple ts) = plain_ty-Tuple (tys_of ts) ∙ ap plain.tuple (plain_tys_of ts)
  plain_ty_of (plain.rec ks) = plain_ty-Rec (keys_of ks) ∙ ap plain.rec (plain_keys_of ks)
  plain_ty_of (plain.fun f) = plain_ty-Fun (fun_of f) ∙ ap plain.fun (plain_fun_of f)
  plain_ty_of (plain.int n) = plain_ty-Int n
  plain_ty_of (plain.str w) = plain_ty-Str w
  plain_ty_of (plain.sym w) = plain_ty-Sym w
  plain_ty_of (plain.base b) = plain_ty-Base b

  pub plain_tys_of : (ts : PlainTys) → plain_tys (tys_of ts) ≡ ts
  plain_tys_of plain.no_tys = refl
  plain_tys_of (plain.more_tys t ts) = λ i. plain.more_tys (plain_ty_of t i) (plain_tys_of ts i)

  pub plain_keys_of : (ks : PlainKeys) → plain_keys (keys_of ks) ≡ ks
  plain_keys_of plain.no_keys = refl
  plain_keys_of (plain.more_keys k n t ks) = λ i. plain.more_keys k n (plain_ty_of t i) (plain_keys_of ks i)

  pub plain_args_of : (ts : PlainArgs) → plain_args (args_of ts) ≡ ts
  plain_args_of plain.no_args = refl
  plain_args_of (plain.more_args t n ts) = λ i. plain.more_args (plain_ty_of t i) n (plain_args_of ts i)

  pub plain_rest_of : (e : PlainRest) → plain_rest (rest_of e) ≡ e
  plain_rest_of plain.no_rest = refl
  plain_rest_of (plain.rest t n) = λ i. plain.rest (plain_ty_of t i) n

  pub plain_fun_of : (f : PlainFun) → plain_fun (fun_of f) ≡ f
  plain_fun_of (plain.function r o e t k f b u) =
      plain_fun-roll (record { required = args_of r; optional = args_of o; rest = rest_of e; trailing = args_of t; keys = keys_of k; key_rest = rest_of f; block = block_of b; result = ty_of u })
      ∙ (λ i. plain.function (plain_args_of r i) (plain_args_of o i) (plain_rest_of e i) (plain_args_of t i) (plain_keys_of k i) (plain_rest_of f i) (plain_block_of b i) (plain_ty_of u i))

  pub plain_block_of : (b : PlainBlock) → plain_block (block_of b) ≡ b
  plain_block_of plain.no_block = refl
  plain_block_of (plain.block n f) = ap (λ g. plain.block g.needed (plain_fun g.fun)) (out-block (record { needed = n; fun = fun_of f })) ∙ ap (plain.block n) (plain_fun_of f)

-- a block as a type that tells all of it
abbrev pub block_as_ty : PlainBlock → PlainTy
block_as_ty plain.no_block = plain.tuple plain.no_tys
block_as_ty (plain.block n f) = plain.rec (plain.more_keys [] n (plain.fun f) plain.no_keys)

abbrev pub block_in_ty : PlainTy → PlainBlock
block_in_ty (plain.rec (plain.more_keys k n (plain.fun f) ks)) = plain.block n f
block_in_ty _ = plain.no_block

pub block_as_ty_in_ty : (b : PlainBlock) → block_in_ty (block_as_ty b) ≡ b
block_as_ty_in_ty plain.no_block = refl
block_as_ty_in_ty (plain.block n f) = refl

abbrev pub block_code_to : PlainBlock → ty.Ty
block_code_to b = ty_of (block_as_ty b)

abbrev pub block_code_from : ty.Ty → PlainBlock
block_code_from t = block_in_ty (plain_ty t)

pub block_code_back : (b : PlainBlock) → block_code_from (block_code_to b) ≡ b
block_code_back b = ap block_in_ty (plain_ty_of (block_as_ty b)) ∙ block_as_ty_in_ty b
