-- Types as plain data, and the plain twin of each type.
use Rattle.std.specs.Prelude.{ℕ, ℤ, Bool, List, [], ◌∷◌, Option, None, Some}
use Rattle.sig_model.specs.declared.ty.TypeName.{TypeName}
use Rattle.sig_model.specs.declared.ty.BaseTy.{BaseTy}
use Rattle.sig_model.specs.declared.ty.BaseTy.TheVariants as a_base
use Rattle.sig_model.specs.declared.ty.Ty as ty
use Rattle.sig_model.specs.declared.ty.Arg as arg
use Rattle.sig_model.specs.declared.ty.RecKey as key
use Rattle.sig_model.specs.declared.ty.FunTy as fun_ty
use Rattle.sig_model.specs.declared.ty.BlockTy as block_ty

mutual
  -- a type as it is written
  pub data PlainTy : Type 0 where
    name : TypeName → PlainTys → PlainTy
    single : TypeName → PlainTy
    opt : PlainTy → PlainTy
    union inter tuple : PlainTys → PlainTy
    rec : PlainKeys → PlainTy
    fun : PlainFun → PlainTy
    int : ℤ → PlainTy
    str sym : List ℕ → PlainTy
    base : BaseTy → PlainTy

  pub data PlainTys : Type 0 where
    no_tys : PlainTys
    more_tys : PlainTy → PlainTys → PlainTys

  -- the keys of a record type or the keywords of a method: the key, whether it is needed, its type
  pub data PlainKeys : Type 0 where
    no_keys : PlainKeys
    more_keys : List ℕ → Bool → PlainTy → PlainKeys → PlainKeys

  -- positional parameters: the type, the name
  pub data PlainArgs : Type 0 where
    no_args : PlainArgs
    more_args : PlainTy → Option (List ℕ) → PlainArgs → PlainArgs

  -- the parameter of the rest, where there is one
  pub data PlainRest : Type 0 where
    no_rest : PlainRest
    rest : PlainTy → Option (List ℕ) → PlainRest

  -- required, optional, rest, trailing, keys, rest of the keys, block, result
  pub data PlainFun : Type 0 where
    function : PlainArgs → PlainArgs → PlainRest → PlainArgs → PlainKeys → PlainRest → PlainBlock → PlainTy → PlainFun

  -- a block, where there is one: whether it is needed, its type
  pub data PlainBlock : Type 0 where
    no_block : PlainBlock
    block : Bool → PlainFun → PlainBlock

unfoldable mutual
  pub plain_ty : ty.Ty → PlainTy
  plain_ty (ty.Name' n s r) = name n (ty_row r)
  plain_ty (ty.Single n) = single n
  plain_ty (ty.Opt' s r) = opt (held_ty r)
  plain_ty (ty.Union' s r) = union (ty_row r)
  plain_ty (ty.Inter' s r) = inter (ty_row r)
  plain_ty (ty.Tuple' s r) = tuple (ty_row r)
  plain_ty (ty.Rec' s r) = rec (key_row r)
  plain_ty (ty.Fun' s r) = fun (held_fun r)
  plain_ty (ty.Int n) = int n
  plain_ty (ty.Str w) = str w
  plain_ty (ty.Sym w) = sym w
  plain_ty (ty.Base b) = base b

  pub plain_fun : fun_ty.FunTy → PlainFun
  plain_fun (fun_ty.FunTy' s r s2 o e s3 t s4 k f b u) =
      function (arg_row r) (arg_row o) (held_rest e) (arg_row t) (key_row k) (held_rest f) (held_block b) (plain_ty u)

  pub held_rest : fun_ty.Held-FunTy-rest → PlainRest
  held_rest fun_ty.FunTy-rest-None' = no_rest
  held_rest (fun_ty.FunTy-rest-Some' t n) = rest (plain_ty t) n

  pub held_block : fun_ty.Held-FunTy-block → PlainBlock
  held_block fun_ty.FunTy-block-None' = no_block
  held_block (fun_ty.FunTy-block-Some' s r) = block_row r

  pub block_row : {m : _} → fun_ty.Row_of-BlockTy m → PlainBlock
  block_row fun_ty.end_of-BlockTy = no_block
  block_row (fun_ty.more_of-BlockTy (block_ty.BlockTy' n f) r) = block n (plain_fun f)

  pub arg_row : {m : _} → fun_ty.Row_of-Arg m → PlainArgs
  arg_row fun_ty.end_of-Arg = no_args
  arg_row (fun_ty.more_of-Arg t n r) = more_args (plain_ty t) n (arg_row r)

  -- a box is a row of one
  pub held_ty : {m : _} → ty.Row_of-Ty m → PlainTy
  held_ty ty.end_of-Ty = base a_base.Top
  held_ty (ty.more_of-Ty t r) = plain_ty t

  pub held_fun : {m : _} → ty.Row_of-FunTy m → PlainFun
  held_fun ty.end_of-FunTy = function no_args no_args no_rest no_args no_keys no_rest no_block (base a_base.Top)
  held_fun (ty.more_of-FunTy f r) = plain_fun f

  pub ty_row : {m : _} → ty.Row_of-Ty m → PlainTys
  ty_row ty.end_of-Ty = no_tys
  ty_row (ty.more_of-Ty t r) = more_tys (plain_ty t) (ty_row r)

  pub key_row : {m : _} → ty.Row_of-RecKey m → PlainKeys
  key_row ty.end_of-RecKey = no_keys
  key_row (ty.more_of-RecKey k n t r) = more_keys k n (plain_ty t) (key_row r)

abbrev pub plain_tys : List ty.Ty → PlainTys
plain_tys [] = no_tys
plain_tys (t ∷ ts) = more_tys (plain_ty t) (plain_tys ts)

abbrev pub plain_keys : List key.RecKey → PlainKeys
plain_keys [] = no_keys
plain_keys (k ∷ ks) = more_keys k.key k.needed (plain_ty k.ty) (plain_keys ks)

abbrev pub plain_args : List arg.Arg → PlainArgs
plain_args [] = no_args
plain_args (a ∷ more) = more_args (plain_ty a.ty) a.name (plain_args more)

abbrev pub plain_rest : Option arg.Arg → PlainRest
plain_rest None = no_rest
plain_rest (Some a) = rest (plain_ty a.ty) a.name

abbrev pub plain_block : Option block_ty.BlockTy → PlainBlock
plain_block None = no_block
plain_block (Some b) = block (block_ty.out-BlockTy b).needed (plain_fun (block_ty.out-BlockTy b).fun)

-- the types of one list, and then those of another
abbrev pub append_tys : PlainTys → PlainTys → PlainTys
append_tys no_tys us = us
append_tys (more_tys t ts) us = more_tys t (append_tys ts us)

abbrev pub append_keys : PlainKeys → PlainKeys → PlainKeys
append_keys no_keys js = js
append_keys (more_keys k n t ks) js = more_keys k n t (append_keys ks js)

abbrev pub append_args : PlainArgs → PlainArgs → PlainArgs
append_args no_args bs = bs
append_args (more_args t n more) bs = more_args t n (append_args more bs)
