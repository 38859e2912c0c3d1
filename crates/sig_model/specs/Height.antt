-- How deep a type is: a leaf has height 1, and a type with parts is 1 above its highest part.
use Rattle.std.specs.Prelude.{ℕ, ◌+◌, max}
use Rattle.sig_model.specs.PlainTy as plain
use Rattle.sig_model.specs.PlainTy.{PlainTy, PlainTys, PlainKeys, PlainArgs, PlainRest, PlainFun, PlainBlock}

abbrev mutual
  pub height : PlainTy → ℕ
  height (plain.name n ts) = tallest ts + 1
  height (plain.single n) = 1
  height (plain.opt t) = height t + 1
  height (plain.union ts) = tallest ts + 1
  height (plain.inter ts) = tallest ts + 1
  height (plain.tuple ts) = tallest ts + 1
  height (plain.rec ks) = tallest_key ks + 1
  height (plain.fun f) = fun_height f + 1
  height (plain.int n) = 1
  height (plain.str w) = 1
  height (plain.sym w) = 1
  height (plain.base b) = 1

  -- the highest of several types, or 0 where there is none
  pub tallest : PlainTys → ℕ
  tallest plain.no_tys = 0
  tallest (plain.more_tys t ts) = max (height t) (tallest ts)

  pub tallest_key : PlainKeys → ℕ
  tallest_key plain.no_keys = 0
  tallest_key (plain.more_keys k n t ks) = max (height t) (tallest_key ks)

  pub tallest_arg : PlainArgs → ℕ
  tallest_arg plain.no_args = 0
  tallest_arg (plain.more_args t n ts) = max (height t) (tallest_arg ts)

  pub rest_height : PlainRest → ℕ
  rest_height plain.no_rest = 0
  rest_height (plain.rest t n) = height t

  pub block_height : PlainBlock → ℕ
  block_height plain.no_block = 0
  block_height (plain.block n f) = fun_height f

  -- the highest of the types of a function
  pub fun_height : PlainFun → ℕ
  fun_height (plain.function r o e t k f b u) =
      let listed = max (max (max (tallest_arg r) (tallest_arg o)) (rest_height e)) (tallest_arg t) in
      max (max (max (max listed (tallest_key k)) (rest_height f)) (block_height b)) (height u)
