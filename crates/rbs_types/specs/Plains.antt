-- Lists of plain types, keys and parameters, and one more.
use Rattle.std.specs.Prelude.{ℕ, Bool, true, false, not, ◌&&◌, List, Option}
use Rattle.names.specs.Places.{same_name}
use Rattle.sig_model.specs.PlainTy as plain
use Rattle.sig_model.specs.PlainTy.{PlainTy, PlainTys, PlainKeys, PlainArgs, PlainRest, append_tys, append_keys, append_args}

abbrev pub and_ty : PlainTys → PlainTy → PlainTys
and_ty ts t = append_tys ts (plain.more_tys t plain.no_tys)

abbrev pub and_key : PlainKeys → List ℕ → Bool → PlainTy → PlainKeys
and_key ks w needed t = append_keys ks (plain.more_keys w needed t plain.no_keys)

abbrev pub and_arg : PlainArgs → PlainTy → Option (List ℕ) → PlainArgs
and_arg ts t n = append_args ts (plain.more_args t n plain.no_args)

-- no key has this name
abbrev pub is_new : List ℕ → PlainKeys → Bool
is_new w plain.no_keys = true
is_new w (plain.more_keys k n t ks) = not (same_name w k) && is_new w ks

abbrev pub no_ty : PlainTys → Bool
no_ty plain.no_tys = true
no_ty _ = false

abbrev pub no_arg : PlainArgs → Bool
no_arg plain.no_args = true
no_arg _ = false

abbrev pub no_rest_yet : PlainRest → Bool
no_rest_yet plain.no_rest = true
no_rest_yet _ = false

abbrev pub no_key : PlainKeys → Bool
no_key plain.no_keys = true
no_key _ = false
