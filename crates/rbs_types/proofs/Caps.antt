-- Heights up to the greatest that is told apart.
use Rattle.std.proofs.Common.{ℕ, ◌≡◌, sym, ◌∙◌, ap, max, List, Option, arith}
use Rattle.sig_model.specs.PlainTy as plain
use Rattle.sig_model.specs.PlainTy.{PlainTy, PlainTys, PlainKeys, PlainArgs, PlainBlock}
use Rattle.sig_model.specs.Height.{height, tallest, tallest_key, tallest_arg, rest_height, block_height, fun_height}
use Rattle.sig_model.specs.Plain.{plain_types}
use Rattle.rbs_types.specs.declared.state.Listed.{Listed}
use Rattle.rbs_types.specs.Capped.{capped}
use Rattle.rbs_types.specs.Plains.{and_ty, and_key, and_arg}
use Rattle.rbs_types.specs.Parts.{function_of}
use Rattle.rbs_types.specs.Needs.{listed_height}

pub capped_max : (a b : ℕ) → capped (max a b) ≡ max (capped a) (capped b)
capped_max a b = omega arith

-- one more part

pub tallest_more : (ts : PlainTys) (t : PlainTy) → tallest (and_ty ts t) ≡ max (tallest ts) (height t)
tallest_more plain.no_tys t = omega arith
tallest_more (plain.more_tys u ts) t = omega (arith, tallest_more ts t)

pub tallest_key_more : (ks : PlainKeys) (w : List ℕ) (needed : _) (t : PlainTy) → tallest_key (and_key ks w needed t) ≡ max (tallest_key ks) (height t)
tallest_key_more plain.no_keys w needed t = omega arith
tallest_key_more (plain.more_keys k n u ks) w needed t = omega (arith, tallest_key_more ks w needed t)

pub tallest_arg_more : (ts : PlainArgs) (t : PlainTy) (n : Option (List ℕ)) → tallest_arg (and_arg ts t n) ≡ max (tallest_arg ts) (height t)
tallest_arg_more plain.no_args t n = omega arith
tallest_arg_more (plain.more_args u m ts) t n = omega (arith, tallest_arg_more ts t n)

max_assoc : (a b c : ℕ) → max (max a b) c ≡ max a (max b c)
max_assoc a b c = omega arith

fun_height_parts : (l : Listed) (b : PlainBlock) (t : PlainTy) → fun_height (function_of l b t) ≡ max (max (listed_height l) (block_height b)) (height t)
fun_height_parts l b t =
    let p = l.parameters in
    let positional : ℕ = max (max (tallest_arg p.required) (tallest_arg p.optional)) (rest_height p.rest) in
    ap (λ (n : ℕ). max (max (max n (rest_height l.key_rest)) (block_height b)) (height t)) (max_assoc positional (tallest_arg p.trailing) (tallest_key p.keys))

max_capped : (a b c p q r : ℕ) → p ≡ capped a → q ≡ capped b → r ≡ capped c → max (max p q) r ≡ capped (max (max a b) c)
max_capped a b c p q r e f g = omega arith

pub fun_capped : (l : Listed) (b : PlainBlock) (t : PlainTy) (p q r : ℕ) → p ≡ capped (listed_height l) → q ≡ capped (block_height b) → r ≡ capped (height t)
    → max (max p q) r ≡ capped (fun_height (function_of l b t))
fun_capped l b t p q r e f g = max_capped (listed_height l) (block_height b) (height t) p q r e f g ∙ ap capped (sym (fun_height_parts l b t))

-- the laws of plain types, and these
pub ruleset tall_types = (plain_types, tallest_more, tallest_key_more, tallest_arg_more)
