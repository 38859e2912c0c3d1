-- When a list is empty.
use Rattle.std.proofs.Common.{◌≡◌, ◌↔◌, ◌∷◌, [], List, Bool, true, false, IsTrue, reverse, length, refl, sym, subst, ap, arith}
use Rattle.std.proofs.lemmas.List.{length-reverse}
use Rattle.sig_model.specs.declared.ty.Ty.{Ty}
use Rattle.sig_model.specs.declared.ty.RecKey.{RecKey}
use Rattle.sig_model.specs.declared.ty.Arg.{Arg}
use Rattle.sig_model.specs.PlainTy.{plain_tys, plain_keys, plain_args}
use Rattle.rbs_types.specs.Plains.{no_ty, no_key, no_arg}

empty_is : {A : Type 0} (b : Bool) (xs : List A) (is_none : List A → Bool) → (IsTrue b ↔ (xs ≡ [])) → is_none [] ≡ true → ((x : A) (rest : List A) → is_none (x ∷ rest) ≡ false) → b ≡ is_none xs
empty_is true xs is_none h none more = sym (subst (λ ys. is_none ys ≡ true) (sym (h.0 refl)) none)
empty_is false [] is_none h none more = let e : false ≡ true = h.1 refl in cc
empty_is false (x ∷ xs) is_none h none more = sym (more x xs)

pub no_ty_is : (b : Bool) (ts : List Ty) → (IsTrue b ↔ (ts ≡ [])) → b ≡ no_ty (plain_tys ts)
no_ty_is b ts h = empty_is b ts (λ xs. no_ty (plain_tys xs)) h refl (λ _ _. refl)

pub no_key_is : (b : Bool) (ks : List RecKey) → (IsTrue b ↔ (ks ≡ [])) → b ≡ no_key (plain_keys ks)
no_key_is b ks h = empty_is b ks (λ xs. no_key (plain_keys xs)) h refl (λ _ _. refl)

pub no_arg_is : (b : Bool) (ts : List Arg) → (IsTrue b ↔ (ts ≡ [])) → b ≡ no_arg (plain_args ts)
no_arg_is b ts h = empty_is b ts (λ xs. no_arg (plain_args xs)) h refl (λ _ _. refl)

reverse_none : {A : Type 0} (xs : List A) → reverse xs ≡ [] → xs ≡ []
reverse_none [] e = refl
reverse_none (x ∷ xs) e = let none : length (reverse (x ∷ xs)) ≡ 0 = ap length e in absurd (omega (arith, length-reverse (x ∷ xs)))

pub reverse_empty : {A : Type 0} (b : Bool) (xs : List A) → (IsTrue b ↔ (xs ≡ [])) → IsTrue b ↔ (reverse xs ≡ [])
reverse_empty b xs h = (λ t. ap reverse (h.0 t), λ e. h.1 (reverse_none xs e))
