-- A name is new among plain keys exactly where it isn't among the names of the keys.
use Rattle.std.proofs.Common.{ℕ, ◌≡◌, refl, sym, ◌∙◌, ap, ◌&&◌, List, [], ◌∷◌, map}
use Rattle.std.specs.Prelude.{not}
use Rattle.names.specs.Places.{same_name, is_among}
use Rattle.names.proofs.Places.{not_among}
use Rattle.sig_model.specs.declared.ty.RecKey.{RecKey}
use Rattle.sig_model.specs.PlainTy as plain
use Rattle.sig_model.specs.PlainTy.{PlainKeys, plain_keys}
use Rattle.rbs_types.specs.Plains.{is_new}

abbrev pub key_names : PlainKeys → List (List ℕ)
key_names plain.no_keys = []
key_names (plain.more_keys k n t ks) = k ∷ key_names ks

pub new_among : (w : List ℕ) (ks : PlainKeys) → is_new w ks ≡ not (is_among w (key_names ks))
new_among w plain.no_keys = refl
new_among w (plain.more_keys k n t ks) = ap (λ b. not (same_name w k) && b) (new_among w ks) ∙ sym (not_among w k (key_names ks))

names_of_keys : (ks : List RecKey) → key_names (plain_keys ks) ≡ map (λ k. k.key) ks
names_of_keys [] = refl
names_of_keys (k ∷ ks) = ap (λ names. k.key ∷ names) (names_of_keys ks)

pub new_key : (w : List ℕ) (ks : List RecKey) → is_new w (plain_keys ks) ≡ not (is_among w (map (λ k. k.key) ks))
new_key w ks = new_among w (plain_keys ks) ∙ ap (λ names. not (is_among w names)) (names_of_keys ks)
