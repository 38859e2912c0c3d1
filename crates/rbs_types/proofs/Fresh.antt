-- A word that no key of a list has for its name.
use Rattle.std.proofs.Common.{ℕ, ◌≡◌, ◌∙◌, true, List}
use Rattle.names.proofs.Fresh as names
use Rattle.sig_model.specs.PlainTy.{PlainKeys}
use Rattle.rbs_types.specs.Plains.{is_new}
use Rattle.rbs_types.proofs.KeyNames.{key_names, new_among}

-- so many letters `a`
pub fresh : PlainKeys → List ℕ
fresh ks = names.fresh 97 (key_names ks)

pub fresh_is_new : (ks : PlainKeys) → is_new (fresh ks) ks ≡ true
unfolding fresh
fresh_is_new ks = new_among (names.fresh 97 (key_names ks)) ks ∙ names.fresh_is_new 97 (key_names ks)
