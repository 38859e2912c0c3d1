-- A word that no type parameter of a list has for its name.
use Rattle.std.proofs.Common.{ℕ, ◌≡◌, ◌∙◌, true, List}
use Rattle.names.proofs.Fresh as names
use Rattle.sig_model.specs.PlainMember.{PlainParam}
use Rattle.rbs_declarations.specs.Grammar.{is_new_param}
use Rattle.rbs_declarations.proofs.ParamNames.{param_names, new_among}

-- so many letters `A`
pub fresh_param : List PlainParam → List ℕ
fresh_param ps = names.fresh 65 (param_names ps)

pub fresh_param_is_new : (ps : List PlainParam) → is_new_param (fresh_param ps) ps ≡ true
unfolding fresh_param
fresh_param_is_new ps = new_among (names.fresh 65 (param_names ps)) ps ∙ names.fresh_is_new 65 (param_names ps)
