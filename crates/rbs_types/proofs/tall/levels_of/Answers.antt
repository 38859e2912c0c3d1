use Rattle.std.proofs.Common.{◌≡◌, sym, ◌∙◌, ap, max, rules}
use Rattle.sig_model.specs.Height.{rest_height}
use Rattle.rbs_types.specs.Capped.{capped}
use Rattle.rbs_types.specs.Needs.{parameters_height}
use Rattle.rbs_types.proofs.Caps.{capped_max, fun_capped}
use Rattle.rbs_types.proofs.tall.levels_of.Goals as goal

pub returns : goal.returns
returns c =
    let of_all : c.max-listed.result ≡ max c.levels.result c.key_rest.inside.levels = search rules in
    let tallest : c.max-2.result ≡ max (max c.max-listed.result c.block.inside.levels) c.outcome.inside.levels = search rules in
    let listed : c.max-listed.result ≡ capped (max (parameters_height c.args.parameters.now) (rest_height c.args.key_rest.now)) =
    of_all ∙ ap (λ n. max n c.key_rest.inside.levels) c.levels.ensures ∙ ap (λ n. max (capped (parameters_height c.args.parameters.now)) n) (search rules) ∙ sym (capped_max (parameters_height c.args.parameters.now) (rest_height c.args.key_rest.now)) in
    tallest ∙ fun_capped (record { parameters = c.args.parameters.now; key_rest = c.args.key_rest.now }) c.args.block.now c.args.outcome.now _ _ _ listed (search rules) (search rules)
