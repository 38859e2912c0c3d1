use Rattle.std.proofs.Common.{◌≡◌, List, subst, sym, arith}
use Rattle.std.proofs.lemmas.Grind.{common_steps}
use Rattle.std.specs.List.{AllByRecursion}
use Rattle.rbs_lexer.specs.declared.token.SigToken.{SigToken}
use Rattle.rbs_lexer.specs.Division.{whole}
use Rattle.rbs_terminals.specs.declared.token.Token.{Token}
use Rattle.rbs_terminals.specs.Kinds.{IsOfToken}
use Rattle.rbs_terminals.specs.Terminals.{AllStand, at_start, terminals}
use Rattle.rbs_terminals.proofs.Stands.{all_stand, all_known}
use Rattle.rbs_terminals.proofs.text.all_terminals.Goals as goal

pub new-rest-requires : goal.new-rest-requires
new-rest-requires c =
    subst (λ (ts : List SigToken). AllStand c.args.bytes.now 0 ts) (sym c.as_slice.ensures)
    (all_stand c.args.file c.args.bytes.now c.in_ok-tokens.tokens whole c.in_ok-tokens.ensures.answer.divided)

pub returns-clause-of_tokens : goal.returns-clause-of_tokens
returns-clause-of_tokens c =
    let bytes = c.args.bytes.now in
    let tokens = c.in_ok-tokens.tokens in
    let read : c.loop-all.all ≡ terminals bytes tokens = grind (arith, common_steps) in
    subst (λ (ts : List Token). AllByRecursion (λ (t : Token). IsOfToken t.kind) ts) (sym read)
    (all_known bytes 0 at_start tokens (all_stand c.args.file bytes tokens whole c.in_ok-tokens.ensures.answer.divided))
