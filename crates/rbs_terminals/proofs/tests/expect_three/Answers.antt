use Rattle.std.proofs.Common.{List, sym, subst}
use Rattle.rbs_lexer.specs.declared.token.SigToken.{SigToken}
use Rattle.rbs_lexer.specs.Division.{whole}
use Rattle.rbs_terminals.specs.Terminals.{AllStand}
use Rattle.rbs_terminals.proofs.Stands.{all_stand}
use Rattle.rbs_terminals.proofs.tests.expect_three.Goals as goal

pub new-rest-requires : goal.new-rest-requires
new-rest-requires g c =
    let bytes = c.as_bytes-bytes.result.now in
    subst (λ (ts : List SigToken). AllStand bytes 0 ts) (sym c.as_slice.ensures) (all_stand 3 bytes c.in-Ok.tokens whole c.in-Ok.ensures.answer.divided)
