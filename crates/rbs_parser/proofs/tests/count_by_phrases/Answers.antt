use Rattle.std.proofs.Common.{List, sym, subst}
use Rattle.rbs_lexer.specs.declared.token.SigToken.{SigToken}
use Rattle.rbs_lexer.specs.Division.{end_of}
use Rattle.rbs_terminals.specs.Terminals.{AllStand}
use Rattle.rbs_terminals.proofs.Stands.{all_stand}
use Rattle.rbs_parser.proofs.tests.count_by_phrases.Goals as goal

pub new-terminals-requires : goal.new-terminals-requires
new-terminals-requires c =
    let divided = c.in_ok-divided.divided in
    subst (λ (ts : List SigToken). AllStand c.args.bytes.now 0 ts) (sym c.as_slice.ensures)
    (all_stand 3 c.args.bytes.now divided.tokens (end_of divided.ending) c.in_ok-divided.ensures.answer.divided)
