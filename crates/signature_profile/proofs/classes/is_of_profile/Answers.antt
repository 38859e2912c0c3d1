use Rattle.std.proofs.Common.{subst, sym, List}
use Rattle.rbs_lexer.specs.declared.token.SigToken.{SigToken}
use Rattle.rbs_lexer.specs.Division.{end_of}
use Rattle.rbs_terminals.specs.Terminals.{AllStand}
use Rattle.rbs_terminals.proofs.Stands.{all_stand}
use Rattle.signature_profile.proofs.classes.is_of_profile.Goals as goal

pub new-terminals-requires : goal.new-terminals-requires
new-terminals-requires c =
    subst (λ (ts : List SigToken). AllStand c.args.bytes.now 0 ts) (sym c.as_slice.ensures)
    (all_stand c.args.file c.args.bytes.now c.args.divided.now.tokens (end_of c.args.divided.now.ending) c.requires.divided.divided)
