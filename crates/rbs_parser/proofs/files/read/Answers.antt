use Rattle.std.proofs.Common.{sym, subst, List, append-nil, Option, None}
use Rattle.std.specs.Option.{option_to_list}
use Rattle.rbs_terminals.specs.declared.token.Token.{Token}
use Rattle.rbs_terminals.specs.Terminals.{terminals}
use Rattle.rbs_declarations.specs.Answers.{Answers}
use Rattle.rbs_parser.proofs.files.read.Goals as goal

pub returns-in-None : goal.returns-in-None
returns-in-None c =
    let ts = terminals c.args.bytes.now c.args.tokens.now in
    rw c.in-None.is (subst (λ (ts : List Token). Answers c.args.file ts c.read_whole.result) (sym (append-nil ts)) c.read_whole.ensures)
