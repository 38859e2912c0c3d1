use Rattle.std.proofs.Common.{sym, subst, List, append-nil}
use Rattle.rbs_terminals.specs.declared.token.Token.{Token}
use Rattle.rbs_terminals.specs.Terminals.{terminals}
use Rattle.rbs_declarations.specs.Answers.{Answers}
use Rattle.rbs_parser.proofs.Main.{file_found}
use Rattle.rbs_parser.proofs.files.read_whole.Goals as goal

pub returns-in-Ok : goal.returns-in-Ok
returns-in-Ok c = file_found c.args.file (terminals c.args.bytes.now c.args.tokens.now) c.in-Ok.decls (rw (sym c.new.ensures) c.in-Ok.ensures)

pub returns-in-Err-Other : goal.returns-in-Err-Other
returns-in-Err-Other c =
    subst (λ (ts : List Token). Answers c.args.file ts c.read_file.result) (append-nil (terminals c.args.bytes.now c.args.tokens.now)) (rw (sym c.new-in-Err-Other.ensures) c.read_file.ensures.answer)
