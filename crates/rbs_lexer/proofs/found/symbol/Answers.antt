use Rattle.std.proofs.Common.{sym, subst, arith}
use Rattle.rbs_lexer.specs.Scanned.{Finds}
use Rattle.rbs_lexer.proofs.FirstTokens.{symbol_token}
use Rattle.rbs_lexer.proofs.found.symbol.Goals as goal

pub returns-in_default : goal.returns-in_default
returns-in_default c =
    subst (Finds _) (sym c.of_kind-in_default.ensures) (symbol_token c.args.rest.now c.method_name_length.result (omega arith) c.method_name_length.ensures)
