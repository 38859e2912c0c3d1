use Rattle.std.proofs.Common.{sym, subst}
use Rattle.rbs_lexer.specs.Scanned.{Finds}
use Rattle.rbs_lexer.proofs.FirstTokens.{comment_token}
use Rattle.rbs_lexer.proofs.found.comment.Goals as goal

pub returns : goal.returns
returns c = subst (Finds _) (sym c.of_kind.ensures) (comment_token c.args.rest.now c.run_length.result c.run_length.ensures)
