use Rattle.std.proofs.Common.{◌∷◌, sym, subst}
use Rattle.rbs_lexer.specs.Scanned.{Finds}
use Rattle.rbs_lexer.proofs.FirstTokens.{number_token}
use Rattle.rbs_lexer.proofs.found.number.Goals as goal

pub returns : goal.returns
returns c = λ b d. subst (Finds (b ∷ c.args.rest.now)) (sym c.of_kind.ensures) (number_token c.args.rest.now c.run_length.result b d c.run_length.ensures)
