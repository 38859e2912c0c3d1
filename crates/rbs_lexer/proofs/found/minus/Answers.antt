use Rattle.std.proofs.Common.{◌∙◌, sym, subst, arith}
use Rattle.rbs_lexer.specs.declared.pieces.Run.TheVariants as run
use Rattle.rbs_lexer.specs.Scanned.{IsPiece, IsRun, Finds}
use Rattle.rbs_lexer.proofs.FirstTokens.{minus_token, negative_token}
use Rattle.rbs_lexer.proofs.found.minus.Goals as goal

pub returns-in-0-2 : goal.returns-in-0-2
returns-in-0-2 c =
    subst (Finds _) (sym c.of_kind-in-0-2.ensures)
    (minus_token c.args.rest.now 0 (subst (IsRun (IsPiece run.Digit) c.args.rest.now) c.in-0.is c.run_length.ensures) (λ e. c.if-byte_at-eq62.false (c.byte_at.ensures ∙ e)))

pub returns-in_default : goal.returns-in_default
returns-in_default c =
    subst (Finds _) (sym c.of_kind-in_default.ensures) (negative_token c.args.rest.now c.run_length.result (omega arith) c.run_length.ensures)
