use Rattle.std.proofs.Common.{◌∙◌, sym, subst, ap}
use Rattle.rbs_lexer.specs.Scanned.{Finds, is_pair}
use Rattle.rbs_lexer.proofs.FirstTokens.{pair_token, mark_token, no_mark_token}
use Rattle.rbs_lexer.proofs.found.mark.Goals as goal

pub returns-then-is_pair : goal.returns-then-is_pair
returns-then-is_pair c =
    subst (Finds _) (sym c.of_kind.ensures)
    (pair_token c.args.first c.args.rest.now c.requires (ap (is_pair c.args.first) (sym c.byte_at.ensures) ∙ sym c.is_pair.ensures ∙ c.if-is_pair.true))

pub returns-then-is_mark_byte : goal.returns-then-is_mark_byte
returns-then-is_mark_byte c =
    subst (Finds _) (sym c.of_kind-then-is_mark_byte.ensures)
    (mark_token c.args.first c.args.rest.now c.requires (ap (is_pair c.args.first) (sym c.byte_at.ensures) ∙ sym c.is_pair.ensures ∙ c.if-is_pair.false) (sym c.is_mark_byte.ensures ∙ c.if-is_mark_byte.true))

pub returns-else-is_mark_byte : goal.returns-else-is_mark_byte
returns-else-is_mark_byte c = no_mark_token c.args.first c.args.rest.now c.requires (sym c.is_mark_byte.ensures ∙ c.if-is_mark_byte.false)
