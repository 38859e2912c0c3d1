use Rattle.std.proofs.Common.{◌∙◌, sym, subst}
use Rattle.rbs_lexer.specs.Scanned.{Finds}
use Rattle.rbs_lexer.proofs.FirstTokens.{upper_token, interface_token, lower_token}
use Rattle.rbs_lexer.proofs.found.word.Goals as goal

pub returns-then-is_ascii_uppercase : goal.returns-then-is_ascii_uppercase
returns-then-is_ascii_uppercase c =
    subst (Finds _) (sym c.of_kind.ensures) (upper_token c.args.first c.args.rest.now c.run_length-size.result c.requires c.run_length-size.ensures (sym c.is_ascii_uppercase.ensures.value ∙ c.if-is_ascii_uppercase.true))

pub returns-then-begins_interface : goal.returns-then-begins_interface
returns-then-begins_interface c =
    subst (Finds _) (sym c.of_kind-then-begins_interface.ensures)
    (interface_token c.args.first c.args.rest.now c.run_length-size.result c.requires c.run_length-size.ensures (sym c.begins_interface.ensures ∙ c.if-begins_interface.true))

pub returns-else-begins_interface : goal.returns-else-begins_interface
returns-else-begins_interface c =
    subst (Finds _) (sym c.of_kind-else-begins_interface.ensures)
    (lower_token c.args.first c.args.rest.now c.run_length-size.result c.requires c.run_length-size.ensures
    (sym c.is_ascii_uppercase.ensures.value ∙ c.if-is_ascii_uppercase.false) (sym c.begins_interface.ensures ∙ c.if-begins_interface.false))
