use Rattle.std.proofs.Common.{◌+◌, sym, ◌∙◌, subst}
use Rattle.rbs_lexer.specs.Names.{IsLower}
use Rattle.rbs_lexer.specs.Scanned.{IsLongest}
use Rattle.rbs_lexer.proofs.Bytes.{fronted}
use Rattle.rbs_lexer.proofs.NameFronts.{lower_short, lower_longest}
use Rattle.rbs_lexer.proofs.words.lower_length.Goals as goal

pub returns-then-begins_interface : goal.returns-then-begins_interface
returns-then-begins_interface c =
    subst (λ bytes. IsLongest IsLower bytes 1) (sym (fronted c.args.text.now c.in-len1-up.len_at_least)) (lower_short _ _ (sym c.begins_interface.ensures ∙ c.if-begins_interface.true))

pub returns-else-begins_interface : goal.returns-else-begins_interface
returns-else-begins_interface c =
    subst (λ bytes. IsLongest IsLower bytes (1 + c.run_length.result)) (sym (fronted c.args.text.now c.in-len1-up.len_at_least))
    (lower_longest _ _ c.run_length.result c.run_length.ensures (sym c.starts_lower.ensures ∙ c.if-not-starts_lower.false) (sym c.begins_interface.ensures ∙ c.if-begins_interface.false))
