use Rattle.std.proofs.Common.{◌∙◌, sym, subst, ap, get_or}
use Rattle.rbs_lexer.specs.Names.{IsOperator}
use Rattle.rbs_lexer.specs.Scanned.{IsLongest, operator_length}
use Rattle.rbs_lexer.proofs.Operators.{operator_longest}
use Rattle.rbs_lexer.proofs.words.operator_length.Goals as goal

pub returns : goal.returns
returns c =
    let text = c.args.text.now in
    let is = c.operator_length_of.ensures ∙ ap (λ a. operator_length a c.byte_at-2.result c.byte_at-3.result) c.byte_at.ensures
    ∙ ap (λ b. operator_length (get_or text 0 0) b c.byte_at-3.result) c.byte_at-2.ensures ∙ ap (λ d. operator_length (get_or text 0 0) (get_or text 1 0) d) c.byte_at-3.ensures in
    subst (IsLongest IsOperator text) (sym is) (operator_longest text)
