use Rattle.std.proofs.Common.{◌<◌, ◌∙◌, sym, subst, ap, arith}
use Rattle.rbs_lexer.specs.Names.{IsWord, is_ending}
use Rattle.rbs_lexer.specs.Scanned.{IsLongest}
use Rattle.rbs_lexer.proofs.MethodNames.{operator_name, word_name, ended_name, inside, ending_some}
use Rattle.rbs_lexer.proofs.words.method_name_length.Goals as goal

pub returns-then-word-eq0 : goal.returns-then-word-eq0
returns-then-word-eq0 c =
    operator_name c.args.text.now c.operator_length.result (subst (IsLongest IsWord c.args.text.now) c.if-word-eq0.true c.word_length-word.ensures) c.operator_length.ensures

pub returns-then-is_ending : goal.returns-then-is_ending
returns-then-is_ending c =
    let some : 0 < c.word_length-word.result = omega (arith, c.if-word-eq0.false) in
    let ends = ap is_ending (sym c.byte_at.ensures) ∙ sym c.is_ending.ensures ∙ c.if-is_ending.true in
    ended_name c.args.text.now c.word_length-word.result some c.word_length-word.ensures ends (inside c.args.text.now c.word_length-word.result (ending_some _ ends))

pub returns-else-is_ending : goal.returns-else-is_ending
returns-else-is_ending c =
    let some : 0 < c.word_length-word.result = omega (arith, c.if-word-eq0.false) in
    word_name c.args.text.now c.word_length-word.result some c.word_length-word.ensures (ap is_ending (sym c.byte_at.ensures) ∙ sym c.is_ending.ensures ∙ c.if-is_ending.false)
