use Rattle.std.proofs.Common.{◌+◌, sym, ◌∙◌, subst}
use Rattle.rbs_lexer.specs.Names.{IsWord}
use Rattle.rbs_lexer.specs.Scanned.{IsLongest}
use Rattle.rbs_lexer.proofs.Bytes.{fronted}
use Rattle.rbs_lexer.proofs.NameFronts.{word_upper}
use Rattle.rbs_lexer.proofs.words.word_length.Goals as goal

pub returns-in-len1-up : goal.returns-in-len1-up
returns-in-len1-up c =
    subst (λ bytes. IsLongest IsWord bytes (1 + c.run_length.result)) (sym (fronted c.args.text.now c.in-len1-up.len_at_least))
    (word_upper _ _ c.run_length.result c.run_length.ensures (sym c.is_ascii_uppercase.ensures.value ∙ c.if-is_ascii_uppercase.true))
