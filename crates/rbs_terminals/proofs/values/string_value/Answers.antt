use Rattle.std.proofs.Common.{sym, ◌∙◌, subst}
use Rattle.std.specs.Prelude.{IsUtf8}
use Rattle.rbs_terminals.proofs.Numbers.{utf8_unescaped}
use Rattle.rbs_terminals.proofs.values.string_value.Goals as goal

pub word_of-requires : goal.word_of-requires
word_of-requires c = subst IsUtf8 (sym (c.as_slice.ensures ∙ c.in_ok-value.ensures)) (utf8_unescaped c.requires)
