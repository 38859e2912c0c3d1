use Rattle.std.proofs.Common.{sym, subst}
use Rattle.std.specs.Prelude.{IsUtf8}
use Rattle.rbs_lexer.proofs.Bytes.{rest_is}
use Rattle.rbs_terminals.specs.Terminals.{text_of}
use Rattle.rbs_terminals.proofs.Texts.{utf8_comment}
use Rattle.rbs_terminals.proofs.before.Before.pass_comment.Goals as goal

pub word_of-requires : goal.word_of-requires
word_of-requires c =
    let text = text_of c.args.bytes.now c.args.token.now in
    rw c.text_of.ensures (subst IsUtf8 (sym (rest_is text 1)) (utf8_comment c.args.token.now.kind text c.requires.comment c.requires.stands.text))
