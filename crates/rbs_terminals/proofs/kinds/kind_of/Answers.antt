use Rattle.std.proofs.Common.{sym, subst}
use Rattle.std.specs.Prelude.{IsUtf8}
use Rattle.rbs_lexer.specs.declared.token.TokenKind.{TokenKind}
use Rattle.rbs_lexer.specs.Kinds.{IsToken}
use Rattle.rbs_lexer.proofs.Bytes.{rest_is}
use Rattle.rbs_terminals.proofs.Texts.{utf8_text, utf8_variable, utf8_symbol, utf8_note}
use Rattle.rbs_terminals.proofs.kinds.kind_of.Goals as goal

pub word_kind-requires : goal.word_kind-requires
word_kind-requires c = utf8_text c.args.kind c.args.text.now c.requires.token c.requires.fit

pub word_of-requires : goal.word_of-requires
word_of-requires c = utf8_text c.args.kind c.args.text.now c.requires.token c.requires.fit

pub word_of-requires-in-IfaceName : goal.word_of-requires-in-IfaceName
word_of-requires-in-IfaceName c = utf8_text c.args.kind c.args.text.now c.requires.token c.requires.fit

pub word_of-requires-in-Ivar : goal.word_of-requires-in-Ivar
word_of-requires-in-Ivar c =
    let text = c.args.text.now in
    subst IsUtf8 (sym (rest_is text 1)) (utf8_variable text (subst (λ (k : TokenKind). IsToken k text) c.in-Ivar.is c.requires.token))

pub word_of-requires-in-Sym : goal.word_of-requires-in-Sym
word_of-requires-in-Sym c =
    let text = c.args.text.now in
    subst IsUtf8 (sym (rest_is text 1)) (utf8_symbol text (subst (λ (k : TokenKind). IsToken k text) c.in-Sym.is c.requires.token))

pub word_of-requires-in-Annotation : goal.word_of-requires-in-Annotation
word_of-requires-in-Annotation c =
    let text = c.args.text.now in
    utf8_note text (subst (λ (k : TokenKind). IsToken k text) c.in-Annotation.is c.requires.token)
