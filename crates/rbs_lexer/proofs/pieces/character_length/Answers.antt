use Rattle.std.proofs.Common.{sym, ◌∙◌}
use Rattle.rbs_lexer.specs.Scanned.{belongs}
use Rattle.rbs_lexer.proofs.Decoded.{decoded_first, decoded_none, decoded_other}
use Rattle.rbs_lexer.proofs.pieces.character_length.Goals as goal

pub returns-then-belongs : goal.returns-then-belongs
returns-then-belongs c =
    decoded_first (belongs c.args.run) c.args.text.now c.in-Some.c c.decode-first.result.1 (sym c.in-Some.is ∙ c.decode-first.ensures.char) c.decode-first.ensures.size (sym c.belongs.ensures ∙ c.if-belongs.true)

pub returns-else-belongs : goal.returns-else-belongs
returns-else-belongs c =
    decoded_other (belongs c.args.run) c.args.text.now c.in-Some.c (sym c.in-Some.is ∙ c.decode-first.ensures.char) (sym c.belongs.ensures ∙ c.if-belongs.false)

pub returns-in-None : goal.returns-in-None
returns-in-None c = decoded_none (belongs c.args.run) c.args.text.now (sym c.in-None.is ∙ c.decode-first.ensures.char)
