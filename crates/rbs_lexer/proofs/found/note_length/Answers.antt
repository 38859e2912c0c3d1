use Rattle.std.proofs.Common.{◌+◌, ◌∙◌, sym, subst, arith}
use Rattle.rbs_lexer.specs.Scanned.{IsNoteRest, IsLongest}
use Rattle.rbs_lexer.proofs.Bytes.{fronted_two}
use Rattle.rbs_lexer.proofs.FirstTokens.{note_longest, no_note}
use Rattle.rbs_lexer.proofs.found.note_length.Goals as goal

pub returns-then-byte_at-eq125 : goal.returns-then-byte_at-eq125
returns-then-byte_at-eq125 c =
    subst (λ text. IsLongest IsNoteRest text (c.run_length-length.result + 3)) (sym (fronted_two c.args.text.now 97 123 c.in-97.len_at_least (omega arith) (omega arith)))
    (note_longest _ _ c.run_length-length.ensures (sym c.byte_at.ensures ∙ c.if-byte_at-eq125.true))

pub returns-else-byte_at-eq125 : goal.returns-else-byte_at-eq125
returns-else-byte_at-eq125 c =
    subst (λ text. IsLongest IsNoteRest text 0) (sym (fronted_two c.args.text.now 97 123 c.in-97.len_at_least (omega arith) (omega arith)))
    (no_note _ _ c.run_length-length.ensures (λ e. c.if-byte_at-eq125.false (c.byte_at.ensures ∙ e)))
