use Rattle.std.proofs.Common.{rules, ◌≡◌, ◌<◌, ◌≤◌, ◌+◌, ◌∙◌, ap, length, get_or, arith, true, false, nat_eq, sym}
use Rattle.std.specs.Prelude.{◌==◌}
use Rattle.source_text.proofs.LineLemmas.{line_le, column_le, column_newline, column_other, line_newline, line_other}
use Rattle.source_text.proofs.lines.advance.Goals as goal
use Rattle.source_text.proofs.lines.advance.Goals.{then-text-i-eq10, else-text-i-eq10}

pub overflow_add-column : goal.overflow_add-column
overflow_add-column c = omega (arith, column_le c.args.text.now c.loop-i.i, c.loop-i.invariant.column)

pub loop-i-preserved : goal.loop-i-preserved
loop-i-preserved c =
    let within : c.loop-i.i < length c.args.text.now = omega arith in
    elim c.if-text-i-eq10.branch [
      | then-text-i-eq10 w ↦
          let is : (get_or c.args.text.now c.loop-i.i 0 == 10) ≡ true = search rules in
          record {
            within = omega arith;
            line = w.line-is ∙ ap (λ n. n + 1) c.loop-i.invariant.line ∙ sym (line_newline c.args.text.now c.loop-i.i within is);
            column = w.column-is ∙ sym (column_newline c.args.text.now c.loop-i.i within is);
          }
      | else-text-i-eq10 w ↦
          let is : (get_or c.args.text.now c.loop-i.i 0 == 10) ≡ false = search rules in
          record {
            within = omega arith;
            line = w.line-is ∙ c.loop-i.invariant.line ∙ sym (line_other c.args.text.now c.loop-i.i within is);
            column = w.column-is ∙ ap (λ n. n + 1) c.loop-i.invariant.column ∙ sym (column_other c.args.text.now c.loop-i.i within is);
          }
    ]
