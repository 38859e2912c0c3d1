use Rattle.std.proofs.Common.{sym, ◌∙◌, arith}
use Rattle.rbs_declarations.specs.Grammar.{no_more}
use Rattle.rbs_files.proofs.MethodNamesRead.{longer_operator}
use Rattle.rbs_files.proofs.method_names.marks_on.Goals as goal

pub loop-longer-preserved : goal.loop-longer-preserved
loop-longer-preserved c =
    let next = c.in_ok-pass.ensures.next in
    record {
      further = λ o rest d. c.loop-longer.invariant.further o rest (longer_operator c.loop-longer.operator c.in-Some.longer o c.loop-longer.cursor.rest next.0 c.pass.new.self.rest rest next.1 (sym c.extension.ensures ∙ c.in-Some.is) d);
      kept = c.in_ok-pass.ensures.kept ∙ c.loop-longer.invariant.kept;
      nearer = omega (arith, c.in_ok-pass.ensures.shorter, c.loop-longer.invariant.nearer);
    }

pub returns-then-is_operator-clause-phrase : goal.returns-then-is_operator-clause-phrase
returns-then-is_operator-clause-phrase c =
    c.loop-longer.invariant.further c.loop-longer.operator c.loop-longer.cursor.rest (no_more (sym c.is_operator.ensures ∙ c.if-is_operator.true) (sym c.extension.ensures ∙ c.in_default.is))
