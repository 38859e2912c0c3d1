use Rattle.std.proofs.Common.{◌≡◌, ◌++◌, drop}
use Rattle.diagnostics.specs.Lines.{lines_of, IsReached}
use Rattle.diagnostics.proofs.lines.add_lines.Given as goal

abbrev pub invariant-loop-diag : goal.invariant-loop-diag
invariant-loop-diag l = record {
  lines : l.out ++ lines_of l.sources (drop l.diag-index l.list) ≡ l.initial.out ++ lines_of l.sources l.list;
  reached : IsReached l.sources l.reached;
}
