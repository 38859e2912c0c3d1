use Rattle.std.proofs.Common.{◌≡◌, ◌≤◌, List, length}
use Rattle.rbs_terminals.specs.declared.token.Token.{Token}
use Rattle.rbs_declarations.specs.declared.operators.Operator.{Operator}
use Rattle.rbs_declarations.specs.Grammar.{Marks}
use Rattle.rbs_phrases.specs.Fronts.{whole}
use Rattle.rbs_files.proofs.method_names.marks_on.Given as goal

abbrev pub invariant-loop-longer : goal.invariant-loop-longer
invariant-loop-longer l = record {
  further : (o : Operator) (rest : List Token) → Marks l.operator o l.cursor.rest rest → Marks l.initial.operator o l.initial.cursor.rest rest;
  kept : whole l.cursor ≡ whole l.initial.cursor;
  nearer : length l.cursor.rest ≤ length l.initial.cursor.rest;
}

abbrev pub decreases-loop-longer : goal.decreases-loop-longer
decreases-loop-longer l = length l.cursor.rest
