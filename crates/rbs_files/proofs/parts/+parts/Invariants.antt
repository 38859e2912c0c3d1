use Rattle.std.proofs.Common.{◌≡◌, ◌+◌, ◌*◌, ◌≤◌, length}
use Rattle.rbs_phrases.specs.Fronts.{whole}
use Rattle.rbs_files.specs.Onward.{GrowsParts}
use Rattle.rbs_files.proofs.parts.+parts.Given as goal

abbrev pub decreases-body_from : goal.decreases-body_from
decreases-body_from l = length l.cursor.now.rest * 8 + 2

abbrev pub decreases-class_on : goal.decreases-class_on
decreases-class_on l = length l.cursor.now.rest * 8 + 1

abbrev pub decreases-declaration_from : goal.decreases-declaration_from
decreases-declaration_from l = length l.cursor.now.rest * 8 + 3

abbrev pub decreases-module_on : goal.decreases-module_on
decreases-module_on l = length l.cursor.now.rest * 8 + 1

abbrev pub decreases-part_on : goal.decreases-part_on
decreases-part_on l = length l.cursor.now.rest * 8 + 1

abbrev pub decreases-parts_on : goal.decreases-parts_on
decreases-parts_on l = length l.cursor.now.rest * 8 + 2

abbrev pub invariant-parts_on-loop-alloc : goal.invariant-parts_on-loop-alloc
invariant-parts_on-loop-alloc l = record {
  read : GrowsParts l.room l.file (whole l.initial.cursor).last l.initial.parts l.parts l.initial.cursor.rest l.cursor.rest;
  kept : whole l.cursor ≡ whole l.initial.cursor;
  nearer : length l.cursor.rest ≤ length l.initial.cursor.rest;
}

abbrev pub decreases-parts_on-loop-alloc : goal.decreases-parts_on-loop-alloc
decreases-parts_on-loop-alloc l = length l.cursor.rest
