use Rattle.std.proofs.Common.{◌≡◌, ◌≤◌, length}
use Rattle.rbs_phrases.specs.Fronts.{whole}
use Rattle.rbs_files.specs.Onward.{GrowsInterface}
use Rattle.rbs_files.proofs.parts.interface_parts_on.Given as goal

abbrev pub invariant-loop-alloc : goal.invariant-loop-alloc
invariant-loop-alloc l = record {
  read : GrowsInterface l.room l.file (whole l.initial.cursor).last l.initial.parts l.parts l.initial.cursor.rest l.cursor.rest;
  kept : whole l.cursor ≡ whole l.initial.cursor;
  nearer : length l.cursor.rest ≤ length l.initial.cursor.rest;
}

abbrev pub decreases-loop-alloc : goal.decreases-loop-alloc
decreases-loop-alloc l = length l.cursor.rest
