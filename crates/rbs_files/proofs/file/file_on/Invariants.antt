use Rattle.std.proofs.Common.{◌≡◌, length}
use Rattle.rbs_phrases.specs.Fronts.{whole}
use Rattle.rbs_files.specs.Onward.{GrowsFile}
use Rattle.rbs_files.proofs.file.file_on.Given as goal

abbrev pub invariant-loop-alloc : goal.invariant-loop-alloc
invariant-loop-alloc l = record {
  read : GrowsFile 400 l.file (whole l.initial.cursor).last l.initial.decls l.decls l.initial.cursor.rest l.cursor.rest;
  kept : whole l.cursor ≡ whole l.initial.cursor;
}

abbrev pub decreases-loop-alloc : goal.decreases-loop-alloc
decreases-loop-alloc l = length l.cursor.rest
