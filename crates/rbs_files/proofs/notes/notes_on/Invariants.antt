use Rattle.std.proofs.Common.{◌≡◌, ◌≤◌, length}
use Rattle.rbs_terminals.specs.declared.token.Spot.{Spot}
use Rattle.rbs_phrases.specs.Fronts.{whole}
use Rattle.rbs_files.specs.Onward.{Annotated}
use Rattle.rbs_files.proofs.notes.notes_on.Given as goal

abbrev pub invariant-loop-cursor : goal.invariant-loop-cursor
invariant-loop-cursor l = record {
  read : (s : Spot) → l.initial.noted.start ≡ s.start → l.initial.cursor.end ≡ s.end → (s' : Spot) × (l.noted.start ≡ s'.start) × (l.cursor.end ≡ s'.end) × Annotated l.initial.noted l.initial.cursor.rest s l.noted l.cursor.rest s';
  comments : l.noted.notes.comments ≡ l.initial.noted.notes.comments;
  kept : whole l.cursor ≡ whole l.initial.cursor;
  nearer : length l.cursor.rest ≤ length l.initial.cursor.rest;
}

abbrev pub decreases-loop-cursor : goal.decreases-loop-cursor
decreases-loop-cursor l = length l.cursor.rest
