use Rattle.std.proofs.Common.{◌≡◌, ◌≤◌, ◌<◌, length, true, false}
use Rattle.sig_model.specs.Height.{tallest}
use Rattle.rbs_phrases.specs.Fronts.{whole}
use Rattle.rbs_declarations.specs.Grammar.{SelfTypes}
use Rattle.rbs_declarations.specs.Openness.{self_types_open}
use Rattle.rbs_files.specs.Onward.{GrowsSelves}
use Rattle.rbs_files.proofs.headings.self_types_on.Given as goal

abbrev pub invariant-loop-more : goal.invariant-loop-more
invariant-loop-more l = record {
  further : l.more ≡ true → GrowsSelves l.room l.initial.done l.done l.initial.cursor.rest l.cursor.rest;
  all : l.more ≡ false → (w : SelfTypes l.initial.done l.done l.initial.cursor.rest l.cursor.rest) × (self_types_open w ≤ l.room);
  low : tallest l.done ≤ 200;
  kept : whole l.cursor ≡ whole l.initial.cursor;
  nearer : length l.cursor.rest ≤ length l.initial.cursor.rest;
  shorter : l.more ≡ false → length l.cursor.rest < length l.initial.cursor.rest;
}

abbrev pub decreases-loop-more : goal.decreases-loop-more
decreases-loop-more l = length l.cursor.rest
