use Rattle.std.proofs.Common.{◌≡◌, ◌≤◌, ◌<◌, List, [], length, true, false}
use Rattle.rbs_terminals.specs.declared.token.Token.{Token}
use Rattle.sig_model.specs.PlainMember.{PlainMethod}
use Rattle.rbs_phrases.specs.Fronts.{whole}
use Rattle.rbs_declarations.specs.Heights.{methods_height}
use Rattle.rbs_files.specs.Parameters.{Overloaded}
use Rattle.rbs_files.proofs.overloads.overloads_on.Given as goal

abbrev pub invariant-loop-more : goal.invariant-loop-more
invariant-loop-more l = record {
  further : l.more ≡ true → (all : List PlainMethod) (rest : List Token) → Overloaded l.room l.done all l.cursor.rest rest → Overloaded l.room [] all l.initial.cursor.rest rest;
  all : l.more ≡ false → Overloaded l.room [] l.done l.initial.cursor.rest l.cursor.rest;
  low : methods_height l.done ≤ 200;
  kept : whole l.cursor ≡ whole l.initial.cursor;
  nearer : length l.cursor.rest ≤ length l.initial.cursor.rest;
  shorter : l.more ≡ false → length l.cursor.rest < length l.initial.cursor.rest;
}

abbrev pub decreases-loop-more : goal.decreases-loop-more
decreases-loop-more l = length l.cursor.rest
