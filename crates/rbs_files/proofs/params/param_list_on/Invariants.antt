use Rattle.std.proofs.Common.{◌≡◌, ◌≤◌, ◌<◌, List, [], length, true, false}
use Rattle.rbs_terminals.specs.declared.token.Token.{Token}
use Rattle.sig_model.specs.PlainMember.{PlainParam}
use Rattle.rbs_phrases.specs.Fronts.{whole}
use Rattle.rbs_declarations.specs.Heights.{params_height}
use Rattle.rbs_files.specs.Parameters.{Lengthens}
use Rattle.rbs_files.proofs.params.param_list_on.Given as goal

abbrev pub invariant-loop-more : goal.invariant-loop-more
invariant-loop-more l = record {
  further : l.more ≡ true → (all : List PlainParam) (rest : List Token) → Lengthens l.room l.done all l.cursor.rest rest → Lengthens l.room [] all l.initial.cursor.rest rest;
  all : l.more ≡ false → Lengthens l.room [] l.done l.initial.cursor.rest l.cursor.rest;
  low : params_height l.done ≤ 200;
  kept : whole l.cursor ≡ whole l.initial.cursor;
  nearer : length l.cursor.rest ≤ length l.initial.cursor.rest;
  shorter : l.more ≡ false → length l.cursor.rest < length l.initial.cursor.rest;
}

abbrev pub decreases-loop-more : goal.decreases-loop-more
decreases-loop-more l = length l.cursor.rest
