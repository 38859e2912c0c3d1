use Rattle.std.proofs.Common.{◌≡◌, ◌+◌, ◌*◌, ◌≤◌, ◌<◌, List, length, true, false}
use Rattle.rbs_terminals.specs.declared.token.Token.{Token}
use Rattle.sig_model.specs.PlainTy as plain
use Rattle.sig_model.specs.PlainTy.{PlainTys, PlainKeys}
use Rattle.rbs_types.specs.declared.state.Listed.{Listed}
use Rattle.rbs_types.specs.Parts.{closed, no_parameters}
use Rattle.rbs_types.specs.Grammar.{Lists, Keys, Parameters}
use Rattle.rbs_phrases.specs.Fronts.{whole}
use Rattle.rbs_phrases.specs.Items.{sort_of}
use Rattle.rbs_phrases.proofs.types.+types.Given as goal

abbrev pub decreases-named_from : goal.decreases-named_from
decreases-named_from l = length l.cursor.now.rest * 20 + 5

abbrev pub decreases-tuple_on : goal.decreases-tuple_on
decreases-tuple_on l = length l.cursor.now.rest * 20 + 5

abbrev pub decreases-keys_on : goal.decreases-keys_on
decreases-keys_on l = length l.cursor.now.rest * 20 + 4

abbrev pub decreases-record_on : goal.decreases-record_on
decreases-record_on l = length l.cursor.now.rest * 20 + 5

abbrev pub decreases-marked_from : goal.decreases-marked_from
decreases-marked_from l = length l.cursor.now.rest * 20 + 10

abbrev pub decreases-paren_on : goal.decreases-paren_on
decreases-paren_on l = length l.cursor.now.rest * 20 + 5

abbrev pub decreases-inter_behind : goal.decreases-inter_behind
decreases-inter_behind l = length l.cursor.now.rest * 20 + 5

abbrev pub decreases-union_behind : goal.decreases-union_behind
decreases-union_behind l = length l.cursor.now.rest * 20 + 5

abbrev pub decreases-operators_behind : goal.decreases-operators_behind
decreases-operators_behind l = length l.cursor.now.rest * 20 + 6

abbrev pub decreases-outcome_from : goal.decreases-outcome_from
decreases-outcome_from l = length l.cursor.now.rest * 20 + 12

abbrev pub decreases-proc_on : goal.decreases-proc_on
decreases-proc_on l = length l.cursor.now.rest * 20 + 9

abbrev pub decreases-simple_from : goal.decreases-simple_from
decreases-simple_from l = length l.cursor.now.rest * 20 + 11

abbrev pub decreases-type_from : goal.decreases-type_from
decreases-type_from l = length l.cursor.now.rest * 20 + 13

abbrev pub decreases-item_from : goal.decreases-item_from
decreases-item_from l = length l.cursor.now.rest * 20 + 12

abbrev pub decreases-list_on : goal.decreases-list_on
decreases-list_on l = length l.cursor.now.rest * 20 + 4

abbrev pub decreases-parameters_on : goal.decreases-parameters_on
decreases-parameters_on l = length l.cursor.now.rest * 20 + 4

abbrev pub decreases-listed_on : goal.decreases-listed_on
decreases-listed_on l = length l.cursor.now.rest * 20 + 5

abbrev pub decreases-braced_on : goal.decreases-braced_on
decreases-braced_on l = length l.cursor.now.rest * 20 + 6

abbrev pub decreases-block_on : goal.decreases-block_on
decreases-block_on l = length l.cursor.now.rest * 20 + 7

abbrev pub decreases-function_from : goal.decreases-function_from
decreases-function_from l = length l.cursor.now.rest * 20 + 8

-- behind a list that may go on: what follows goes on with what was before; or it is whole
abbrev pub invariant-list_on-loop-more : goal.invariant-list_on-loop-more
invariant-list_on-loop-more l = record {
  further : l.more ≡ true → (us : PlainTys) (rest : List Token) → Lists (sort_of l.item) l.by l.done us l.cursor.rest rest → Lists (sort_of l.item) l.by l.initial.done us l.initial.cursor.rest rest;
  all : l.more ≡ false → Lists (sort_of l.item) l.by l.initial.done l.done l.initial.cursor.rest l.cursor.rest;
  kept : whole l.cursor ≡ whole l.initial.cursor;
  nearer : length l.cursor.rest ≤ length l.initial.cursor.rest;
  shorter : l.more ≡ false → length l.cursor.rest < length l.initial.cursor.rest;
}

abbrev pub decreases-list_on-loop-more : goal.decreases-list_on-loop-more
decreases-list_on-loop-more l = length l.cursor.rest

abbrev pub invariant-keys_on-loop-more : goal.invariant-keys_on-loop-more
invariant-keys_on-loop-more l = record {
  further : l.more ≡ true → (ks : PlainKeys) (rest : List Token) → Keys l.done ks l.cursor.rest rest → Keys plain.no_keys ks l.initial.cursor.rest rest;
  all : l.more ≡ false → Keys plain.no_keys l.done l.initial.cursor.rest l.cursor.rest;
  kept : whole l.cursor ≡ whole l.initial.cursor;
  nearer : length l.cursor.rest ≤ length l.initial.cursor.rest;
  shorter : l.more ≡ false → length l.cursor.rest < length l.initial.cursor.rest;
}

abbrev pub decreases-keys_on-loop-more : goal.decreases-keys_on-loop-more
decreases-keys_on-loop-more l = length l.cursor.rest

abbrev pub invariant-parameters_on-loop-more : goal.invariant-parameters_on-loop-more
invariant-parameters_on-loop-more l = record {
  further : l.more ≡ true → (p : Listed) (rest : List Token) → Parameters l.done p l.cursor.rest rest → Parameters no_parameters p l.initial.cursor.rest rest;
  all : l.more ≡ false → Parameters no_parameters (closed l.done) l.initial.cursor.rest l.cursor.rest;
  kept : whole l.cursor ≡ whole l.initial.cursor;
  nearer : length l.cursor.rest ≤ length l.initial.cursor.rest;
  shorter : l.more ≡ false → length l.cursor.rest < length l.initial.cursor.rest;
}

abbrev pub decreases-parameters_on-loop-more : goal.decreases-parameters_on-loop-more
decreases-parameters_on-loop-more l = length l.cursor.rest
