use Rattle.std.proofs.Common.{◌≡◌, ◌≤◌, List, ◌∷◌, length}
use Rattle.rbs_terminals.specs.declared.token.Token.{Token}
use Rattle.rbs_terminals.specs.declared.token.Spot.{Spot}
use Rattle.sig_model.specs.declared.ty.TypeName.{TypeName}
use Rattle.rbs_types.specs.Symbols.{token}
use Rattle.rbs_types.specs.Grammar.{Use, Words}
use Rattle.rbs_phrases.specs.Fronts.{whole}
use Rattle.rbs_phrases.proofs.type_names.words_from.Given as goal

abbrev pub invariant-loop-cursor : goal.invariant-loop-cursor
invariant-loop-cursor l = record {
  read : (u : Use) (m : TypeName) (rest : List Token) → ((s : Spot) → Words u l.name m (token l.kind s ∷ l.cursor.rest) rest) → (s : Spot) → Words u l.initial.name m (token l.initial.kind s ∷ l.initial.cursor.rest) rest;
  kept : whole l.cursor ≡ whole l.initial.cursor;
  nearer : length l.cursor.rest ≤ length l.initial.cursor.rest;
}

abbrev pub decreases-loop-cursor : goal.decreases-loop-cursor
decreases-loop-cursor l = length l.cursor.rest
