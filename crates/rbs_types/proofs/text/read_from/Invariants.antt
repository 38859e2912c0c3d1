use Rattle.std.proofs.Common.{◌≡◌, ◌++◌, length}
use Rattle.std.specs.Option.{option_to_list}
use Rattle.rbs_types.proofs.Fronts.{Stands}
use Rattle.rbs_types.proofs.text.read_from.Given as goal

abbrev pub invariant-loop-reading : goal.invariant-loop-reading
invariant-loop-reading l = record {
  stands : Stands (l.initial.terminals ++ option_to_list l.fn.stop) (l.terminals ++ option_to_list l.fn.stop) l.reading.state l.reading.end;
  same : l.stop ≡ l.fn.stop;
}

abbrev pub decreases-loop-reading : goal.decreases-loop-reading
decreases-loop-reading l = length l.terminals
