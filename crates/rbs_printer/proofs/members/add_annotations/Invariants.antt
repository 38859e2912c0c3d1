use Rattle.std.proofs.Common.{◌≡◌, ◌++◌, drop}
use Rattle.std.specs.List.{flat_map}
use Rattle.rbs_printer.specs.Declarations.{annotation_line}
use Rattle.rbs_printer.proofs.members.add_annotations.Given as goal

abbrev pub invariant-loop-annotation : goal.invariant-loop-annotation
invariant-loop-annotation l = l.out ++ flat_map (annotation_line l.depth) (drop l.annotation-index l.annotations) ≡ l.initial.out ++ flat_map (annotation_line l.depth) l.annotations
