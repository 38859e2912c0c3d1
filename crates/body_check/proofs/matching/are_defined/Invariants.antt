use Rattle.std.proofs.Common.{◌↔◌, drop}
use Rattle.std.specs.List.{AllByRecursion}
use Rattle.ruby_reader.specs.PlainLaws.{plain_openings}
use Rattle.body_check.specs.Matching.{IsDefined}
use Rattle.body_check.proofs.matching.are_defined.Given as goal

abbrev pub invariant-loop-opening : goal.invariant-loop-opening
invariant-loop-opening l = AllByRecursion (IsDefined l.classes) (plain_openings l.openings) ↔ AllByRecursion (IsDefined l.classes) (plain_openings (drop l.opening-index l.openings))
