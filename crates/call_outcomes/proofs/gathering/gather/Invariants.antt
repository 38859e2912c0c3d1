use Rattle.std.proofs.Common.{◌≡◌, ◌≤◌, length, drop}
use Rattle.std.specs.Prelude.{IfSome}
use Rattle.call_outcomes.specs.Gathers.{AreSmall}
use Rattle.call_outcomes.proofs.Gathered.{IsBehind}
use Rattle.call_outcomes.proofs.gathering.gather.Given as goal

abbrev pub invariant-loop-name : goal.invariant-loop-name
invariant-loop-name g l = record {
  told : g.F.Files.told l.files ≡ g.F.Files.told l.fn.files;
  no_fault : g.F.Files.faults l.files ≡ g.F.Files.faults l.fn.files;
  small : AreSmall l.kept;
  count : length l.kept ≡ l.name-index;
  within : l.total ≤ 16777216;
  behind : IfSome (g.F.Files.told l.fn.files) (λ shelf. IsBehind shelf l.names (drop l.name-index l.names) l.total l.kept);
}
