-- The outcome of files that were read.
use Rattle.std.proofs.Common.{◌≡◌, refl, sym, ◌∙◌, subst, ℕ, Bool, true, false, List, [], ◌∷◌, map}
use Rattle.sig_model.specs.declared.diag.Diag.{Diag}
use Rattle.diagnostics.specs.declared.lines.Source.{Source}
use Rattle.call_outcomes.specs.declared.outcome.Outcome.{Outcome}
use Rattle.call_outcomes.specs.declared.gathering.KeptFile.{KeptFile}
use Rattle.call_outcomes.specs.Only.{IsOnly}
use Rattle.call_outcomes.specs.Outcomes.{listed}
use Rattle.call_outcomes.specs.Gathers.{AreKept, shown}
use Rattle.print_command.specs.declared.outcome.ReadFiles.{ReadFiles}
use Rattle.print_command.specs.Faults.{Faults}
use Rattle.print_command.specs.Prints.{IsOfFiles, done}
use Rattle.print_command.specs.Reads.{AreRead}
use Rattle.print_command.proofs.OneOutcome.{only_printed, only_refused}
use Rattle.print_command.proofs.ShownLines.{listed_shown}

pub not_both : (b : Bool) → b ≡ true → b ≡ false → ⊥
not_both b is not = cc

module _ (files : List KeptFile) (read : ReadFiles) (all : (sources : List Source) → AreKept sources files → AreRead sources read) where
  -- no file is refused
  pub print_outcome : (outcome : Outcome) → read.faults ≡ [] → outcome ≡ done read.text → (sources : List Source) → AreKept sources files → IsOnly (IsOfFiles sources) outcome
  print_outcome outcome none is sources kept = subst (IsOnly (IsOfFiles sources)) (sym is) (only_printed sources read.text ((all sources kept).text none))

  -- some are
  pub list_outcome : (outcome : Outcome) → (read.faults ≡ [] → ⊥) → outcome ≡ listed (map shown files) read.faults → (sources : List Source) → AreKept sources files → IsOnly (IsOfFiles sources) outcome
  list_outcome outcome some is sources kept = subst (IsOnly (IsOfFiles sources)) (sym (is ∙ listed_shown sources files read.faults kept faults)) (go read.faults refl)
    where
      faults : Faults 2 sources read.faults
      faults = (all sources kept).faults

      go : (list : List Diag) → read.faults ≡ list → IsOnly (IsOfFiles sources) (listed sources read.faults)
      go [] none = absurd (some none)
      go (d ∷ list) are = subst (λ list. IsOnly (IsOfFiles sources) (listed sources list)) (sym are) (only_refused sources d list (subst (Faults 2 sources) are faults))
