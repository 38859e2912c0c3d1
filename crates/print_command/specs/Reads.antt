-- What the files of a call are read as.
use Rattle.std.specs.Prelude.{◌≡◌, ℕ, List, [], ◌∷◌, ◌++◌}
use Rattle.sig_model.specs.declared.place.Place.{Place}
use Rattle.sig_model.specs.declared.diag.Diag.{Diag}
use Rattle.sig_model.specs.declared.diag.DiagId.{DiagId}
use Rattle.sig_model.specs.PlainDecl.{plain_decls}
use Rattle.diagnostics.specs.declared.lines.Source.{Source}
use Rattle.rbs_parser.specs.Texts.{IsFile}
use Rattle.rbs_printer.specs.Declarations.{printed}
use Rattle.print_command.specs.declared.reading.Reading.{Reading}
use Rattle.print_command.specs.declared.reading.Reading.TheVariants as reading
use Rattle.print_command.specs.declared.outcome.ReadFiles.{ReadFiles}
use Rattle.print_command.specs.Faults.{Refuses, Faults}
use Rattle.print_command.specs.Prints.{Prints}

-- a fault with no arguments
abbrev pub fault_in : Place → DiagId → Diag
fault_in place fault = record { place = place; id = fault; args = [] }

-- the file of this number with these bytes is read so
abbrev pub IsRead : ℕ → List ℕ → Reading → Type 0
IsRead file bytes (reading.Good ds) = IsFile file (plain_decls ds) bytes
IsRead file bytes (reading.Refused d) = Refuses file bytes d

-- the files of a call, read so: their faults, and their printed form where there is none
pub record AreRead (sources : List Source) (read : ReadFiles) : Type 0 where
  pub faults : Faults 2 sources read.faults
  pub text : read.faults ≡ [] → Prints 2 sources read.text

-- one file more is read so
abbrev pub Adds : Reading → ReadFiles → ReadFiles → Type 0
Adds (reading.Good ds) old new = (new.faults ≡ old.faults) × (new.text ≡ old.text ++ printed (plain_decls ds))
Adds (reading.Refused d) old new = (new.faults ≡ old.faults ++ d ∷ []) × (new.text ≡ old.text)
