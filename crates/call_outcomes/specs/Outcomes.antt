-- The outcomes that are one line, and that of a list.
use Rattle.std.specs.Prelude.{ℕ, List, [], ◌∷◌, ◌++◌, length, codes}
use Rattle.sig_model.specs.declared.diag.Diag.{Diag}
use Rattle.diagnostics.specs.declared.lines.Source.{Source}
use Rattle.diagnostics.specs.Lines.{lines_of, summary}
use Rattle.call_outcomes.specs.declared.outcome.Outcome.{Outcome}
use Rattle.call_outcomes.specs.declared.status.Status.{Status}
use Rattle.call_outcomes.specs.declared.status.Status.TheVariants as status

-- a line, ended
abbrev pub line : List ℕ → List ℕ
line text = text ++ 10 ∷ []

-- the line of a wrong command line
abbrev pub usage : List ℕ → Outcome
usage what = record { out = []; err = line (codes "usage: " ++ what); status = status.Usage }

abbrev pub missing : List ℕ → Outcome
missing name = record { out = []; err = line (codes "missing file: " ++ name); status = status.Missing }

-- the call after a file could not be read
abbrev pub read_fault : Outcome
read_fault = record { out = []; err = line (codes "read fault"); status = status.ReadFault }

abbrev pub list_status : List Diag → Status
list_status [] = status.Done
list_status (d ∷ ds) = status.Listed

-- a list over the files of a call: a line for each diagnostic, and the summary
abbrev pub listed : List Source → List Diag → Outcome
listed sources list = record { out = lines_of sources list ++ summary (length sources) (length list); err = []; status = list_status list }

abbrev pub source : List ℕ → List ℕ → Source
source name text = record { name = name; text = text }
