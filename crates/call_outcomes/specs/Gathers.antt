-- What is kept of the files of a call, and what reading them answers.
use Rattle.std.specs.Prelude.{◌≡◌, ℕ, List, Option, None, Some, Result, Ok, Err, All, false}
use Rattle.std.specs.List.{AllZip}
use Rattle.diagnostics.specs.declared.lines.Source.{Source}
use Rattle.call_outcomes.specs.declared.outcome.Outcome.{Outcome}
use Rattle.call_outcomes.specs.declared.loading.Loaded.{Loaded}
use Rattle.call_outcomes.specs.declared.gathering.KeptFile.{KeptFile}
use Rattle.call_outcomes.specs.declared.gathering.Stopped.{Stopped}
use Rattle.call_outcomes.specs.declared.gathering.Stopped.TheVariants as stopped
use Rattle.call_outcomes.specs.Code.{is_fault}
use Rattle.call_outcomes.specs.Loads.{IsLoaded, IsSmall, text_of}
use Rattle.call_outcomes.specs.Outcomes.{source, missing}

-- the file is kept so
pub record IsKept (s : Source) (k : KeptFile) : Type 0 where
  pub name : s.name ≡ k.name
  pub loaded : IsLoaded s.text k.loaded

abbrev pub AreKept : List Source → List KeptFile → Type 0
AreKept sources kept = AllZip IsKept sources kept

abbrev pub AreSmall : List KeptFile → Type 0
AreSmall kept = All (λ k. IsSmall k.loaded) kept

-- the file as a list shows it, which needs no text of one that is too large
abbrev pub shown : KeptFile → Source
shown k = source k.name (text_of k.loaded)

-- what reading the file of this name answers, where the files tell what there is of it
abbrev pub LoadsNamed : List ℕ → Option (List ℕ) → Result Loaded Stopped → Type 0
LoadsNamed name (Some bytes) (Ok loaded) = IsLoaded bytes loaded
LoadsNamed name None (Ok loaded) = ⊥
LoadsNamed name file (Err (stopped.Answered outcome)) = (file ≡ None) × (outcome ≡ missing name)
LoadsNamed name file (Err stopped.Fault) = Unit {0}
LoadsNamed name file (Err stopped.NoMemory) = Unit {0}

-- what reading the files answers, where the files tell their contents
abbrev pub Gathers : Result (List Source) Outcome → Result (List KeptFile) Stopped → Type 0
Gathers (Ok sources) (Ok kept) = AreKept sources kept
Gathers (Err outcome) (Ok kept) = ⊥
Gathers found (Err (stopped.Answered outcome)) = found ≡ Err outcome
Gathers found (Err stopped.Fault) = Unit {0}
Gathers found (Err stopped.NoMemory) = Unit {0}

-- what is answered is no fault
abbrev pub IsCalm : Stopped → Type 0
IsCalm (stopped.Answered outcome) = is_fault outcome.status ≡ false
IsCalm stopped.Fault = Unit {0}
IsCalm stopped.NoMemory = Unit {0}
