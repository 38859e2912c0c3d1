-- What reading the files of a call in their order gives.
use Rattle.std.specs.Prelude.{ℕ, ◌+◌, min, nat_le, if◌then◌else◌, List, [], ◌∷◌, length, codes, Option, None, Some, Result, Ok, Err}
use Rattle.diagnostics.specs.declared.lines.Source.{Source}
use Rattle.run_base.specs.Files.{Shelf}
use Rattle.call_outcomes.specs.declared.outcome.Outcome.{Outcome}
use Rattle.call_outcomes.specs.Outcomes.{source, missing, usage}
use Rattle.call_outcomes.specs.Loads.{limit}

-- the most bytes of all files of a call
abbrev pub most_bytes : ℕ
most_bytes = 16777216

-- how many bytes a file counts: one that is too large counts as the most that a file may have
abbrev pub counted : List ℕ → ℕ
counted bytes = min (length bytes) limit

-- a file, and those behind it where they are all read
abbrev pub before : Source → Result (List Source) Outcome → Result (List Source) Outcome
before s (Ok ss) = Ok (s ∷ ss)
before s (Err outcome) = Err outcome

-- What there is of a file comes behind so many bytes: it isn't there, it makes them too many, or the files behind it are read.
abbrev pub with_file : List ℕ → (ℕ → Result (List Source) Outcome) → ℕ → Option (List ℕ) → Result (List Source) Outcome
with_file name others total None = Err (missing name)
with_file name others total (Some bytes) =
    if nat_le (total + counted bytes) most_bytes then before (source name bytes) (others (total + counted bytes)) else Err (usage (codes "files"))

-- The files of these names, read in their order behind files of so many bytes, or the outcome of the first at which reading stops.
abbrev pub contents : Shelf → List (List ℕ) → ℕ → Result (List Source) Outcome
contents shelf [] total = Ok []
contents shelf (name ∷ names) total = with_file name (λ sum. contents shelf names sum) total (shelf name)
