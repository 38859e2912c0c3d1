-- What holds after the top call.
use Rattle.std.specs.Prelude.{◌≡◌, ℕ, nat_lt, List, Option, IfSome, MatchBool, Result, Ok, Err}
use Rattle.plain_data.specs.declared.memory.NoMemory.{NoMemory}
use Rattle.run_base.specs.Files.{Shelf}
use Rattle.run_base.specs.Sinks.{appended, WritesPrefix}
use Rattle.call_outcomes.specs.declared.outcome.Outcome.{Outcome}
use Rattle.call_outcomes.specs.declared.status.Status.{Status}
use Rattle.call_outcomes.specs.declared.status.Status.TheVariants.{WriteFault}
use Rattle.call_outcomes.specs.Only.{IsOnly}
use Rattle.call_outcomes.specs.Outcomes.{read_fault}
use Rattle.steep_cli.specs.Answer.{IsAnswer}

-- What a call means to write: the line of a read fault where the files' count of faults rose, and else the one answer, where the files tell.
abbrev pub IsMeant : Option Shelf → List (List ℕ) → ℕ → ℕ → Outcome → Type 0
IsMeant told words before now outcome = MatchBool (nat_lt before now) (outcome ≡ read_fault) (IfSome told (λ shelf. IsOnly (IsAnswer words shelf) outcome))

-- A call wrote both texts whole and gives the status, or, after a failed write, a front of each.
abbrev pub Wrote : Outcome → Status → Option (List ℕ) → Option (List ℕ) → Option (List ℕ) → Option (List ℕ) → Type 0
Wrote outcome WriteFault out out' err err' = WritesPrefix out out' outcome.out × WritesPrefix err err' outcome.err
Wrote outcome status out out' err err' = (status ≡ outcome.status) × (out' ≡ appended out outcome.out) × (err' ≡ appended err outcome.err)

-- the texts and the status of what was meant, or, where there was no memory, nothing written
abbrev pub Ran : (Outcome → Type 0) → Result Status NoMemory → Option (List ℕ) → Option (List ℕ) → Option (List ℕ) → Option (List ℕ) → Type 0
Ran Meant (Ok status) out out' err err' = (outcome : Outcome) × Meant outcome × Wrote outcome status out out' err err'
Ran Meant (Err e) out out' err err' = (out' ≡ out) × (err' ≡ err)
