-- The exit status of a call.
use Rattle.std.specs.Prelude.{ℕ, Bool, true, false}
use Rattle.call_outcomes.specs.declared.status.Status.{Status}
use Rattle.call_outcomes.specs.declared.status.Status.TheVariants as status

abbrev pub code_of : Status → ℕ
code_of status.Done = 0
code_of status.Listed = 1
code_of status.Usage = 2
code_of status.Missing = 3
code_of status.ReadFault = 4
code_of status.WriteFault = 5
code_of status.GoesOn = 6

-- the status of a call in which reading or writing failed
abbrev pub is_fault : Status → Bool
is_fault status.ReadFault = true
is_fault status.WriteFault = true
is_fault _ = false
