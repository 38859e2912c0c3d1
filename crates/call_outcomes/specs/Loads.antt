-- What is kept of a file that was read.
use Rattle.std.specs.Prelude.{◌≡◌, ℕ, ◌<◌, ◌≤◌, List, [], length, Option, None, Some, Result, Ok, Err}
use Rattle.call_outcomes.specs.declared.loading.Loaded.{Loaded}
use Rattle.call_outcomes.specs.declared.loading.Loaded.TheVariants as loaded
use Rattle.call_outcomes.specs.declared.loading.LoadRefused.{LoadRefused}
use Rattle.call_outcomes.specs.declared.loading.LoadRefused.TheVariants as refused

-- the most bytes of a file
abbrev pub limit : ℕ
limit = 1048576

-- a file of these bytes is kept so: whole, or as one that has too many
abbrev pub IsLoaded : List ℕ → Loaded → Type 0
IsLoaded bytes (loaded.Text text) = bytes ≡ text
IsLoaded bytes loaded.TooLarge = limit < length bytes

abbrev pub text_of : Loaded → List ℕ
text_of (loaded.Text text) = text
text_of loaded.TooLarge = []

abbrev pub IsSmall : Loaded → Type 0
IsSmall l = length (text_of l) ≤ limit

-- what reading a file answers, where the files tell
abbrev pub Loads : Option (List ℕ) → Result Loaded LoadRefused → Type 0
Loads (Some bytes) (Ok l) = IsLoaded bytes l
Loads None (Ok l) = ⊥
Loads file (Err refused.Missing) = file ≡ None
Loads file (Err refused.Fault) = Unit {0}
Loads file (Err refused.NoMemory) = Unit {0}
