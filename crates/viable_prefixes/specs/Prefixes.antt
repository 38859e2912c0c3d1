-- Where a text that is none goes wrong: behind its longest viable prefix.
use Rattle.std.specs.Prelude.{ℕ, ◌↔◌, ◌+◌, ◌≤◌, ◌<◌, List, ◌++◌, take, length}

-- some text begins so
abbrev pub Begins : {X T : Type 0} → (X → List T → Type 0) → List T → Type 0
Begins {X = X} {T = T} Text front = (x : X) × (rest : List T) × Text x (front ++ rest)

-- The first `n` tokens are the longest front with which some text begins, and no text is the whole. A text keeps the limits, and what is written may pass them:
-- it is a limit that is passed exactly where one more token would begin a text if there were no limits.
pub record IsFault {X T : Type 0} (Text Written : X → List T → Type 0) (ts : List T) (n : ℕ) (limit : Type 0) : Type 0 where
  pub no_text : (x : X) → Text x ts → ⊥
  pub in_text : n ≤ length ts
  pub begins : Begins Text (take n ts)
  pub longest : (m : ℕ) → m ≤ length ts → Begins Text (take m ts) → m ≤ n
  pub past_limit : limit ↔ ((n < length ts) × Begins Written (take (n + 1) ts))
