-- What holds of one thing alone.
use Rattle.std.specs.Prelude.{◌≡◌}

pub record IsOnly {X : Type 0} (P : X → Type 0) (x : X) : Type 0 where
  pub holds : P x
  pub only : (y : X) → P y → y ≡ x
