-- The phrases within the limits, and where a text that is none goes wrong.
use Rattle.std.specs.Prelude.{ℕ, ◌≤◌, List, []}
use Rattle.rbs_terminals.specs.declared.token.Token.{Token}
use Rattle.rbs_terminals.specs.declared.token.Kind.{Kind}
use Rattle.rbs_terminals.specs.declared.token.Kind.TheVariants as kind
use Rattle.sig_model.specs.PlainTy.{PlainTy}
use Rattle.sig_model.specs.Height.{height}
use Rattle.rbs_types.specs.declared.state.State.{State}
use Rattle.rbs_types.specs.Grammar.{Spells, type}
use Rattle.rbs_types.specs.Depth.{OpenAtMost, surely}
use Rattle.rbs_types.specs.Needs.{need, reach}
use Rattle.viable_prefixes.specs.Runs.{Each}
use Rattle.viable_prefixes.specs.Prefixes.{IsFault}

-- an integer of 64 bits
abbrev pub is_small : Kind → Type 0
is_small kind.PastInteger = ⊥
is_small _ = Unit {0}

abbrev pub IsSmall : Token → Type 0
IsSmall c = is_small c.kind

-- the tokens spell the type, where there are no limits
abbrev pub IsWritten : PlainTy → List Token → Type 0
IsWritten t ts = Spells type t ts []

-- the tokens spell the type, within the limits
pub record IsText (t : PlainTy) (ts : List Token) : Type 0 where
  pub written : IsWritten t ts
  pub height : height t ≤ 200
  pub nested : OpenAtMost 400 (surely 0) ts
  pub small : Each IsSmall ts

-- the longest front of the tokens with which a text begins has `n` of them
abbrev pub IsFaultyType : List Token → ℕ → Type 0 → Type 0
IsFaultyType ts n limit = IsFault IsText IsWritten ts n limit

-- a token led to the state, and some type within the limits goes on from there
abbrev pub IsWithin : State → Token → Type 0
IsWithin s c = (need s ≤ 200) × (reach s ≤ 400) × IsSmall c
