-- What a step of the code does, against the machine.
use Rattle.std.specs.Prelude.{◌≡◌, Option, Some, None, Result, Ok, Err}
use Rattle.rbs_types.specs.declared.refused.Stuck.{Stuck}
use Rattle.rbs_types.specs.declared.refused.Stuck.TheVariants as stuck
use Rattle.rbs_types.specs.declared.state.Focus.{Focus}
use Rattle.rbs_types.specs.declared.state.Focus.TheVariants as focus
use Rattle.rbs_types.specs.declared.state.State.{State}

-- the state that the machine comes to, or `Syntax` where it comes to none; there may be no memory for it
abbrev pub Does : Option State → Result State Stuck → Type 0
Does o (Ok s) = o ≡ Some s
Does o (Err stuck.Syntax) = o ≡ None
Does o (Err stuck.NoMemory) = Unit {0}

-- the place stands among the parameters of a function, or where its block begins
abbrev pub IsInHead : Focus → Type 0
IsInHead (focus.Parameters owner) = Unit {0}
IsInHead (focus.Parameter before owner) = Unit {0}
IsInHead (focus.ParameterQuestion before owner) = Unit {0}
IsInHead (focus.ParameterWord before needed w o owner) = Unit {0}
IsInHead (focus.ParameterKey before needed w owner) = Unit {0}
IsInHead (focus.ParameterNamed p owner) = Unit {0}
IsInHead (focus.KeyRestNamed l owner) = Unit {0}
IsInHead (focus.BlockQuestion outer level) = Unit {0}
IsInHead (focus.Block needed outer level) = Unit {0}
IsInHead _ = ⊥
