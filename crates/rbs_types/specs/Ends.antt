-- Where a type is whole before a token, which doesn't go on with it.
use Rattle.std.specs.Prelude.{Bool, true, false, Option, Some, None}
use Rattle.sig_model.specs.PlainTy.{PlainTy}
use Rattle.rbs_types.specs.declared.state.State.{State}

-- by the type that is whole before the token, and the state behind it
abbrev pub ends_before : Option PlainTy → Option State → Bool
ends_before None o = false
ends_before (Some t) None = true
ends_before (Some t) (Some m) = false
