use Rattle.std.proofs.Common.{◌≡◌, drop}
use Rattle.body_check.specs.Walk.{misfit_of}
use Rattle.body_check.proofs.calls.misfit_of.Given as goal

abbrev pub invariant-loop-ty : goal.invariant-loop-ty
invariant-loop-ty l = misfit_of (drop l.ty-index l.given) l.wanted ≡ misfit_of l.given l.fn.wanted
