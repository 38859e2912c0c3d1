use Rattle.std.proofs.Common.{◌≡◌, [], drop}
use Rattle.body_check.specs.Typing.{with_parameters}
use Rattle.body_check.proofs.values.with_parameters.Given as goal

abbrev pub invariant-loop-name : goal.invariant-loop-name
invariant-loop-name l = with_parameters l.locals.entries (drop l.name-index l.names) l.types ≡ with_parameters [] l.names l.fn.types
