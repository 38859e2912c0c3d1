use Rattle.signature_profile.proofs.Shapes.{MethodsRead}
use Rattle.signature_profile.proofs.shape.are_methods.Given as goal

abbrev pub invariant-loop-part : goal.invariant-loop-part
invariant-loop-part l = MethodsRead l.parts l.part-index
