use Rattle.signature_profile.proofs.Members.{PartsRead}
use Rattle.signature_profile.proofs.well_named.has_well_named.Given as goal

abbrev pub invariant-loop-part : goal.invariant-loop-part
invariant-loop-part l = PartsRead l.classes l.parts l.part-index l.seen
