use Rattle.signature_profile.proofs.Members.{ClassesRead}
use Rattle.signature_profile.proofs.well_named.all_well_named.Given as goal

abbrev pub invariant-loop-decl : goal.invariant-loop-decl
invariant-loop-decl l = ClassesRead l.classes l.decls l.decl-index
