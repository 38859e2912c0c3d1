use Rattle.signature_profile.proofs.Members.{DeclsRead}
use Rattle.signature_profile.proofs.well_named.class_names.Given as goal

abbrev pub invariant-loop-decl : goal.invariant-loop-decl
invariant-loop-decl l = DeclsRead l.decls l.decl-index l.names
