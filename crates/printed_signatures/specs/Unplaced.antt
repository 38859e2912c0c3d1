-- Declarations, places aside.
use Rattle.sig_model.specs.declared.place.Place.{Place}
use Rattle.sig_model.specs.PlainDecl as decl
use Rattle.sig_model.specs.PlainDecl.{PlainDecl, PlainBody, PlainParts, PlainDecls}

-- the one place that stands for any
abbrev pub nowhere : Place
nowhere = record { file = 0; start = 0; end = 0 }

abbrev mutual
  pub unplaced_body : PlainBody → PlainBody
  unplaced_body (decl.class n ps t parts) = decl.class n ps t (unplaced_parts parts)
  unplaced_body (decl.module n ps ts parts) = decl.module n ps ts (unplaced_parts parts)
  unplaced_body (decl.iface n ps parts) = decl.iface n ps (unplaced_parts parts)
  unplaced_body (decl.alias n ps t) = decl.alias n ps t
  unplaced_body (decl.const n t) = decl.const n t

  pub unplaced_decl : PlainDecl → PlainDecl
  unplaced_decl (decl.decl place notes body) = decl.decl nowhere notes (unplaced_body body)

  pub unplaced_parts : PlainParts → PlainParts
  unplaced_parts decl.no_parts = decl.no_parts
  unplaced_parts (decl.inner d parts) = decl.inner (unplaced_decl d) (unplaced_parts parts)
  unplaced_parts (decl.member place notes m parts) = decl.member nowhere notes m (unplaced_parts parts)

-- the declarations without where they stand
abbrev pub unplaced : PlainDecls → PlainDecls
unplaced decl.no_decls = decl.no_decls
unplaced (decl.more_decls d ds) = decl.more_decls (unplaced_decl d) (unplaced ds)
