use Rattle.std.proofs.Common.{◌≡◌, ◌++◌, drop}
use Rattle.sig_model.specs.PlainDecl.{plain_decls}
use Rattle.body_check.specs.Table.{classes_of}
use Rattle.body_check.proofs.table.classes_of.Given as goal

abbrev pub invariant-loop-decl : goal.invariant-loop-decl
invariant-loop-decl l = l.classes ++ classes_of (plain_decls (drop l.decl-index l.decls)) ≡ classes_of (plain_decls l.decls)
