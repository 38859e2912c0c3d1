use Rattle.std.proofs.Common.{◌≡◌, ◌++◌, drop}
use Rattle.sig_model.specs.PlainDecl.{plain_decls}
use Rattle.rbs_printer.specs.Declarations.{printed}
use Rattle.rbs_printer.proofs.declarations.print.Given as goal

abbrev pub invariant-loop-decl : goal.invariant-loop-decl
invariant-loop-decl l = l.out ++ printed (plain_decls (drop l.decl-index l.decls)) ≡ l.initial.out ++ printed (plain_decls l.decls)
