use Rattle.std.proofs.Common.{◌≡◌, ◌++◌}
use Rattle.core_texts.proofs.declarations.Declarations.append.Given as goal

abbrev pub invariant-loop-decl : goal.invariant-loop-decl
invariant-loop-decl l = l.self.decls ≡ l.initial.self.decls ++ l.yielded
