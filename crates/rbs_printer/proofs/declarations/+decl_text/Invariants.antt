use Rattle.std.proofs.Common.{◌≡◌, ◌++◌, drop}
use Rattle.sig_model.specs.PlainDecl.{plain_parts}
use Rattle.rbs_printer.specs.Declarations.{parts_lines}
use Rattle.rbs_printer.proofs.declarations.+decl_text.Given as goal

abbrev pub invariant-add_inside-loop-part : goal.invariant-add_inside-loop-part
invariant-add_inside-loop-part l = l.out ++ parts_lines l.inner (plain_parts (drop l.part-index l.parts)) ≡ l.initial.out ++ parts_lines l.inner (plain_parts l.parts)
