use Rattle.std.proofs.Common.{◌≡◌, ◌++◌, drop}
use Rattle.sig_model.specs.PlainDecl.{plain_parts}
use Rattle.body_check.specs.Table.{methods_of}
use Rattle.body_check.proofs.table.methods_of.Given as goal

abbrev pub invariant-loop-part : goal.invariant-loop-part
invariant-loop-part l = l.methods ++ methods_of (plain_parts (drop l.part-index l.parts)) ≡ methods_of (plain_parts l.parts)
