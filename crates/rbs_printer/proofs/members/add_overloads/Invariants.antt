use Rattle.std.proofs.Common.{◌≡◌, ◌++◌, codes, drop, map}
use Rattle.sig_model.specs.PlainMember.{plain_methods}
use Rattle.rbs_printer.specs.Declarations.{overload_text}
use Rattle.rbs_printer.specs.Listed.{listed}
use Rattle.rbs_printer.proofs.members.add_overloads.Given as goal

abbrev pub invariant-loop-overload : goal.invariant-loop-overload
invariant-loop-overload l =
    l.out ++ listed l.listed (codes " | ") (map overload_text (plain_methods (drop l.overload-index l.overloads)))
    ≡ l.initial.out ++ listed l.initial.listed (codes " | ") (map overload_text (plain_methods l.overloads))
