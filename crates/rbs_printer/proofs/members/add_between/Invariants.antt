use Rattle.std.proofs.Common.{◌≡◌, ◌++◌, codes, drop, map}
use Rattle.sig_model.specs.PlainMember.{plain_params}
use Rattle.rbs_printer.specs.Declarations.{parameter_text}
use Rattle.rbs_printer.specs.Listed.{listed}
use Rattle.rbs_printer.proofs.members.add_between.Given as goal

abbrev pub invariant-loop-param : goal.invariant-loop-param
invariant-loop-param l =
    l.out ++ listed l.listed (codes ", ") (map parameter_text (plain_params (drop l.param-index l.params)))
    ≡ l.initial.out ++ listed l.initial.listed (codes ", ") (map parameter_text (plain_params l.params))
