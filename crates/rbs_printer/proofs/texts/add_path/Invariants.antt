use Rattle.std.proofs.Common.{◌≡◌, ◌++◌, codes, drop}
use Rattle.rbs_printer.specs.Listed.{listed}
use Rattle.rbs_printer.proofs.texts.add_path.Given as goal

abbrev pub invariant-loop-word : goal.invariant-loop-word
invariant-loop-word l = l.out ++ listed l.listed (codes "::") (drop l.word-index l.words) ≡ l.initial.out ++ listed l.initial.listed (codes "::") l.words
