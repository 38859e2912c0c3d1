use Rattle.std.proofs.Common.{◌∙◌}
use Rattle.rbs_files.proofs.parts.end_on.Goals as goal

pub returns-then-branch-clause-phrase : goal.returns-then-branch-clause-phrase
returns-then-branch-clause-phrase c =
    let read = c.in_ok-skip_keyword.ensures.end c.if-branch.true in
    (read.0, read.1, c.end.ensures ∙ read.2)
