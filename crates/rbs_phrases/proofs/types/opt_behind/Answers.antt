use Rattle.std.proofs.Common.{subst}
use Rattle.rbs_terminals.specs.declared.token.Mark.TheVariants as mark
use Rattle.rbs_types.specs.Grammar.{Spells, opt, lone_simple}
use Rattle.rbs_phrases.proofs.Read.{taken, left}
use Rattle.rbs_phrases.proofs.TypesRead as read
use Rattle.rbs_phrases.proofs.types.opt_behind.Goals as goal

pub returns-in_ok-opt-clause-opt : goal.returns-in_ok-opt-clause-opt
returns-in_ok-opt-clause-opt c ts d =
    rw c.in_ok-opt.ensures (read.opt_read d (taken mark.Question _ _ c.in_ok-skip.field-0 c.if-branch.true c.in_ok-skip.ensures.skipped))

pub returns-in_ok-opt-clause-outcome : goal.returns-in_ok-opt-clause-outcome
returns-in_ok-opt-clause-outcome c ts d =
    rw c.in_ok-opt.ensures (read.opt_result_read d (taken mark.Question _ _ c.in_ok-skip.field-0 c.if-branch.true c.in_ok-skip.ensures.skipped))

pub returns-else-branch-clause-opt : goal.returns-else-branch-clause-opt
returns-else-branch-clause-opt c ts d =
    let same = left mark.Question _ _ c.in_ok-skip.field-0 c.if-branch.false c.in_ok-skip.ensures.skipped in
    subst (λ m. Spells opt c.args.ty ts m) same.0 (lone_simple d)

pub returns-else-branch-clause-outcome : goal.returns-else-branch-clause-outcome
returns-else-branch-clause-outcome c ts d = read.result_read d (left mark.Question _ _ c.in_ok-skip.field-0 c.if-branch.false c.in_ok-skip.ensures.skipped)
