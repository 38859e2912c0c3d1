use Rattle.rbs_terminals.specs.declared.token.Mark.TheVariants as mark
use Rattle.rbs_phrases.proofs.Read.{if_ok}
use Rattle.rbs_phrases.proofs.Read.{taken, untaken}
use Rattle.rbs_files.proofs.HeadingsRead.{without_selves, with_selves}
use Rattle.rbs_files.proofs.headings.selves_on.Goals as goal

pub returns-then-not-branch-clause-phrase : goal.returns-then-not-branch-clause-phrase
returns-then-not-branch-clause-phrase c =
    rw c.new.ensures (without_selves c.args.room c.args.cursor.now.rest c.skip.new.self.rest (untaken mark.Colon c.args.cursor.now.rest c.skip.new.self.rest c.in_ok-skip.field-0 c.if-not-branch.true c.in_ok-skip.ensures.skipped))

pub returns-clause-phrase : goal.returns-clause-phrase
returns-clause-phrase c =
    let colon = taken mark.Colon c.args.cursor.now.rest c.skip.new.self.rest c.in_ok-skip.field-0 c.if-not-branch.false c.in_ok-skip.ensures.skipped in
    if_ok c.self_types_on.result (λ us h. with_selves c.args.room us c.args.cursor.now.rest c.skip.new.self.rest c.self_types_on.new.cursor.rest colon h) c.self_types_on.ensures.phrase
