use Rattle.rbs_terminals.specs.declared.token.Mark.TheVariants as mark
use Rattle.rbs_phrases.proofs.Read.{taken, untaken}
use Rattle.rbs_files.proofs.HeadingsRead.{without_parent, with_parent}
use Rattle.rbs_files.proofs.headings.parent_on.Goals as goal

pub returns-then-not-branch-clause-phrase : goal.returns-then-not-branch-clause-phrase
returns-then-not-branch-clause-phrase c =
    without_parent c.args.room c.args.cursor.now.rest c.skip.new.self.rest (untaken mark.Less c.args.cursor.now.rest c.skip.new.self.rest c.in_ok-skip.field-0 c.if-not-branch.true c.in_ok-skip.ensures.skipped)

pub returns-clause-phrase : goal.returns-clause-phrase
returns-clause-phrase c =
    with_parent c.args.room c.in_ok-parent.parent c.args.cursor.now.rest c.skip.new.self.rest c.applied_on.new.cursor.rest
    (taken mark.Less c.args.cursor.now.rest c.skip.new.self.rest c.in_ok-skip.field-0 c.if-not-branch.false c.in_ok-skip.ensures.skipped) c.in_ok-parent.ensures.phrase
