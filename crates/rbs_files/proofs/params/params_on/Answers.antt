use Rattle.std.proofs.Common.{◌<◌, sym, subst, List, arith}
use Rattle.rbs_terminals.specs.declared.token.Mark.TheVariants as mark
use Rattle.sig_model.specs.PlainMember.{PlainParam}
use Rattle.rbs_files.specs.Within.{IsParams}
use Rattle.rbs_phrases.proofs.Read.{taken, untaken}
use Rattle.rbs_files.proofs.ParamsRead.{unparameterized, parameterized}
use Rattle.rbs_files.proofs.params.params_on.Goals as goal

pub returns-then-not-branch-clause-phrase : goal.returns-then-not-branch-clause-phrase
returns-then-not-branch-clause-phrase c =
    let same = untaken mark.OpenSquare c.args.cursor.now.rest c.skip.new.self.rest c.in_ok-skip.field-0 c.if-not-branch.true c.in_ok-skip.ensures.skipped in
    subst (λ (ps : List PlainParam). IsParams c.args.room ps c.args.cursor.now.rest c.skip.new.self.rest) (sym c.new.ensures)
    (unparameterized c.args.room c.args.cursor.now.rest c.skip.new.self.rest same)

pub returns-clause-phrase : goal.returns-clause-phrase
returns-clause-phrase c =
    let opening = taken mark.OpenSquare c.args.cursor.now.rest c.skip.new.self.rest c.in_ok-skip.field-0 c.if-not-branch.false c.in_ok-skip.ensures.skipped in
    let more : 0 < c.args.room = omega (arith, c.if-room-eq0.false) in
    parameterized c.args.room c.in_ok-params.params c.args.cursor.now.rest c.skip.new.self.rest c.param_list_on.new.cursor.rest c.expect.new.self.rest
    more opening c.in_ok-params.ensures.phrase c.in_ok-params.ensures.low c.in_ok-expect.ensures.marked
