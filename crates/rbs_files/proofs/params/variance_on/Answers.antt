use Rattle.rbs_declarations.specs.Grammar.{fixed}
use Rattle.rbs_files.proofs.ParamsRead.{variance_taken}
use Rattle.rbs_files.proofs.params.variance_on.Goals as goal

pub returns-in_ok-pass-in-Some-clause-phrase : goal.returns-in_ok-pass-in-Some-clause-phrase
returns-in_ok-pass-in-Some-clause-phrase c =
    let next = c.in_ok-pass-in-Some.ensures.next in
    variance_taken c.in-Some.variance c.args.cursor.now.rest next.0 c.pass.new.self.rest c.in-Some.ensures next.1

pub returns-in-None-clause-phrase : goal.returns-in-None-clause-phrase
returns-in-None-clause-phrase c = fixed
