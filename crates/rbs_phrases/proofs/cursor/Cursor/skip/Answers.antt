use Rattle.rbs_phrases.proofs.Read.{marked}
use Rattle.rbs_phrases.proofs.cursor.Cursor.skip.Goals as goal

pub returns-in_ok-pass-clause-skipped : goal.returns-in_ok-pass-clause-skipped
returns-in_ok-pass-clause-skipped c = marked c.args.mark c.args.self.now.rest c.in_ok-pass.ensures.next.0 c.pass.new.self.rest c.in_ok-pass.ensures.next.1 (c.is_next.ensures.0 c.if-is_next.true)
