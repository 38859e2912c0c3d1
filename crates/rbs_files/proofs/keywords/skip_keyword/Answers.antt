use Rattle.rbs_files.proofs.KeywordsRead.{worded, worded_to}
use Rattle.rbs_files.proofs.keywords.skip_keyword.Goals as goal

pub returns-in_ok-pass-clause-skipped : goal.returns-in_ok-pass-clause-skipped
returns-in_ok-pass-clause-skipped c =
    let next = c.in_ok-pass.ensures.next in
    worded c.args.keyword c.args.cursor.now.rest next.0 c.pass.new.self.rest next.1 (c.keyword_next.ensures.0 c.if-keyword_next.true)

pub returns-in_ok-pass-clause-end : goal.returns-in_ok-pass-clause-end
returns-in_ok-pass-clause-end c t =
    let next = c.in_ok-pass.ensures.next in
    worded_to c.args.keyword c.pass.new.self.end c.args.cursor.now.rest next.0 c.pass.new.self.rest next.1 next.2 (c.keyword_next.ensures.0 c.if-keyword_next.true)
