use Rattle.std.proofs.Common.{sym, ◌∙◌}
use Rattle.rbs_files.proofs.AliasesRead.{one_equals, two_equals, three_equals}
use Rattle.rbs_files.proofs.aliases.equalled_from.Goals as goal

pub returns-then-not-equals_next-clause-phrase : goal.returns-then-not-equals_next-clause-phrase
returns-then-not-equals_next-clause-phrase c k s x =
    let next = c.in_ok-pass.ensures.next in
    one_equals k c.args.word c.in_ok-new.new c.in_ok-name_on.field-0 c.args.cursor.now.rest next.0 c.pass.new.self.rest c.name_on.new.cursor.rest next.1 c.requires c.in_ok-new.ensures c.in_ok-name_on.ensures.phrase x s

pub returns-in_ok-with_ending-clause-phrase : goal.returns-in_ok-with_ending-clause-phrase
returns-in_ok-with_ending-clause-phrase c k s x =
    let next = c.in_ok-pass.ensures.next in
    let next' = c.in_ok-pass-2.ensures.next in
    let next'' = c.in_ok-pass-3.ensures.next in
    three_equals k c.args.word c.in_ok-with_ending.field-0 c.in_ok-old.old c.args.cursor.now.rest next.0 c.pass.new.self.rest next'.0 c.pass-2.new.self.rest next''.0 c.pass-then-equals_next.new.self.rest next.1 next'.1 next''.1
    c.requires (sym c.equals_next.ensures ∙ c.if-not-equals_next.false) (sym c.equals_next-2.ensures ∙ c.if-equals_next.true) c.in_ok-with_ending.ensures c.in_ok-old.ensures x s

pub returns-else-equals_next-clause-phrase : goal.returns-else-equals_next-clause-phrase
returns-else-equals_next-clause-phrase c k s x =
    let next = c.in_ok-pass.ensures.next in
    let next' = c.in_ok-pass-2.ensures.next in
    two_equals k c.args.word c.in_ok-old.old c.args.cursor.now.rest next.0 c.pass.new.self.rest next'.0 c.pass-2.new.self.rest next.1 next'.1 c.requires (sym c.equals_next.ensures ∙ c.if-not-equals_next.false) c.in_ok-old.ensures x s
