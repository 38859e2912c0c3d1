use Rattle.std.proofs.Common.{sym, ◌∙◌}
use Rattle.rbs_terminals.specs.Terminals.{terminal_at}
use Rattle.rbs_terminals.proofs.Next.{leading}
use Rattle.rbs_terminals.proofs.terminals.Terminals.lead.Goals as goal

pub returns-clause-ok : goal.returns-clause-ok
returns-clause-ok c =
    let bytes = c.self.inside.bytes.now in
    let before = c.pass_comments.new.before in
    let token = c.in-Some.token.now in
    let next = leading bytes before c.pass_comments.new.tokens.now token c.in-Some.rest.now c.pass_lead.new.self c.in_ok-pass_comments.ensures.first c.in-Some.ensures.cases.0 c.in_ok-lead.ensures.ok in
    (terminal_at bytes before token, sym c.self.view_is ∙ (sym c.in_ok-pass_comments.ensures.left ∙ next), c.in_ok-lead.ensures.lead)
