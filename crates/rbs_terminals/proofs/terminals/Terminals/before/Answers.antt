use Rattle.std.proofs.Common.{sym, ◌∙◌, ap, Some}
use Rattle.rbs_terminals.specs.Sorts.{next_before}
use Rattle.rbs_terminals.proofs.Next.{none_next, before_is}
use Rattle.rbs_terminals.proofs.terminals.Terminals.before.Goals as goal

pub returns-in-Some : goal.returns-in-Some
returns-in-Some c =
    let t = c.self.inside in
    rw (← c.self.view_is) (ap (λ b. Some b) c.end_or_start.ensures ∙ sym (before_is t.bytes.now t.before t.tokens.now _ (c.in-Some.ensures.0)))

pub returns-in-None : goal.returns-in-None
returns-in-None c =
    let t = c.self.inside in
    rw (← c.self.view_is) (sym (ap next_before (none_next t.bytes.now t.before t.tokens.now (c.in-None.ensures))))
