use Rattle.std.proofs.Common.{sym, ◌∙◌, ap, Some, arith}
use Rattle.rbs_terminals.specs.Sorts.{next_gap}
use Rattle.rbs_terminals.proofs.Next.{none_next, stands_next, gap_is, last_before}
use Rattle.rbs_terminals.proofs.terminals.Terminals.gap.Goals as goal

pub gap_at-requires-clause-order : goal.gap_at-requires-clause-order
gap_at-requires-clause-order c =
    let t = c.self.inside in
    let stands = stands_next t.bytes.now t.before.end t.tokens.now c.in-Some.token.now c.self.invariant.1 (c.in-Some.ensures.0) in
    last_before t.before.last c.self.invariant.0 stands.after

pub gap_at-requires-clause-within : goal.gap_at-requires-clause-within
gap_at-requires-clause-within c =
    let t = c.self.inside in
    let stands = stands_next t.bytes.now t.before.end t.tokens.now c.in-Some.token.now c.self.invariant.1 (c.in-Some.ensures.0) in
    omega (arith, stands.some, stands.within)

pub returns-in-Some : goal.returns-in-Some
returns-in-Some c =
    let t = c.self.inside in
    rw (← c.self.view_is) (ap (λ g. Some g) c.gap_at.ensures ∙ sym (gap_is t.bytes.now t.before t.tokens.now _ (c.in-Some.ensures.0)))

pub returns-in-None : goal.returns-in-None
returns-in-None c =
    let t = c.self.inside in
    rw (← c.self.view_is) (sym (ap next_gap (none_next t.bytes.now t.before t.tokens.now (c.in-None.ensures))))
