use Rattle.std.proofs.Common.{sym, ◌∙◌, ap, Some, arith}
use Rattle.rbs_terminals.specs.Kinds.{kind_at}
use Rattle.rbs_terminals.specs.Sorts.{sort_of, next_sort}
use Rattle.rbs_terminals.proofs.Next.{none_next, stands_next, sort_is}
use Rattle.rbs_terminals.proofs.terminals.Terminals.sort.Goals as goal

pub text_of-requires-clause-order : goal.text_of-requires-clause-order
text_of-requires-clause-order c = omega (arith, (stands_next c.self.inside.bytes.now c.self.inside.before.end c.self.inside.tokens.now c.in-Some.token.now c.self.invariant.1 (c.in-Some.ensures.0)).some)

pub text_of-requires-clause-within : goal.text_of-requires-clause-within
text_of-requires-clause-within c = (stands_next c.self.inside.bytes.now c.self.inside.before.end c.self.inside.tokens.now c.in-Some.token.now c.self.invariant.1 (c.in-Some.ensures.0)).within

pub returns-in-Some : goal.returns-in-Some
returns-in-Some c =
    let t = c.self.inside in
    rw (← c.self.view_is)
    (ap (λ s. Some s) (c.sort_at.ensures ∙ ap (λ w. sort_of (kind_at c.in-Some.token.now.kind w)) c.text_of.ensures) ∙ sym (sort_is t.bytes.now t.before t.tokens.now c.in-Some.token.now (c.in-Some.ensures.0)))

pub returns-in-None : goal.returns-in-None
returns-in-None c =
    let t = c.self.inside in
    rw (← c.self.view_is) (sym (ap next_sort (none_next t.bytes.now t.before t.tokens.now (c.in-None.ensures))))
