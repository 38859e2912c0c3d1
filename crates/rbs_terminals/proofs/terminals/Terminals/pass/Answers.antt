use Rattle.std.proofs.Common.{sym, ◌∙◌, subst}
use Rattle.rbs_terminals.specs.Terminals.{AllStand}
use Rattle.rbs_terminals.proofs.Next.{none_next, from_first, rest_stands, standing}
use Rattle.rbs_terminals.proofs.terminals.Terminals.pass.Goals as goal

pub returns-in_default : goal.returns-in_default
returns-in_default c =
    let t = c.self.inside in
    let none = sym c.self.view_is ∙ none_next t.bytes.now t.before t.tokens.now c.in_default.ensures in
    (none, none)

pub invariant_of-self : goal.invariant_of-self
invariant_of-self c =
    let t = c.self.inside in
    standing t.bytes.now c.in-Some.token.now.place.end c.pass_end.new.self c.in-Some.rest.now c.pass_end.ensures
    (subst (λ ts. AllStand t.bytes.now c.in-Some.token.now.place.end ts) c.in-Some.ensures.1 (rest_stands t.bytes.now t.before.end t.tokens.now c.in-Some.token.now c.self.invariant.1 c.in-Some.ensures.0))

pub returns : goal.returns
returns c =
    let t = c.self.inside in
    let n = from_first t.bytes.now t.before t.tokens.now c.in-Some.token.now c.pass_end.new.self c.in-Some.rest.now c.in-Some.ensures.0 c.in-Some.ensures.1 c.pass_end.ensures in
    (n.0, sym c.self.view_is ∙ n.1, sym n.2.end)
