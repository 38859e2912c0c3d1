use Rattle.std.proofs.Common.{◌≡◌, sym, ◌∙◌, ap, subst, arith}
use Rattle.std.specs.Prelude.{IfSome}
use Rattle.rbs_lexer.specs.Kinds.{IsToken}
use Rattle.rbs_lexer.specs.Division.{IsFit}
use Rattle.rbs_terminals.specs.Kinds.{kind_at}
use Rattle.rbs_terminals.specs.Sorts.{sort_of}
use Rattle.rbs_terminals.specs.Terminals.{AllStand}
use Rattle.rbs_terminals.proofs.Next.{none_next, stands_next, from_first, rest_stands, sort_is, standing}
use Rattle.rbs_terminals.proofs.terminals.Terminals.take.Goals as goal

pub text_of-requires-clause-order : goal.text_of-requires-clause-order
text_of-requires-clause-order c = omega (arith, (stands_next c.self.inside.bytes.now c.self.inside.before.end c.self.inside.tokens.now c.in-Some.token.now c.self.invariant.1 c.in-Some.ensures.0).some)

pub text_of-requires-clause-within : goal.text_of-requires-clause-within
text_of-requires-clause-within c = (stands_next c.self.inside.bytes.now c.self.inside.before.end c.self.inside.tokens.now c.in-Some.token.now c.self.invariant.1 c.in-Some.ensures.0).within

pub kind_by-requires-clause-token : goal.kind_by-requires-clause-token
kind_by-requires-clause-token c = subst (λ w. IsToken c.in-Some.token.now.kind w) (sym c.text_of.ensures) (stands_next c.self.inside.bytes.now c.self.inside.before.end c.self.inside.tokens.now c.in-Some.token.now c.self.invariant.1 c.in-Some.ensures.0).text

pub kind_by-requires-clause-fit : goal.kind_by-requires-clause-fit
kind_by-requires-clause-fit c = subst (λ w. IsFit c.in-Some.token.now.kind w) (sym c.text_of.ensures) (stands_next c.self.inside.bytes.now c.self.inside.before.end c.self.inside.tokens.now c.in-Some.token.now c.self.invariant.1 c.in-Some.ensures.0).fit

pub kind_by-requires-clause-sort : goal.kind_by-requires-clause-sort
kind_by-requires-clause-sort c =
    let t = c.self.inside in
    let known = subst (λ r. IfSome r (λ next. next ≡ c.args.sort)) (sort_is t.bytes.now t.before t.tokens.now c.in-Some.token.now c.in-Some.ensures.0) (rw c.self.view_is c.requires) in
    sym known ∙ ap (λ w. sort_of (kind_at c.in-Some.token.now.kind w)) (sym c.text_of.ensures)

pub returns-in_default-clause-ok : goal.returns-in_default-clause-ok
returns-in_default-clause-ok c =
    let t = c.self.inside in
    let none = sym c.self.view_is ∙ none_next t.bytes.now t.before t.tokens.now c.in_default.ensures in
    (none, none)

pub invariant_of-self : goal.invariant_of-self
invariant_of-self c =
    let t = c.self.inside in
    standing t.bytes.now c.in-Some.token.now.place.end c.pass_end.new.self c.in-Some.rest.now c.pass_end.ensures
    (subst (λ ts. AllStand t.bytes.now c.in-Some.token.now.place.end ts) c.in-Some.ensures.1 (rest_stands t.bytes.now t.before.end t.tokens.now c.in-Some.token.now c.self.invariant.1 c.in-Some.ensures.0))

pub returns-clause-ok : goal.returns-clause-ok
returns-clause-ok c =
    let t = c.self.inside in
    let n = from_first t.bytes.now t.before t.tokens.now c.in-Some.token.now c.pass_end.new.self c.in-Some.rest.now c.in-Some.ensures.0 c.in-Some.ensures.1 c.pass_end.ensures in
    (n.0, sym c.self.view_is ∙ n.1, c.in_ok-kind.ensures ∙ ap (λ w. kind_at c.in-Some.token.now.kind w) c.text_of.ensures ∙ sym n.2.kind, sym n.2.end)
