use Rattle.std.proofs.Common.{sym, subst, ◌∷◌}
use Rattle.rbs_terminals.specs.declared.token.Kind.{Kind}
use Rattle.sig_model.specs.declared.ty.TypeName.{TypeName}
use Rattle.rbs_types.specs.Symbols.{token}
use Rattle.rbs_types.specs.Grammar.{Words}
use Rattle.rbs_types.specs.Symbols.{scope_follows}
use Rattle.rbs_phrases.specs.Uses.{is_upper}
use Rattle.rbs_phrases.proofs.NamesRead.{outer_word}
use Rattle.rbs_phrases.proofs.Read.{and_right}
use Rattle.rbs_phrases.proofs.type_names.outer_on.Goals as goal

pub returns-in_ok-kind-in-Upper-clause-phrase : goal.returns-in_ok-kind-in-Upper-clause-phrase
returns-in_ok-kind-in-Upper-clause-phrase c s u m rest h =
    let next = c.in_ok-kind-in-Upper.ensures.next in
    let left : Words u c.in_ok-name-in-Upper.name m c.pass.new.self.rest rest = subst (λ ts. Words u c.in_ok-name-in-Upper.name m ts rest) (sym next.1) (h next.0) in
    let grown = subst (λ (n : TypeName). Words u n m c.pass.new.self.rest rest) c.in_ok-name-in-Upper.ensures left in
    let whole = outer_word c.in-Upper.word c.args.cursor.now.rest c.in_ok-pass-in-Upper.ensures.next.0 c.pass.new.self.rest (and_right (is_upper c.args.kind) (scope_follows c.args.cursor.now.rest) c.requires) c.in_ok-pass-in-Upper.ensures.next.1 grown s in
    subst (λ (k : Kind). Words u c.args.name m (token k s ∷ c.args.cursor.now.rest) rest) (sym c.in-Upper.is) whole
