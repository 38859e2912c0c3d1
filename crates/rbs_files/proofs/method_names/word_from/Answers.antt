use Rattle.std.proofs.Common.{sym, ◌∙◌, subst, inl, inr, ◌∷◌}
use Rattle.rbs_types.specs.Symbols.{token}
use Rattle.rbs_declarations.specs.Grammar.{MethodName}
use Rattle.rbs_phrases.proofs.Read.{if_ok}
use Rattle.rbs_files.proofs.MethodNamesRead.{bare, ended_word}
use Rattle.rbs_files.proofs.method_names.word_from.Goals as goal
use Rattle.rbs_files.proofs.method_names.word_from.Goals.{else-capital-via-then-capital+else-scope_next, else-capital-via-else-capital}

pub returns-in_ok-pass-clause-phrase : goal.returns-in_ok-pass-clause-phrase
returns-in_ok-pass-clause-phrase c s =
    let next = c.in_ok-pass.ensures.next in
    let said = c.in-Some.ensures in
    if_ok c.with_ending.result (λ name h. subst (λ n. MethodName n (token c.args.kind s ∷ c.args.cursor.now.rest) c.pass.new.self.rest) (sym h)
    (ended_word c.args.kind c.in_ok-word.word c.in-Some.ending.now said.0 c.args.cursor.now.rest next.0 c.pass.new.self.rest next.1 said.1 c.in_ok-word.ensures said.2 s)) c.with_ending.ensures

pub returns-else-capital-clause-phrase : goal.returns-else-capital-clause-phrase
returns-else-capital-clause-phrase c s =
    bare c.args.kind c.in_ok-word.word c.args.cursor.now.rest c.in_ok-word.ensures
    (elim c.else-capital.branch [ else-capital-via-then-capital+else-scope_next w ↦ inr (sym w.scope_next.ensures ∙ w.if-scope_next.false) | else-capital-via-else-capital w ↦ inl (sym c.is_capital-capital.ensures ∙ w.if-capital.false) ]) s
