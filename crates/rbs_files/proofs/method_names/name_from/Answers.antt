use Rattle.std.proofs.Common.{sym, ◌∙◌, subst, ◌∷◌}
use Rattle.rbs_types.specs.Symbols.{token}
use Rattle.rbs_declarations.specs.Grammar.{MethodName}
use Rattle.rbs_files.proofs.MethodNamesRead.{whole_operator}
use Rattle.rbs_files.proofs.method_names.name_from.Goals as goal

pub returns-in_ok-of-in-Some-clause-phrase : goal.returns-in_ok-of-in-Some-clause-phrase
returns-in_ok-of-in-Some-clause-phrase c s =
    subst (λ n. MethodName n (token c.args.kind s ∷ c.args.cursor.now.rest) c.marks_on.new.cursor.rest) (sym (c.in_ok-of-in-Some.ensures ∙ c.operator_text.ensures))
    (whole_operator c.args.kind c.in-Some.begun c.in_ok-operator-in-Some.operator c.args.cursor.now.rest c.marks_on.new.cursor.rest (sym c.operator_at.ensures ∙ c.in-Some.is) c.in_ok-operator-in-Some.ensures.phrase s)
