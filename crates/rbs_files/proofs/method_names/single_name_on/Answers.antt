use Rattle.rbs_terminals.specs.declared.token.Mark.TheVariants as mark
use Rattle.rbs_declarations.specs.Grammar.{of_instances}
use Rattle.rbs_phrases.proofs.Read.{marked}
use Rattle.rbs_files.proofs.MethodNamesRead.{itself}
use Rattle.rbs_files.proofs.method_names.single_name_on.Goals as goal

pub returns-in_ok-name_on-clause-phrase : goal.returns-in_ok-name_on-clause-phrase
returns-in_ok-name_on-clause-phrase c =
    let next = c.in_ok-kind.ensures.next in
    let passed = c.in_ok-pass.ensures.next in
    let dot = marked mark.Dot c.kind.new.self.rest passed.0 c.pass.new.self.rest passed.1 (c.is_next.ensures.0 c.if-is_next.true) in
    (c.pass.new.self.rest, itself c.in_ok-kind.kind next.0 c.kind.new.self.rest c.args.cursor.now.rest c.pass.new.self.rest (c.is_keyword.ensures.0 c.if-is_keyword.true) next.1 dot, c.in_ok-name_on.ensures.phrase)

pub returns-in_ok-name_from-clause-phrase : goal.returns-in_ok-name_from-clause-phrase
returns-in_ok-name_from-clause-phrase c =
    let next = c.in_ok-kind.ensures.next in
    (c.args.cursor.now.rest, of_instances, rw next.1 (c.in_ok-name_from.ensures.phrase next.0))
