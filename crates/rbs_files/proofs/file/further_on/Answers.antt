use Rattle.std.proofs.Common.{subst}
use Rattle.sig_model.specs.PlainDecl.{plain_decl}
use Rattle.rbs_phrases.specs.Fronts.{Whole, whole}
use Rattle.rbs_files.specs.Within.{IsDeclaration}
use Rattle.rbs_files.proofs.FileRead.{file_grows}
use Rattle.rbs_files.proofs.file.further_on.Goals as goal

pub returns-clause-phrase : goal.returns-clause-phrase
returns-clause-phrase c =
    let start = c.args.cursor.now.rest in
    let rest = c.declaration_from.new.cursor.rest in
    let next = plain_decl c.in_ok-next.next in
    let read = c.in_ok-next.ensures.phrase start c.in_ok-noted.ensures.phrase in
    let read' = subst (λ (w : Whole). IsDeclaration 400 c.args.file w.last next start rest) c.in_ok-noted.ensures.kept read in
    file_grows 400 c.args.file (whole c.args.cursor.now).last c.args.decls.now c.add.new.self next start rest read' c.in_ok-add.ensures
