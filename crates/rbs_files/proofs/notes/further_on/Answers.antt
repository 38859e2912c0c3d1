use Rattle.rbs_types.specs.Symbols.{token}
use Rattle.rbs_files.proofs.NotesRead.{annotated}
use Rattle.rbs_files.proofs.notes.further_on.Goals as goal

pub returns-clause-phrase : goal.returns-clause-phrase
returns-clause-phrase c s =
    let next = c.in_ok-kind.ensures.next in
    let read = token c.in_ok-kind.field-0.kind next.0 in (
      next.0,
      next.2,
      next.4,
      λ all rest d. annotated c.args.noted.notes.annotations c.push.new.self all c.args.noted.kind c.in-Annotation.text read c.args.cursor.now.rest c.lead.new.self.rest rest c.in-Annotation.is c.in_ok-push.ensures.ok next.1 d s,
    )
