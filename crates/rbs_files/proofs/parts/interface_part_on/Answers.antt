use Rattle.std.proofs.Common.{subst}
use Rattle.sig_model.specs.PlainMember.{plain_member}
use Rattle.rbs_phrases.specs.Fronts.{Whole, whole}
use Rattle.rbs_files.specs.Onward.{GrowsInterface}
use Rattle.rbs_files.proofs.PartsRead.{interface_grows}
use Rattle.rbs_files.proofs.parts.interface_part_on.Goals as goal

pub returns-clause-phrase : goal.returns-clause-phrase
returns-clause-phrase c =
    let start = c.args.cursor.now.rest in
    let rest = c.interface_member_from.new.cursor.rest in
    let read = interface_grows c.args.room c.args.file (whole c.notes_on.new.cursor).last c.args.parts.now c.add_member.new.self c.in_ok-notes.field-0 c.notes_on.new.cursor.end c.in_ok-member.end (plain_member c.in_ok-member.member) start c.notes_on.new.cursor.rest rest
    c.in_ok-notes.ensures.phrase c.in_ok-member.ensures.phrase c.in_ok-add_member.ensures in
    subst (λ (w : Whole). GrowsInterface c.args.room c.args.file w.last c.args.parts.now c.add_member.new.self start rest) c.in_ok-notes.ensures.kept read
