use Rattle.rbs_phrases.specs.Fronts.{whole}
use Rattle.sig_model.specs.PlainMember.{plain_member}
use Rattle.rbs_files.proofs.PartsRead.{member_grows}
use Rattle.rbs_files.proofs.parts.member_part_from.Goals as goal

pub returns-clause-phrase : goal.returns-clause-phrase
returns-clause-phrase c ts noted =
    member_grows c.args.room c.args.file (whole c.args.cursor.now).last c.args.parts.now c.add_member.new.self c.args.noted c.args.cursor.now.end c.in_ok-member.end (plain_member c.in_ok-member.member) ts c.args.cursor.now.rest c.member_from.new.cursor.rest
    noted c.in_ok-member.ensures.phrase c.in_ok-add_member.ensures
