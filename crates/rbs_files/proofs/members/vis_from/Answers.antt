use Rattle.std.proofs.Common.{sym, ◌∙◌}
use Rattle.rbs_files.proofs.MembersRead.{section_read, said_before, member_ended}
use Rattle.rbs_files.proofs.members.vis_from.Goals as goal

pub returns-then-not-vis_belongs-clause-phrase : goal.returns-then-not-vis_belongs-clause-phrase
returns-then-not-vis_belongs-clause-phrase c k begins s ends =
    section_read _ c.section.ensures c.args.room k begins (sym c.vis_belongs.ensures ∙ c.if-not-vis_belongs.true) s _ (c.end.ensures ∙ ends)

pub returns-clause-phrase : goal.returns-clause-phrase
returns-clause-phrase c k begins s ends =
    let next = c.in_ok-kind.ensures.next in
    let said = said_before k begins (sym c.vis_belongs.ensures ∙ c.if-not-vis_belongs.false) s c.in_ok-kind.field-0 next.0 next.1 c.in_ok-keyword.keyword c.in_ok-keyword.ensures in
    member_ended c.args.cursor.now c.seen_from.new.cursor _ c.end_here.ensures (c.in_ok-member.ensures.kept ∙ c.in_ok-kind.ensures.kept) (λ last. c.in_ok-member.ensures.phrase next.0 _ last said)
