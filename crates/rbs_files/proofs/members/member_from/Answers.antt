use Rattle.rbs_declarations.specs.Grammar.{of_instances}
use Rattle.rbs_files.proofs.MembersRead.{member_ended}
use Rattle.rbs_files.proofs.members.member_from.Goals as goal

pub returns-in_ok-member-in-Variable-clause-phrase : goal.returns-in_ok-member-in-Variable-clause-phrase
returns-in_ok-member-in-Variable-clause-phrase c s ends =
    let found = c.in_ok-member-in-Variable.ensures in
    rw c.in-Variable.is (member_ended c.args.cursor.now c.variable_on.new.cursor _ c.end_here.ensures found.kept (λ last. found.phrase s _ last of_instances))

pub returns-in_ok-keyword-in_default : goal.returns-in_ok-keyword-in_default
returns-in_ok-keyword-in_default c = record {
  phrase = λ s ends. rw c.in_ok-keyword-in_default.ensures (c.keyword_from.ensures.phrase s ends);
  kept = c.keyword_from.ensures.kept;
  shorter = c.keyword_from.ensures.shorter;
}
