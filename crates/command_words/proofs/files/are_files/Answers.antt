use Rattle.std.proofs.Common.{rules}
use Rattle.command_words.proofs.Distinct.{listed, taken}
use Rattle.command_words.proofs.files.are_files.Goals as goal

pub returns : goal.returns
returns c =
    let all = listed c.args.files.now c.in_ok-names_of.field-0 _ c.in_ok-names_of.ensures in
    let same = c.is_some.ensures in
    taken c.args.ending.now c.args.files.now c.is_some.result (search rules) c.if-files-gt-MOST_FILES.false (search (rules, all))
