use Rattle.std.proofs.Common.{◌+◌, ap, ◌∙◌}
use Rattle.std.proofs.lemmas.Iterator.Consumers.{count_from_yields_List, YieldsList-from_rest}
use Rattle.diagnostics.proofs.Newlines.{newlines_from_matches}
use Rattle.diagnostics.proofs.lines.line_after.Goals as goal

pub returns : goal.returns
returns c =
    let found = count_from_yields_List c.find_iter.result c.count.result c.count.ensures.ran (YieldsList-from_rest _ c.find_iter.ensures.value) in
    ap (λ n. n + 1) (found ∙ newlines_from_matches c.args.before.now)
