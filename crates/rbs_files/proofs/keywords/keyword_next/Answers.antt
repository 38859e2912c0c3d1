use Rattle.std.proofs.Common.{sym, ◌∙◌}
use Rattle.rbs_files.proofs.KeywordsRead.{found_next, next_found}
use Rattle.rbs_files.proofs.keywords.keyword_next.Goals as goal

pub returns : goal.returns
returns c = (λ t. found_next c.args.keyword c.args.cursor.now.rest (sym c.keyword.ensures ∙ c.is_found.ensures.0 t), λ h. c.is_found.ensures.1 (c.keyword.ensures ∙ next_found c.args.keyword c.args.cursor.now.rest h))
