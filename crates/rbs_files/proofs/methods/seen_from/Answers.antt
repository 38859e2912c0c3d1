use Rattle.std.proofs.Common.{sym, ◌∙◌}
use Rattle.rbs_phrases.proofs.Read.{if_ok}
use Rattle.rbs_files.proofs.MembersRead.{seen_method}
use Rattle.rbs_files.proofs.methods.seen_from.Goals as goal

pub returns-in-Def-clause-phrase : goal.returns-in-Def-clause-phrase
returns-in-Def-clause-phrase c s ts last seen =
    if_ok c.method_on.result (λ m h. seen_method c.args.keyword c.in-Def.is s ts seen h) (c.method_on.ensures.phrase s last)

pub returns-in-Some-clause-phrase : goal.returns-in-Some-clause-phrase
returns-in-Some-clause-phrase c s ts last seen =
    c.attribute_on.ensures.phrase c.args.keyword (sym c.attribute_of.ensures ∙ c.in-Some.is) s ts last seen
