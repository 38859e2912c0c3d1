use Rattle.std.proofs.Common.{sym}
use Rattle.rbs_types.specs.Grammar.{relative}
use Rattle.rbs_phrases.proofs.Read.{if_ok}
use Rattle.rbs_phrases.proofs.NamesRead.{rooted_name}
use Rattle.rbs_phrases.proofs.type_names.name_from.Goals as goal

pub returns-in_ok-kind-clause-phrase : goal.returns-in_ok-kind-clause-phrase
returns-in_ok-kind-clause-phrase c s =
    let next = c.in_ok-kind.ensures.next in
    if_ok c.words_from.result (λ n h. rooted_name c.args.kind (c.is_mark.ensures.0 c.if-is_mark.true) (rw (next.1, sym c.root.ensures) h) s) (c.words_from.ensures.phrase next.0)

pub returns-else-is_mark-clause-phrase : goal.returns-else-is_mark-clause-phrase
returns-else-is_mark-clause-phrase c s =
    if_ok c.words_from-else-is_mark.result (λ n h. relative (rw (sym c.no_name.ensures) h)) (c.words_from-else-is_mark.ensures.phrase s)
