use Rattle.std.proofs.Common.{sym, subst}
use Rattle.sig_model.specs.PlainTy.{PlainTy}
use Rattle.rbs_phrases.proofs.Read.{if_ok}
use Rattle.rbs_files.specs.Within.{IsType}
use Rattle.rbs_files.proofs.TypesRead.{type_within}
use Rattle.rbs_files.proofs.types.type_on.Goals as goal

pub returns-clause-phrase : goal.returns-clause-phrase
returns-clause-phrase c =
    let read = c.in_ok-ty.ensures in
    if_ok c.within.result (λ t h. subst (λ (t : PlainTy). IsType c.args.room t c.args.cursor.now.rest c.type_on.new.cursor.rest) (sym h.0)
    (type_within c.opened-before.result c.args.room c.args.cursor.now c.type_on.new.cursor read.kept c.opened-before.ensures h.1 read.phrase h.2)) c.within.ensures
