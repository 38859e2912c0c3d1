use Rattle.std.proofs.Common.{◌<◌, sym, subst, Some, arith}
use Rattle.rbs_terminals.specs.declared.token.Mark.TheVariants as mark
use Rattle.rbs_terminals.specs.declared.token.Keyword.TheVariants as keyword
use Rattle.sig_model.specs.PlainTy.{PlainTy}
use Rattle.rbs_files.specs.Parameters.{IsBound}
use Rattle.rbs_phrases.proofs.Read.{taken, untaken}
use Rattle.rbs_files.proofs.KeywordsRead.{word_taken, no_word}
use Rattle.rbs_files.proofs.ParamsRead.{unbounded, bounded, bounded_single}
use Rattle.rbs_files.proofs.params.bound_on.Goals as goal

pub returns-then-not-branch-clause-phrase : goal.returns-then-not-branch-clause-phrase
returns-then-not-branch-clause-phrase c =
    let same = untaken mark.Less c.args.cursor.now.rest c.skip.new.self.rest c.in_ok-skip.field-0 c.if-not-branch.true c.in_ok-skip.ensures.skipped in
    unbounded c.args.room c.args.cursor.now.rest c.skip.new.self.rest same

pub returns-then-not-branch-2-clause-phrase : goal.returns-then-not-branch-2-clause-phrase
returns-then-not-branch-2-clause-phrase c =
    let less = taken mark.Less c.args.cursor.now.rest c.skip.new.self.rest c.in_ok-skip.field-0 c.if-not-branch.false c.in_ok-skip.ensures.skipped in
    let same = no_word keyword.Singleton c.skip.new.self.rest c.skip_keyword.new.cursor.rest c.in_ok-skip_keyword.field-0 c.if-not-branch-2.true c.in_ok-skip_keyword.ensures.skipped in
    bounded c.args.room c.in_ok-applied_on.field-0 c.args.cursor.now.rest c.skip.new.self.rest c.applied_on.new.cursor.rest less (rw same c.in_ok-applied_on.ensures.phrase)

pub returns-clause-phrase : goal.returns-clause-phrase
returns-clause-phrase c =
    let less = taken mark.Less c.args.cursor.now.rest c.skip.new.self.rest c.in_ok-skip.field-0 c.if-not-branch.false c.in_ok-skip.ensures.skipped in
    let singleton = word_taken keyword.Singleton c.skip.new.self.rest c.skip_keyword.new.cursor.rest c.in_ok-skip_keyword.field-0 c.if-not-branch-2.false c.in_ok-skip_keyword.ensures.skipped in
    let more : 0 < c.args.room = omega (arith, c.if-room-eq0.false) in
    let whole = bounded_single c.args.room c.in_ok-name.name c.args.cursor.now.rest c.skip.new.self.rest c.skip_keyword.new.cursor.rest
    c.expect.new.self.rest c.name_on.new.cursor.rest c.expect-2.new.self.rest more less singleton c.in_ok-expect.ensures.marked c.in_ok-name.ensures.phrase c.in_ok-expect-2.ensures.marked in
    subst (λ (t : PlainTy). IsBound c.args.room (Some t) c.args.cursor.now.rest c.expect-2.new.self.rest) (sym c.single.ensures) whole
