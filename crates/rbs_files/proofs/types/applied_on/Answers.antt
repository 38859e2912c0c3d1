use Rattle.std.proofs.Common.{◌≡◌, ◌≤◌, sym, ◌∙◌, subst}
use Rattle.rbs_terminals.specs.declared.token.Mark.TheVariants as mark
use Rattle.sig_model.specs.PlainTy as plain
use Rattle.sig_model.specs.PlainTy.{PlainTy, PlainTys}
use Rattle.sig_model.specs.Height.{height}
use Rattle.rbs_types.specs.Grammar.{Name}
use Rattle.rbs_phrases.specs.Uses.{use_of}
use Rattle.rbs_phrases.proofs.Read.{if_ok, taken, untaken}
use Rattle.rbs_files.specs.Within.{IsApplied}
use Rattle.rbs_files.proofs.TypesRead.{unapplied_within, applied_within}
use Rattle.rbs_files.proofs.types.applied_on.Goals as goal

pub returns-then-not-branch-clause-phrase : goal.returns-then-not-branch-clause-phrase
returns-then-not-branch-clause-phrase c =
    let is : c.name.result ≡ plain.name c.in_ok-name.name plain.no_tys = rw (sym c.new.ensures) c.name.ensures in
    let none = untaken mark.OpenSquare c.name_on.new.cursor.rest c.skip.new.self.rest c.in_ok-skip.field-0 c.if-not-branch.true c.in_ok-skip.ensures.skipped in
    let name = subst (λ r. Name (use_of c.args.usage) c.in_ok-name.name c.args.cursor.now.rest r) none c.in_ok-name.ensures.phrase in
    subst (λ (t : PlainTy). IsApplied c.args.room (use_of c.args.usage) t c.args.cursor.now.rest c.skip.new.self.rest) (sym is) (unapplied_within c.args.room name)

pub returns-clause-phrase : goal.returns-clause-phrase
returns-clause-phrase c =
    let kept = c.in_ok-expect.ensures.kept ∙ c.in_ok-args.ensures.kept ∙ c.in_ok-skip.ensures.kept in
    let open_square = taken mark.OpenSquare c.name_on.new.cursor.rest c.skip.new.self.rest c.in_ok-skip.field-0 c.if-not-branch.false c.in_ok-skip.ensures.skipped in
    let listed = c.in_ok-args.ensures.phrase in
    if_ok c.within.result (λ t h.
    let is = h.0 ∙ c.name-2.ensures in
    let low = subst (λ (t : PlainTy). height t ≤ 200) c.name-2.ensures h.2 in
    subst (λ (t : PlainTy). IsApplied c.args.room (use_of c.args.usage) t c.args.cursor.now.rest c.expect.new.self.rest) (sym is)
    (applied_within c.opened-before.result c.args.room c.name_on.new.cursor c.expect.new.self kept c.opened-before.ensures h.1 c.in_ok-name.ensures.phrase open_square listed c.in_ok-expect.ensures.marked low)) c.within.ensures
