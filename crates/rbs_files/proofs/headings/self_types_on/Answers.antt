use Rattle.std.proofs.Common.{refl, ◌∙◌, subst, arith}
use Rattle.rbs_terminals.specs.declared.token.Mark.TheVariants as mark
use Rattle.sig_model.specs.PlainTy.{PlainTys}
use Rattle.rbs_files.specs.Onward.{AreSelfTypes}
use Rattle.rbs_phrases.proofs.Read.{taken, untaken}
use Rattle.rbs_files.proofs.HeadingsRead.{more_follow, none_follows, still_low}
use Rattle.rbs_files.proofs.headings.self_types_on.Goals as goal

pub loop-more-init : goal.loop-more-init
loop-more-init c = record {
  further = λ e all rest d low. (d, low);
  all = λ e. absurd (cc);
  low = rw c.new-done.ensures (omega arith);
  kept = refl;
  nearer = omega arith;
  shorter = λ e. absurd (cc);
}

pub loop-more-preserved : goal.loop-more-preserved
loop-more-preserved c =
    let room = c.args.room in
    let before : PlainTys = c.loop-more.done in
    let after : PlainTys = c.in_ok-done.done in
    let ts = c.loop-more.cursor.rest in
    let mid = c.applied_on.new.cursor.rest in
    let rest = c.skip.new.self.rest in
    let more = c.loop-more.invariant.further c.loop-more-test.true in
    record {
      further = λ e all rest' d low.
          let behind = more_follow room before after c.in_ok-ty.ty ts mid rest c.in_ok-ty.ensures.phrase (taken mark.Comma mid rest c.in_ok-more.more e c.in_ok-more.ensures.skipped) c.in_ok-done.ensures all rest' d low in
          more all rest' behind.0 behind.1;
      all = λ e.
          let last = none_follows room before after c.in_ok-ty.ty ts mid rest c.in_ok-ty.ensures.phrase (untaken mark.Comma mid rest c.in_ok-more.more e c.in_ok-more.ensures.skipped) c.in_ok-done.ensures in
          more after rest last.0 last.1;
      low = still_low before after c.in_ok-ty.ty room ts mid c.loop-more.invariant.low c.in_ok-ty.ensures.phrase c.in_ok-done.ensures;
      kept = c.in_ok-more.ensures.kept ∙ c.in_ok-ty.ensures.kept ∙ c.loop-more.invariant.kept;
      nearer = omega (arith, c.in_ok-more.ensures.shorter, c.in_ok-ty.ensures.shorter, c.loop-more.invariant.nearer);
      shorter = λ e. omega (arith, c.in_ok-more.ensures.shorter, c.in_ok-ty.ensures.shorter, c.loop-more.invariant.nearer);
    }

pub returns-clause-phrase : goal.returns-clause-phrase
returns-clause-phrase c =
    let w = c.loop-more.invariant.all c.loop-more-test.false in
    subst (λ (us : PlainTys). AreSelfTypes c.args.room us c.loop-more.done c.args.cursor.now.rest c.loop-more.cursor.rest) c.new-done.ensures (w.0, w.1, c.loop-more.invariant.low)
