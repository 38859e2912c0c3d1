use Rattle.std.proofs.Common.{refl, sym, ◌∙◌, subst, List, arith}
use Rattle.rbs_terminals.specs.declared.token.Mark.TheVariants as mark
use Rattle.sig_model.specs.PlainTy.{PlainFun}
use Rattle.sig_model.specs.PlainMember.{PlainParam, PlainMethod}
use Rattle.rbs_types.specs.Parts.{function_with}
use Rattle.rbs_files.specs.Within.{IsFunction}
use Rattle.rbs_files.specs.Parameters.{Overloaded}
use Rattle.rbs_phrases.proofs.Read.{taken, untaken}
use Rattle.rbs_files.proofs.OverloadsRead.{more_follow, none_follows, not_high}
use Rattle.rbs_files.proofs.overloads.overloads_on.Goals as goal

pub loop-more-init : goal.loop-more-init
loop-more-init c = record {
  further = λ e all rest h. subst (λ (ms : List PlainMethod). Overloaded c.args.room ms all c.args.cursor.now.rest rest) c.new-done.ensures h;
  all = λ e. absurd (cc);
  low = rw c.new-done.ensures (omega arith);
  kept = refl;
  nearer = omega arith;
  shorter = λ e. absurd (cc);
}

pub loop-more-preserved : goal.loop-more-preserved
loop-more-preserved c =
    let ps : List PlainParam = c.in_ok-params.params in
    let f : PlainFun = function_with c.function_on.new.head c.in_ok-outcome.outcome in
    let before : List PlainMethod = c.loop-more.done in
    let ts = c.loop-more.cursor.rest in
    let mid = c.params_on.new.cursor.rest in
    let mid' = c.function_on.new.cursor.rest in
    let after = c.skip.new.self.rest in
    let params = c.in_ok-params.ensures.phrase in
    let read = c.in_ok-outcome.ensures.phrase in
    let skipped = c.in_ok-more.ensures.skipped in
    record {
      further = λ e all rest h.
          c.loop-more.invariant.further c.loop-more-test.true all rest
          (more_follow c.args.room before ps f ts mid params all mid' after rest read (taken mark.Bar mid' after c.in_ok-more.more e skipped)
          (subst (λ (ms : List PlainMethod). Overloaded c.args.room ms all after rest) c.in_ok-add.ensures h));
      all = λ e.
          c.loop-more.invariant.further c.loop-more-test.true c.add.new.self after
          (subst (λ (ms : List PlainMethod). Overloaded c.args.room before ms ts after) (sym c.in_ok-add.ensures)
          (none_follows c.args.room before ps f ts mid params after (subst (λ mid'. IsFunction c.args.room f mid mid') (untaken mark.Bar mid' after c.in_ok-more.more e skipped) read)));
      low = rw c.in_ok-add.ensures (not_high before ps f c.loop-more.invariant.low params.2 read.2);
      kept = c.in_ok-more.ensures.kept ∙ c.in_ok-outcome.ensures.kept ∙ c.in_ok-params.ensures.kept ∙ c.loop-more.invariant.kept;
      nearer = omega (arith, c.in_ok-more.ensures.shorter, c.in_ok-outcome.ensures.shorter, c.in_ok-params.ensures.shorter, c.loop-more.invariant.nearer);
      shorter = λ e. omega (arith, c.in_ok-more.ensures.shorter, c.in_ok-outcome.ensures.shorter, c.in_ok-params.ensures.shorter, c.loop-more.invariant.nearer);
    }
