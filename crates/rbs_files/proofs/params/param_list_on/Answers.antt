use Rattle.std.proofs.Common.{refl, sym, ◌∙◌, subst, List, arith}
use Rattle.rbs_terminals.specs.declared.token.Mark.TheVariants as mark
use Rattle.sig_model.specs.PlainMember.{PlainParam, plain_param}
use Rattle.rbs_declarations.proofs.Heights.{params_and}
use Rattle.rbs_files.specs.Parameters.{IsParam, Lengthens}
use Rattle.rbs_phrases.proofs.Read.{taken, untaken}
use Rattle.rbs_files.proofs.ParamsRead.{more_follow, none_follows}
use Rattle.rbs_files.proofs.params.param_list_on.Goals as goal

pub loop-more-init : goal.loop-more-init
loop-more-init c = record {
  further = λ e all rest h. subst (λ (ps : List PlainParam). Lengthens c.args.room ps all c.args.cursor.now.rest rest) c.new-done.ensures h;
  all = λ e. absurd (cc);
  low = rw c.new-done.ensures (omega arith);
  kept = refl;
  nearer = omega arith;
  shorter = λ e. absurd (cc);
}

pub loop-more-preserved : goal.loop-more-preserved
loop-more-preserved c =
    let p : PlainParam = plain_param c.in_ok-param.param in
    let before : List PlainParam = c.loop-more.done in
    let ts = c.loop-more.cursor.rest in
    let mid = c.param_on.new.cursor.rest in
    let after = c.skip.new.self.rest in
    let read = c.in_ok-param.ensures.phrase in
    let skipped = c.in_ok-more.ensures.skipped in
    record {
      further = λ e all rest h.
          c.loop-more.invariant.further c.loop-more-test.true all rest
          (more_follow c.args.room before all p ts mid after rest read (taken mark.Comma mid after c.in_ok-more.more e skipped)
          (subst (λ (ps : List PlainParam). Lengthens c.args.room ps all after rest) c.in_ok-add.ensures h));
      all = λ e.
          c.loop-more.invariant.further c.loop-more-test.true c.add.new.self after
          (subst (λ (ps : List PlainParam). Lengthens c.args.room before ps ts after) (sym c.in_ok-add.ensures)
          (none_follows c.args.room before p ts after (subst (λ mid. IsParam c.args.room before p ts mid) (untaken mark.Comma mid after c.in_ok-more.more e skipped) read)));
      low = rw c.in_ok-add.ensures (omega (arith, params_and before p, c.loop-more.invariant.low, read.3));
      kept = c.in_ok-more.ensures.kept ∙ c.in_ok-param.ensures.kept ∙ c.loop-more.invariant.kept;
      nearer = omega (arith, c.in_ok-more.ensures.shorter, c.in_ok-param.ensures.shorter, c.loop-more.invariant.nearer);
      shorter = λ e. omega (arith, c.in_ok-more.ensures.shorter, c.in_ok-param.ensures.shorter, c.loop-more.invariant.nearer);
    }
