use Rattle.std.proofs.Common.{refl, ◌∙◌, subst, arith}
use Rattle.sig_model.specs.PlainDecl.{PlainParts}
use Rattle.rbs_phrases.specs.Fronts.{Whole, whole}
use Rattle.rbs_files.specs.Onward.{GrowsInterface}
use Rattle.rbs_files.proofs.PartsRead.{interface_start, interface_join, interface_end}
use Rattle.rbs_files.proofs.parts.interface_parts_on.Goals as goal

pub loop-alloc-init : goal.loop-alloc-init
loop-alloc-init c = record {
  read = interface_start c.args.room c.args.file (whole c.args.cursor.now).last c.new-parts.result c.args.cursor.now.rest;
  kept = refl;
  nearer = omega arith;
}

pub loop-alloc-preserved : goal.loop-alloc-preserved
loop-alloc-preserved c =
    let before = c.loop-alloc in
    let rest = c.interface_part_on.new.cursor.rest in
    let more = subst (λ (w : Whole). GrowsInterface c.args.room c.args.file w.last before.parts c.interface_part_on.new.parts before.cursor.rest rest) before.invariant.kept c.in_ok-interface_part_on.ensures.phrase in
    record {
      read = interface_join c.args.room c.args.file (whole c.args.cursor.now).last c.new-parts.result before.parts c.interface_part_on.new.parts c.args.cursor.now.rest before.cursor.rest rest before.invariant.read more;
      kept = c.in_ok-interface_part_on.ensures.kept ∙ before.invariant.kept;
      nearer = omega (arith, c.in_ok-interface_part_on.ensures.shorter, before.invariant.nearer);
    }

pub returns-clause-phrase : goal.returns-clause-phrase
returns-clause-phrase c =
    let read = c.loop-alloc.invariant.read in
    let last = (whole c.args.cursor.now).last in
    interface_end c.args.room c.args.file last c.loop-alloc.parts c.args.cursor.now.rest c.loop-alloc.cursor.rest
    (subst (λ (ps : PlainParts). GrowsInterface c.args.room c.args.file last ps c.loop-alloc.parts c.args.cursor.now.rest c.loop-alloc.cursor.rest) c.new-parts.ensures read)
