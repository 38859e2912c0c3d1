use Rattle.std.proofs.Common.{refl, ◌∙◌, subst}
use Rattle.sig_model.specs.PlainDecl.{plain_decls}
use Rattle.rbs_phrases.specs.Fronts.{Whole, whole}
use Rattle.rbs_files.specs.Onward.{GrowsFile}
use Rattle.rbs_files.proofs.FileRead.{file_start, file_join, whole_file}
use Rattle.rbs_files.proofs.file.file_on.Goals as goal

pub loop-alloc-init : goal.loop-alloc-init
loop-alloc-init c = record {
  read = file_start 400 c.args.file (whole c.new-cursor.result).last c.new-decls.result c.new-cursor.result.rest;
  kept = refl;
}

pub loop-alloc-preserved : goal.loop-alloc-preserved
loop-alloc-preserved c =
    let before = c.loop-alloc in
    let first = c.new-cursor.result in
    let rest = c.further_on.new.cursor.rest in
    let more = subst (λ (w : Whole). GrowsFile 400 c.args.file w.last before.decls c.further_on.new.decls before.cursor.rest rest) before.invariant.kept c.in_ok-further_on.ensures.phrase in
    record {
      read = file_join 400 c.args.file (whole first).last c.new-decls.result before.decls c.further_on.new.decls first.rest before.cursor.rest rest before.invariant.read more;
      kept = c.in_ok-further_on.ensures.kept ∙ before.invariant.kept;
    }

pub returns : goal.returns
returns c =
    let ended = c.at_end.ensures.0 c.loop-alloc-test.false in
    whole_file c.args.file c.new-decls.result c.loop-alloc.decls (plain_decls c.into_items.result) c.args.terminals c.new-cursor.result c.loop-alloc.cursor c.new-cursor.ensures c.loop-alloc.invariant.kept ended c.new-decls.ensures c.into_items.ensures
    c.loop-alloc.invariant.read
