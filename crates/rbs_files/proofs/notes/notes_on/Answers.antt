use Rattle.std.proofs.Common.{refl, ◌∙◌, arith}
use Rattle.rbs_files.proofs.NotesRead.{all_noted}
use Rattle.rbs_files.proofs.notes.notes_on.Goals as goal

pub loop-cursor-init : goal.loop-cursor-init
loop-cursor-init c = record {
  read = λ s start stop. (s, start, stop, λ all rest d. d);
  comments = refl;
  kept = refl;
  nearer = omega arith;
}

pub loop-cursor-preserved : goal.loop-cursor-preserved
loop-cursor-preserved c = record {
  read = λ s start stop.
      let before = c.loop-cursor.invariant.read s start stop in
      let next = c.in_ok-noted-2.ensures.phrase before.0 in
      (next.0, next.1, next.2, λ all rest d. before.3 all rest (next.3 all rest d));
  comments = c.in_ok-noted-2.ensures.comments ∙ c.loop-cursor.invariant.comments;
  kept = c.in_ok-noted-2.ensures.kept ∙ c.loop-cursor.invariant.kept;
  nearer = omega (arith, c.in_ok-noted-2.ensures.shorter, c.loop-cursor.invariant.nearer);
}

pub returns-clause-phrase : goal.returns-clause-phrase
returns-clause-phrase c =
    let first = c.in_ok-noted.ensures.phrase in
    let read = c.loop-cursor.invariant.read first.0 first.3 first.4 in
    all_noted c.in_ok-noted.noted c.loop-cursor.noted c.loop-cursor.cursor.end c.args.cursor.now.rest c.first_on.new.cursor.rest c.loop-cursor.cursor.rest first.0 read.0 first.1 first.2 c.loop-cursor.invariant.comments read.1 read.2 read.3
