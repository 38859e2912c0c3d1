use Rattle.std.proofs.Common.{◌≡◌, ◌∙◌, ap, refl, sym, subst, ℕ, suc, ◌+◌, ◌≤◌, List, [], take, length, arith}
use Rattle.std.proofs.lemmas.Option.{slice_get_read}
use Rattle.std.proofs.lemmas.List.{take_all}
use Rattle.diagnostics.specs.declared.lines.Source.{Source}
use Rattle.print_command.specs.Reads.{AreRead, IsRead}
use Rattle.print_command.proofs.Added.{read_none, read_more, kept_length, next_kept}
use Rattle.print_command.proofs.outcome.read_all.Goals as goal

pub loop-at-init : goal.loop-at-init
loop-at-init c = λ sources kept. subst (AreRead []) (sym c.new-read.ensures) read_none

pub loop-at-preserved : goal.loop-at-preserved
loop-at-preserved c = λ sources kept.
    let files = c.args.files.now in
    let at = c.loop-at.at in
    let next = next_kept sources files at c.index-files-at.result kept (slice_get_read files (length files) at c.index-files-at.result refl c.loop-at-test.true c.index-files-at.is) in
    let own : 2 + at ≡ 2 + length (take at sources) = ap (λ (n : ℕ). 2 + n) (sym next.place) in
    let one : suc at ≡ at + 1 = omega arith in
    subst (λ (ss : List Source). AreRead ss c.add.new.self) (sym next.front ∙ ap (λ (n : ℕ). take n sources) one)
    (read_more (take at sources) next.this c.in_ok-reading.reading c.loop-at.read c.add.new.self (c.loop-at.invariant sources kept)
    (subst (λ (n : ℕ). IsRead n next.this.text c.in_ok-reading.reading) own (c.in_ok-reading.ensures next.this.text next.kept.loaded)) c.in_ok-add.ensures)

pub returns : goal.returns
returns c = λ sources kept.
    let past : length sources ≤ c.loop-at.at = subst (λ (n : ℕ). n ≤ c.loop-at.at) (sym (kept_length sources c.args.files.now kept)) c.loop-at-test.false in
    subst (λ (ss : List Source). AreRead ss c.loop-at.read) (take_all c.loop-at.at sources past) (c.loop-at.invariant sources kept)
