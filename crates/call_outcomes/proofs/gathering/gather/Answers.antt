use Rattle.std.proofs.Common.{◌≡◌, ◌∙◌, ap, sym, subst, ℕ, ◌+◌, List, drop, length, arith}
use Rattle.std.specs.Prelude.{IfSome}
use Rattle.std.proofs.lemmas.List.{drop_all, length_push}
use Rattle.std.proofs.lemmas.List.Elements.{All-push}
use Rattle.std.proofs.lemmas.Result.{err_from_is_err_and}
use Rattle.call_outcomes.specs.declared.gathering.KeptFile.{KeptFile}
use Rattle.call_outcomes.specs.Loads.{IsSmall}
use Rattle.call_outcomes.specs.Gathers.{AreSmall}
use Rattle.call_outcomes.proofs.Gathered.{IsBehind, next_name, unfailed, behind_all, more_told, past_told, stopped_told}
use Rattle.call_outcomes.proofs.gathering.gather.Goals as goal

pub returns-in_err-loaded-clause-answer : goal.returns-in_err-loaded-clause-answer
returns-in_err-loaded-clause-answer g c =
    let names = c.args.names.now in
    let at = c.loop-name.name-index in
    let next = next_name names at c.name-item.result c.loop-name-test.true c.name-item.is in
    let is = err_from_is_err_and c.from_residual.result c.from_residual.ensures.1 in
    rw (is.1, is.2) (stopped_told (g.F.Files.told c.args.files.now) (g.F.Files.told c.loop-name.files) c.loop-name.invariant.told names (drop at names) c.name-item.result (drop (at + 1) names) next
    c.loop-name.total c.loop-name.kept c.loop-name.invariant.behind c.in_err-loaded.field-0.0 c.in_err-loaded.ensures.answer)

pub returns-then-total-gt-MOST_BYTES-clause-answer : goal.returns-then-total-gt-MOST_BYTES-clause-answer
returns-then-total-gt-MOST_BYTES-clause-answer g c =
    let names = c.args.names.now in
    let at = c.loop-name.name-index in
    let next = next_name names at c.name-item.result c.loop-name-test.true c.name-item.is in
    past_told (g.F.Files.told c.args.files.now) (g.F.Files.told c.loop-name.files) c.loop-name.invariant.told names (drop at names) c.name-item.result (drop (at + 1) names) next c.loop-name.total
    c.loop-name.kept c.loop-name.invariant.behind c.in_ok-loaded.loaded c.size_of.result c.in_ok-usage.field-0 c.in_ok-loaded.ensures.answer c.size_of.ensures.size c.if-total-gt-MOST_BYTES.true c.in_ok-usage.ensures

pub loop-name-preserved : goal.loop-name-preserved
loop-name-preserved g c =
    let names = c.args.names.now in
    let at = c.loop-name.name-index in
    let told = g.F.Files.told c.args.files.now in
    let next = next_name names at c.name-item.result c.loop-name-test.true c.name-item.is in
    let file : KeptFile = record { name = c.name-item.result; loaded = c.in_ok-loaded.loaded } in
    let added = c.in_ok-keep.ensures in
    record {
      told = c.load_file.ensures.told ∙ c.loop-name.invariant.told;
      no_fault = unfailed c.in_ok-loaded.loaded _ c.in_ok-loaded.ensures.kept ∙ c.loop-name.invariant.no_fault;
      small = subst AreSmall (sym added) (All-push (λ (k : KeptFile). IsSmall k.loaded) c.loop-name.kept file c.loop-name.invariant.small c.in_ok-loaded.ensures.small);
      count = ap (length {A = KeptFile}) added ∙ length_push c.loop-name.kept file ∙ ap (λ (n : ℕ). n + 1) c.loop-name.invariant.count;
      within = c.if-total-gt-MOST_BYTES.false;
      behind = subst (λ (kept : List KeptFile). IfSome told (λ shelf. IsBehind shelf names (drop (at + 1) names) (c.loop-name.total + c.size_of.result) kept)) (sym added)
          (more_told told (g.F.Files.told c.loop-name.files) c.loop-name.invariant.told names (drop at names) c.name-item.result (drop (at + 1) names) next c.loop-name.total c.loop-name.kept
          c.loop-name.invariant.behind c.in_ok-loaded.loaded c.size_of.result c.in_ok-loaded.ensures.answer c.size_of.ensures.size c.if-total-gt-MOST_BYTES.false);
    }

pub returns-clause-answer : goal.returns-clause-answer
returns-clause-answer g c =
    let names = c.args.names.now in
    let at = c.loop-name.name-index in
    behind_all (g.F.Files.told c.args.files.now) names (drop at names) c.loop-name.total c.loop-name.kept (drop_all at names c.loop-name-test.false) c.loop-name.invariant.behind
