use Rattle.std.proofs.Common.{◌≡◌, ◌∙◌, ap, sym, subst, ℕ, List, map, true, false}
use Rattle.std.proofs.lemmas.Result.{IfOk-weaker}
use Rattle.sig_model.specs.declared.diag.Diag.{Diag}
use Rattle.diagnostics.specs.declared.lines.Source.{Source}
use Rattle.diagnostics.specs.Lines.{AllSmall}
use Rattle.call_outcomes.specs.declared.outcome.Outcome.{Outcome}
use Rattle.call_outcomes.specs.declared.gathering.KeptFile.{KeptFile}
use Rattle.call_outcomes.specs.declared.status.Status.TheVariants as status
use Rattle.call_outcomes.specs.Only.{IsOnly}
use Rattle.call_outcomes.specs.Outcomes.{listed}
use Rattle.call_outcomes.specs.Gathers.{AreKept, shown}
use Rattle.call_outcomes.proofs.Gathered.{shown_small}
use Rattle.print_command.specs.Prints.{IsOfFiles}
use Rattle.print_command.specs.Reads.{AreRead}
use Rattle.print_command.proofs.Answered.{not_both, print_outcome, list_outcome}
use Rattle.print_command.proofs.outcome.print_kept.Goals as goal

pub listed-requires : goal.listed-requires
listed-requires c = subst AllSmall (sym (c.as_slice-2.ensures ∙ c.in_ok-sources.ensures)) (shown_small c.args.files c.requires.small)

pub returns-then-is_empty-clause-outcome : goal.returns-then-is_empty-clause-outcome
returns-then-is_empty-clause-outcome c =
    let read = c.in_ok-read.read in
    let all : (sources : List Source) → AreKept sources c.args.files → AreRead sources read
    = subst (λ (files : List KeptFile). (sources : List Source) → AreKept sources files → AreRead sources read) c.as_slice.ensures c.in_ok-read.ensures in
    print_outcome c.args.files read all _ (c.is_empty.ensures.0 c.if-is_empty.true)
    (ap (λ (err : List ℕ). let o : Outcome = record { out = read.text; err = err; status = status.Done } in o) c.new.ensures)

pub returns-clause-outcome : goal.returns-clause-outcome
returns-clause-outcome c =
    let read = c.in_ok-read.read in
    let all : (sources : List Source) → AreKept sources c.args.files → AreRead sources read
    = subst (λ (files : List KeptFile). (sources : List Source) → AreKept sources files → AreRead sources read) c.as_slice.ensures c.in_ok-read.ensures in
    IfOk-weaker c.listed.result (λ outcome. outcome ≡ listed c.as_slice-2.result.now c.as_slice-3.result.now)
    (λ (outcome : Outcome). (sources : List Source) → AreKept sources c.args.files → IsOnly (IsOfFiles sources) outcome)
    (λ outcome is. list_outcome c.args.files read all outcome (λ none. not_both c.is_empty.result (c.is_empty.ensures.1 none) c.if-is_empty.false)
    (is ∙ ap (λ (sources : List Source). listed sources c.as_slice-3.result.now) (c.as_slice-2.ensures ∙ c.in_ok-sources.ensures) ∙ ap (λ (list : List Diag). listed (map shown c.args.files) list) c.as_slice-3.ensures))
    c.listed.ensures.outcome
