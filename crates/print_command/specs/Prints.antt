-- The printed form of files.
use Rattle.std.specs.Prelude.{ℕ, suc, List, [], ◌∷◌, ◌++◌}
use Rattle.sig_model.specs.PlainDecl.{PlainDecls}
use Rattle.sig_model.specs.declared.diag.Diag.{Diag}
use Rattle.diagnostics.specs.declared.lines.Source.{Source}
use Rattle.diagnostics.specs.Order.{IsOrderOf}
use Rattle.rbs_parser.specs.Texts.{IsFile}
use Rattle.rbs_printer.specs.Declarations.{printed}
use Rattle.call_outcomes.specs.declared.outcome.Outcome.{Outcome}
use Rattle.call_outcomes.specs.declared.status.Status.TheVariants as status
use Rattle.call_outcomes.specs.Outcomes.{listed}
use Rattle.print_command.specs.Faults.{Faults}

-- The printed form of files, of which the first has this number and none is refused: that of each, one behind the other.
pub data Prints : ℕ → List Source → List ℕ → Type 0 where
  no_files : {file : ℕ} → Prints file [] []
  one_more : {file : ℕ} {s : Source} {ss : List Source} {ds : PlainDecls} {text : List ℕ} → IsFile file ds s.text → Prints (suc file) ss text → Prints file (s ∷ ss) (printed ds ++ text)

-- the text alone
abbrev pub done : List ℕ → Outcome
done text = record { out = text; err = []; status = status.Done }

-- the outcome of the files of a call, of which the first has the number 2: their faults in order where one is refused, and else their printed form
pub data IsOfFiles (sources : List Source) : Outcome → Type 0 where
  refused : {found : List Diag} {d : Diag} {list : List Diag} → Faults 2 sources found → IsOrderOf found (d ∷ list) → IsOfFiles sources (listed sources (d ∷ list))
  printed_whole : {text : List ℕ} → Prints 2 sources text → IsOfFiles sources (done text)
