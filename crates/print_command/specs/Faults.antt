-- Which signature files are refused, and the fault of each.
use Rattle.std.specs.Prelude.{ℕ, suc, ◌<◌, ◌≤◌, List, [], ◌∷◌, length}
use Rattle.sig_model.specs.PlainDecl.{PlainDecls}
use Rattle.sig_model.specs.declared.diag.Diag.{Diag}
use Rattle.sig_model.specs.declared.diag.DiagId.{DiagId}
use Rattle.sig_model.specs.declared.diag.DiagId.TheVariants as id
use Rattle.diagnostics.specs.declared.lines.Source.{Source}
use Rattle.rbs_lexer.specs.Division.{span}
use Rattle.rbs_declarations.specs.Answers.{IsFaultAt}
use Rattle.rbs_parser.specs.Texts.{IsFile, GoesWrong}
use Rattle.call_outcomes.specs.Loads.{limit}

-- a fault of a file at one place, with no arguments
abbrev pub fault_at : ℕ → ℕ → DiagId → Diag
fault_at file at fault = record { place = span file at at; id = fault; args = [] }

-- the fault of a file of this number with these bytes, which is refused
pub data Refuses (file : ℕ) (bytes : List ℕ) : Diag → Type 0 where
  -- it is too large, and nothing of it is read
  too_large : limit < length bytes → Refuses file bytes (fault_at file 0 id.StrictLimit)
  -- it goes wrong where only texts past a limit go on
  past_limit : {at : ℕ} → length bytes ≤ limit → GoesWrong file (λ ts. IsFaultAt file ts at (Unit {0})) bytes → Refuses file bytes (fault_at file at id.StrictLimit)
  -- it goes wrong where no text goes on
  no_signature : {at : ℕ} → length bytes ≤ limit → GoesWrong file (λ ts. IsFaultAt file ts at ⊥) bytes → Refuses file bytes (fault_at file at id.SignatureSyntaxError)

-- The faults of files, of which the first has this number: one of each that is refused, in their order.
pub data Faults : ℕ → List Source → List Diag → Type 0 where
  no_files : {file : ℕ} → Faults file [] []
  good : {file : ℕ} {s : Source} {ss : List Source} {ds : PlainDecls} {list : List Diag} → IsFile file ds s.text → Faults (suc file) ss list → Faults file (s ∷ ss) list
  refused : {file : ℕ} {s : Source} {ss : List Source} {d : Diag} {list : List Diag} → Refuses file s.text d → Faults (suc file) ss list → Faults file (s ∷ ss) (d ∷ list)
