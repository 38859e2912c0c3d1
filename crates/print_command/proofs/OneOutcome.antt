-- Of the files of a call one outcome alone is right.
use Rattle.std.proofs.Common.{◌≡◌, refl, sym, ◌∙◌, ap, subst, ℕ, suc, List, [], ◌∷◌, ◌++◌}
use Rattle.std.specs.List.{Contains}
use Rattle.sig_model.specs.PlainDecl.{PlainDecls}
use Rattle.sig_model.specs.declared.diag.Diag.{Diag}
use Rattle.diagnostics.specs.declared.lines.Source.{Source}
use Rattle.diagnostics.specs.Order.{IsOrderOf, SameDiagnostics}
use Rattle.diagnostics.proofs.Sorting.{at_first, nothing_in, one_list}
use Rattle.rbs_printer.specs.Declarations.{printed}
use Rattle.call_outcomes.specs.declared.outcome.Outcome.{Outcome}
use Rattle.call_outcomes.specs.Only.{IsOnly}
use Rattle.call_outcomes.specs.Outcomes.{listed}
use Rattle.print_command.specs.Faults as fault
use Rattle.print_command.specs.Faults.{Refuses, Faults}
use Rattle.print_command.specs.Prints as print
use Rattle.print_command.specs.Prints.{Prints, IsOfFiles, done}
use Rattle.print_command.proofs.InOrder.{faults_ordered}
use Rattle.print_command.proofs.OneReading.{refused_spells_none, spelled_once, refused_once}

both : (d e : Diag) (ds es : List Diag) → d ≡ e → ds ≡ es → ◌≡◌ {A = List Diag} (d ∷ ds) (e ∷ es)
both d e ds es first rest = cc

pub faults_once : {file : ℕ} {ss : List Source} {list other : List Diag} → Faults file ss list → Faults file ss other → list ≡ other
faults_once fault.no_files fault.no_files = refl
faults_once (fault.good h r) (fault.good k q) = faults_once r q
faults_once (fault.good {file = file} {s = s} {ds = ds} h r) (fault.refused {d = d} k q) = absurd (refused_spells_none file s.text d ds k h)
faults_once (fault.refused {file = file} {s = s} {d = d} h r) (fault.good {ds = ds} k q) = absurd (refused_spells_none file s.text d ds h k)
faults_once (fault.refused {file = file} {s = s} {d = d} {list = list} h r) (fault.refused {d = e} {list = other} k q) = both d e list other (refused_once file s.text d e h k) (faults_once r q)

pub prints_once : {file : ℕ} {ss : List Source} {text other : List ℕ} → Prints file ss text → Prints file ss other → text ≡ other
prints_once print.no_files print.no_files = refl
prints_once (print.one_more {file = file} {s = s} {ds = ds} {text = text} h r) (print.one_more {ds = es} {text = other} k q) =
    ap (λ ds. printed ds ++ text) (spelled_once file s.text ds es h k) ∙ ap (λ text. printed es ++ text) (prints_once r q)

-- of files that are printed none has a fault
pub printed_faultless : {file : ℕ} {ss : List Source} {text : List ℕ} {list : List Diag} → Prints file ss text → Faults file ss list → list ≡ []
printed_faultless print.no_files fault.no_files = refl
printed_faultless (print.one_more h r) (fault.good k q) = printed_faultless r q
printed_faultless (print.one_more {file = file} {s = s} {ds = ds} h r) (fault.refused {d = d} k q) = absurd (refused_spells_none file s.text d ds k h)

-- where nothing is found, no list with something in it has that in order
none_found : (found : List Diag) (d : Diag) (list : List Diag) → IsOrderOf found (d ∷ list) → found ≡ [] → ⊥
none_found found d list order none = nothing_in d (subst (λ ds. Contains ds d) none ((order.same d).1 (at_first d list)))

pub only_printed : (sources : List Source) (text : List ℕ) → Prints 2 sources text → IsOnly (IsOfFiles sources) (done text)
only_printed sources text h = record { holds = print.printed_whole h; only = λ y other. go y other }
  where
    go : (y : Outcome) → IsOfFiles sources y → y ≡ done text
    go y (print.refused {found = found} {d = d} {list = list} faults order) = absurd (none_found found d list order (printed_faultless h faults))
    go y (print.printed_whole other) = ap done (prints_once other h)

pub only_refused : (sources : List Source) (d : Diag) (list : List Diag) → Faults 2 sources (d ∷ list) → IsOnly (IsOfFiles sources) (listed sources (d ∷ list))
only_refused sources d list h = record { holds = print.refused h own; only = λ y other. go y other }
  where
    own : IsOrderOf (d ∷ list) (d ∷ list)
    own = record { ordered = faults_ordered h; same = λ c. (λ has. has, λ has. has) }

    go : (y : Outcome) → IsOfFiles sources y → y ≡ listed sources (d ∷ list)
    go y (print.refused {found = found} {d = e} {list = es} faults order) = ap (listed sources) (one_list (e ∷ es) (d ∷ list) order.ordered (faults_ordered h) same)
      where
        is : found ≡ d ∷ list
        is = faults_once faults h

        same : SameDiagnostics (e ∷ es) (d ∷ list)
        same = λ c. (λ has. subst (λ ds. Contains ds c) is ((order.same c).1 has), λ has. (order.same c).0 (subst (λ ds. Contains ds c) (sym is) has))
    go y (print.printed_whole other) = absurd (none_found (d ∷ list) d list own (printed_faultless other h))
