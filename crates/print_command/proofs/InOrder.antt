-- The faults of files stand in order: each is in another file, and those of later files come later.
use Rattle.std.proofs.Common.{◌≡◌, refl, sym, subst, ℕ, suc, ◌<◌, List, [], ◌∷◌, arith}
use mathlib.Core.Logic.{inl}
use Rattle.std.specs.List.{AllByRecursion}
use Rattle.std.proofs.lemmas.List.Elements.{All-from_recursion}
use Rattle.std.proofs.lemmas.List.Kept.{AllPairs-cons}
use Rattle.sig_model.specs.declared.diag.Diag.{Diag}
use Rattle.diagnostics.specs.declared.lines.Source.{Source}
use Rattle.diagnostics.specs.Order.{Before, IsOrdered}
use Rattle.print_command.specs.Faults as fault
use Rattle.print_command.specs.Faults.{Refuses, too_large, past_limit, no_signature, Faults}

in_file : (file : ℕ) (bytes : List ℕ) (d : Diag) → Refuses file bytes d → d.place.file ≡ file
in_file file bytes d (too_large large) = refl
in_file file bytes d (past_limit short wrong) = refl
in_file file bytes d (no_signature short wrong) = refl

-- what stands in an earlier file stands before these faults
before_each : {file : ℕ} {ss : List Source} {list : List Diag} (d : Diag) → Faults file ss list → d.place.file < file → AllByRecursion (Before d) list
before_each d fault.no_files less = tt
before_each d (fault.good h r) less = before_each d r (omega (arith, less))
before_each d (fault.refused {file = file} {s = s} {d = e} h r) less =
    (inl (subst (λ n. d.place.file < n) (sym (in_file file s.text e h)) less), before_each d r (omega (arith, less)))

pub faults_ordered : {file : ℕ} {ss : List Source} {list : List Diag} → Faults file ss list → IsOrdered list
faults_ordered fault.no_files = λ i j d low high. absurd (omega arith)
faults_ordered (fault.good h r) = faults_ordered r
faults_ordered (fault.refused {file = file} {s = s} {d = d} {list = list} h r) =
    AllPairs-cons Before d list (All-from_recursion (Before d) list (before_each d r (omega (arith, in_file file s.text d h)))) (faults_ordered r)
