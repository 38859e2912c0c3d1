-- The files of a call are read in their order, one by one.
use Rattle.std.proofs.Common.{◌≡◌, refl, sym, ◌∙◌, ap, subst, ℕ, zero, suc, ◌+◌, ◌<◌, List, [], ◌∷◌, ◌++◌, append_assoc, append-nil, length, take, get_or, arith}
use Rattle.std.specs.Prelude.{Option, None, Some, slice_get}
use Rattle.sig_model.specs.PlainDecl.{PlainDecls, plain_decls}
use Rattle.sig_model.specs.declared.diag.Diag.{Diag}
use Rattle.diagnostics.specs.declared.lines.Source.{Source}
use Rattle.rbs_parser.specs.Texts.{IsFile}
use Rattle.rbs_printer.specs.Declarations.{printed}
use Rattle.call_outcomes.specs.declared.gathering.KeptFile.{KeptFile}
use Rattle.call_outcomes.specs.declared.loading.Loaded.{Loaded}
use Rattle.call_outcomes.specs.Loads.{IsLoaded}
use Rattle.call_outcomes.specs.Gathers.{IsKept, AreKept}
use Rattle.print_command.specs.declared.reading.Reading.{Reading}
use Rattle.print_command.specs.declared.reading.Reading.TheVariants as reading
use Rattle.print_command.specs.declared.outcome.ReadFiles.{ReadFiles}
use Rattle.print_command.specs.Faults as fault
use Rattle.print_command.specs.Faults.{Refuses, Faults}
use Rattle.print_command.specs.Prints as print
use Rattle.print_command.specs.Prints.{Prints}
use Rattle.print_command.specs.Reads.{IsRead, AreRead, Adds}

-- the number of a file behind others
further : (file k : ℕ) → file + suc k ≡ suc file + k
further file k = omega arith

faults-good : {file : ℕ} {ss : List Source} {list : List Diag} (s : Source) (ds : PlainDecls) → Faults file ss list → IsFile (file + length ss) ds s.text → Faults file (ss ++ s ∷ []) list
faults-good {file = file} s ds fault.no_files h = fault.good (subst (λ n. IsFile n ds s.text) (plus_none file) h) fault.no_files
  where
    plus_none : (n : ℕ) → n + 0 ≡ n
    plus_none n = omega arith
faults-good {file = file} s ds (fault.good {ss = ss} k r) h = fault.good k (faults-good s ds r (subst (λ n. IsFile n ds s.text) (further file (length ss)) h))
faults-good {file = file} s ds (fault.refused {ss = ss} k r) h = fault.refused k (faults-good s ds r (subst (λ n. IsFile n ds s.text) (further file (length ss)) h))

faults-refused : {file : ℕ} {ss : List Source} {list : List Diag} (s : Source) (d : Diag) → Faults file ss list → Refuses (file + length ss) s.text d → Faults file (ss ++ s ∷ []) (list ++ d ∷ [])
faults-refused {file = file} s d fault.no_files h = fault.refused (subst (λ n. Refuses n s.text d) (plus_none file) h) fault.no_files
  where
    plus_none : (n : ℕ) → n + 0 ≡ n
    plus_none n = omega arith
faults-refused {file = file} s d (fault.good {ss = ss} k r) h = fault.good k (faults-refused s d r (subst (λ n. Refuses n s.text d) (further file (length ss)) h))
faults-refused {file = file} s d (fault.refused {ss = ss} k r) h = fault.refused k (faults-refused s d r (subst (λ n. Refuses n s.text d) (further file (length ss)) h))

prints-good : {file : ℕ} {ss : List Source} {text : List ℕ} (s : Source) (ds : PlainDecls) → Prints file ss text → IsFile (file + length ss) ds s.text → Prints file (ss ++ s ∷ []) (text ++ printed ds)
prints-good {file = file} s ds print.no_files h =
    subst (Prints file (s ∷ [])) (append-nil (printed ds)) (print.one_more (subst (λ n. IsFile n ds s.text) (plus_none file) h) print.no_files)
  where
    plus_none : (n : ℕ) → n + 0 ≡ n
    plus_none n = omega arith
prints-good {file = file} s ds (print.one_more {s = x} {ss = ss} {ds = es} {text = text} k r) h =
    subst (Prints file (x ∷ ss ++ s ∷ [])) (sym (append_assoc (printed es) text (printed ds))) (print.one_more k (prints-good s ds r (subst (λ n. IsFile n ds s.text) (further file (length ss)) h)))

pushed : (ds : List Diag) (d : Diag) → ds ++ d ∷ [] ≡ [] → ⊥
pushed [] d e = cc
pushed (x ∷ ds) d e = cc

-- one file more is read
pub read_more : (ss : List Source) (s : Source) (r : Reading) (old new : ReadFiles) → AreRead ss old → IsRead (2 + length ss) s.text r → Adds r old new → AreRead (ss ++ s ∷ []) new
read_more ss s (reading.Good ds) old new h is adds = record {
  faults = subst (Faults 2 (ss ++ s ∷ [])) (sym adds.0) (faults-good s (plain_decls ds) h.faults is);
  text = λ none. subst (Prints 2 (ss ++ s ∷ [])) (sym adds.1) (prints-good s (plain_decls ds) (h.text (sym adds.0 ∙ none)) is);
}
read_more ss s (reading.Refused d) old new h is adds = record {
  faults = subst (Faults 2 (ss ++ s ∷ [])) (sym adds.0) (faults-refused s d h.faults is);
  text = λ none. absurd (pushed old.faults d (sym adds.0 ∙ none));
}

pub read_none : AreRead [] (record { faults = []; text = [] })
read_none = record { faults = fault.no_files; text = λ none. print.no_files }

-- as many files are kept as there are
pub kept_length : (ss : List Source) (ks : List KeptFile) → AreKept ss ks → length ss ≡ length ks
kept_length [] [] h = refl
kept_length [] (k ∷ ks) h = absurd h
kept_length (s ∷ ss) [] h = absurd h
kept_length (s ∷ ss) (k ∷ ks) h = ap suc (kept_length ss ks h.1)

-- the next file of those that are kept, with the ones before it
pub record Next (ss : List Source) (i : ℕ) (k : KeptFile) : Type 0 where
  pub this : Source
  pub kept : IsKept this k
  pub front : take (suc i) ss ≡ take i ss ++ this ∷ []
  pub place : length (take i ss) ≡ i

pub next_kept : (ss : List Source) (ks : List KeptFile) (i : ℕ) (k : KeptFile) → AreKept ss ks → slice_get ks i ≡ Some k → Next ss i k
next_kept [] [] i k h e = absurd (cc)
next_kept [] (l ∷ ks) i k h e = absurd h
next_kept (s ∷ ss) [] i k h e = absurd h
next_kept (s ∷ ss) (l ∷ ks) zero k h e = record { this = s; kept = subst (IsKept s) (same l k e) h.0; front = refl; place = refl }
  where
    same : (l k : KeptFile) → Some l ≡ Some k → l ≡ k
    same l k e = cc
next_kept (s ∷ ss) (l ∷ ks) (suc i) k h e =
    let rest = next_kept ss ks i k h.1 e in
    record { this = rest.this; kept = rest.kept; front = ap (λ (us : List Source). s ∷ us) rest.front; place = ap suc rest.place }
