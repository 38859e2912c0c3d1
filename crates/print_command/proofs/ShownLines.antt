-- The lines of faults don't show the text of a file that is too large.
use Rattle.std.proofs.Common.{◌≡◌, refl, sym, ◌∙◌, ap, subst, ℕ, zero, suc, ◌+◌, ◌-◌, ◌<◌, Bool, true, false, cond, List, [], ◌∷◌, ◌++◌, append_assoc, length, map, nat_lt, arith}
use Rattle.std.specs.Prelude.{Option, None, Some, slice_get, if◌then◌else◌}
use Rattle.std.specs.Option.{option_map_or}
use Rattle.std.proofs.lemmas.Bool.{le-ltb}
use Rattle.std.proofs.lemmas.List.{length-append, length-map}
use Rattle.sig_model.specs.declared.diag.Diag.{Diag}
use Rattle.sig_model.specs.declared.diag.DiagId.{DiagId}
use Rattle.sig_model.specs.declared.diag.DiagId.TheVariants as id
use Rattle.diagnostics.specs.declared.lines.Source.{Source}
use Rattle.diagnostics.specs.Lines.{line_in, line_text, source_at, line_of, lines_of, summary}
use Rattle.call_outcomes.specs.declared.outcome.Outcome.{Outcome}
use Rattle.call_outcomes.specs.declared.loading.Loaded.{Loaded}
use Rattle.call_outcomes.specs.declared.loading.Loaded.TheVariants as loaded
use Rattle.call_outcomes.specs.declared.gathering.KeptFile.{KeptFile}
use Rattle.call_outcomes.specs.Loads.{IsLoaded, text_of}
use Rattle.call_outcomes.specs.Outcomes.{listed, list_status}
use Rattle.call_outcomes.specs.Gathers.{IsKept, AreKept, shown}
use Rattle.print_command.specs.Faults as fault
use Rattle.print_command.specs.Faults.{fault_at, Refuses, too_large, past_limit, no_signature, Faults}
use Rattle.print_command.proofs.Added.{kept_length}

seam : (F : List Source) (s : Source) (ss : List Source) → slice_get (F ++ s ∷ ss) (length F) ≡ Some s
seam [] s ss = refl
seam (x ∷ F) s ss = seam F s ss

behind_core : (k : ℕ) → k + 2 - 2 ≡ k
behind_core k = omega arith

-- the file behind others, by its number
there : (F : List Source) (s : Source) (ss : List Source) (file : ℕ) → file ≡ length F + 2 → source_at (F ++ s ∷ ss) file ≡ Some s
there F s ss file is =
    ap (λ b. if b then None else slice_get (F ++ s ∷ ss) (file - 2)) (le-ltb file 2 (omega arith))
    ∙ ap (λ n. slice_get (F ++ s ∷ ss) n) (ap (λ n. n - 2) is ∙ behind_core (length F)) ∙ seam F s ss

line_there : (F : List Source) (s : Source) (ss : List Source) (file at : ℕ) (i : DiagId) → file ≡ length F + 2 → line_of (F ++ s ∷ ss) (fault_at file at i) ≡ line_in s.name s.text (fault_at file at i)
line_there F s ss file at i is = ap (λ found. option_map_or (λ t. line_in t.name t.text (fault_at file at i)) found []) (there F s ss file is)

module _ (name bytes : List ℕ) where
  -- the line of a file's fault, of which this is kept
  line_shown : (file : ℕ) (d : Diag) (l : Loaded) → IsLoaded bytes l → Refuses file bytes d → line_in name bytes d ≡ line_in name (text_of l) d
  line_shown file d (loaded.Text text) is r = ap (λ bytes. line_in name bytes d) is
  line_shown file d loaded.TooLarge large (too_large more) = refl
  line_shown file d loaded.TooLarge large (past_limit short wrong) = absurd (omega arith)
  line_shown file d loaded.TooLarge large (no_signature short wrong) = absurd (omega arith)

-- the line of the fault of a file behind others
line_same : (F G : List Source) (s : Source) (ss : List Source) (k : KeptFile) (ts : List Source) (file : ℕ) (d : Diag) → length F ≡ length G → file ≡ length F + 2 → IsKept s k → Refuses file s.text d
    → line_of (F ++ s ∷ ss) d ≡ line_of (G ++ shown k ∷ ts) d
line_same F G s ss k ts file d same is h r = go d r
  where
    own : file ≡ length G + 2
    own = is ∙ ap (λ n. n + 2) same

    in_file : (d : Diag) → Refuses file s.text d → line_in s.name s.text d ≡ line_in (shown k).name (shown k).text d
    in_file d r = ap (λ name. line_in name s.text d) h.name ∙ line_shown k.name s.text file d k.loaded h.loaded r

    go : (d : Diag) → Refuses file s.text d → line_of (F ++ s ∷ ss) d ≡ line_of (G ++ shown k ∷ ts) d
    go d (too_large large) = line_there F s ss file 0 id.StrictLimit is ∙ in_file d (too_large large) ∙ sym (line_there G (shown k) ts file 0 id.StrictLimit own)
    go d (past_limit {at = at} short wrong) = line_there F s ss file at id.StrictLimit is ∙ in_file d (past_limit short wrong) ∙ sym (line_there G (shown k) ts file at id.StrictLimit own)
    go d (no_signature {at = at} short wrong) =
        line_there F s ss file at id.SignatureSyntaxError is ∙ in_file d (no_signature short wrong) ∙ sym (line_there G (shown k) ts file at id.SignatureSyntaxError own)

shift : (F : List Source) (s : Source) (ss : List Source) → F ++ s ∷ ss ≡ (F ++ s ∷ []) ++ ss
shift F s ss = sym (append_assoc F (s ∷ []) ss)

longer : (F : List Source) (s : Source) → length (F ++ s ∷ []) ≡ length F + 1
longer F s = length-append F (s ∷ [])

next_same : (F G : List Source) (s : Source) (k : KeptFile) → length F ≡ length G → length (F ++ s ∷ []) ≡ length (G ++ shown k ∷ [])
next_same F G s k same = longer F s ∙ ap (λ n. n + 1) same ∙ sym (longer G (shown k))

next_file : (F : List Source) (s : Source) {file : ℕ} → file ≡ length F + 2 → suc file ≡ length (F ++ s ∷ []) + 2
next_file F s is = omega (arith, longer F s)

rest_same : (F G : List Source) (s : Source) (ss : List Source) (k : KeptFile) (ks : List KeptFile) (list : List Diag) → length F ≡ length G
    → lines_of ((F ++ s ∷ []) ++ ss) list ≡ lines_of ((G ++ shown k ∷ []) ++ map shown ks) list → lines_of (F ++ s ∷ ss) list ≡ lines_of (G ++ shown k ∷ map shown ks) list
rest_same F G s ss k ks list same rest = ap (λ us. lines_of us list) (shift F s ss) ∙ rest ∙ ap (λ us. lines_of us list) (sym (shift G (shown k) (map shown ks)))

-- the lines of the faults of files behind others, of which these are kept
lines_same : (F G : List Source) {file : ℕ} {ss : List Source} {list : List Diag} (ks : List KeptFile) → length F ≡ length G → file ≡ length F + 2 → AreKept ss ks → Faults file ss list
    → lines_of (F ++ ss) list ≡ lines_of (G ++ map shown ks) list
lines_same F G ks same is kept fault.no_files = refl
lines_same F G [] same is kept (fault.good h r) = absurd kept
lines_same F G (k ∷ ks) same is kept (fault.good {s = s} {ss = ss} {list = list} h r) = rest_same F G s ss k ks list same (lines_same (F ++ s ∷ []) (G ++ shown k ∷ []) ks (next_same F G s k same) (next_file F s is) kept.1 r)
lines_same F G [] same is kept (fault.refused h r) = absurd kept
lines_same F G (k ∷ ks) same is kept (fault.refused {file = file} {s = s} {ss = ss} {d = d} {list = list} h r) =
    ap (λ line. line ++ lines_of (F ++ s ∷ ss) list) (line_same F G s ss k (map shown ks) file d same is kept.0 h)
    ∙ ap (λ lines. line_of (G ++ shown k ∷ map shown ks) d ++ lines)
    (rest_same F G s ss k ks list same (lines_same (F ++ s ∷ []) (G ++ shown k ∷ []) ks (next_same F G s k same) (next_file F s is) kept.1 r))

-- the list of the faults of the files, whose texts are kept so far as a list shows them
pub listed_shown : (ss : List Source) (ks : List KeptFile) (list : List Diag) → AreKept ss ks → Faults 2 ss list → listed (map shown ks) list ≡ listed ss list
listed_shown ss ks list kept faults =
    let lines = lines_same [] [] ks refl refl kept faults in
    let count = length-map ks shown ∙ sym (kept_length ss ks kept) in
    ap (λ (out : List ℕ). let o : Outcome = record { out = out; err = []; status = list_status list } in o)
    (ap (λ out. out ++ summary (length (map shown ks)) (length list)) (sym lines) ∙ ap (λ n. lines_of ss list ++ summary n (length list)) count)
