-- The files of a call are read in their order, one by one.
use Rattle.std.proofs.Common.{◌≡◌, refl, sym, ◌∙◌, ap, subst, ℕ, suc, ◌+◌, ◌⊎◌, inl, inr, ◌<◌, ◌≤◌, min, Bool, true, false, cond, List, [], ◌∷◌, ◌++◌, length, map, ◌^◌, ◌-◌, codes, arith, drop, get_or}
use Rattle.std.specs.Prelude.{Option, None, Some, IfSome, Result, Ok, Err, nat_le, if◌then◌else◌}
use Rattle.std.specs.List.{AllZip}
use Rattle.std.proofs.lemmas.Bool.{le-leb, lt-leb}
use Rattle.std.proofs.lemmas.List.Elements.{All-map, All-weaker}
use Rattle.std.proofs.Math.Seq.{drop-cons}
use Rattle.run_base.specs.Files.{Shelf}
use Rattle.diagnostics.specs.declared.lines.Source.{Source}
use Rattle.call_outcomes.specs.declared.outcome.Outcome.{Outcome}
use Rattle.call_outcomes.specs.declared.loading.Loaded.{Loaded}
use Rattle.call_outcomes.specs.declared.gathering.KeptFile.{KeptFile}
use Rattle.call_outcomes.specs.declared.gathering.Stopped.{Stopped}
use Rattle.call_outcomes.specs.declared.gathering.Stopped.TheVariants as stopped
use Rattle.diagnostics.specs.Lines.{AllSmall}
use Rattle.call_outcomes.specs.Loads.{IsLoaded, IsSmall, text_of}
use Rattle.call_outcomes.specs.Outcomes.{source, missing, usage}
use Rattle.call_outcomes.specs.Contents.{most_bytes, counted, before, with_file, contents}
use Rattle.call_outcomes.specs.Gathers.{IsKept, AreKept, AreSmall, shown, LoadsNamed, Gathers}

-- several files, and those behind them where they are all read
abbrev pub before_all : List Source → Result (List Source) Outcome → Result (List Source) Outcome
before_all [] c = c
before_all (s ∷ ss) c = before s (before_all ss c)

before_all-push : (ss : List Source) (s : Source) (c : Result (List Source) Outcome) → before_all (ss ++ s ∷ []) c ≡ before_all ss (before s c)
before_all-push [] s c = refl
before_all-push (x ∷ ss) s c = ap (before x) (before_all-push ss s c)

before_all-none : (ss : List Source) → before_all ss (Ok []) ≡ Ok ss
before_all-none [] = refl
before_all-none (s ∷ ss) = ap (before s) (before_all-none ss)

before_all-stopped : (ss : List Source) (outcome : Outcome) → before_all ss (Err outcome) ≡ Err outcome
before_all-stopped [] outcome = refl
before_all-stopped (s ∷ ss) outcome = ap (before s) (before_all-stopped ss outcome)

-- the files of these names are read up to where the others are left, and are so many bytes
pub record IsBehind (shelf : Shelf) (names rest : List (List ℕ)) (total : ℕ) (kept : List KeptFile) : Type 0 where
  pub sources : List Source
  pub are_kept : AreKept sources kept
  pub left : contents shelf names 0 ≡ before_all sources (contents shelf rest total)

kept-push : (ss : List Source) (ks : List KeptFile) (s : Source) (k : KeptFile) → AreKept ss ks → IsKept s k → AreKept (ss ++ s ∷ []) (ks ++ k ∷ [])
kept-push [] [] s k h is = (is, tt)
kept-push [] (l ∷ ks) s k h is = absurd h
kept-push (x ∷ ss) [] s k h is = absurd h
kept-push (x ∷ ss) (l ∷ ks) s k h is = (h.0, kept-push ss ks s k h.1 is)

module _ (name : List ℕ) (others : ℕ → Result (List Source) Outcome) (total : ℕ) where
  -- a file, by whether it keeps the total
  abbrev by_total : List ℕ → Bool → Result (List Source) Outcome
  by_total bytes fits = if fits then before (source name bytes) (others (total + counted bytes)) else Err (usage (codes "files"))

  file_within : (bytes : List ℕ) → total + counted bytes ≤ most_bytes → with_file name others total (Some bytes) ≡ before (source name bytes) (others (total + counted bytes))
  file_within bytes within = ap (by_total bytes) (le-leb (total + counted bytes) most_bytes within)

  file_past : (bytes : List ℕ) → most_bytes < total + counted bytes → with_file name others total (Some bytes) ≡ Err (usage (codes "files"))
  file_past bytes past = ap (by_total bytes) (lt-leb (total + counted bytes) most_bytes past)

module _ (shelf : Shelf) (names : List (List ℕ)) (name : List ℕ) (rest : List (List ℕ)) (total : ℕ) (kept : List KeptFile) (h : IsBehind shelf names (name ∷ rest) total kept) where
  behind_more : (loaded : Loaded) (size : ℕ) (file : Option (List ℕ)) → shelf name ≡ file → LoadsNamed name file (Ok loaded) → ((bytes : List ℕ) → IsLoaded bytes loaded → size ≡ counted bytes)
      → total + size ≤ most_bytes → IsBehind shelf names rest (total + size) (kept ++ record { name = name; loaded = loaded } ∷ [])
  behind_more loaded size None is loads sizes within = absurd loads
  behind_more loaded size (Some bytes) is loads sizes within =
      let next : ℕ → Result (List Source) Outcome = λ sum. contents shelf rest sum in
      let size_is = sizes bytes loads in
      let inside : total + counted bytes ≤ most_bytes = subst (λ (n : ℕ). total + n ≤ most_bytes) size_is within in
      let this : with_file name next total (shelf name) ≡ before (source name bytes) (next (total + size))
      = ap (with_file name next total) is ∙ file_within name next total bytes inside ∙ ap (λ (n : ℕ). before (source name bytes) (next (total + n))) (sym size_is) in
      record {
        sources = h.sources ++ source name bytes ∷ [];
        are_kept = kept-push h.sources kept (source name bytes) (record { name = name; loaded = loaded }) h.are_kept (record { name = refl; loaded = loads });
        left = h.left ∙ ap (before_all h.sources) this ∙ sym (before_all-push h.sources (source name bytes) (next (total + size)));
      }

  behind_past : (loaded : Loaded) (size : ℕ) (file : Option (List ℕ)) → shelf name ≡ file → LoadsNamed name file (Ok loaded) → ((bytes : List ℕ) → IsLoaded bytes loaded → size ≡ counted bytes)
      → most_bytes < total + size → contents shelf names 0 ≡ Err (usage (codes "files"))
  behind_past loaded size None is loads sizes past = absurd loads
  behind_past loaded size (Some bytes) is loads sizes past =
      let next : ℕ → Result (List Source) Outcome = λ sum. contents shelf rest sum in
      let beyond : most_bytes < total + counted bytes = subst (λ (n : ℕ). most_bytes < total + n) (sizes bytes loads) past in
      h.left ∙ ap (before_all h.sources) (ap (with_file name next total) is ∙ file_past name next total bytes beyond) ∙ before_all-stopped h.sources (usage (codes "files"))

  behind_stopped : (e : Stopped) → LoadsNamed name (shelf name) (Err e) → Gathers (contents shelf names 0) (Err e)
  behind_stopped (stopped.Answered outcome) is =
      h.left ∙ ap (before_all h.sources) (ap (with_file name (λ sum. contents shelf rest sum) total) is.0 ∙ ap (λ (o : Outcome). Err o) (sym is.1)) ∙ before_all-stopped h.sources outcome
  behind_stopped stopped.Fault is = tt
  behind_stopped stopped.NoMemory is = tt

-- the next of the names that are left
pub next_name : (names : List (List ℕ)) (at : ℕ) (name : List ℕ) → at < length names → name ≡ get_or names at name → drop at names ≡ name ∷ drop (at + 1) names
next_name names at name lt is =
    let one : suc at ≡ at + 1 = omega arith in
    drop-cons names at name lt ∙ ap (λ (n : List ℕ). n ∷ drop (suc at) names) (sym is) ∙ ap (λ (n : ℕ). name ∷ drop n names) one

-- a file was loaded, so nothing failed
pub unfailed : {P : Type 0} (loaded : Loaded) (e : Stopped) → ◌≡◌ {A = Result Loaded Stopped} (Ok loaded) (Err e) ⊎ P → P
unfailed loaded e (inl is) = absurd (cc)
unfailed loaded e (inr p) = p

-- ---- where the files tell their contents

module _ (told : Option Shelf) (names : List (List ℕ)) where
  pub behind_none : IfSome told (λ shelf. IsBehind shelf names names 0 [])
  behind_none = go told
    where
      go : (told : Option Shelf) → IfSome told (λ shelf. IsBehind shelf names names 0 [])
      go None = tt
      go (Some shelf) = record { sources = []; are_kept = tt; left = refl }

  -- every file was read
  pub behind_all : (rest : List (List ℕ)) (total : ℕ) (kept : List KeptFile) → rest ≡ [] → IfSome told (λ shelf. IsBehind shelf names rest total kept) → IfSome told (λ shelf. Gathers (contents shelf names 0) (Ok kept))
  behind_all rest total kept none h = go told (subst (λ rest. IfSome told (λ shelf. IsBehind shelf names rest total kept)) none h)
    where
      go : (told : Option Shelf) → IfSome told (λ shelf. IsBehind shelf names [] total kept) → IfSome told (λ shelf. Gathers (contents shelf names 0) (Ok kept))
      go None h = tt
      go (Some shelf) h = subst (λ (c : Result (List Source) Outcome). Gathers c (Ok kept)) (sym (h.left ∙ before_all-none h.sources)) h.are_kept

-- at the file of this name, of those that are left
module _ (told now : Option Shelf) (same : now ≡ told) (names left : List (List ℕ)) (name : List ℕ) (rest : List (List ℕ)) (next : left ≡ name ∷ rest) (total : ℕ) (kept : List KeptFile)
    (h : IfSome told (λ shelf. IsBehind shelf names left total kept)) where
  behind_here : IfSome told (λ shelf. IsBehind shelf names (name ∷ rest) total kept)
  behind_here = subst (λ left. IfSome told (λ shelf. IsBehind shelf names left total kept)) next h

  pub more_told : (loaded : Loaded) (size : ℕ) → IfSome now (λ shelf. LoadsNamed name (shelf name) (Ok loaded)) → ((bytes : List ℕ) → IsLoaded bytes loaded → size ≡ counted bytes) → total + size ≤ most_bytes
      → IfSome told (λ shelf. IsBehind shelf names rest (total + size) (kept ++ record { name = name; loaded = loaded } ∷ []))
  more_told loaded size loads sizes within = go told behind_here (subst (λ told. IfSome told (λ shelf. LoadsNamed name (shelf name) (Ok loaded))) same loads)
    where
      go : (told : Option Shelf) → IfSome told (λ shelf. IsBehind shelf names (name ∷ rest) total kept) → IfSome told (λ shelf. LoadsNamed name (shelf name) (Ok loaded))
          → IfSome told (λ shelf. IsBehind shelf names rest (total + size) (kept ++ record { name = name; loaded = loaded } ∷ []))
      go None h loads = tt
      go (Some shelf) h loads = behind_more shelf names name rest total kept h loaded size (shelf name) refl loads sizes within

  pub past_told : (loaded : Loaded) (size : ℕ) (outcome : Outcome) → IfSome now (λ shelf. LoadsNamed name (shelf name) (Ok loaded)) → ((bytes : List ℕ) → IsLoaded bytes loaded → size ≡ counted bytes) → most_bytes < total + size
      → outcome ≡ usage (codes "files") → IfSome told (λ shelf. Gathers (contents shelf names 0) (Err (stopped.Answered outcome)))
  past_told loaded size outcome loads sizes past is = go told behind_here (subst (λ told. IfSome told (λ shelf. LoadsNamed name (shelf name) (Ok loaded))) same loads)
    where
      go : (told : Option Shelf) → IfSome told (λ shelf. IsBehind shelf names (name ∷ rest) total kept) → IfSome told (λ shelf. LoadsNamed name (shelf name) (Ok loaded))
          → IfSome told (λ shelf. Gathers (contents shelf names 0) (Err (stopped.Answered outcome)))
      go None h loads = tt
      go (Some shelf) h loads = behind_past shelf names name rest total kept h loaded size (shelf name) refl loads sizes past ∙ ap (λ (o : Outcome). Err o) (sym is)

  pub stopped_told : (e : Stopped) → IfSome now (λ shelf. LoadsNamed name (shelf name) (Err e)) → IfSome told (λ shelf. Gathers (contents shelf names 0) (Err e))
  stopped_told e loads = go told behind_here (subst (λ told. IfSome told (λ shelf. LoadsNamed name (shelf name) (Err e))) same loads)
    where
      go : (told : Option Shelf) → IfSome told (λ shelf. IsBehind shelf names (name ∷ rest) total kept) → IfSome told (λ shelf. LoadsNamed name (shelf name) (Err e)) → IfSome told (λ shelf. Gathers (contents shelf names 0) (Err e))
      go None h loads = tt
      go (Some shelf) h loads = behind_stopped shelf names name rest total kept h e loads

-- what is shown of files that are kept is small
pub shown_small : (files : List KeptFile) → AreSmall files → AllSmall (map shown files)
shown_small files small =
    All-map (λ (s : Source). length s.text < 2 ^ 32 - 1) shown files
    (All-weaker (λ (k : KeptFile). IsSmall k.loaded) (λ (k : KeptFile). length (text_of k.loaded) < 2 ^ 32 - 1) (λ k h. omega (arith, h)) files small)
