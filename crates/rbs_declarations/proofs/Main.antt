-- The reader of declarations within the limits: the declarations that tokens spell, or the place right behind the longest front with which such a text begins.
use Rattle.std.proofs.Common.{ℕ, ◌+◌, ◌<◌, ◌≤◌, ◌↔◌, ◌≡◌, refl, sym, ◌∙◌, ap, List, [], ◌∷◌, ◌++◌, take, length, Option, Some, None, option_and_then, arith}
use Rattle.rbs_terminals.specs.declared.token.Token.{Token}
use Rattle.sig_model.specs.PlainDecl.{PlainDecls}
use Rattle.rbs_types.specs.Answers.{last_end}
use Rattle.rbs_types.specs.Limits.{IsSmall}
use Rattle.viable_prefixes.specs.Runs.{reads, OpenAtMost}
use Rattle.viable_prefixes.specs.Prefixes.{IsFault}
use Rattle.viable_prefixes.proofs.Goes.{Goes}
use Rattle.viable_prefixes.proofs.Machines.{Machine, IsReader, Text}
use Rattle.viable_prefixes.proofs.Prefixes as prefixes
use Rattle.rbs_declarations.specs.declared.state.State.{State}
use Rattle.rbs_declarations.specs.Heights.{decls_height}
use Rattle.rbs_declarations.specs.Machine.{start_of_file, next, final}
use Rattle.rbs_declarations.specs.Needs.{need, reach}
use Rattle.rbs_declarations.specs.Openness.{file_open}
use Rattle.rbs_declarations.specs.Limits.{IsWithin, IsWritten, IsText, IsFaultyFile}
use Rattle.rbs_declarations.proofs.Valid.{Valid, valid_start, valid_next}
use Rattle.rbs_declarations.proofs.Needs.{need_next, need_final}
use Rattle.rbs_declarations.proofs.Opens.{sure_reach, reach_next, reach_final}
use Rattle.rbs_declarations.proofs.Finish.{finish}
use Rattle.rbs_declarations.proofs.Onward.{reading}
use Rattle.rbs_declarations.proofs.Behind.{behind, open_at, open_is}
use Rattle.rbs_declarations.proofs.Complete.{complete, most_is}
use Rattle.rbs_declarations.proofs.Sound.{sound}

-- A state, and where the last token before it ends.
abbrev pub Tracked : Type 0
Tracked = State × ℕ

abbrev pub tracked : Option State → Token → Option Tracked
tracked None c = None
tracked (Some m) c = Some (m, c.spot.end)

-- where the last token ends, and before the first one
abbrev pub end_behind : ℕ → List Token → ℕ
end_behind l [] = l
end_behind l (c ∷ ts) = end_behind c.spot.end ts

last_is : (ts : List Token) (l : ℕ) (c : Token) → end_behind l (c ∷ ts) ≡ last_end (c ∷ ts)
last_is [] l c = refl
last_is (d ∷ ts) l c = last_is ts c.spot.end d

pub end_is : (ts : List Token) → end_behind 0 ts ≡ last_end ts
end_is [] = refl
end_is (c ∷ ts) = last_is ts 0 c

-- In the file of this number.
module _ (file : ℕ) where
  abbrev pub next_tracked : Tracked → Token → Option Tracked
  next_tracked s c = tracked (next file s.0 c) c

  abbrev pub final_tracked : Tracked → Option PlainDecls
  final_tracked s = final file s.1 s.0

  pub reads_tracked : (ts : List Token) (s : State) (l : ℕ) → reads next_tracked final_tracked (s, l) ts ≡ reads (next file) (final file (end_behind l ts)) s ts
  unfolding reads
  reads_tracked [] s l = refl
  reads_tracked (c ∷ ts) s l = go (next file s c) (λ m. reads_tracked ts m c.spot.end)
    where
      go : (o : Option State) → ((m : State) → reads next_tracked final_tracked (m, c.spot.end) ts ≡ reads (next file) (final file (end_behind c.spot.end ts)) m ts)
          → option_and_then (λ m. reads next_tracked final_tracked m ts) (tracked o c) ≡ option_and_then (λ m. reads (next file) (final file (end_behind c.spot.end ts)) m ts) o
      go None ih = refl
      go (Some m) ih = ih m

  some_tracked : (o : Option State) (c : Token) (e : Tracked) → tracked o c ≡ Some e → o ≡ Some e.0
  some_tracked None c e h = absurd (cc)
  some_tracked (Some m) c e h = cc

  start_tracked : (ts : List Token) → reads next_tracked final_tracked (start_of_file, 0) ts ≡ reads (next file) (final file (last_end ts)) start_of_file ts
  start_tracked ts = reads_tracked ts start_of_file 0 ∙ ap (λ e. reads (next file) (final file e) start_of_file ts) (end_is ts)

  abbrev pub files : Machine Tracked Token PlainDecls (Option State)
  files = record {
    start = (start_of_file, 0);
    next = next_tracked;
    final = final_tracked;
    Valid = λ s. Valid s.0;
    Written = IsWritten file;
    tall = 200;
    many = 400;
    height = decls_height;
    behind = behind file;
    sure = open_at file;
    Small = IsSmall;
    need = λ s. need s.0;
    depth = λ s. Some s.0;
    reach = λ s. reach s.0;
  }

  pub files_are_read : IsReader files
  files_are_read = record {
    sound = λ ds ts h. sound file (last_end ts) ds ts (sym (start_tracked ts) ∙ h);
    complete = λ ds ts w. start_tracked ts ∙ complete file (last_end ts) ds ts w;
    valid_start = valid_start;
    valid_next = λ s c m v e. valid_next file s.0 c m.0 v (some_tracked (next file s.0 c) c m e);
    need_start = omega arith;
    need_next = λ s c m v e. need_next file s.0 c m.0 v (some_tracked (next file s.0 c) c m e);
    need_final = λ s ds v e. omega (arith, need_final file s.1 s.0 ds v e);
    height_final = λ s ds v e low. omega (arith, need_final file s.1 s.0 ds v e, low);
    depth_next = λ s c m v e. sym (some_tracked (next file s.0 c) c m e);
    reach_start = omega arith;
    sure_reach = λ s v. sure_reach s.0;
    reach_next = λ s c m v e. reach_next file s.0 c m.0 v (some_tracked (next file s.0 c) c m e);
    reach_final = λ s ds v e. reach_final file s.1 s.0 ds v e;
    finish = λ s v.
        let (w, ds, goes, tall, within, small) = finish file s.0 v in
        (w, ds (end_behind s.1 w), reads_tracked w s.0 s.1 ∙ goes (end_behind s.1 w), λ low. tall low (end_behind s.1 w), within, small);
  }

  -- the tokens spell one list of declarations, if any
  pub files_are_spelled_once : (ds es : PlainDecls) (ts : List Token) → IsWritten file ds ts → IsWritten file es ts → ds ≡ es
  files_are_spelled_once = prefixes.spelled_once files files_are_read

  -- the reader took the tokens within the limits
  abbrev pub Took : List Token → Tracked → Type 0
  Took ts s = Goes next_tracked (λ m c. IsWithin m.0 c) (start_of_file, 0) ts s

  tracked_some : (s : Tracked) (c : Token) (m : State) → next file s.0 c ≡ Some m → next_tracked s c ≡ Some (m, c.spot.end)
  tracked_some s c m e = ap (λ o. tracked o c) e

  tracked_none : (s : Tracked) (c : Token) → next file s.0 c ≡ None → next_tracked s c ≡ None
  tracked_none s c e = ap (λ o. tracked o c) e

  pub took_more : (ts : List Token) (n : ℕ) (s : Tracked) (m : State) (c : Token) → Took (take n ts) s → take (n + 1) ts ≡ take n ts ++ c ∷ [] → next file s.0 c ≡ Some m → IsWithin m c
      → Took (take (n + 1) ts) (m, c.spot.end)
  took_more ts n s m c took is e within = prefixes.took_more files files_are_read ts n s (m, c.spot.end) c took is (tracked_some s c m e) within

  -- ---- the limits of a text, by their names

  -- what is open behind each token is as the derivation says
  open_is_said : (ds : PlainDecls) (ts : List Token) → (d : IsWritten file ds ts) → OpenAtMost (behind file) (open_at file) 400 (Some start_of_file) ts ↔ (file_open d ≤ 400)
  open_is_said ds ts d =
      let both = open_is file (last_end ts) 400 start_of_file ts in
      let same : (reading file (last_end ts) start_of_file ts).most ≡ file_open d = most_is file (last_end ts) ds ts d in
      (λ h. let few : (reading file (last_end ts) start_of_file ts).most ≤ 400 = both.0 h in omega arith, λ h. let few : (reading file (last_end ts) start_of_file ts).most ≤ 400 = omega arith in both.1 few)

  is_text : (ds : PlainDecls) (ts : List Token) → Text files ds ts → IsText file ds ts
  is_text ds ts h = record { written = h.0; height = h.1; nested = (open_is_said ds ts h.0).0 h.2; small = h.3 }

  of_text : (ds : PlainDecls) (ts : List Token) → IsText file ds ts → Text files ds ts
  of_text ds ts h = (h.written, h.height, (open_is_said ds ts h.written).1 h.nested, h.small)

  named : (ts : List Token) (n : ℕ) (limit : Type 0) → IsFault (Text files) (IsWritten file) ts n limit → IsFaultyFile file ts n limit
  named ts n limit = prefixes.text_is (Text files) (IsText file) (IsWritten file) ts n limit is_text of_text

  -- the same fault, where a passed limit is said in other words
  pub fault_when : (ts : List Token) (n : ℕ) (a b : Type 0) → (a → b) → (b → a) → IsFaultyFile file ts n a → IsFaultyFile file ts n b
  fault_when = prefixes.limit_is (IsText file) (IsWritten file)

  -- ---- how reading ends

  -- All tokens were taken, and the text may end there: it has these declarations, and no others.
  pub whole_file : (ts : List Token) (s : Tracked) (ds : PlainDecls) → Took ts s → final file s.1 s.0 ≡ Some ds → IsText file ds ts × ((es : PlainDecls) → IsText file es ts → es ≡ ds)
  whole_file ts s ds took e = let h = prefixes.whole files files_are_read ts s ds took e in (is_text ds ts h.0, λ es k. h.1 es (of_text es ts k))

  -- All tokens were taken, and the text may not end there.
  pub unfinished_file : (ts : List Token) (s : Tracked) → Took ts s → final file s.1 s.0 ≡ None → IsFaultyFile file ts (length ts) ⊥
  unfinished_file ts s took e = named ts (length ts) ⊥ (prefixes.unfinished files files_are_read ts s took e)

  -- The token behind the first `n` is refused.
  pub refused_file : (ts : List Token) (n : ℕ) (s : Tracked) (c : Token) → Took (take n ts) s → n < length ts → take (n + 1) ts ≡ take n ts ++ c ∷ [] → next file s.0 c ≡ None → IsFaultyFile file ts n ⊥
  refused_file ts n s c took lt is e = named ts n ⊥ (prefixes.refused files files_are_read ts n s c took lt is (tracked_none s c e))

  -- The token behind the first `n` is taken, but passes a limit.
  pub past_file : (ts : List Token) (n : ℕ) (s : Tracked) (m : State) (c : Token) → Took (take n ts) s → n < length ts → take (n + 1) ts ≡ take n ts ++ c ∷ [] → next file s.0 c ≡ Some m → (IsWithin m c → ⊥)
      → IsFaultyFile file ts n (Unit {0})
  past_file ts n s m c took lt is e past = named ts n (Unit {0}) (prefixes.past files files_are_read ts n s (m, c.spot.end) c took lt is (tracked_some s c m e) past)
