-- How `clap` walks over the words of the command.
use Rattle.std.proofs.Common.{◌≡◌, ◌∙◌, ◌==◌, ◌&&◌, ℕ, Bool, cond, true, false, refl, sym, ap, ap₂, subst, arith, List, [], ◌∷◌, ◌++◌, length, Option, Some, None, append-nil, append_assoc, codes, inl, inr, true≢false, eqb-true}
use Rattle.std.specs.Prelude.{fold, option_map, option_and_then, slice_get, is_some}
use Rattle.std.specs.List.{AllByRecursion}
use Rattle.std.specs.Option.{option_map_or}
use Rattle.std.specs.Char.{encode_utf8}
use Rattle.std.specs.Str.{bytes_eq, chars, encode_utf8_all, IsUtf8}
use Rattle.std.proofs.lemmas.Bool.Decides.{nat_tests}
use Rattle.std.proofs.lemmas.Str.{IsUtf8-past_char, encodes-chars}
use Rattle.clap.specs.Lexer.{long_of, long_of_rest, short_of, short_of_rest, strip_byte}
use Rattle.clap.specs.Kinds.{Kinds, or_else}
use Rattle.clap.specs.declared.error.kind.ErrorKind.TheVariants as kind
use Rattle.command_words.specs.Words.{at_least_one, file_words, named}
use Rattle.clap.specs.Walk.{Held, Row, Step, Text, Walk, Waiting, idle, positional, value, after_step, nothing_held, settled, walked, word_met, pushed, trailing, long_or_other, short_or_plain, finished}
use Rattle.clap.specs.Words.{App, HasKind, HasMatchesOf, all_of, built, fault_of, found_of, is_simple, is_simple_and_free, kind_of, matched_of, matches_of, raw_values, rows_of}
use Rattle.clap.specs.Simple.{Shape, entered}
use Rattle.clap.specs.Faults.{bundle_fault, bundle_step_fault, check_fault, defaults_fault, entered_fault, flag_word_fault, flags_fault, settle_fault, step_fault, turn_fault, walk_fault, word_fault}
use Rattle.clap.specs.declared.parser.matches.ValueSource.TheVariants.{CommandLine}
use Rattle.clap.specs.declared.builder.value_parser.Reading.TheVariants as reading
use Rattle.clap.specs.declared.error.Error.{Error}
use Rattle.clap.specs.declared.parser.matches.ArgMatches.{ArgMatches}
use Rattle.clap.proofs.WalkLemmas.{raw_values-rows}
use Rattle.clap.proofs.OnLiterals.{clap_on_literals}
use Rattle.command_words.specs.Command.{files_app, has_lone_hyphen}

pub is_exact : is_simple files_app ≡ true
unfolding clap_on_literals
is_exact = refl

pub is_free : is_simple_and_free files_app ≡ true
unfolding clap_on_literals
is_free = refl

abbrev top : Shape
top = (built files_app).top

-- the row of these files
abbrev pub row_of_files : List Text → Row
row_of_files files = record {
  id = codes "file";
  values = files;
  count = None;
  source = Some CommandLine;
  reading = reading.AsWritten;
}

abbrev pub rows_done : List Text → List Row
rows_done [] = []
rows_done (file ∷ files) = row_of_files (file ∷ files) ∷ []

-- the files so far: none, or those that are done and the one that is held
abbrev State : Type 0
State = Option (List Text × Text)

abbrev files_in : State → List Text
files_in None = []
files_in (Some p) = p.0 ++ p.1 ∷ []

abbrev held_at : State → Held
held_at None = nothing_held
held_at (Some p) = record { rows = rows_done p.0; pending = Some (codes "file", p.1 ∷ []); skip = 0 }

abbrev waiting_at : State → Waiting
waiting_at None = idle
waiting_at (Some p) = positional

abbrev walk_at : Bool → State → Walk
walk_at is_trailing s = record { held = held_at s; waiting = waiting_at s; position = 1; is_trailing = is_trailing; stopped = None }

abbrev holding : Bool → Held → Walk
holding is_trailing h = record { held = h; waiting = positional; position = 1; is_trailing = is_trailing; stopped = None }

abbrev with_file : State → Text → State
with_file s word = Some (files_in s, word)

use_adds : (files : List Text) (word : Text) → settled top.rules (held_at (Some (files, word))) ≡ record { rows = rows_done (files ++ word ∷ []); pending = None; skip = 0 }
use_adds [] word = refl
use_adds (file ∷ files) word = refl

settle_passes : (s : State) → settle_fault top.rules false (held_at s) ≡ []
settle_passes None = refl
settle_passes (Some p) = refl

value_adds : (is_trailing : Bool) (s : State) (word : Text) → after_step top.rules word (walk_at is_trailing s) (held_at s) value ≡ walk_at is_trailing (with_file s word)
value_adds true None word = refl
value_adds false None word = refl
value_adds true (Some p) word = ap (λ (h : Held). holding true (pushed (codes "file") word h)) (use_adds p.0 p.1)
value_adds false (Some p) word = ap (λ (h : Held). holding false (pushed (codes "file") word h)) (use_adds p.0 p.1)

-- ---- one word

after : Bool → State → Text → Walk
after is_trailing s word = walked top.rules [] (walk_at is_trailing s) word

abbrev faults : Bool → State → Text → Kinds
faults is_trailing s word = turn_fault top [] (walk_at is_trailing s) word

-- the word is one more file
abbrev Adds : Bool → State → Text → Type 0
Adds is_trailing s word = (faults is_trailing s word ≡ []) × (after is_trailing s word ≡ walk_at is_trailing (with_file s word))

trailing_adds : (s : State) (word : Text) → Adds true s word
unfolding after walked
trailing_adds None word = (refl, value_adds true None word)
trailing_adds (Some p) word = (refl, value_adds true (Some p) word)

-- ---- a word before the options' end, by what the lexer makes of it

abbrev is_end : Text → Bool
is_end word = bytes_eq word (codes "--")

abbrev met : State → Text → Held × Step
met s word = word_met top.rules [] false (waiting_at s) 1 word (held_at s)

met_plain : (s : State) (word : Text) → is_end word ≡ false → long_of word ≡ None → short_of word ≡ None → met s word ≡ (held_at s, value)
met_plain None word e l o =
    ap (λ (b : Bool). cond b (held_at None, trailing 1) (long_or_other top.rules idle word (long_of word) (held_at None))) e
    ∙ ap (λ (m : Option (Text × Option Text)). long_or_other top.rules idle word m (held_at None)) l
    ∙ ap (λ (m : Option Text). short_or_plain top.rules idle word m (held_at None)) o
met_plain (Some p) word e l o =
    ap (λ (b : Bool). cond b (held_at (Some p), trailing 1) (long_or_other top.rules positional word (long_of word) (held_at (Some p)))) e
    ∙ ap (λ (m : Option (Text × Option Text)). long_or_other top.rules positional word m (held_at (Some p))) l
    ∙ ap (λ (m : Option Text). short_or_plain top.rules positional word m (held_at (Some p))) o

-- what is wrong with a word that is neither the end nor a long flag
no_long : (s : State) (word : Text) → is_end word ≡ false → long_of word ≡ None
    → word_fault top [] false (waiting_at s) word (held_at s) ≡ option_map_or (λ flags. bundle_fault top.rules false flags (held_at s)) (short_of word) []
no_long None word e l =
    ap (λ (b : Bool). cond b [] (flag_word_fault top.rules false (long_of word) word (held_at None))) e
    ∙ ap (λ (m : Option (Text × Option Text)). flag_word_fault top.rules false m word (held_at None)) l
no_long (Some p) word e l =
    ap (λ (b : Bool). cond b [] (flag_word_fault top.rules false (long_of word) word (held_at (Some p)))) e
    ∙ ap (λ (m : Option (Text × Option Text)). flag_word_fault top.rules false m word (held_at (Some p))) l

value_passes : (s : State) → step_fault top 1 (held_at s) value ≡ []
value_passes None = refl
value_passes (Some p) = refl

word_adds : (s : State) (word : Text) → is_end word ≡ false → long_of word ≡ None → short_of word ≡ None → Adds false s word
unfolding after walked
word_adds s word e l o =
    let here = met_plain s word e l o in
    let fine : word_fault top [] false (waiting_at s) word (held_at s) ≡ [] =
    no_long s word e l ∙ ap (λ (m : Option Text). option_map_or (λ flags. bundle_fault top.rules false flags (held_at s)) m []) o in (
      ap₂ (λ (k : Kinds) (m : Held × Step). or_else k (step_fault top 1 m.0 m.1)) fine here ∙ value_passes s,
      ap (λ (m : Held × Step). after_step top.rules word (walk_at false s) m.0 m.1) here ∙ value_adds false s word,
    )

plain_adds : (s : State) (x : ℕ) (xs : Text) → (x == 45) ≡ false → Adds false s (x ∷ xs)
plain_adds s x xs e = word_adds s (x ∷ xs)
    (ap (λ (b : Bool). b && bytes_eq xs (45 ∷ [])) e)
    (ap (λ (b : Bool). option_and_then long_of_rest (option_and_then (strip_byte 45) (cond b (Some xs) None))) e)
    (ap (λ (b : Bool). option_and_then short_of_rest (cond b (Some xs) None)) e)

-- the word ends the options
ends : (s : State) → (faults false s (codes "--") ≡ []) × (after false s (codes "--") ≡ walk_at true s)
unfolding after walked
ends None = (refl, refl)
ends (Some p) = (refl, refl)

long_faults : (s : State) (z : ℕ) (zs : Text) → faults false s (45 ∷ 45 ∷ z ∷ zs) ≡ kind.UnknownArgument ∷ []
long_faults None z zs = refl
long_faults (Some p) z zs = refl

first_char : (y : ℕ) (ys : Text) → IsUtf8 (45 ∷ y ∷ ys) → (c : ℕ) × (cs : List ℕ) × (chars (y ∷ ys) ≡ c ∷ cs)
unfolding encode_utf8
first_char y ys utf8 = by_cases (chars (y ∷ ys)) refl
  where
    rest : IsUtf8 (y ∷ ys)
    rest = IsUtf8-past_char (45 ∷ y ∷ ys) (y ∷ ys) 45 utf8 refl

    by_cases : (cs : List ℕ) → chars (y ∷ ys) ≡ cs → (c : ℕ) × (more : List ℕ) × (chars (y ∷ ys) ≡ c ∷ more)
    by_cases [] e =
        let bad : [] ≡ y ∷ ys = sym (ap encode_utf8_all e) ∙ encodes-chars (y ∷ ys) rest in
        cc
    by_cases (c ∷ cs) e = (c, cs, e)

bundle_faults : (s : State) (y : ℕ) (ys : Text) → IsUtf8 (45 ∷ y ∷ ys) → bundle_fault top.rules false (y ∷ ys) (held_at s) ≡ kind.UnknownArgument ∷ []
unfolding flags_fault
bundle_faults None y ys utf8 =
    let first = first_char y ys utf8 in
    ap (λ (cs : List ℕ). bundle_step_fault top.rules false (slice_get cs 0) (y ∷ ys) 0 (held_at None) (flags_fault top.rules false (length ys))) first.2
bundle_faults (Some p) y ys utf8 =
    let first = first_char y ys utf8 in
    ap (λ (cs : List ℕ). bundle_step_fault top.rules false (slice_get cs 0) (y ∷ ys) 0 (held_at (Some p)) (flags_fault top.rules false (length ys))) first.2

short_faults : (s : State) (y : ℕ) (ys : Text) → IsUtf8 (45 ∷ y ∷ ys) → (y == 45) ≡ false → faults false s (45 ∷ y ∷ ys) ≡ kind.UnknownArgument ∷ []
short_faults s y ys utf8 e =
    let word = 45 ∷ y ∷ ys in
    let is_short : short_of word ≡ Some (y ∷ ys) = ap (λ (b : Bool). cond b None (Some (y ∷ ys))) e in
    let wrong : word_fault top [] false (waiting_at s) word (held_at s) ≡ kind.UnknownArgument ∷ [] =
    no_long s word (ap (λ (b : Bool). b && bytes_eq ys []) e)
    (ap (λ (b : Bool). option_and_then long_of_rest (cond b (Some ys) None)) e)
    ∙ ap (λ (m : Option Text). option_map_or (λ flags. bundle_fault top.rules false flags (held_at s)) m []) is_short
    ∙ bundle_faults s y ys utf8 in
    ap (λ (k : Kinds). or_else k (step_fault top 1 (met s word).0 (met s word).1)) wrong

-- ---- the walk

abbrev walk_of : Walk → List Text → Walk
walk_of w words = fold (walked top.rules []) w words

abbrev fault_on : Walk → List Text → Kinds
fault_on w words = walk_fault top [] w words

-- the walk ended with these files more
abbrev Ended : State → List Text → Walk → Type 0
Ended s files w = (is_trailing : Bool) × (t : State) × (w ≡ walk_at is_trailing t) × (files_in t ≡ files_in s ++ files)

-- the words name these files, and no word is refused, or a word is
abbrev Claim : Bool → State → List Text → Option (List Text) → Type 0
Claim is_trailing s words None = fault_on (walk_at is_trailing s) words ≡ [] → ⊥
Claim is_trailing s words (Some files) = (fault_on (walk_at is_trailing s) words ≡ []) × Ended s files (walk_of (walk_at is_trailing s) words)

abbrev joined : Text → Option (List Text) → Option (List Text)
joined word = option_map (λ files. word ∷ files)

fault_passes : (w next : Walk) (word : Text) (words : List Text) → turn_fault top [] w word ≡ [] → walked top.rules [] w word ≡ next → fault_on w (word ∷ words) ≡ fault_on next words
unfolding walk_fault
fault_passes w next word words none is = ap₂ (λ (k : Kinds) (v : Walk). or_else k (fault_on v words)) none is

adds_claim : (is_trailing : Bool) (s : State) (word : Text) (words : List Text) (named_rest : Option (List Text)) → Adds is_trailing s word
    → Claim is_trailing (with_file s word) words named_rest → Claim is_trailing s (word ∷ words) (joined word named_rest)
unfolding after
adds_claim is_trailing s word words None adds rest = λ none. rest (sym (fault_passes _ _ word words adds.0 adds.1) ∙ none)
adds_claim is_trailing s word words (Some files) adds rest =
    let ended = rest.1 in (
      fault_passes _ _ word words adds.0 adds.1 ∙ rest.0,
      (
        ended.0,
        ended.1,
        ap (λ (v : Walk). walk_of v words) adds.1 ∙ ended.2,
        ended.3 ∙ append_assoc (files_in s) (word ∷ []) files,
      ),
    )

nothing_claim : (is_trailing : Bool) (s : State) → Claim is_trailing s [] (Some [])
unfolding walk_fault
nothing_claim is_trailing s = (refl, (is_trailing, s, refl, sym (append-nil (files_in s))))

trailing_claim : (s : State) (words : List Text) → Claim true s words (Some words)
trailing_claim s [] = nothing_claim true s
trailing_claim s (word ∷ words) = adds_claim true s word words (Some words) (trailing_adds s word) (trailing_claim (with_file s word) words)

ends_claim : (s : State) (words : List Text) → Claim false s (codes "--" ∷ words) (Some words)
unfolding after
ends_claim s words =
    let rest = trailing_claim s words in
    let here = ends s in (
      fault_passes _ _ (codes "--") words here.0 here.1 ∙ rest.0,
      (
        rest.1.0,
        rest.1.1,
        ap (λ (v : Walk). walk_of v words) here.1 ∙ rest.1.2,
        rest.1.3,
      ),
    )

refused_claim : (s : State) (word : Text) (words : List Text) → faults false s word ≡ kind.UnknownArgument ∷ [] → Claim false s (word ∷ words) None
unfolding walk_fault after walked
refused_claim s word words fault none =
    let bad : kind.UnknownArgument ∷ [] ≡ [] = sym (ap (λ (k : Kinds). or_else k (fault_on (after false s word) words)) fault) ∙ none in
    cc

flipped : (x : ℕ) → (x == 45) ≡ false → (45 == x) ≡ false
flipped x e = grind (arith, nat_tests)

hyphen_claim : (s : State) (rest : Text) (words : List Text) → has_lone_hyphen ((45 ∷ rest) ∷ words) ≡ false → IsUtf8 (45 ∷ rest) → Claim false s ((45 ∷ rest) ∷ words) (named ((45 ∷ rest) ∷ words))
hyphen_claim s [] words lone utf8 = absurd (true≢false lone)
hyphen_claim s (y ∷ ys) words lone utf8 = by_cases (y == 45) refl
  where
    second : (zs : Text) → Claim false s ((45 ∷ 45 ∷ zs) ∷ words) (named ((45 ∷ 45 ∷ zs) ∷ words))
    second [] = ends_claim s words
    second (z ∷ zs) = refused_claim s (45 ∷ 45 ∷ z ∷ zs) words (long_faults s z zs)

    by_cases : (b : Bool) → (y == 45) ≡ b → Claim false s ((45 ∷ y ∷ ys) ∷ words) (named ((45 ∷ y ∷ ys) ∷ words))
    by_cases true e =
        let is : 45 ≡ y = sym (eqb-true y 45 e) in
        subst (λ (x : ℕ). Claim false s ((45 ∷ x ∷ ys) ∷ words) (named ((45 ∷ x ∷ ys) ∷ words))) is (second ys)
    by_cases false e = rw e (refused_claim s (45 ∷ y ∷ ys) words (short_faults s y ys utf8 e))

named_claim : (s : State) (words : List Text) → has_lone_hyphen words ≡ false → AllByRecursion IsUtf8 words → Claim false s words (named words)
named_claim s [] lone utf8 = nothing_claim false s
named_claim s ([] ∷ words) lone utf8 =
    adds_claim false s [] words (named words) (word_adds s [] refl refl refl) (named_claim (with_file s []) words lone utf8.1)
named_claim s ((x ∷ xs) ∷ words) lone utf8 = by_cases (x == 45) refl (named_claim (with_file s (x ∷ xs)) words)
  where
    by_cases : (b : Bool) → (x == 45) ≡ b
        → (has_lone_hyphen words ≡ false → AllByRecursion IsUtf8 words → Claim false (with_file s (x ∷ xs)) words (named words))
        → Claim false s ((x ∷ xs) ∷ words) (named ((x ∷ xs) ∷ words))
    by_cases true e rest =
        let is : 45 ≡ x = sym (eqb-true x 45 e) in
        subst (λ (y : ℕ). has_lone_hyphen ((y ∷ xs) ∷ words) ≡ false → IsUtf8 (y ∷ xs) → Claim false s ((y ∷ xs) ∷ words) (named ((y ∷ xs) ∷ words))) is
        (hyphen_claim s xs words) lone utf8.0
    by_cases false e rest =
        let lone_rest : has_lone_hyphen words ≡ false = rw e at lone in
        rw (e, flipped x e) (adds_claim false s (x ∷ xs) words (named words) (plain_adds s x xs e) (rest lone_rest utf8.1))

-- ---- after the walk

-- the kinds of the whole parse, from those of the walk and from where it ended
abbrev fault_after : Kinds → Walk → Kinds
fault_after walk_kinds w =
    let entered_one = is_some (entered (built files_app) w.stopped) in
    or_else walk_kinds (or_else (entered_fault (built files_app) w.stopped) (or_else (settle_fault top.rules false w.held)
    (or_else (defaults_fault (settled top.rules w.held).rows top.rules) (check_fault top (finished top.rules w.held) entered_one))))

fault_is : (words : List Text) → fault_of files_app words ≡ fault_after (fault_on (walk_at false None) words) (walk_of (walk_at false None) words)
fault_is words = refl

nothing_faults : (is_trailing : Bool) → fault_after [] (walk_at is_trailing None) ≡ kind.MissingRequiredArgument ∷ []
unfolding clap_on_literals
nothing_faults is_trailing = refl

some_passes : (is_trailing : Bool) (files : List Text) (file : Text) → fault_after [] (walk_at is_trailing (Some (files, file))) ≡ []
unfolding clap_on_literals
some_passes is_trailing [] file = refl
some_passes is_trailing (first ∷ files) file = refl

finished_is : (is_trailing : Bool) (files : List Text) (file : Text) → finished top.rules (walk_at is_trailing (Some (files, file))).held ≡ rows_done (files ++ file ∷ [])
finished_is is_trailing [] file = refl
finished_is is_trailing (first ∷ files) file = refl

-- what a parse of the words gives: the rows of these files, or a kind of error
abbrev pub Parses : List Text → Option (List Text) → Type 0
Parses words None = fault_of files_app words ≡ [] → ⊥
Parses words (Some files) = (fault_of files_app words ≡ []) × (matches_of files_app words ≡ row_of_files files ∷ [])

first_empty : (j k : Kinds) → or_else j k ≡ [] → j ≡ []
first_empty [] k e = refl
first_empty (x ∷ j) k e = cc

end_parses : (words files : List Text) → fault_on (walk_at false None) words ≡ [] → Ended None files (walk_of (walk_at false None) words) → Parses words (at_least_one files)
end_parses words [] fine (is_trailing, None, is, same) = λ none.
    let bad : kind.MissingRequiredArgument ∷ [] ≡ [] = sym (nothing_faults is_trailing) ∙ sym (ap₂ fault_after fine is) ∙ none in
    cc
end_parses words (file ∷ files) fine (is_trailing, None, is, same) = cc
end_parses words [] fine (is_trailing, Some p, is, same) = absurd (not_empty p.0 p.1 same)
  where
    not_empty : (xs : List Text) (x : Text) → xs ++ x ∷ [] ≡ [] → ⊥
    not_empty [] x e = cc
    not_empty (y ∷ xs) x e = cc
end_parses words (file ∷ files) fine (is_trailing, Some p, is, same) = (
  ap₂ fault_after fine is ∙ some_passes is_trailing p.0 p.1,
  ap (λ (w : Walk). finished top.rules w.held) is ∙ finished_is is_trailing p.0 p.1 ∙ ap rows_done same,
)

-- a parse gives the files that the words name, and an error where they are no form
pub parses : (words : List Text) → has_lone_hyphen words ≡ false → AllByRecursion IsUtf8 words → Parses words (file_words words)
parses words lone utf8 = by_cases (named words) (named_claim None words lone utf8)
  where
    by_cases : (files : Option (List Text)) → Claim false None words files → Parses words (option_and_then at_least_one files)
    by_cases None refused = λ none. refused (first_empty _ _ none)
    by_cases (Some files) claim = end_parses words files claim.0 claim.1

-- ---- what the matches and the error of a parse say

pub found_is : (m : ArgMatches) (command : App) (texts words : List Text) → command ≡ files_app → texts ≡ words → has_lone_hyphen words ≡ false → AllByRecursion IsUtf8 words
    → fault_of command texts ≡ [] → HasMatchesOf command texts m → option_map raw_values (matched_of (found_of m) (codes "file")) ≡ file_words words
found_is m command texts words is same lone utf8 fine has = by_cases (file_words words) (parses words lone utf8)
  where
    rows_are : rows_of (found_of m) ≡ matches_of files_app words
    rows_are = (has (ap is_simple is ∙ is_exact)).0 ∙ ap₂ matches_of is same

    by_cases : (files : Option (List Text)) → Parses words files → option_map raw_values (matched_of (found_of m) (codes "file")) ≡ files
    by_cases None refused = absurd (refused (sym (ap₂ fault_of is same) ∙ fine))
    by_cases (Some files) p = raw_values-rows (found_of m) (codes "file") ∙ ap (all_of (codes "file")) (rows_are ∙ p.1)

pub refused_is : (e : Error) (command : App) (texts words : List Text) → command ≡ files_app → texts ≡ words → has_lone_hyphen words ≡ false → AllByRecursion IsUtf8 words
    → HasKind (fault_of command texts) e → (kind_of e ≡ kind.OutOfMemory → ⊥) → None ≡ file_words words
refused_is e command texts words is same lone utf8 fails other = by_cases (file_words words) (parses words lone utf8)
  where
    by_cases : (files : Option (List Text)) → Parses words files → None ≡ files
    by_cases None refused = refl
    by_cases (Some files) p = elim (subst (λ (k : Kinds). HasKind k e) (ap₂ fault_of is same ∙ p.0) fails) [
      | inl memory ↦ absurd (other memory)
      | inr among ↦ absurd among
    ]
