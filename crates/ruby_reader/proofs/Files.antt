-- A text: the reader's answer on tokens is the program that they write.
use Rattle.std.proofs.Common.{◌≡◌, ℕ, suc, ◌+◌, ◌<◌, ◌≤◌, refl, sym, ◌∙◌, ap, subst, List, [], ◌∷◌, ◌++◌, Option, Some, None, length, get_or, drop, drop-cons, add-one}
use Rattle.std.specs.List.{AllByRecursion}
use Rattle.std.proofs.lemmas.List.{drop_all}
use Rattle.std.specs.Prelude.{option_and_then}
use Rattle.ruby_tokens.specs.declared.token.Token.{Token}
use Rattle.ruby_tokens.specs.declared.token.Kind.{Kind}
use Rattle.ruby_tokens.specs.declared.token.Kind.TheVariants as kind
use Rattle.ruby_reader.specs.declared.tree.Statement.{Statement}
use Rattle.ruby_reader.specs.declared.tree.Opening.{Opening}
use Rattle.ruby_reader.specs.declared.tree.Program.{Program}
use Rattle.ruby_reader.specs.declared.progress.Turn.{Turn}
use Rattle.ruby_reader.specs.declared.progress.Turn.TheVariants as turn
use Rattle.ruby_reader.specs.declared.progress.Progress.{Progress}
use Rattle.ruby_reader.specs.declared.progress.Progress.TheVariants.{Reading, Read}
use Rattle.ruby_reader.specs.declared.list.ListReader.{ListReader}
use Rattle.ruby_reader.specs.declared.class.ClassReader.{ClassReader}
use Rattle.ruby_reader.specs.declared.file.Place.{Place}
use Rattle.ruby_reader.specs.declared.file.Place.TheVariants as place
use Rattle.ruby_reader.specs.declared.file.FileReader.{FileReader}
use Rattle.ruby_reader.specs.PlainTree.{PlainStatement, PlainOpening, PlainProgram}
use Rattle.ruby_reader.specs.PlainLaws.{plain_statements, plain_opening, plain_openings, plain_program}
use Rattle.ruby_reader.specs.Heights.{AreLow, IsLow}
use Rattle.ruby_reader.specs.Grammar.{tok, free, taken, break_newline, break_semicolon, literal_int, literal_str, literal_sym, literal_nil, expression_calls, operand_literal, operand_local, operand_new, state_expression, state_assignment, main, Ends, ends_main, States, Lists, list_ends, list_break, list_more, Opens, Files, files_main, files_break, files_more, IsWritten}
use Rattle.ruby_reader.specs.ListMachine as list
use Rattle.ruby_reader.specs.ClassMachine.{class_next}
use Rattle.ruby_reader.specs.FileMachine.{start, next, step, final, with_class, with_main, with_statements}
use Rattle.ruby_reader.specs.Written.{Written}
use Rattle.ruby_reader.proofs.Steps.{turn_of, map_more, none_more}
use Rattle.ruby_reader.proofs.Lists.{ListLeft, ListGoes, Finished, Steps, goes, stops, list_goes, list_left, list_finished, list_ended}
use Rattle.ruby_reader.proofs.Classes.{LowMethods, ClassLeft, ClassGoes, TitleLeft, class_goes, class_left, class_ends, title_of_opens, opens_of_title}

-- each statement of these classes is low
abbrev LowClasses : List PlainOpening → Type 0
LowClasses os = AllByRecursion (λ (o : PlainOpening). LowMethods o.definitions) os

-- what is left of the text of the classes `qs` and the statements `ss`, behind the classes `os`
abbrev PlaceLeft : List Opening → Place → List PlainOpening → List PlainStatement → List Token → Type 0
PlaceLeft os (place.Between t) qs ss ts = (more : List PlainOpening) × (qs ≡ plain_openings os ++ more) × LowClasses more × AreLow ss × Files (turn_of t) more ss ts
PlaceLeft os (place.Class c) qs ss ts = (o : PlainOpening) × (more : List PlainOpening) × (mid : List Token) × (qs ≡ plain_openings os ++ o ∷ more) × LowClasses more × AreLow ss × ClassLeft c o ts mid × Files taken more ss mid
PlaceLeft os (place.Main r) qs ss ts = (qs ≡ plain_openings os) × ListLeft main r ss ts []

abbrev FileLeft : FileReader → List PlainOpening → List PlainStatement → List Token → Type 0
FileLeft r qs ss ts = PlaceLeft r.openings r.place qs ss ts

abbrev FileGoes : Option FileReader → List PlainOpening → List PlainStatement → List Token → Type 0
FileGoes None qs ss ts = ⊥
FileGoes (Some r) qs ss ts = FileLeft r qs ss ts

begin_goes : (os : List Opening) {qs : List PlainOpening} {ss : List PlainStatement} {o : PlainOpening} {more : List PlainOpening} {k : Kind} {s : ℕ} (e : ℕ) {ts mid : List Token} → qs ≡ plain_openings os ++ o ∷ more → LowClasses more → AreLow ss → (k ≡ kind.Class) × TitleLeft s o ts mid → Files taken more ss mid
    → FileGoes (step os (place.Between turn.Free) (tok k s e)) qs ss ts
begin_goes os {qs = qs} {ss = ss} {o = o} {more = more} {s = s} e {ts = ts} {mid = mid} same classes low c fs =
    subst (λ k. FileGoes (step os (place.Between turn.Free) (tok k s e)) qs ss ts) (sym c.0) (o, more, mid, same, classes, low, c.1, fs)

with_main_goes : (os : List Opening) (r : Option ListReader) (qs : List PlainOpening) (ss : List PlainStatement) (ts : List Token) → qs ≡ plain_openings os → ListGoes main r ss ts [] → FileGoes (with_main os r) qs ss ts
with_main_goes os None qs ss ts same g = absurd g
with_main_goes os (Some r) qs ss ts same g = (same, g)

no_ends : {c : Token} {ts rest : List Token} → Ends main (c ∷ ts) rest → ⊥
no_ends en = elim en [ ]

main_goes : (os : List Opening) (r : ListReader) (qs : List PlainOpening) (ss : List PlainStatement) (c : Token) (ts : List Token) → qs ≡ plain_openings os → Steps main (list.list_next r c) (list.list_final r) c ss ts [] → FileGoes (with_main os (list.list_next r c)) qs ss ts
main_goes os r qs ss c ts same (goes g) = with_main_goes os (list.list_next r c) qs ss ts same g
main_goes os r qs ss c ts same (stops en is) = absurd (no_ends en)

-- the main part begins with a statement
begins : (os : List Opening) {qs : List PlainOpening} {ss : List PlainStatement} {c : Token} {ts : List Token} → qs ≡ plain_openings os → AreLow ss → Lists main free ss (c ∷ ts) [] → FileGoes (with_main os (list.list_next (list.start turn.Free) c)) qs ss ts
begins os {qs = qs} {ss = ss} {c = c} {ts = ts} same low l = main_goes os (list.start turn.Free) qs ss c ts same (list_goes main (list.start turn.Free) ss c ts [] (ss, refl, low, l))

same_none : (os : List Opening) {qs : List PlainOpening} → qs ≡ plain_openings os → qs ≡ plain_openings os ++ []
same_none os same = same ∙ sym (none_more (plain_openings os))

none_same : (os : List Opening) {qs : List PlainOpening} → qs ≡ plain_openings os ++ [] → qs ≡ plain_openings os
none_same os same = same ∙ none_more (plain_openings os)

-- a statement begins the main part
state_main : (os : List Opening) {q : PlainStatement} {k : Kind} {s e : ℕ} {ts mid : List Token} → States q (tok k s e ∷ ts) mid → step os (place.Between turn.Free) (tok k s e) ≡ with_main os (list.list_next (list.start turn.Free) (tok k s e))
state_main os (state_expression (expression_calls (operand_literal literal_int) c)) = refl
state_main os (state_expression (expression_calls (operand_literal literal_str) c)) = refl
state_main os (state_expression (expression_calls (operand_literal literal_sym) c)) = refl
state_main os (state_expression (expression_calls (operand_literal literal_nil) c)) = refl
state_main os (state_expression (expression_calls operand_local c)) = refl
state_main os (state_expression (expression_calls (operand_new d a) c)) = refl
state_main os (state_assignment sk ex) = refl

begin_main_goes : (os : List Opening) (t : Turn) {qs : List PlainOpening} {ss : List PlainStatement} {k : Kind} {s e : ℕ} {ts : List Token} → qs ≡ plain_openings os → AreLow ss → Lists main (turn_of t) ss (tok k s e ∷ ts) [] → FileGoes (step os (place.Between t) (tok k s e)) qs ss ts
begin_main_goes os turn.Free same low (list_ends en) = absurd (no_ends en)
begin_main_goes os turn.Free same low (list_break break_newline l) = ([], same_none os same, tt, low, files_main l)
begin_main_goes os turn.Free same low (list_break break_semicolon l) = ([], same_none os same, tt, low, files_main l)
begin_main_goes os turn.Free {qs = qs} {ss = ss} {ts = ts} same low (list_more st l) = subst (λ o. FileGoes o qs ss ts) (sym (state_main os st)) (begins os same low (list_more st l))
begin_main_goes os turn.Taken same low (list_ends en) = absurd (no_ends en)
begin_main_goes os turn.Taken same low (list_break break_newline l) = ([], same_none os same, tt, low, files_main l)
begin_main_goes os turn.Taken same low (list_break break_semicolon l) = ([], same_none os same, tt, low, files_main l)

between_goes : (os : List Opening) (t : Turn) {qs more : List PlainOpening} {ss : List PlainStatement} {k : Kind} {s e : ℕ} {ts : List Token} → qs ≡ plain_openings os ++ more → LowClasses more → AreLow ss → Files (turn_of t) more ss (tok k s e ∷ ts)
    → FileGoes (step os (place.Between t) (tok k s e)) qs ss ts
between_goes os turn.Free same classes low (files_main l) = begin_main_goes os turn.Free (none_same os same) low l
between_goes os turn.Free {more = more} same classes low (files_break break_newline fs) = (more, same, classes, low, fs)
between_goes os turn.Free {more = more} same classes low (files_break break_semicolon fs) = (more, same, classes, low, fs)
between_goes os turn.Free {e = e} same classes low (files_more o fs) = begin_goes os e same classes.1 low (title_of_opens o classes.0) fs
between_goes os turn.Taken same classes low (files_main l) = begin_main_goes os turn.Taken (none_same os same) low l
between_goes os turn.Taken {more = more} same classes low (files_break break_newline fs) = (more, same, classes, low, fs)
between_goes os turn.Taken {more = more} same classes low (files_break break_semicolon fs) = (more, same, classes, low, fs)

with_goes : (os : List Opening) (r : Option (Progress ClassReader Opening)) (qs : List PlainOpening) (ss : List PlainStatement) (o : PlainOpening) (more : List PlainOpening) (ts mid : List Token)
    → qs ≡ plain_openings os ++ o ∷ more → LowClasses more → AreLow ss → ClassGoes r o ts mid → Files taken more ss mid → FileGoes (with_class os r) qs ss ts
with_goes os None qs ss o more ts mid same classes low g fs = absurd g
with_goes os (Some (Reading c)) qs ss o more ts mid same classes low g fs = (o, more, mid, same, classes, low, g, fs)
with_goes os (Some (Read p)) qs ss o more ts mid same classes low g fs =
    (more, same ∙ ap (λ x. plain_openings os ++ x ∷ more) g.0 ∙ sym (map_more plain_opening os p more), classes, low, subst (λ us. Files taken more ss us) (sym g.1) fs)

place_goes : (os : List Opening) (p : Place) (qs : List PlainOpening) (ss : List PlainStatement) (c : Token) (ts : List Token) → PlaceLeft os p qs ss (c ∷ ts) → FileGoes (step os p c) qs ss ts
place_goes os (place.Between t) qs ss c ts g = between_goes os t g.1 g.2 g.3 g.4
place_goes os (place.Class r) qs ss c ts g = with_goes os (class_next r c) qs ss g.0 g.1 ts g.2 g.3 g.4 g.5 (class_goes r g.0 c ts g.2 g.6) g.7
place_goes os (place.Main r) qs ss c ts g = main_goes os r qs ss c ts g.0 (list_goes main r ss c ts [] g.1)

with_main_left : (os : List Opening) (r : Option ListReader) (qs : List PlainOpening) (ss : List PlainStatement) (ts : List Token) → FileGoes (with_main os r) qs ss ts → (qs ≡ plain_openings os) × ListGoes main r ss ts []
with_main_left os None qs ss ts g = absurd g
with_main_left os (Some r) qs ss ts g = g

main_left : (os : List Opening) (r : ListReader) (qs : List PlainOpening) (ss : List PlainStatement) (c : Token) (ts : List Token) → FileGoes (with_main os (list.list_next r c)) qs ss ts → (qs ≡ plain_openings os) × ListLeft main r ss (c ∷ ts) []
main_left os r qs ss c ts g = let w = with_main_left os (list.list_next r c) qs ss ts g in (w.0, list_left main r ss c ts [] w.1)

begin_main_left : (os : List Opening) (t : Turn) (k : Kind) {qs : List PlainOpening} {ss : List PlainStatement} {s e : ℕ} {ts : List Token} → FileGoes (with_main os (list.list_next (list.start t) (tok k s e))) qs ss ts
    → (more : List PlainOpening) × (qs ≡ plain_openings os ++ more) × LowClasses more × AreLow ss × Files (turn_of t) more ss (tok k s e ∷ ts)
begin_main_left os t k {qs = qs} {ss = ss} {s = s} {e = e} {ts = ts} g =
    let w = main_left os (list.start t) qs ss (tok k s e) ts g in ([], same_none os w.0, tt, subst AreLow (sym w.1.1) w.1.2, files_main (subst (λ zs. Lists main (turn_of t) zs (tok k s e ∷ ts) []) (sym w.1.1) w.1.3))

between_left : (os : List Opening) (t : Turn) (k : Kind) {qs : List PlainOpening} {ss : List PlainStatement} {s e : ℕ} {ts : List Token} → FileGoes (step os (place.Between t) (tok k s e)) qs ss ts
    → (more : List PlainOpening) × (qs ≡ plain_openings os ++ more) × LowClasses more × AreLow ss × Files (turn_of t) more ss (tok k s e ∷ ts)
between_left os t kind.Newline g = (g.0, g.1, g.2, g.3, files_break break_newline g.4)
between_left os t kind.Semicolon g = (g.0, g.1, g.2, g.3, files_break break_semicolon g.4)
between_left os turn.Free kind.Class g = let o = opens_of_title g.6 in (g.0 ∷ g.1, g.3, (o.1, g.4), g.5, files_more o.0 g.7)
between_left os turn.Taken kind.Class g = absurd g
between_left os t k g = begin_main_left os t k g

with_left : (os : List Opening) (r : Option (Progress ClassReader Opening)) (qs : List PlainOpening) (ss : List PlainStatement) (ts : List Token) → FileGoes (with_class os r) qs ss ts
    → (o : PlainOpening) × (more : List PlainOpening) × (mid : List Token) × (qs ≡ plain_openings os ++ o ∷ more) × LowClasses more × AreLow ss × ClassGoes r o ts mid × Files taken more ss mid
with_left os None qs ss ts g = absurd g
with_left os (Some (Reading c)) qs ss ts g = g
with_left os (Some (Read p)) qs ss ts g = (plain_opening p, g.0, ts, g.1 ∙ map_more plain_opening os p g.0, g.2, g.3, (refl, refl), g.4)

place_left : (os : List Opening) (p : Place) (qs : List PlainOpening) (ss : List PlainStatement) (c : Token) (ts : List Token) → FileGoes (step os p c) qs ss ts → PlaceLeft os p qs ss (c ∷ ts)
place_left os (place.Between t) qs ss c ts g = between_left os t c.kind g
place_left os (place.Class r) qs ss c ts g = let w = with_left os (class_next r c) qs ss ts g in (w.0, w.1, w.2, w.3, w.4, w.5, class_left r w.0 c ts w.2 w.6, w.7)
place_left os (place.Main r) qs ss c ts g = main_left os r qs ss c ts g

program_same : {a b : Program} → Some a ≡ Some b → b ≡ a
program_same e = cc

no_opens : {o : PlainOpening} {rest : List Token} → Opens o [] rest → ⊥
no_opens g = elim g [ ]

no_states : {q : PlainStatement} {rest : List Token} → States q [] rest → ⊥
no_states (state_expression (expression_calls o c)) = elim o [ ]

no_lists : (t : Turn) {ss : List PlainStatement} → Lists main (turn_of t) ss [] [] → ss ≡ []
no_lists turn.Free (list_ends en) = refl
no_lists turn.Free (list_more st l) = absurd (no_states st)
no_lists turn.Taken (list_ends en) = refl

no_files : (t : Turn) {more : List PlainOpening} {ss : List PlainStatement} → Files (turn_of t) more ss [] → (more ≡ []) × (ss ≡ [])
no_files turn.Free (files_main l) = (refl, no_lists turn.Free l)
no_files turn.Free (files_more o fs) = absurd (no_opens o)
no_files turn.Taken (files_main l) = (refl, no_lists turn.Taken l)

-- the program of a text that may end
abbrev Ended : Option Program → List PlainOpening → List PlainStatement → Type 0
Ended o qs ss = (z : Program) × (o ≡ Some z) × (qs ≡ plain_openings z.openings) × (ss ≡ plain_statements z.statements)

between_ends : (os : List Opening) {qs : List PlainOpening} {ss : List PlainStatement} {more : List PlainOpening} → qs ≡ plain_openings os ++ more → (more ≡ []) × (ss ≡ []) → Ended (with_statements os (Some [])) qs ss
between_ends os same none = (record { openings = os; statements = [] }, refl, none_same os (same ∙ ap (λ more. plain_openings os ++ more) none.0), none.1)

main_ends : (os : List Opening) {qs : List PlainOpening} {ss : List PlainStatement} (o : Option (List Statement)) → qs ≡ plain_openings os → Finished o ss → Ended (with_statements os o) qs ss
main_ends os o same f = (record { openings = os; statements = f.0 }, ap (with_statements os) f.1, same, f.2)

place_ends : (os : List Opening) (p : Place) (qs : List PlainOpening) (ss : List PlainStatement) → PlaceLeft os p qs ss [] → Ended (final (record { openings = os; place = p })) qs ss
place_ends os (place.Between t) qs ss g = between_ends os g.1 (no_files t g.4)
place_ends os (place.Class c) qs ss g = absurd (class_ends c g.0 g.2 g.6)
place_ends os (place.Main r) qs ss g = let w = list_ended main r ss [] g.1 in main_ends os (list.list_final r) g.0 w.1

between_ended : (os : List Opening) (t : Turn) (z : Program) → Some (record { openings = os; statements = [] }) ≡ Some z → PlaceLeft os (place.Between t) (plain_openings z.openings) (plain_statements z.statements) []
between_ended os t z e =
    subst (λ (z : Program). PlaceLeft os (place.Between t) (plain_openings z.openings) (plain_statements z.statements) []) (sym (program_same e)) ([], sym (none_more (plain_openings os)), tt, tt, files_main (list_ends ends_main))

main_ended : (os : List Opening) (r : ListReader) (o : Option (List Statement)) (z : Program) → list.list_final r ≡ o → with_statements os o ≡ Some z → (plain_openings z.openings ≡ plain_openings os) × ListLeft main r (plain_statements z.statements) [] []
main_ended os r None z is e = absurd (cc)
main_ended os r (Some zs) z is e =
    subst (λ (z : Program). (plain_openings z.openings ≡ plain_openings os) × ListLeft main r (plain_statements z.statements) [] []) (sym (program_same e)) (refl, list_finished main r zs (plain_statements zs) [] [] is refl ends_main)

place_ended : (os : List Opening) (p : Place) (z : Program) → final (record { openings = os; place = p }) ≡ Some z → PlaceLeft os p (plain_openings z.openings) (plain_statements z.statements) []
place_ended os (place.Between t) z e = between_ended os t z e
place_ended os (place.Class c) z e = absurd (cc)
place_ended os (place.Main r) z e = main_ended os r (list.list_final r) z refl e

-- what the reader answers on tokens
unfoldable pub reads : FileReader → List Token → Option Program
reads r [] = final r
reads r (c ∷ ts) = option_and_then (λ s. reads s ts) (next r c)

complete : (ts : List Token) (r : FileReader) (qs : List PlainOpening) (ss : List PlainStatement) → FileLeft r qs ss ts → Ended (reads r ts) qs ss
unfolding reads
complete [] r qs ss g = place_ends r.openings r.place qs ss g
complete (c ∷ ts) r qs ss g = go (next r c) (place_goes r.openings r.place qs ss c ts g) (complete ts)
  where
    go : (o : Option FileReader) → FileGoes o qs ss ts → ((s : FileReader) (qs : List PlainOpening) (ss : List PlainStatement) → FileLeft s qs ss ts → Ended (reads s ts) qs ss) → Ended (option_and_then (λ s. reads s ts) o) qs ss
    go None g ih = absurd g
    go (Some s) g ih = ih s qs ss g

sound : (ts : List Token) (r : FileReader) (z : Program) → reads r ts ≡ Some z → FileLeft r (plain_openings z.openings) (plain_statements z.statements) ts
unfolding reads
sound [] r z e = place_ended r.openings r.place z e
sound (c ∷ ts) r z e = place_left r.openings r.place (plain_openings z.openings) (plain_statements z.statements) c ts (go (next r c) e (sound ts))
  where
    go : (o : Option FileReader) → option_and_then (λ s. reads s ts) o ≡ Some z → ((s : FileReader) (z : Program) → reads s ts ≡ Some z → FileLeft s (plain_openings z.openings) (plain_statements z.statements) ts)
        → FileGoes o (plain_openings z.openings) (plain_statements z.statements) ts
    go None e ih = absurd (cc)
    go (Some s) e ih = ih s z e

-- each low text is read
text_read : (ts : List Token) (p : PlainProgram) → IsWritten p ts → IsLow p → (z : Program) × (reads start ts ≡ Some z) × (p ≡ plain_program z)
text_read ts p f low = let w = complete ts start p.openings p.statements (p.openings, refl, low.methods, low.main, f) in (w.0, w.1, (λ i. record { openings = w.2 i; statements = w.3 i }))

-- what is read is a low text
read_text : (ts : List Token) (z : Program) → reads start ts ≡ Some z → IsWritten (plain_program z) ts × IsLow (plain_program z)
read_text ts z e =
    let w = sound ts start z e in
    (subst (λ more. Files free more (plain_statements z.statements) ts) (sym w.1) w.4, record { methods = subst LowClasses (sym w.1) w.2; main = w.3 })

none_some : {z : Program} → None ≡ Some z → ⊥
none_some e = cc

-- the answer is the one program
pub read_written : (ts : List Token) (o : Option Program) → reads start ts ≡ o → Written ts o
read_written ts None e = λ p f low. let w = text_read ts p f low in none_some (sym e ∙ w.1)
read_written ts (Some z) e = let t = read_text ts z e in (t.0, t.1, λ q f low. let w = text_read ts q f low in w.2 ∙ ap plain_program (program_same (sym e ∙ w.1)))

-- tokens write one program
pub written_once : (ts : List Token) (p q : PlainProgram) → IsWritten p ts → IsLow p → IsWritten q ts → IsLow q → p ≡ q
written_once ts p q f low g also =
    let w = text_read ts p f low in let v = text_read ts q g also in
    w.2 ∙ ap plain_program (program_same (sym v.1 ∙ w.1)) ∙ sym v.2

-- The answer from a place in the tokens on.
module _ (ts : List Token) (i : ℕ) (r : FileReader) where
  split_here : (c : Token) → i < length ts → c ≡ get_or ts i c → drop i ts ≡ c ∷ drop (i + 1) ts
  split_here c lt is = rw (add-one i) (drop-cons ts i c lt ∙ ap (λ d. d ∷ drop (suc i) ts) (sym is))

  pub reads_more : (c : Token) (s : FileReader) → i < length ts → c ≡ get_or ts i c → next r c ≡ Some s → reads r (drop i ts) ≡ reads s (drop (i + 1) ts)
  unfolding reads
  reads_more c s lt is e = ap (reads r) (split_here c lt is) ∙ ap (option_and_then (λ s. reads s (drop (i + 1) ts))) e

  pub reads_stop : (c : Token) → i < length ts → c ≡ get_or ts i c → next r c ≡ None → reads r (drop i ts) ≡ None
  unfolding reads
  reads_stop c lt is e = ap (reads r) (split_here c lt is) ∙ ap (option_and_then (λ s. reads s (drop (i + 1) ts))) e

  pub reads_end : length ts ≤ i → reads r (drop i ts) ≡ final r
  unfolding reads
  reads_end le = ap (reads r) (drop_all i ts le)
