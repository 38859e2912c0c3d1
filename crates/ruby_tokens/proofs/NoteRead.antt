-- The lexer on comments.
use Rattle.std.proofs.Common.{ℕ, ◌≡◌, ◌+◌, Bool, true, false, refl, sym, ◌∙◌, ap, subst, List, [], ◌∷◌, ◌++◌, length, append_assoc, take, drop, Option, Some, None}
use Rattle.std.specs.Prelude.{◌==◌, ◌||◌, nat_eq, codes, option_and_then}
use Rattle.std.specs.Cmp.Lexicographic.{pointwise}
use Rattle.std.proofs.lemmas.Slice.Eq.{bytes_eq-Decides}
use Rattle.std.specs.Char.{encode_utf8, is_ascii_lowercase}
use Rattle.std.proofs.lemmas.Bool.{eqb-true}
use Rattle.std.proofs.lemmas.List.{append-nil, take-append-drop}
use Rattle.source_text.specs.Characters.{width, Run, run_ends, run_stops, run_goes, is_name_character, is_blank}
use Rattle.ruby_tokens.specs.declared.token.Token.{Token}
use Rattle.ruby_tokens.specs.declared.mode.Mode.TheVariants as mode
use Rattle.ruby_tokens.specs.Tokens.{is_in_line, IsTypeNote, type_note}
use Rattle.ruby_tokens.specs.Notes.{skip, after_letters, after_blanks, begins_colon, begins_typed_name, after_mark, is_named, is_type_note}
use Rattle.ruby_tokens.specs.Lines.{behind_comment}
use Rattle.ruby_tokens.specs.Machine.{lexer, noted}
use Rattle.ruby_tokens.specs.Reads.{reads}
use Rattle.ruby_tokens.proofs.Characters.{at_none, at_more, not_false, not_true, bool_cases, and_true}
use Rattle.ruby_tokens.proofs.Runs.{Stops, goes, same_step, same_end}

in_line_is : (c : ℕ) → is_in_line c ≡ true → (c == 10) ≡ false
in_line_is c e = not_false (c == 10) e

not_in_line_is : (c : ℕ) → is_in_line c ≡ false → (c == 10) ≡ true
not_in_line_is c e = bool_cases (c == 10) (λ h. h) (λ h. let f : is_in_line c ≡ true = rw h in cc)

module _ (tokens : List Token) (joined : Bool) where
  pub comment_read : {text cs rest : List ℕ} (at n : ℕ) → Run is_in_line text cs rest → n ≡ at + width text
      → reads (lexer tokens (mode.Comment joined)) at cs ≡ reads (lexer tokens (mode.Between (behind_comment joined))) n rest
  comment_read at n run_ends f = rw (at_none at n f) (same_end (lexer tokens (mode.Comment joined)) (lexer tokens (mode.Between (behind_comment joined))) at refl)
  comment_read at n (run_stops {c = c} {cs = cs} s) f = rw (at_none at n f) (same_step (lexer tokens (mode.Comment joined)) (lexer tokens (mode.Between (behind_comment joined))) at c cs (rw (not_in_line_is c s)))
  comment_read at n (run_goes {c = c} {w = w} {cs = cs} s r) f =
      goes (lexer tokens (mode.Comment joined)) (lexer tokens (mode.Comment joined)) at c cs (rw (in_line_is c s))
      ∙ comment_read (at + length (encode_utf8 c)) n r (at_more at n w c f)

module _ (tokens : List Token) (start : ℕ) (joined : Bool) where
  note_ends : (text : List ℕ) (at : ℕ) (rest : List ℕ) → Stops is_in_line rest
      → reads (lexer tokens (mode.Note start joined text)) at rest ≡ reads (lexer (noted tokens start text at) (mode.Between (behind_comment joined))) at rest
  note_ends text at [] s = same_end (lexer tokens (mode.Note start joined text)) (lexer (noted tokens start text at) (mode.Between (behind_comment joined))) at refl
  note_ends text at (c ∷ cs) s = same_step (lexer tokens (mode.Note start joined text)) (lexer (noted tokens start text at) (mode.Between (behind_comment joined))) at c cs (rw (not_in_line_is c s))

  pub note_read : {w cs rest : List ℕ} (text t : List ℕ) (at n : ℕ) → Run is_in_line w cs rest → t ≡ text ++ w → n ≡ at + width w
      → reads (lexer tokens (mode.Note start joined text)) at cs ≡ reads (lexer (noted tokens start t n) (mode.Between (behind_comment joined))) n rest
  note_read text t at n run_ends e f = rw (e ∙ append-nil text, at_none at n f) (note_ends text at [] tt)
  note_read text t at n (run_stops {c = c} {cs = cs} s) e f = rw (e ∙ append-nil text, at_none at n f) (note_ends text at (c ∷ cs) s)
  note_read text t at n (run_goes {c = c} {w = w} {cs = cs} s r) e f =
      goes (lexer tokens (mode.Note start joined text)) (lexer tokens (mode.Note start joined (text ++ c ∷ []))) at c cs (rw (in_line_is c s))
      ∙ note_read (text ++ c ∷ []) t (at + length (encode_utf8 c)) n r (e ∙ sym (append_assoc text (c ∷ []) w)) (at_more at n w c f)

-- The test for a comment that gives a type is exact.
skip_is : {p : ℕ → Bool} {w cs rest : List ℕ} → Run p w cs rest → skip p cs ≡ rest
skip_is run_ends = refl
skip_is (run_stops s) = rw s
skip_is (run_goes s r) = rw s (skip_is r)

blanks_is : {w cs rest : List ℕ} (a : ℕ) → is_blank a ≡ true → Run is_blank w cs rest → after_blanks (a ∷ cs) ≡ Some rest
blanks_is a e r = rw e (ap Some (skip_is r))

name_is : {w cs rest : List ℕ} (d : ℕ) → (is_ascii_lowercase d || d == 95) ≡ true → Run is_name_character w cs (58 ∷ rest) → begins_typed_name (d ∷ cs) ≡ true
name_is d e r = rw (e, skip_is r)

pub note_is : {text : List ℕ} → IsTypeNote text → is_type_note text ≡ true
note_is (type_note {a = a} {b = b} {c = c} {d = d} {r2 = r2} {r3 = r3} {r4 = r4} ea ra eb rb ec rc ed rd) =
    ap (λ o. is_named (option_and_then after_blanks (option_and_then (after_letters (codes "var")) (option_and_then after_blanks (option_and_then (after_letters (codes "@type")) o))))) (blanks_is a ea ra)
    ∙ ap (λ o. is_named (option_and_then after_blanks (option_and_then (after_letters (codes "var")) o))) (blanks_is b eb rb)
    ∙ ap is_named (blanks_is c ec rc)
    ∙ name_is d ed rd

-- The other way round.
skip_past : (p : ℕ → Bool) (c : ℕ) (cs : List ℕ) → p c ≡ true → skip p (c ∷ cs) ≡ skip p cs
skip_past p c cs e = rw e

skip_here : (p : ℕ → Bool) (c : ℕ) (cs : List ℕ) → p c ≡ false → skip p (c ∷ cs) ≡ c ∷ cs
skip_here p c cs e = rw e

blanks_here : (c : ℕ) (cs : List ℕ) → is_blank c ≡ true → after_blanks (c ∷ cs) ≡ Some (skip is_blank cs)
blanks_here c cs e = rw e

blanks_not : (c : ℕ) (cs : List ℕ) → is_blank c ≡ false → after_blanks (c ∷ cs) ≡ None
blanks_not c cs e = rw e

letters_here : (ls cs : List ℕ) → pointwise nat_eq (take (length ls) cs) ls ≡ true → after_letters ls cs ≡ Some (drop (length ls) cs)
letters_here ls cs e = rw e

letters_not : (ls cs : List ℕ) → pointwise nat_eq (take (length ls) cs) ls ≡ false → after_letters ls cs ≡ None
letters_not ls cs e = rw e

skip_run : (p : ℕ → Bool) (cs : List ℕ) → (w : List ℕ) × Run p w cs (skip p cs)
skip_run p [] = ([], run_ends)
skip_run p (c ∷ cs) = bool_cases {P = (w : List ℕ) × Run p w (c ∷ cs) (skip p (c ∷ cs))} (p c)
    (λ e. let more = skip_run p cs in (c ∷ more.0, subst (λ rest. Run p (c ∷ more.0) (c ∷ cs) rest) (sym (skip_past p c cs e)) (run_goes e more.1)))
    (λ e. ([], subst (λ rest. Run p [] (c ∷ cs) rest) (sym (skip_here p c cs e)) (run_stops e)))

record Blanks (cs rest : List ℕ) : Type 0 where
  first : ℕ
  more : List ℕ
  behind : List ℕ
  is : cs ≡ first ∷ behind
  blank : is_blank first ≡ true
  run : Run is_blank more behind rest

find_blanks : (cs rest : List ℕ) → after_blanks cs ≡ Some rest → Blanks cs rest
find_blanks [] rest e = cc
find_blanks (c ∷ cs) rest e = bool_cases (is_blank c)
    (λ h. let run = skip_run is_blank cs in
    let same : Some (skip is_blank cs) ≡ Some rest = sym (blanks_here c cs h) ∙ e in
    let is : skip is_blank cs ≡ rest = cc in
    record { first = c; more = run.0; behind = cs; is = refl; blank = h; run = subst (λ r. Run is_blank run.0 cs r) is run.1 })
    (λ h. let none : None ≡ Some rest = sym (blanks_not c cs h) ∙ e in cc)

find_letters : (ls cs rest : List ℕ) → after_letters ls cs ≡ Some rest → cs ≡ ls ++ rest
find_letters ls cs rest e = bool_cases (pointwise nat_eq (take (length ls) cs) ls)
    (λ h. let same : Some (drop (length ls) cs) ≡ Some rest = sym (letters_here ls cs h) ∙ e in
    let is : drop (length ls) cs ≡ rest = cc in
    let front : take (length ls) cs ≡ ls = (bytes_eq-Decides (take (length ls) cs) ls).0 h in
    sym (take-append-drop (length ls) cs) ∙ ap (λ w. w ++ drop (length ls) cs) front ∙ ap (λ r. ls ++ r) is)
    (λ h. let none : None ≡ Some rest = sym (letters_not ls cs h) ∙ e in cc)

record Named (cs : List ℕ) : Type 0 where
  first : ℕ
  more : List ℕ
  behind : List ℕ
  rest : List ℕ
  is : cs ≡ first ∷ behind
  begins : (is_ascii_lowercase first || first == 95) ≡ true
  run : Run is_name_character more behind (58 ∷ rest)

colon_is : (cs : List ℕ) → begins_colon cs ≡ true → (rest : List ℕ) × (cs ≡ 58 ∷ rest)
colon_is [] e = cc
colon_is (c ∷ cs) e = (cs, ap (λ c. c ∷ cs) (eqb-true c 58 e))

find_name : (cs : List ℕ) → begins_typed_name cs ≡ true → Named cs
find_name [] e = cc
find_name (c ∷ cs) e =
    let both = and_true (is_ascii_lowercase c || c == 95) (begins_colon (skip is_name_character cs)) e in
    let run = skip_run is_name_character cs in
    let colon = colon_is (skip is_name_character cs) both.1 in
    record { first = c; more = run.0; behind = cs; rest = colon.0; is = refl; begins = both.0; run = subst (λ r. Run is_name_character run.0 cs r) colon.1 run.1 }

named_some : (o : Option (List ℕ)) → is_named o ≡ true → (cs : List ℕ) × (o ≡ Some cs) × (begins_typed_name cs ≡ true)
named_some None e = cc
named_some (Some cs) e = (cs, refl, e)

then_some : (f : List ℕ → Option (List ℕ)) (o : Option (List ℕ)) (y : List ℕ) → option_and_then f o ≡ Some y → (x : List ℕ) × (o ≡ Some x) × (f x ≡ Some y)
then_some f None y e = cc
then_some f (Some x) y e = (x, refl, e)

assemble : (text r1 r2 r3 r4 r5 : List ℕ) → Blanks text r1 → r1 ≡ codes "@type" ++ r2 → Blanks r2 r3 → r3 ≡ codes "var" ++ r4 → Blanks r4 r5 → Named r5 → IsTypeNote text
assemble text r1 r2 r3 r4 r5 a e b f c d =
    subst IsTypeNote (sym a.is) (type_note {a = a.first} {b = b.first} {c = c.first} {d = d.first} a.blank
    (subst (λ r. Run is_blank a.more a.behind r) (e ∙ ap (λ r. codes "@type" ++ r) b.is) a.run) b.blank
    (subst (λ r. Run is_blank b.more b.behind r) (f ∙ ap (λ r. codes "var" ++ r) c.is) b.run) c.blank
    (subst (λ r. Run is_blank c.more c.behind r) d.is c.run) d.begins d.run)

pub find_note : (text : List ℕ) → is_type_note text ≡ true → IsTypeNote text
find_note text e =
    let named = named_some (after_mark text) e in
    let blanks3 = then_some after_blanks _ named.0 named.1 in
    let var = then_some (after_letters (codes "var")) _ blanks3.0 blanks3.1 in
    let blanks2 = then_some after_blanks _ var.0 var.1 in
    let type = then_some (after_letters (codes "@type")) (after_blanks text) blanks2.0 blanks2.1 in
    assemble text type.0 blanks2.0 var.0 blanks3.0 named.0 (find_blanks text type.0 type.1) (find_letters (codes "@type") type.0 blanks2.0 type.2)
    (find_blanks blanks2.0 var.0 blanks2.2) (find_letters (codes "var") var.0 blanks3.0 var.2) (find_blanks blanks3.0 named.0 blanks3.2) (find_name named.0 named.2)

pub no_note : {text : List ℕ} → (IsTypeNote text → ⊥) → is_type_note text ≡ false
no_note {text = text} h = not_true (is_type_note text) (λ e. h (find_note text e))
