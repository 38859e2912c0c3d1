-- The lexer's step where a token may begin, read backwards.
use Rattle.std.proofs.Common.{ℕ, ◌≡◌, ◌≢◌, ◌+◌, ◌-◌, ◌≤◌, Bool, true, false, refl, sym, ◌∙◌, ap, subst, List, [], ◌∷◌, ◌++◌, length, append_assoc, Some, arith}
use Rattle.std.specs.Prelude.{if◌then◌else◌, pos}
use Rattle.std.specs.Char.{encode_utf8, is_ascii_digit}
use Rattle.source_text.specs.Characters.{width, Run, is_blank, starts_word}
use Rattle.ruby_tokens.specs.declared.before.Before.{Before}
use Rattle.ruby_tokens.specs.declared.token.Token.{Token}
use Rattle.ruby_tokens.specs.declared.token.Kind.{Kind}
use Rattle.ruby_tokens.specs.declared.token.Kind.TheVariants as kind
use Rattle.ruby_tokens.specs.declared.mode.Mode.TheVariants as mode
use Rattle.ruby_tokens.specs.declared.starts.Sort.{Sort}
use Rattle.ruby_tokens.specs.declared.starts.Sort.TheVariants as sort
use Rattle.ruby_tokens.specs.Starts.{sort_of}
use Rattle.ruby_tokens.specs.Literals.{zero_alone, nonzero, plus, minus}
use Rattle.ruby_tokens.specs.Tokens.{Lexes, lex_word, lex_integer, lex_single, lex_double, lex_symbol, lex_open, lex_close, lex_comma, lex_equals, lex_semicolon, is_in_line, Divides, gap, newline, note, comment, dot, token}
use Rattle.ruby_tokens.specs.Lines.{in_line, behind_comment, next_line, dot_kind}
use Rattle.ruby_tokens.specs.Notes.{is_type_note}
use Rattle.ruby_tokens.specs.Machine.{lexer, with_token, begin_comment, begin_by, begin, limit}
use Rattle.ruby_tokens.proofs.Characters.{one_byte, sort_blank, digit_ascii, width_more, digit_small}
use Rattle.ruby_tokens.proofs.From.{made, Completes, Back, begins, choose}
use Rattle.ruby_tokens.proofs.Sorts.{Tells, tells}
use Rattle.ruby_tokens.proofs.NoteRead.{find_note, note_is}

lexes_at : {k : Kind} {cs rest : List ℕ} (n m : ℕ) → Lexes k n cs rest → n ≡ m → Lexes k m cs rest
lexes_at {k = k} {cs = cs} {rest = rest} n m l e = subst (λ n. Lexes k n cs rest) e l

begins_word : (c : ℕ) (cs : List ℕ) (at : ℕ) → starts_word c ≡ true → (k : Kind) (n : ℕ) (rest : List ℕ) → Completes (mode.Word at (encode_utf8 c)) k n cs rest → Lexes k (length (encode_utf8 c) + n) (c ∷ cs) rest
begins_word c cs at s k n rest (w, r, e, f) =
    subst (λ k. Lexes k (length (encode_utf8 c) + n) (c ∷ cs) rest) (sym e) (lexes_at _ _ (lex_word s r) (width_more c w ∙ ap (λ n. length (encode_utf8 c) + n) (sym f)))

begins_zero : (cs : List ℕ) (at : ℕ) (k : Kind) (n : ℕ) (rest : List ℕ) → Completes (mode.Zero at) k n cs rest → Lexes k (length (encode_utf8 48) + n) (48 ∷ cs) rest
begins_zero cs at k n rest (r, h, e, f) =
    subst (λ k. Lexes k (length (encode_utf8 48) + n) (48 ∷ cs) rest) (sym e)
    (subst (λ rest. Lexes (kind.Integer (pos 0)) (length (encode_utf8 48) + n) (48 ∷ cs) rest) r
    (lexes_at 1 _ (lex_integer (plus (omega arith) (zero_alone h))) (omega (arith, one_byte 48 refl, f))))

begins_digit : (c : ℕ) (cs : List ℕ) (at : ℕ) → is_ascii_digit c ≡ true → c ≢ 48 → (k : Kind) (n : ℕ) (rest : List ℕ) → Completes (mode.Digits at false (c - 48)) k n cs rest → Lexes k (length (encode_utf8 c) + n) (c ∷ cs) rest
begins_digit c cs at d z k n rest (v, ds, l, e) =
    let small : v ≤ limit false = l (digit_small c d) in
    subst (λ k. Lexes k (length (encode_utf8 c) + n) (c ∷ cs) rest) (sym e)
    (lexes_at (n + 1) _ (lex_integer (plus (omega arith) (nonzero d z ds))) (omega (arith, one_byte c (digit_ascii c d))))

begins_minus : (cs : List ℕ) (at : ℕ) (k : Kind) (n : ℕ) (rest : List ℕ) → Completes (mode.Minus at) k n cs rest → Lexes k (length (encode_utf8 45) + n) (45 ∷ cs) rest
begins_minus cs at k n rest (v, m, l, e) =
    subst (λ k. Lexes k (length (encode_utf8 45) + n) (45 ∷ cs) rest) (sym e) (lexes_at (n + 1) _ (lex_integer (minus l m)) (omega (arith, one_byte 45 refl)))

begins_single : (cs : List ℕ) (at : ℕ) (k : Kind) (n : ℕ) (rest : List ℕ) → Completes (mode.Single at []) k n cs rest → Lexes k (length (encode_utf8 39) + n) (39 ∷ cs) rest
begins_single cs at k n rest (v, d, e) =
    subst (λ k. Lexes k (length (encode_utf8 39) + n) (39 ∷ cs) rest) (sym e) (lexes_at (n + 1) _ (lex_single d) (omega (arith, one_byte 39 refl)))

begins_double : (cs : List ℕ) (at : ℕ) (k : Kind) (n : ℕ) (rest : List ℕ) → Completes (mode.Double at []) k n cs rest → Lexes k (length (encode_utf8 34) + n) (34 ∷ cs) rest
begins_double cs at k n rest (v, d, e) =
    subst (λ k. Lexes k (length (encode_utf8 34) + n) (34 ∷ cs) rest) (sym e) (lexes_at (n + 1) _ (lex_double d) (omega (arith, one_byte 34 refl)))

begins_symbol : (cs : List ℕ) (at : ℕ) (k : Kind) (n : ℕ) (rest : List ℕ) → Completes (mode.Colon at) k n cs rest → Lexes k (length (encode_utf8 58) + n) (58 ∷ cs) rest
begins_symbol cs at k n rest (v, d, e) =
    subst (λ k. Lexes k (length (encode_utf8 58) + n) (58 ∷ cs) rest) (sym e) (lexes_at (n + 1) _ (lex_symbol d) (omega (arith, one_byte 58 refl)))

-- a comment on a line of its own
module _ {text cs rest : List ℕ} {us : List Token} (b : Before) (at m : ℕ) (r : Run is_in_line text cs rest) (e : m ≡ at + 1 + width text) (d : Divides (behind_comment b.joined) m us rest) where
  note_line : b.blank ≡ true → is_type_note text ≡ true → Divides b at (made kind.TypeNote at m ∷ us) (35 ∷ cs)
  note_line h t =
      subst (λ m. Divides b at (made kind.TypeNote at m ∷ us) (35 ∷ cs)) (sym e) (note h r (find_note text t) (subst (λ m. Divides (behind_comment b.joined) m us rest) e d))

  plain_line : (b.blank ≡ true → is_type_note text ≡ false) → Divides b at us (35 ∷ cs)
  plain_line h = comment (λ o n. let f = h o in let t : is_type_note text ≡ true = note_is n in cc) r (subst (λ m. Divides (behind_comment b.joined) m us rest) e d)

  either_line : (ts : List Token) → b.blank ≡ true → ts ≡ (if is_type_note text then made kind.TypeNote at m ∷ us else us) → Divides b at ts (35 ∷ cs)
  either_line ts h =
      choose (λ x. ts ≡ x → Divides b at ts (35 ∷ cs)) (is_type_note text) (made kind.TypeNote at m ∷ us) us
      (λ t i. subst (λ ts. Divides b at ts (35 ∷ cs)) (sym i) (note_line h t))
      (λ f i. subst (λ ts. Divides b at ts (35 ∷ cs)) (sym i) (plain_line (λ o. f)))

module _ (tokens : List Token) (at : ℕ) (cs : List ℕ) where
  -- what a character of a sort leads to, read backwards
  abbrev BySort : Before → Sort → ℕ → Type 0
  BySort b s c = Back (λ ts. Divides b at ts (c ∷ cs)) tokens at c cs (begin_by s tokens b at c)

  -- a token of one character
  one_is : (k : Kind) (us : List Token) → with_token tokens k at (at + 1) ++ us ≡ tokens ++ (made k at (at + 1) ∷ us)
  one_is k us = append_assoc tokens (made k at (at + 1) ∷ []) us

  one : (b : Before) (k : Kind) (c : ℕ) {us : List Token} → length (encode_utf8 c) ≡ 1 → Lexes k 1 (c ∷ cs) cs → Divides in_line (at + length (encode_utf8 c)) us cs
      → (ts : List Token) × (with_token tokens k at (at + 1) ++ us ≡ tokens ++ ts) × Divides b at ts (c ∷ cs)
  one b k c {us = us} o l d = (made k at (at + 1) ∷ us, one_is k us, token l (subst (λ n. Divides in_line (at + n) us cs) o d))

  newline_back : (b : Before) → BySort b sort.Newline 10
  newline_back b = λ us d. (made kind.Newline at (at + 1) ∷ us, one_is kind.Newline us, newline (subst (λ n. Divides (next_line b) (at + n) us cs) (one_byte 10 refl) d))

  dot_back : (b : Before) → BySort b sort.Dot 46
  dot_back b = λ us d. (made (dot_kind b) at (at + 1) ∷ us, one_is (dot_kind b) us, dot (subst (λ n. Divides in_line (at + n) us cs) (one_byte 46 refl) d))

  comment_by : (b : Before) (k : Bool) → b.blank ≡ k → Back (λ ts. Divides b at ts (35 ∷ cs)) tokens at 35 cs (Some (lexer tokens (begin_comment k b.joined at)))
  comment_by b true h = λ ts (w, rest, us, r, d, e). (ts, refl, either_line b at ((at + length (encode_utf8 35)) + width w) r (omega (arith, one_byte 35 refl)) d ts h e)
  comment_by b false h = λ ts (w, rest, r, d).
      (ts, refl, plain_line b at ((at + length (encode_utf8 35)) + width w) r (omega (arith, one_byte 35 refl)) d (λ o. let clash : true ≡ false = sym o ∙ h in cc))

  comment_back : (b : Before) → BySort b sort.Comment 35
  comment_back b = comment_by b b.blank refl

  blank_back : (b : Before) (c : ℕ) → is_blank c ≡ true → BySort b sort.Blank c
  blank_back b c e = λ us d. (us, refl, gap e (subst (λ n. Divides b (at + n) us cs) (one_byte c (sort_blank c e).1) d))

  by_sort : (b : Before) (c : ℕ) (s : Sort) → Tells c s → BySort b s c
  by_sort b c sort.Nothing t = tt
  by_sort b c sort.Blank t = blank_back b c t
  by_sort b c sort.Word t = λ us f. (us, refl, begins b (mode.Word at (encode_utf8 c)) c (begins_word c cs at t) f)
  by_sort b c sort.Digit t = λ us f. (us, refl, begins b (mode.Digits at false (c - 48)) c (begins_digit c cs at t.0 t.1) f)
  by_sort b c sort.Comment t = subst (BySort b sort.Comment) (sym t) (comment_back b)
  by_sort b c sort.Zero t = subst (BySort b sort.Zero) (sym t) (λ us f. (us, refl, begins b (mode.Zero at) 48 (begins_zero cs at) f))
  by_sort b c sort.Minus t = subst (BySort b sort.Minus) (sym t) (λ us f. (us, refl, begins b (mode.Minus at) 45 (begins_minus cs at) f))
  by_sort b c sort.Single t = subst (BySort b sort.Single) (sym t) (λ us f. (us, refl, begins b (mode.Single at []) 39 (begins_single cs at) f))
  by_sort b c sort.Double t = subst (BySort b sort.Double) (sym t) (λ us f. (us, refl, begins b (mode.Double at []) 34 (begins_double cs at) f))
  by_sort b c sort.Symbol t = subst (BySort b sort.Symbol) (sym t) (λ us f. (us, refl, begins b (mode.Colon at) 58 (begins_symbol cs at) f))
  by_sort b c sort.Open t = subst (BySort b sort.Open) (sym t) (λ us d. one b kind.Open 40 (one_byte 40 refl) lex_open d)
  by_sort b c sort.Close t = subst (BySort b sort.Close) (sym t) (λ us d. one b kind.Close 41 (one_byte 41 refl) lex_close d)
  by_sort b c sort.Comma t = subst (BySort b sort.Comma) (sym t) (λ us d. one b kind.Comma 44 (one_byte 44 refl) lex_comma d)
  by_sort b c sort.Equals t = subst (BySort b sort.Equals) (sym t) (λ us d. one b kind.Equals 61 (one_byte 61 refl) lex_equals d)
  by_sort b c sort.Semicolon t = subst (BySort b sort.Semicolon) (sym t) (λ us d. one b kind.Semicolon 59 (one_byte 59 refl) lex_semicolon d)
  by_sort b c sort.Dot t = subst (BySort b sort.Dot) (sym t) (dot_back b)
  by_sort b c sort.Newline t = subst (BySort b sort.Newline) (sym t) (newline_back b)

-- where a token may begin
pub begin_back : (tokens : List Token) (b : Before) (at c : ℕ) (cs : List ℕ) → Back (λ ts. Divides b at ts (c ∷ cs)) tokens at c cs (begin tokens b at c)
begin_back tokens b at c cs = by_sort tokens at cs b c (sort_of c) (tells c)
