-- Each step of the lexer inside a token or a comment, read backwards.
use Rattle.std.proofs.Common.{ℕ, ◌≡◌, ◌≢◌, ◌+◌, ◌-◌, ◌*◌, ◌≤◌, Bool, true, false, refl, sym, ◌∙◌, ap, subst, List, [], ◌∷◌, ◌++◌, length, append_assoc, Option, Some, None, arith}
use Rattle.std.specs.Prelude.{encode_utf8_all, ◌==◌, ◌||◌, nat_le, if◌then◌else◌, pos}
use Rattle.std.specs.Char.{encode_utf8, is_ascii_digit, is_ascii_uppercase}
use Rattle.std.proofs.lemmas.List.{append-nil}
use Rattle.std.proofs.lemmas.Bool.{eqb-true, leb-true}
use Rattle.std.proofs.Math.Nat.{add-zero}
use Rattle.names.specs.Places.{is_among}
use Rattle.source_text.specs.Characters.{width, Run, run_stops, run_goes, is_name_character, starts_word}
use Rattle.ruby_tokens.specs.declared.token.Token.{Token}
use Rattle.ruby_tokens.specs.declared.token.Kind.{Kind}
use Rattle.ruby_tokens.specs.declared.token.Kind.TheVariants as kind
use Rattle.ruby_tokens.specs.declared.mode.Mode.{Mode}
use Rattle.ruby_tokens.specs.declared.mode.Mode.TheVariants as mode
use Rattle.ruby_tokens.specs.declared.mode.Lexer.{Lexer}
use Rattle.ruby_tokens.specs.Words.{word_kind}
use Rattle.ruby_tokens.specs.Literals.{Magnitude, zero_alone, nonzero, Digits, digits_end, digits_more, digits_under, Single, single_end, single_plain, single_quote, single_backslash, single_other, is_single_plain, Double, double_end, double_plain, double_hash, double_escape, is_double_plain, IsEscape, escape_newline, escape_tab, escape_quote, escape_backslash, escape_hash, IsSymbol, symbol_word, symbol_ending, symbol_operator, NotInterface, is_mark, is_ending, operators}
use Rattle.ruby_tokens.specs.Tokens.{is_in_line, Divides}
use Rattle.ruby_tokens.specs.Lines.{in_line, behind_comment}
use Rattle.ruby_tokens.specs.Notes.{is_type_note}
use Rattle.ruby_tokens.specs.Machine.{lexer, between, with_token, noted, limit, signed, digit, goes_on_from_zero, in_comment, in_note, in_word, in_minus, in_zero, in_digits, in_underscore, in_single, in_single_escape, in_double, escaped, escape, in_double_escape, in_double_hash, in_symbol_word, in_symbol_ending, in_symbol_operator, in_colon, in_under, behind, begin}
use Rattle.ruby_tokens.proofs.Characters.{one_byte, digit_ascii, digit_small, width_more, width_one, or_cases, or_false, ending_mark}
use Rattle.ruby_tokens.proofs.TextRead.{escape_one}
use Rattle.ruby_tokens.proofs.SymbolRead.{marks_bytes}
use Rattle.ruby_tokens.proofs.From.{made, Body, body_word, body_ending, Completes, FromToken, From, Back, choose, keeps, ended_back, last_back}
use Rattle.ruby_tokens.proofs.Begins.{begin_back}

-- the text of a token, with one more character
text_as : (make : List ℕ → Kind) (k : Kind) (text w : List ℕ) (c : ℕ) → k ≡ make ((text ++ encode_utf8 c) ++ encode_utf8_all w) → k ≡ make (text ++ encode_utf8_all (c ∷ w))
text_as make k text w c e = e ∙ ap make (append_assoc text (encode_utf8 c) (encode_utf8_all w))

pub text_end : (make : List ℕ → Kind) (text : List ℕ) → make text ≡ make (text ++ [])
text_end make text = ap make (sym (append-nil text))

digits_at : {m v : ℕ} {cs rest : List ℕ} (n k : ℕ) → Digits m v n cs rest → n ≡ k → Digits m v k cs rest
digits_at {m = m} {v = v} {cs = cs} {rest = rest} n k d e = subst (λ n. Digits m v n cs rest) e d

magnitude_at : {v : ℕ} {cs rest : List ℕ} (n k : ℕ) → Magnitude v n cs rest → n ≡ k → Magnitude v k cs rest
magnitude_at {v = v} {cs = cs} {rest = rest} n k d e = subst (λ n. Magnitude v n cs rest) e d

single_at : {v cs rest : List ℕ} (n k : ℕ) → Single v n cs rest → n ≡ k → Single v k cs rest
single_at {v = v} {cs = cs} {rest = rest} n k d e = subst (λ n. Single v n cs rest) e d

double_at : {v cs rest : List ℕ} (n k : ℕ) → Double v n cs rest → n ≡ k → Double v k cs rest
double_at {v = v} {cs = cs} {rest = rest} n k d e = subst (λ n. Double v n cs rest) e d

symbol_at : {v cs rest : List ℕ} (n k : ℕ) → IsSymbol v n cs rest → n ≡ k → IsSymbol v k cs rest
symbol_at {v = v} {cs = cs} {rest = rest} n k d e = subst (λ n. IsSymbol v n cs rest) e d

body_at : {v cs rest : List ℕ} (n k : ℕ) → Body v n cs rest → n ≡ k → Body v k cs rest
body_at {v = v} {cs = cs} {rest = rest} n k d e = subst (λ n. Body v n cs rest) e d

both_false : (a b : Bool) → a ≡ false → b ≡ false → (a || b) ≡ false
both_false a b e f = rw (e, f)

same_number : (d : ℕ) → (d == d) ≡ true
same_number d = grind arith

unequal : (c d : ℕ) → (c == d) ≡ false → c ≢ d
unequal c d e i = let f : (d == d) ≡ false = subst (λ x. (x == d) ≡ false) i e in let t : (d == d) ≡ true = same_number d in cc

single_plain_is : (c : ℕ) → (c == 39) ≡ false → (c == 92) ≡ false → is_single_plain c ≡ true
single_plain_is c e f = rw (e, f)

double_plain_is : (c : ℕ) → (c == 34) ≡ false → (c == 92) ≡ false → (c == 35) ≡ false → is_double_plain c ≡ true
double_plain_is c e f g = rw (e, f, g)

pair : {c d : ℕ} (a b : ℕ) → c ≡ a → Some b ≡ Some d → IsEscape a b → IsEscape c d
pair {c = c} {d = d} a b e f i = let g : b ≡ d = cc in subst (λ d. IsEscape c d) g (subst (λ c. IsEscape c b) (sym e) i)

escape_found : (c d : ℕ) → escaped c ≡ Some d → IsEscape c d
escape_found c d =
    choose (λ o. o ≡ Some d → IsEscape c d) (c == 110) (Some 10) _ (λ e f. pair 110 10 (eqb-true c 110 e) f escape_newline) (λ e.
    choose (λ o. o ≡ Some d → IsEscape c d) (c == 116) (Some 9) _ (λ e f. pair 116 9 (eqb-true c 116 e) f escape_tab) (λ e.
    choose (λ o. o ≡ Some d → IsEscape c d) (c == 34) (Some 34) _ (λ e f. pair 34 34 (eqb-true c 34 e) f escape_quote) (λ e.
    choose (λ o. o ≡ Some d → IsEscape c d) (c == 92) (Some 92) _ (λ e f. pair 92 92 (eqb-true c 92 e) f escape_backslash) (λ e.
    choose (λ o. o ≡ Some d → IsEscape c d) (c == 35) (Some 35) None (λ e f. pair 35 35 (eqb-true c 35 e) f escape_hash) (λ e f. cc)))))

not_interface : (c : ℕ) (w : List ℕ) → (c == 95) ≡ false → NotInterface c w
not_interface c [] e = tt
not_interface c (d ∷ w) e = rw e

under_free : {w cs rest : List ℕ} (c : ℕ) → Run is_name_character w (c ∷ cs) rest → is_ascii_uppercase c ≡ false → NotInterface 95 w
under_free c (run_stops s) e = tt
under_free c (run_goes s r) e = e

-- a symbol by its first character and the rest of it
symbol_of : {v cs rest : List ℕ} (n c : ℕ) → starts_word c ≡ true → ((w : List ℕ) (rest : List ℕ) → Run is_name_character w cs rest → NotInterface c w) → Body v n cs rest → IsSymbol (c ∷ v) (length (encode_utf8 c) + n) (c ∷ cs) rest
symbol_of n c s free (body_word {w = w} {rest = rest} r h) = symbol_at _ _ (symbol_word s r (free w rest r) h) (width_more c w)
symbol_of n c s free (body_ending {d = d} {w = w} {rest = rest} r i h) = symbol_at _ _ (symbol_ending s r (free w (d ∷ rest) r) i h) (omega (arith, width_more c w))

body_more : {v cs rest : List ℕ} (n c : ℕ) → is_name_character c ≡ true → Body v n cs rest → Body (c ∷ v) (length (encode_utf8 c) + n) (c ∷ cs) rest
body_more n c p (body_word {w = w} r h) = body_at _ _ (body_word (run_goes p r) h) (width_more c w)
body_more n c p (body_ending {w = w} r i h) = body_at _ _ (body_ending (run_goes p r) i h) (omega (arith, width_more c w))

among_at : (s t : List ℕ) → s ≡ t → is_among s operators ≡ true → is_among t operators ≡ true
among_at s t e h = subst (λ t. is_among t operators ≡ true) e h

no_line : (c : ℕ) → (c == 10) ≡ true → is_in_line c ≡ false
no_line c e = rw e

in_line_char : (c : ℕ) → (c == 10) ≡ false → is_in_line c ≡ true
in_line_char c e = rw e

-- a fact of the tokens from before the character, by another
back_map : {G H : List Token → Type 0} (tokens : List Token) (at c : ℕ) (cs : List ℕ) (o : Option Lexer) → ((ts : List Token) → G ts → H ts) → Back G tokens at c cs o → Back H tokens at c cs o
back_map tokens at c cs None g b = tt
back_map tokens at c cs (Some l) g b = λ us f. let r = b us f in (r.0, r.1, g r.0 r.2)

module _ (tokens : List Token) (start at c : ℕ) (cs : List ℕ) where
  -- what is told of a step by the mode before it
  abbrev Behind : Mode → Option Lexer → Type 0
  Behind m o = Back (λ ts. FromToken m start at ts (c ∷ cs)) tokens at c cs o

  -- a token that ended before the character
  behind_back : (m : Mode) (k : Kind) → Completes m k 0 (c ∷ cs) (c ∷ cs) → Behind m (behind tokens k start at c)
  behind_back m k done = ended_back tokens m k start at c cs (behind tokens k start at c) done (begin_back (with_token tokens k start at) in_line at c cs)

  -- a mode that goes on
  abbrev More : Mode → Mode → Type 0
  More m m' = (k : Kind) (n : ℕ) (rest : List ℕ) → Completes m' k n cs rest → Completes m k (length (encode_utf8 c) + n) (c ∷ cs) rest

  on : (m m' : Mode) (us : List Token) → FromToken m' start (at + length (encode_utf8 c)) us cs → More m m' → (ts : List Token) × (tokens ++ us ≡ tokens ++ ts) × FromToken m start at ts (c ∷ cs)
  on m m' us f more = (us, refl, keeps m m' c more f)

  -- a mode that is told of by another at the same place
  as_mode : (m m' : Mode) (o : Option Lexer) → ((k : Kind) (n : ℕ) (rest : List ℕ) → Completes m' k n (c ∷ cs) rest → Completes m k n (c ∷ cs) rest) → Behind m' o → Behind m o
  as_mode m m' o turn b = back_map tokens at c cs o (λ ts f. record { k = f.k; n = f.n; rest = f.rest; us = f.us; completes = turn f.k f.n f.rest f.completes; divides = f.divides; is = f.is }) b

  pub word_back : (text : List ℕ) → Behind (mode.Word start text) (in_word tokens start text at c)
  word_back text = choose (Behind (mode.Word start text)) (is_name_character c) (Some (lexer tokens (mode.Word start (text ++ encode_utf8 c)))) (behind tokens (word_kind text) start at c)
      (λ p us f. on (mode.Word start text) (mode.Word start (text ++ encode_utf8 c)) us f (λ k n rest (w, r, e, i).
      (c ∷ w, run_goes p r, text_as word_kind k text w c e, ap (λ n. length (encode_utf8 c) + n) i ∙ sym (width_more c w))))
      (λ p. behind_back (mode.Word start text) (word_kind text) ([], run_stops p, text_end word_kind text, refl))

  -- Numbers.
  digit_back : (m : Mode) (minus : Bool) (q : ℕ) → (q * 10 + (c - 48) ≤ limit minus → More m (mode.Digits start minus (q * 10 + (c - 48)))) → Behind m (digit tokens start minus q c)
  digit_back m minus q more = choose (Behind m) (nat_le (q * 10 + (c - 48)) (limit minus)) (Some (lexer tokens (mode.Digits start minus (q * 10 + (c - 48))))) None
      (λ p us f. on m (mode.Digits start minus (q * 10 + (c - 48))) us f (more (leb-true (q * 10 + (c - 48)) (limit minus) p)))
      (λ p. tt)

  pub zero_back : Behind (mode.Zero start) (in_zero tokens start at c)
  zero_back = choose (Behind (mode.Zero start)) (goes_on_from_zero c) None (behind tokens (kind.Integer (pos 0)) start at c)
      (λ p. tt) (λ p. behind_back (mode.Zero start) (kind.Integer (pos 0)) (refl, p, refl, refl))

  -- where an underscore follows
  under_at : (minus : Bool) (q : ℕ) → c ≡ 95 → More (mode.Digits start minus q) (mode.Underscore start minus q)
  under_at minus q u k n rest (v, ds, l, e) =
      (v, subst (λ d. Digits q v (length (encode_utf8 d) + n) (d ∷ cs) rest) (sym u) (digits_at (1 + n) _ ds (omega (arith, one_byte 95 refl))), l, e)

  pub digits_back : (minus : Bool) (q : ℕ) → Behind (mode.Digits start minus q) (in_digits tokens start minus q at c)
  digits_back minus q = choose (Behind (mode.Digits start minus q)) (is_ascii_digit c) (digit tokens start minus q c)
      (if c == 95 then Some (lexer tokens (mode.Underscore start minus q)) else behind tokens (kind.Integer (signed minus q)) start at c)
      (λ d. digit_back (mode.Digits start minus q) minus q (λ p k n rest (v, ds, l, e).
      (v, digits_at (n + 1) _ (digits_more d ds) (omega (arith, one_byte c (digit_ascii c d))), (λ _. l p), e)))
      (λ d. choose (Behind (mode.Digits start minus q)) (c == 95) (Some (lexer tokens (mode.Underscore start minus q))) (behind tokens (kind.Integer (signed minus q)) start at c)
      (λ u us f. on (mode.Digits start minus q) (mode.Underscore start minus q) us f (under_at minus q (eqb-true c 95 u)))
      (λ u. behind_back (mode.Digits start minus q) (kind.Integer (signed minus q)) (q, digits_end (both_false (is_ascii_digit c) (c == 95) d u), (λ l. l), refl)))

  pub underscore_back : (minus : Bool) (q : ℕ) → Behind (mode.Underscore start minus q) (in_underscore tokens start minus q c)
  underscore_back minus q = choose (Behind (mode.Underscore start minus q)) (is_ascii_digit c) (digit tokens start minus q c) None
      (λ d. digit_back (mode.Underscore start minus q) minus q (λ p k n rest (v, ds, l, e).
      (v, digits_at (n + 2) _ (digits_under d ds) (omega (arith, one_byte c (digit_ascii c d))), (λ _. l p), e)))
      (λ d. tt)

  minus_zero : c ≡ 48 → More (mode.Minus start) (mode.Zero start)
  minus_zero z k n rest (r, h, e, i) = (
    0,
    subst (λ d. Magnitude 0 (length (encode_utf8 d) + n) (d ∷ cs) rest) (sym z)
        (subst (λ rest. Magnitude 0 (length (encode_utf8 48) + n) (48 ∷ cs) rest) r (magnitude_at 1 _ (zero_alone h) (omega (arith, one_byte 48 refl, i)))),
    omega arith,
    e,
  )

  pub minus_back : Behind (mode.Minus start) (in_minus tokens start c)
  minus_back = choose (Behind (mode.Minus start)) (c == 48) (Some (lexer tokens (mode.Zero start))) (if is_ascii_digit c then Some (lexer tokens (mode.Digits start true (c - 48))) else None)
      (λ z us f. on (mode.Minus start) (mode.Zero start) us f (minus_zero (eqb-true c 48 z)))
      (λ z. choose (Behind (mode.Minus start)) (is_ascii_digit c) (Some (lexer tokens (mode.Digits start true (c - 48)))) None
      (λ d us f. on (mode.Minus start) (mode.Digits start true (c - 48)) us f (λ k n rest (v, ds, l, e).
      (v, magnitude_at (n + 1) _ (nonzero d (unequal c 48 z) ds) (omega (arith, one_byte c (digit_ascii c d))), l (omega (arith, digit_small c d)), e)))
      (λ d. tt))

  -- Strings.
  single_last : (text : List ℕ) → c ≡ 39 → (us : List Token) → Divides in_line (at + length (encode_utf8 c)) us cs
      → (ts : List Token) × (with_token tokens (kind.Text text) start (at + 1) ++ us ≡ tokens ++ ts) × FromToken (mode.Single start text) start at ts (c ∷ cs)
  single_last text e us d = last_back tokens start at (mode.Single start text) (kind.Text text) c (ap (λ c. length (encode_utf8 c)) e ∙ one_byte 39 refl)
      ([], subst (λ c. Single [] 1 (c ∷ cs) cs) (sym e) single_end, text_end kind.Text text) d

  single_slash : (text : List ℕ) → c ≡ 92 → More (mode.Single start text) (mode.SingleEscape start text)
  single_slash text b k n rest (v, d, e) =
      (v, subst (λ c. Single v (length (encode_utf8 c) + n) (c ∷ cs) rest) (sym b) (single_at (1 + n) _ d (omega (arith, one_byte 92 refl))), e)

  pub single_back : (text : List ℕ) → Behind (mode.Single start text) (in_single tokens start text at c)
  single_back text = choose (Behind (mode.Single start text)) (c == 39) (Some (lexer (with_token tokens (kind.Text text) start (at + 1)) between))
      (if c == 92 then Some (lexer tokens (mode.SingleEscape start text)) else Some (lexer tokens (mode.Single start (text ++ encode_utf8 c))))
      (λ q us d. single_last text (eqb-true c 39 q) us d)
      (λ q. choose (Behind (mode.Single start text)) (c == 92) (Some (lexer tokens (mode.SingleEscape start text))) (Some (lexer tokens (mode.Single start (text ++ encode_utf8 c))))
      (λ b us f. on (mode.Single start text) (mode.SingleEscape start text) us f (single_slash text (eqb-true c 92 b)))
      (λ b us f. on (mode.Single start text) (mode.Single start (text ++ encode_utf8 c)) us f (λ k n rest (v, d, e).
      (c ∷ v, single_plain (single_plain_is c q b) d (omega (arith, width_one c)), text_as kind.Text k text v c e))))

  quote_at : (text : List ℕ) → (c == 39 || c == 92) ≡ true → More (mode.SingleEscape start text) (mode.Single start (text ++ encode_utf8 c))
  quote_at text q k n rest (v, d, e) = or_cases (c == 39) (c == 92) q
      (λ i. (c ∷ v, subst (λ c. Single (c ∷ v) (1 + (length (encode_utf8 c) + n)) (92 ∷ c ∷ cs) rest) (sym (eqb-true c 39 i)) (single_at (2 + n) _ (single_quote d) (omega (arith, one_byte 39 refl))), text_as kind.Text k text v c e))
      (λ i. (c ∷ v, subst (λ c. Single (c ∷ v) (1 + (length (encode_utf8 c) + n)) (92 ∷ c ∷ cs) rest) (sym (eqb-true c 92 i)) (single_at (2 + n) _ (single_backslash d) (omega (arith, one_byte 92 refl))), text_as kind.Text k text v c e))

  pub single_escape_back : (text : List ℕ) → Behind (mode.SingleEscape start text) (in_single_escape tokens start text c)
  single_escape_back text = choose (Behind (mode.SingleEscape start text)) (c == 39 || c == 92) (Some (lexer tokens (mode.Single start (text ++ encode_utf8 c))))
      (Some (lexer tokens (mode.Single start ((text ++ encode_utf8 92) ++ encode_utf8 c))))
      (λ q us f. on (mode.SingleEscape start text) (mode.Single start (text ++ encode_utf8 c)) us f (quote_at text q))
      (λ q us f. on (mode.SingleEscape start text) (mode.Single start ((text ++ encode_utf8 92) ++ encode_utf8 c)) us f (λ k n rest (v, d, e).
      let both = or_false (c == 39) (c == 92) q in
      (92 ∷ c ∷ v, single_other (single_plain_is c both.0 both.1) d (omega (arith, width_one c)), text_as kind.Text k text (c ∷ v) 92 (text_as kind.Text k (text ++ encode_utf8 92) v c e))))

  double_last : (text : List ℕ) → c ≡ 34 → (us : List Token) → Divides in_line (at + length (encode_utf8 c)) us cs
      → (ts : List Token) × (with_token tokens (kind.Text text) start (at + 1) ++ us ≡ tokens ++ ts) × FromToken (mode.Double start text) start at ts (c ∷ cs)
  double_last text e us d = last_back tokens start at (mode.Double start text) (kind.Text text) c (ap (λ c. length (encode_utf8 c)) e ∙ one_byte 34 refl)
      ([], subst (λ c. Double [] 1 (c ∷ cs) cs) (sym e) double_end, text_end kind.Text text) d

  double_slash : (text : List ℕ) → c ≡ 92 → More (mode.Double start text) (mode.DoubleEscape start text)
  double_slash text b k n rest (v, d, e) =
      (v, subst (λ c. Double v (length (encode_utf8 c) + n) (c ∷ cs) rest) (sym b) (double_at (1 + n) _ d (omega (arith, one_byte 92 refl))), e)

  hash_at : (text : List ℕ) → c ≡ 35 → More (mode.Double start text) (mode.DoubleHash start (text ++ encode_utf8 35))
  hash_at text b k n rest (v, d, h, e) =
      (35 ∷ v, subst (λ c. Double (35 ∷ v) (length (encode_utf8 c) + n) (c ∷ cs) rest) (sym b) (double_at (1 + n) _ (double_hash h d) (omega (arith, one_byte 35 refl))), text_as kind.Text k text v 35 e)

  pub double_back : (text : List ℕ) → Behind (mode.Double start text) (in_double tokens start text at c)
  double_back text = choose (Behind (mode.Double start text)) (c == 34) (Some (lexer (with_token tokens (kind.Text text) start (at + 1)) between))
      (if c == 92 then Some (lexer tokens (mode.DoubleEscape start text)) else if c == 35 then Some (lexer tokens (mode.DoubleHash start (text ++ encode_utf8 35))) else Some (lexer tokens (mode.Double start (text ++ encode_utf8 c))))
      (λ q us d. double_last text (eqb-true c 34 q) us d)
      (λ q. choose (Behind (mode.Double start text)) (c == 92) (Some (lexer tokens (mode.DoubleEscape start text)))
      (if c == 35 then Some (lexer tokens (mode.DoubleHash start (text ++ encode_utf8 35))) else Some (lexer tokens (mode.Double start (text ++ encode_utf8 c))))
      (λ b us f. on (mode.Double start text) (mode.DoubleEscape start text) us f (double_slash text (eqb-true c 92 b)))
      (λ b. choose (Behind (mode.Double start text)) (c == 35) (Some (lexer tokens (mode.DoubleHash start (text ++ encode_utf8 35)))) (Some (lexer tokens (mode.Double start (text ++ encode_utf8 c))))
      (λ h us f. on (mode.Double start text) (mode.DoubleHash start (text ++ encode_utf8 35)) us f (hash_at text (eqb-true c 35 h)))
      (λ h us f. on (mode.Double start text) (mode.Double start (text ++ encode_utf8 c)) us f (λ k n rest (v, d, e).
      (c ∷ v, double_plain (double_plain_is c q b h) d (omega (arith, width_one c)), text_as kind.Text k text v c e)))))

  escape_at : (text : List ℕ) (meant : ℕ) → IsEscape c meant → More (mode.DoubleEscape start text) (mode.Double start (text ++ encode_utf8 meant))
  escape_at text meant i k n rest (v, d, e) = (meant ∷ v, double_at (2 + n) _ (double_escape i d) (omega (arith, escape_one i)), text_as kind.Text k text v meant e)

  escape_back : (text : List ℕ) (o : Option ℕ) → escaped c ≡ o → Behind (mode.DoubleEscape start text) (escape tokens start text o)
  escape_back text None e = tt
  escape_back text (Some meant) e = λ us f. on (mode.DoubleEscape start text) (mode.Double start (text ++ encode_utf8 meant)) us f (escape_at text meant (escape_found c meant e))

  pub double_escape_back : (text : List ℕ) → Behind (mode.DoubleEscape start text) (in_double_escape tokens start text c)
  double_escape_back text = escape_back text (escaped c) refl

  pub double_hash_back : (text : List ℕ) → Behind (mode.DoubleHash start text) (in_double_hash tokens start text at c)
  double_hash_back text = choose (Behind (mode.DoubleHash start text)) (c == 123) None (in_double tokens start text at c)
      (λ b. tt)
      (λ b. as_mode (mode.DoubleHash start text) (mode.Double start text) (in_double tokens start text at c) (λ k n rest (v, d, e). (v, d, unequal c 123 b, e)) (double_back text))

  -- Symbols.
  ending_at : (text : List ℕ) → is_name_character c ≡ false → is_ending c ≡ true → More (mode.SymbolWord start text) (mode.SymbolEnding start (text ++ encode_utf8 c))
  ending_at text p i k n rest (r, h, e, z) = (
    c ∷ [],
    subst (λ rest. Body (c ∷ []) (length (encode_utf8 c) + n) (c ∷ cs) rest) r (body_at 1 _ (body_ending (run_stops p) i h) (omega (arith, one_byte c (ending_mark c i), z))),
    e ∙ ap (λ t. kind.Symbol (text ++ t)) (sym (append-nil (encode_utf8 c))),
  )

  pub symbol_ending_back : (text : List ℕ) → Behind (mode.SymbolEnding start text) (in_symbol_ending tokens start text at c)
  symbol_ending_back text = choose (Behind (mode.SymbolEnding start text)) (is_mark c) None (behind tokens (kind.Symbol text) start at c)
      (λ m. tt) (λ m. behind_back (mode.SymbolEnding start text) (kind.Symbol text) (refl, m, refl, refl))

  pub symbol_word_back : (text : List ℕ) → Behind (mode.SymbolWord start text) (in_symbol_word tokens start text at c)
  symbol_word_back text = choose (Behind (mode.SymbolWord start text)) (is_name_character c) (Some (lexer tokens (mode.SymbolWord start (text ++ encode_utf8 c))))
      (if is_ending c then Some (lexer tokens (mode.SymbolEnding start (text ++ encode_utf8 c))) else if is_mark c then None else behind tokens (kind.Symbol text) start at c)
      (λ p us f. on (mode.SymbolWord start text) (mode.SymbolWord start (text ++ encode_utf8 c)) us f (λ k n rest (v, b, e). (c ∷ v, body_more n c p b, text_as kind.Symbol k text v c e)))
      (λ p. choose (Behind (mode.SymbolWord start text)) (is_ending c) (Some (lexer tokens (mode.SymbolEnding start (text ++ encode_utf8 c)))) (if is_mark c then None else behind tokens (kind.Symbol text) start at c)
      (λ i us f. on (mode.SymbolWord start text) (mode.SymbolEnding start (text ++ encode_utf8 c)) us f (ending_at text p i))
      (λ i. choose (Behind (mode.SymbolWord start text)) (is_mark c) None (behind tokens (kind.Symbol text) start at c)
      (λ m. tt)
      (λ m. behind_back (mode.SymbolWord start text) (kind.Symbol text) ([], body_word (run_stops p) m, text_end kind.Symbol text))))

  pub symbol_operator_back : (text : List ℕ) → Behind (mode.SymbolOperator start text) (in_symbol_operator tokens start text at c)
  symbol_operator_back text = choose (Behind (mode.SymbolOperator start text)) (is_mark c) (Some (lexer tokens (mode.SymbolOperator start (text ++ encode_utf8 c))))
      (if is_among text operators then behind tokens (kind.Symbol text) start at c else None)
      (λ m us f. on (mode.SymbolOperator start text) (mode.SymbolOperator start (text ++ encode_utf8 c)) us f (λ k n rest (w, r, o, e, i).
      (c ∷ w, run_goes m r, among_at _ _ (append_assoc text (encode_utf8 c) (encode_utf8_all w)) o, text_as kind.Symbol k text w c e, ap (λ n. length (encode_utf8 c) + n) i ∙ sym (width_more c w))))
      (λ m. choose (Behind (mode.SymbolOperator start text)) (is_among text operators) (behind tokens (kind.Symbol text) start at c) None
      (λ o. behind_back (mode.SymbolOperator start text) (kind.Symbol text) ([], run_stops m, among_at _ _ (sym (append-nil text)) o, text_end kind.Symbol text, refl))
      (λ o. tt))

  under_mark : c ≡ 95 → More (mode.Colon start) (mode.Under start)
  under_mark u k n rest (v, d, e) = (v, subst (λ c. IsSymbol v (length (encode_utf8 c) + n) (c ∷ cs) rest) (sym u) (symbol_at (1 + n) _ d (omega (arith, one_byte 95 refl))), e)

  operator_mark : is_mark c ≡ true → More (mode.Colon start) (mode.SymbolOperator start (encode_utf8 c))
  operator_mark m k n rest (w, r, o, e, i) =
      (c ∷ w, symbol_at _ _ (symbol_operator (run_goes m r) (among_at _ _ (marks_bytes (run_goes m r)) o)) (width_more c w ∙ ap (λ n. length (encode_utf8 c) + n) (sym i)), e)

  pub colon_back : Behind (mode.Colon start) (in_colon tokens start c)
  colon_back = choose (Behind (mode.Colon start)) (c == 95) (Some (lexer tokens (mode.Under start)))
      (if starts_word c then Some (lexer tokens (mode.SymbolWord start (encode_utf8 c))) else if is_mark c then Some (lexer tokens (mode.SymbolOperator start (encode_utf8 c))) else None)
      (λ u us f. on (mode.Colon start) (mode.Under start) us f (under_mark (eqb-true c 95 u)))
      (λ u. choose (Behind (mode.Colon start)) (starts_word c) (Some (lexer tokens (mode.SymbolWord start (encode_utf8 c)))) (if is_mark c then Some (lexer tokens (mode.SymbolOperator start (encode_utf8 c))) else None)
      (λ s us f. on (mode.Colon start) (mode.SymbolWord start (encode_utf8 c)) us f (λ k n rest (v, b, e). (c ∷ v, symbol_of n c s (λ w rest r. not_interface c w u) b, e)))
      (λ s. choose (Behind (mode.Colon start)) (is_mark c) (Some (lexer tokens (mode.SymbolOperator start (encode_utf8 c)))) None
      (λ m us f. on (mode.Colon start) (mode.SymbolOperator start (encode_utf8 c)) us f (operator_mark m))
      (λ m. tt)))

  pub under_back : Behind (mode.Under start) (in_under tokens start at c)
  under_back = choose (Behind (mode.Under start)) (is_ascii_uppercase c) None (in_symbol_word tokens start (encode_utf8 95) at c)
      (λ u. tt)
      (λ u. as_mode (mode.Under start) (mode.SymbolWord start (encode_utf8 95)) (in_symbol_word tokens start (encode_utf8 95) at c)
      (λ k n rest (v, b, e). (95 ∷ v, symbol_at _ _ (symbol_of n 95 refl (λ w rest r. under_free c r u) b) (omega (arith, one_byte 95 refl)), e)) (symbol_word_back (encode_utf8 95)))

  -- Comments.
  pub comment_back : (joined : Bool) → Back (λ ts. From (mode.Comment joined) at ts (c ∷ cs)) tokens at c cs (in_comment tokens joined at c)
  comment_back joined = choose (Back (λ ts. From (mode.Comment joined) at ts (c ∷ cs)) tokens at c cs) (c == 10) (begin tokens (behind_comment joined) at c) (Some (lexer tokens (mode.Comment joined)))
      (λ e. back_map tokens at c cs (begin tokens (behind_comment joined) at c) (λ ts d. ([], c ∷ cs, run_stops (no_line c e), subst (λ n. Divides (behind_comment joined) n ts (c ∷ cs)) (sym (add-zero at)) d))
      (begin_back tokens (behind_comment joined) at c cs))
      (λ e us (w, rest, r, d). (us, refl, (c ∷ w, rest, run_goes (in_line_char c e) r, subst (λ n. Divides (behind_comment joined) n us rest) (omega (arith, width_more c w)) d)))

  -- the tokens where a comment ends, and those behind it
  noted_append : (b : Bool) (us : List Token) → (if b then with_token tokens kind.TypeNote start at else tokens) ++ us ≡ tokens ++ (if b then made kind.TypeNote start at ∷ us else us)
  noted_append true us = append_assoc tokens (made kind.TypeNote start at ∷ []) us
  noted_append false us = refl

  module _ (joined : Bool) where
    note_ended : (text : List ℕ) (ts us : List Token) → (c == 10) ≡ true → ts ≡ (if is_type_note text then made kind.TypeNote start at ∷ us else us) → Divides (behind_comment joined) at us (c ∷ cs)
        → From (mode.Note start joined text) at ts (c ∷ cs)
    note_ended text ts us e i d = (
      [],
      c ∷ cs,
      us,
      run_stops (no_line c e),
      subst (λ n. Divides (behind_comment joined) n us (c ∷ cs)) (sym (add-zero at)) d,
      i ∙ ap (λ n. if is_type_note text then made kind.TypeNote start n ∷ us else us) (sym (add-zero at)) ∙ ap (λ t. if is_type_note t then made kind.TypeNote start (at + 0) ∷ us else us) (sym (append-nil text)),
    )

    note_begun : (text : List ℕ) (o : Option Lexer) → (c == 10) ≡ true → Back (λ ts. Divides (behind_comment joined) at ts (c ∷ cs)) (noted tokens start text at) at c cs o
        → Back (λ ts. From (mode.Note start joined text) at ts (c ∷ cs)) tokens at c cs o
    note_begun text None e b = tt
    note_begun text (Some l) e b = λ us f.
        let r = b us f in
        let ts : List Token = if is_type_note text then made kind.TypeNote start at ∷ r.0 else r.0 in
        (ts, r.1 ∙ noted_append (is_type_note text) r.0, note_ended text ts r.0 e refl r.2)

    pub note_back : (text : List ℕ) → Back (λ ts. From (mode.Note start joined text) at ts (c ∷ cs)) tokens at c cs (in_note tokens start joined text at c)
    note_back text = choose (Back (λ ts. From (mode.Note start joined text) at ts (c ∷ cs)) tokens at c cs) (c == 10)
        (begin (noted tokens start text at) (behind_comment joined) at c) (Some (lexer tokens (mode.Note start joined (text ++ c ∷ []))))
        (λ e. note_begun text (begin (noted tokens start text at) (behind_comment joined) at c) e (begin_back (noted tokens start text at) (behind_comment joined) at c cs))
        (λ e ts (w, rest, us, r, d, i).
        let same : (at + length (encode_utf8 c)) + width w ≡ at + width (c ∷ w) = omega (arith, width_more c w) in (
          ts,
          refl,
          (
            c ∷ w,
            rest,
            us,
            run_goes (in_line_char c e) r,
            subst (λ n. Divides (behind_comment joined) n us rest) same d,
            i ∙ ap (λ n. if is_type_note ((text ++ c ∷ []) ++ w) then made kind.TypeNote start n ∷ us else us) same
                ∙ ap (λ t. if is_type_note t then made kind.TypeNote start (at + width (c ∷ w)) ∷ us else us) (append_assoc text (c ∷ []) w),
          ),
        ))
