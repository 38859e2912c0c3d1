-- The lexer on symbols.
use Rattle.std.proofs.Common.{ℕ, ◌≡◌, ◌+◌, true, false, refl, sym, ◌∙◌, ap, subst, List, [], ◌∷◌, ◌++◌, length, Some, arith}
use Rattle.std.specs.Prelude.{encode_utf8_all, ◌==◌}
use Rattle.std.specs.Char.{encode_utf8}
use Rattle.std.proofs.lemmas.Bool.{eqb-true}
use Rattle.std.proofs.lemmas.List.{append-nil}
use Rattle.std.proofs.lemmas.Str.{encodes-append}
use Rattle.names.specs.Places.{is_among}
use Rattle.source_text.specs.Characters.{width, Run, run_ends, run_stops, run_goes, is_name_character, starts_word}
use Rattle.ruby_tokens.specs.declared.token.Token.{Token}
use Rattle.ruby_tokens.specs.declared.token.Kind.TheVariants as kind
use Rattle.ruby_tokens.specs.declared.mode.Mode.TheVariants as mode
use Rattle.ruby_tokens.specs.Literals.{IsSymbol, symbol_word, symbol_ending, symbol_operator, EndsSymbol, NotInterface, is_mark, is_ending, operators}
use Rattle.ruby_tokens.specs.Machine.{step, lexer, between, with_token}
use Rattle.ruby_tokens.specs.Reads.{reads}
use Rattle.ruby_tokens.proofs.Characters.{one_byte, at_more, bool_cases, mark_plain, no_ending, upper_name, ending_mark}
use Rattle.ruby_tokens.proofs.Runs.{Stops, stops, run_read, goes, same_step, same_end}

module _ (tokens : List Token) (start : ℕ) where
  -- where a symbol's name ends
  word_ends : (text : List ℕ) (at : ℕ) (rest : List ℕ) → Stops is_name_character rest → EndsSymbol rest
      → reads (lexer tokens (mode.SymbolWord start text)) at rest ≡ reads (lexer (with_token tokens (kind.Symbol text) start at) between) at rest
  word_ends text at [] s e = same_end (lexer tokens (mode.SymbolWord start text)) (lexer (with_token tokens (kind.Symbol text) start at) between) at refl
  word_ends text at (c ∷ cs) s e = same_step (lexer tokens (mode.SymbolWord start text)) (lexer (with_token tokens (kind.Symbol text) start at) between) at c cs (rw (s, no_ending c e, e))

  ending_ends : (text : List ℕ) (at : ℕ) (rest : List ℕ) → EndsSymbol rest
      → reads (lexer tokens (mode.SymbolEnding start text)) at rest ≡ reads (lexer (with_token tokens (kind.Symbol text) start at) between) at rest
  ending_ends text at [] e = same_end (lexer tokens (mode.SymbolEnding start text)) (lexer (with_token tokens (kind.Symbol text) start at) between) at refl
  ending_ends text at (c ∷ cs) e = same_step (lexer tokens (mode.SymbolEnding start text)) (lexer (with_token tokens (kind.Symbol text) start at) between) at c cs (rw e)

  operator_ends : (text : List ℕ) (at : ℕ) (rest : List ℕ) → Stops is_mark rest → is_among text operators ≡ true
      → reads (lexer tokens (mode.SymbolOperator start text)) at rest ≡ reads (lexer (with_token tokens (kind.Symbol text) start at) between) at rest
  operator_ends text at [] s e = same_end (lexer tokens (mode.SymbolOperator start text)) (lexer (with_token tokens (kind.Symbol text) start at) between) at (rw e)
  operator_ends text at (c ∷ cs) s e = same_step (lexer tokens (mode.SymbolOperator start text)) (lexer (with_token tokens (kind.Symbol text) start at) between) at c cs (rw (s, e))

  -- an underscore that no capital follows begins a name
  under_read : {w cs rest : List ℕ} (at : ℕ) → Run is_name_character w cs rest → NotInterface 95 w
      → reads (lexer tokens (mode.Under start)) at cs ≡ reads (lexer tokens (mode.SymbolWord start (encode_utf8 95))) at cs
  under_read at run_ends h = same_end (lexer tokens (mode.Under start)) (lexer tokens (mode.SymbolWord start (encode_utf8 95))) at refl
  under_read at (run_stops {c = c} {cs = cs} s) h = same_step (lexer tokens (mode.Under start)) (lexer tokens (mode.SymbolWord start (encode_utf8 95))) at c cs (rw (upper_name c s))
  under_read at (run_goes {c = c} {cs = cs} s r) h = same_step (lexer tokens (mode.Under start)) (lexer tokens (mode.SymbolWord start (encode_utf8 95))) at c cs (rw h)

  colon_step : (at c : ℕ) → starts_word c ≡ true → (c == 95) ≡ false → step tokens (mode.Colon start) at c ≡ Some (lexer tokens (mode.SymbolWord start (encode_utf8 c)))
  colon_step at c e f = rw (e, f)

  -- the first character of a name
  first_read : {w cs rest : List ℕ} (at c : ℕ) → starts_word c ≡ true → Run is_name_character w cs rest → NotInterface c w
      → reads (lexer tokens (mode.Colon start)) at (c ∷ cs) ≡ reads (lexer tokens (mode.SymbolWord start (encode_utf8 c))) (at + length (encode_utf8 c)) cs
  first_read {w = w} {cs = cs} at c s r h = bool_cases (c == 95)
      (λ e. let is : c ≡ 95 = eqb-true c 95 e in
      subst (λ d. reads (lexer tokens (mode.Colon start)) at (d ∷ cs) ≡ reads (lexer tokens (mode.SymbolWord start (encode_utf8 d))) (at + length (encode_utf8 d)) cs) (sym is)
      (goes (lexer tokens (mode.Colon start)) (lexer tokens (mode.Under start)) at 95 cs refl
      ∙ under_read (at + length (encode_utf8 95)) r (subst (λ d. NotInterface d w) is h)))
      (λ e. goes (lexer tokens (mode.Colon start)) (lexer tokens (mode.SymbolWord start (encode_utf8 c))) at c cs (colon_step at c s e))

  body_read : {w cs rest : List ℕ} (text t : List ℕ) (at n : ℕ) → Run is_name_character w cs rest → t ≡ text ++ encode_utf8_all w → n ≡ at + width w
      → reads (lexer tokens (mode.SymbolWord start text)) at cs ≡ reads (lexer tokens (mode.SymbolWord start t)) n rest
  body_read text t at n r e f = run_read is_name_character (λ text. mode.SymbolWord start text) tokens (λ text at c p. rw p) text t at n r e f

  -- the mark at the end of a name
  mark_read : (text : List ℕ) (at d : ℕ) (rest : List ℕ) → is_name_character d ≡ false → is_ending d ≡ true → EndsSymbol rest
      → reads (lexer tokens (mode.SymbolWord start text)) at (d ∷ rest) ≡ reads (lexer (with_token tokens (kind.Symbol (text ++ encode_utf8 d)) start (at + length (encode_utf8 d))) between) (at + length (encode_utf8 d)) rest
  mark_read text at d rest s i e =
      goes (lexer tokens (mode.SymbolWord start text)) (lexer tokens (mode.SymbolEnding start (text ++ encode_utf8 d))) at d rest (rw (s, i))
      ∙ ending_ends (text ++ encode_utf8 d) (at + length (encode_utf8 d)) rest e

  operator_read : {w cs rest : List ℕ} (text t : List ℕ) (at n : ℕ) → Run is_mark w cs rest → t ≡ text ++ encode_utf8_all w → n ≡ at + width w
      → reads (lexer tokens (mode.SymbolOperator start text)) at cs ≡ reads (lexer tokens (mode.SymbolOperator start t)) n rest
  operator_read text t at n r e f = run_read is_mark (λ text. mode.SymbolOperator start text) tokens (λ text at c p. rw p) text t at n r e f

  operator_step : (at c : ℕ) → is_mark c ≡ true → step tokens (mode.Colon start) at c ≡ Some (lexer tokens (mode.SymbolOperator start (encode_utf8 c)))
  operator_step at c e = let plain = mark_plain c e in rw (plain.1, plain.0, e)

-- marks are their own bytes
pub marks_bytes : {w cs rest : List ℕ} → Run is_mark w cs rest → encode_utf8_all w ≡ w
marks_bytes run_ends = refl
marks_bytes (run_stops e) = refl
marks_bytes (run_goes {c = c} {w = w} e r) = ap (λ t. t ++ encode_utf8_all w) (mark_plain c e).2 ∙ ap (λ t. c ∷ t) (marks_bytes r)

module _ (tokens : List Token) (start : ℕ) where
  pub symbol_read : {v cs rest : List ℕ} {n : ℕ} (at m : ℕ) → IsSymbol v n cs rest → m ≡ at + n
      → reads (lexer tokens (mode.Colon start)) at cs ≡ reads (lexer (with_token tokens (kind.Symbol (encode_utf8_all v)) start m) between) m rest
  symbol_read at m (symbol_word {c = c} {w = w} {cs = cs} {rest = rest} s r h e) f =
      first_read tokens start at c s r h
      ∙ body_read tokens start (encode_utf8 c) (encode_utf8_all (c ∷ w)) (at + length (encode_utf8 c)) m r refl (at_more at m w c f)
      ∙ word_ends tokens start (encode_utf8_all (c ∷ w)) m rest (stops r) e
  symbol_read at m (symbol_ending {c = c} {d = d} {w = w} {cs = cs} {rest = rest} s r h i e) f =
      let before : ℕ = at + width (c ∷ w) in
      let one : length (encode_utf8 d) ≡ 1 = one_byte d (ending_mark d i) in
      let end : before + length (encode_utf8 d) ≡ m = omega (arith, one, f) in
      let name : encode_utf8_all (c ∷ w) ++ encode_utf8 d ≡ encode_utf8_all ((c ∷ w) ++ d ∷ []) = ap (λ t. encode_utf8_all (c ∷ w) ++ t) (sym (append-nil (encode_utf8 d))) ∙ sym (encodes-append (c ∷ w) (d ∷ [])) in
      first_read tokens start at c s r h
      ∙ body_read tokens start (encode_utf8 c) (encode_utf8_all (c ∷ w)) (at + length (encode_utf8 c)) before r refl (at_more at before w c refl)
      ∙ mark_read tokens start (encode_utf8_all (c ∷ w)) before d rest (stops r) i e
      ∙ ap (λ k. reads (lexer (with_token tokens (kind.Symbol (encode_utf8_all (c ∷ w) ++ encode_utf8 d)) start k) between) k rest) end
      ∙ ap (λ t. reads (lexer (with_token tokens (kind.Symbol t) start m) between) m rest) name
  symbol_read at m (symbol_operator run_ends o) f = cc
  symbol_read at m (symbol_operator (run_stops s) o) f = cc
  symbol_read at m (symbol_operator {rest = rest} (run_goes {c = c} {w = w} {cs = cs} s r) o) f =
      goes (lexer tokens (mode.Colon start)) (lexer tokens (mode.SymbolOperator start (encode_utf8 c))) at c cs (operator_step tokens start at c s)
      ∙ operator_read tokens start (encode_utf8 c) (encode_utf8_all (c ∷ w)) (at + length (encode_utf8 c)) m r refl (at_more at m w c f)
      ∙ operator_ends tokens start (encode_utf8_all (c ∷ w)) m rest (stops r) (subst (λ t. is_among t operators ≡ true) (sym (marks_bytes (run_goes s r))) o)
