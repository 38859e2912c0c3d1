-- The lexer on strings.
use Rattle.std.proofs.Common.{ℕ, ◌≡◌, ◌+◌, true, refl, ◌∙◌, ap, List, [], ◌∷◌, ◌++◌, length, Some, arith}
use Rattle.std.specs.Prelude.{encode_utf8_all, ◌==◌, not}
use Rattle.std.specs.Char.{encode_utf8}
use Rattle.ruby_tokens.specs.declared.token.Token.{Token}
use Rattle.ruby_tokens.specs.declared.token.Kind.TheVariants as kind
use Rattle.ruby_tokens.specs.declared.mode.Mode.TheVariants as mode
use Rattle.ruby_tokens.specs.Literals.{Single, single_end, single_plain, single_quote, single_backslash, single_other, is_single_plain, Double, double_end, double_plain, double_hash, double_escape, is_double_plain, IsEscape, escape_newline, escape_tab, escape_quote, escape_backslash, escape_hash, NoBrace}
use Rattle.ruby_tokens.specs.Machine.{step, lexer, between, with_token, escaped}
use Rattle.ruby_tokens.specs.Reads.{reads}
use Rattle.ruby_tokens.proofs.Characters.{one_byte, width_one, text_more, text_none, and_true, not_false, not_equal}
use Rattle.ruby_tokens.proofs.Runs.{goes, same_step, same_end}

single_step : (tokens : List Token) (start : ℕ) (text : List ℕ) (at c : ℕ) → is_single_plain c ≡ true → step tokens (mode.Single start text) at c ≡ Some (lexer tokens (mode.Single start (text ++ encode_utf8 c)))
single_step tokens start text at c e = let both = and_true (not (c == 39)) (not (c == 92)) e in rw (not_false (c == 39) both.0, not_false (c == 92) both.1)

escape_step : (tokens : List Token) (start : ℕ) (text : List ℕ) (at c : ℕ) → is_single_plain c ≡ true
    → step tokens (mode.SingleEscape start text) at c ≡ Some (lexer tokens (mode.Single start ((text ++ encode_utf8 92) ++ encode_utf8 c)))
escape_step tokens start text at c e = let both = and_true (not (c == 39)) (not (c == 92)) e in rw (not_false (c == 39) both.0, not_false (c == 92) both.1)

module _ (tokens : List Token) (start : ℕ) where
  pub single_read : {v cs rest : List ℕ} {n : ℕ} (text t : List ℕ) (at m : ℕ) → Single v n cs rest → t ≡ text ++ encode_utf8_all v → m ≡ at + n
      → reads (lexer tokens (mode.Single start text)) at cs ≡ reads (lexer (with_token tokens (kind.Text t) start m) between) m rest
  single_read text t at m (single_end {rest = rest}) e f =
      rw (text_none text t e, f) (goes (lexer tokens (mode.Single start text)) (lexer (with_token tokens (kind.Text text) start (at + 1)) between) at 39 rest refl
      ∙ ap (λ n. reads (lexer (with_token tokens (kind.Text text) start (at + 1)) between) (at + n) rest) (one_byte 39 refl))
  single_read text t at m (single_plain {c = c} {v = v} {cs = cs} p d k) e f =
      goes (lexer tokens (mode.Single start text)) (lexer tokens (mode.Single start (text ++ encode_utf8 c))) at c cs (single_step tokens start text at c p)
      ∙ single_read (text ++ encode_utf8 c) t (at + length (encode_utf8 c)) m d (text_more text v t c e) (omega (arith, width_one c))
  single_read text t at m (single_quote {v = v} {cs = cs} d) e f =
      goes (lexer tokens (mode.Single start text)) (lexer tokens (mode.SingleEscape start text)) at 92 (39 ∷ cs) refl
      ∙ goes (lexer tokens (mode.SingleEscape start text)) (lexer tokens (mode.Single start (text ++ encode_utf8 39))) (at + length (encode_utf8 92)) 39 cs refl
      ∙ single_read (text ++ encode_utf8 39) t ((at + length (encode_utf8 92)) + length (encode_utf8 39)) m d (text_more text v t 39 e) (omega (arith, one_byte 92 refl, one_byte 39 refl))
  single_read text t at m (single_backslash {v = v} {cs = cs} d) e f =
      goes (lexer tokens (mode.Single start text)) (lexer tokens (mode.SingleEscape start text)) at 92 (92 ∷ cs) refl
      ∙ goes (lexer tokens (mode.SingleEscape start text)) (lexer tokens (mode.Single start (text ++ encode_utf8 92))) (at + length (encode_utf8 92)) 92 cs refl
      ∙ single_read (text ++ encode_utf8 92) t ((at + length (encode_utf8 92)) + length (encode_utf8 92)) m d (text_more text v t 92 e) (omega (arith, one_byte 92 refl))
  single_read text t at m (single_other {c = c} {v = v} {cs = cs} p d k) e f =
      goes (lexer tokens (mode.Single start text)) (lexer tokens (mode.SingleEscape start text)) at 92 (c ∷ cs) refl
      ∙ goes (lexer tokens (mode.SingleEscape start text)) (lexer tokens (mode.Single start ((text ++ encode_utf8 92) ++ encode_utf8 c))) (at + length (encode_utf8 92)) c cs (escape_step tokens start text (at + length (encode_utf8 92)) c p)
      ∙ single_read ((text ++ encode_utf8 92) ++ encode_utf8 c) t ((at + length (encode_utf8 92)) + length (encode_utf8 c)) m d (text_more (text ++ encode_utf8 92) v t c (text_more text (c ∷ v) t 92 e)) (omega (arith, one_byte 92 refl, width_one c))

double_step : (tokens : List Token) (start : ℕ) (text : List ℕ) (at c : ℕ) → is_double_plain c ≡ true → step tokens (mode.Double start text) at c ≡ Some (lexer tokens (mode.Double start (text ++ encode_utf8 c)))
double_step tokens start text at c e =
    let all = and_true _ (not (c == 35)) e in
    let both = and_true (not (c == 34)) (not (c == 92)) all.0 in
    rw (not_false (c == 34) both.0, not_false (c == 92) both.1, not_false (c == 35) all.1)

escape_is : {c d : ℕ} → IsEscape c d → escaped c ≡ Some d
escape_is escape_newline = refl
escape_is escape_tab = refl
escape_is escape_quote = refl
escape_is escape_backslash = refl
escape_is escape_hash = refl

pub escape_one : {c d : ℕ} → IsEscape c d → length (encode_utf8 c) ≡ 1
escape_one escape_newline = one_byte 110 refl
escape_one escape_tab = one_byte 116 refl
escape_one escape_quote = one_byte 34 refl
escape_one escape_backslash = one_byte 92 refl
escape_one escape_hash = one_byte 35 refl

double_escape_step : (tokens : List Token) (start : ℕ) (text : List ℕ) (at c d : ℕ) → escaped c ≡ Some d
    → step tokens (mode.DoubleEscape start text) at c ≡ Some (lexer tokens (mode.Double start (text ++ encode_utf8 d)))
double_escape_step tokens start text at c d e = rw e

module _ (tokens : List Token) (start : ℕ) where
  hash_read : (text : List ℕ) (at : ℕ) (cs : List ℕ) → NoBrace cs → reads (lexer tokens (mode.DoubleHash start text)) at cs ≡ reads (lexer tokens (mode.Double start text)) at cs
  hash_read text at [] h = same_end (lexer tokens (mode.DoubleHash start text)) (lexer tokens (mode.Double start text)) at refl
  hash_read text at (c ∷ cs) h = same_step (lexer tokens (mode.DoubleHash start text)) (lexer tokens (mode.Double start text)) at c cs (rw (not_equal c 123 h))

  pub double_read : {v cs rest : List ℕ} {n : ℕ} (text t : List ℕ) (at m : ℕ) → Double v n cs rest → t ≡ text ++ encode_utf8_all v → m ≡ at + n
      → reads (lexer tokens (mode.Double start text)) at cs ≡ reads (lexer (with_token tokens (kind.Text t) start m) between) m rest
  double_read text t at m (double_end {rest = rest}) e f =
      rw (text_none text t e, f) (goes (lexer tokens (mode.Double start text)) (lexer (with_token tokens (kind.Text text) start (at + 1)) between) at 34 rest refl
      ∙ ap (λ n. reads (lexer (with_token tokens (kind.Text text) start (at + 1)) between) (at + n) rest) (one_byte 34 refl))
  double_read text t at m (double_plain {c = c} {v = v} {cs = cs} p d k) e f =
      goes (lexer tokens (mode.Double start text)) (lexer tokens (mode.Double start (text ++ encode_utf8 c))) at c cs (double_step tokens start text at c p)
      ∙ double_read (text ++ encode_utf8 c) t (at + length (encode_utf8 c)) m d (text_more text v t c e) (omega (arith, width_one c))
  double_read text t at m (double_hash {v = v} {cs = cs} h d) e f =
      goes (lexer tokens (mode.Double start text)) (lexer tokens (mode.DoubleHash start (text ++ encode_utf8 35))) at 35 cs refl
      ∙ hash_read (text ++ encode_utf8 35) (at + length (encode_utf8 35)) cs h
      ∙ double_read (text ++ encode_utf8 35) t (at + length (encode_utf8 35)) m d (text_more text v t 35 e) (omega (arith, one_byte 35 refl))
  double_read text t at m (double_escape {c = c} {d = meant} {v = v} {cs = cs} i d) e f =
      goes (lexer tokens (mode.Double start text)) (lexer tokens (mode.DoubleEscape start text)) at 92 (c ∷ cs) refl
      ∙ goes (lexer tokens (mode.DoubleEscape start text)) (lexer tokens (mode.Double start (text ++ encode_utf8 meant))) (at + length (encode_utf8 92)) c cs (double_escape_step tokens start text (at + length (encode_utf8 92)) c meant (escape_is i))
      ∙ double_read (text ++ encode_utf8 meant) t ((at + length (encode_utf8 92)) + length (encode_utf8 c)) m d (text_more text v t meant e) (omega (arith, one_byte 92 refl, escape_one i))
