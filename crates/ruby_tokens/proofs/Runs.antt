-- The lexer on characters that pass a test.
use Rattle.std.proofs.Common.{ℕ, ◌≡◌, ◌+◌, Bool, true, false, ◌∙◌, ap, List, [], ◌∷◌, ◌++◌, length, Some}
use Rattle.std.specs.Prelude.{encode_utf8_all, option_and_then}
use Rattle.std.specs.Char.{encode_utf8}
use Rattle.source_text.specs.Characters.{width, Run, run_ends, run_stops, run_goes}
use Rattle.ruby_tokens.specs.declared.token.Token.{Token}
use Rattle.ruby_tokens.specs.declared.mode.Mode.{Mode}
use Rattle.ruby_tokens.specs.declared.mode.Lexer.{Lexer}
use Rattle.ruby_tokens.specs.Machine.{step, ends, lexer}
use Rattle.ruby_tokens.specs.Reads.{reads}
use Rattle.ruby_tokens.proofs.Characters.{text_more, text_none, at_more, at_none}

-- no character that passes the test follows
abbrev pub Stops : (ℕ → Bool) → List ℕ → Type 0
Stops p [] = Unit {0}
Stops p (c ∷ cs) = p c ≡ false

pub stops : {p : ℕ → Bool} {w cs rest : List ℕ} → Run p w cs rest → Stops p rest
stops run_ends = tt
stops (run_stops e) = e
stops (run_goes e r) = stops r

-- a step that leads to a known state
pub goes : (l m : Lexer) (at c : ℕ) (cs : List ℕ) → step l.tokens l.mode at c ≡ Some m → reads l at (c ∷ cs) ≡ reads m (at + length (encode_utf8 c)) cs
unfolding reads
goes l m at c cs e = ap (option_and_then (λ m. reads m (at + length (encode_utf8 c)) cs)) e

-- two states that do the same at a character
pub same_step : (l m : Lexer) (at c : ℕ) (cs : List ℕ) → step l.tokens l.mode at c ≡ step m.tokens m.mode at c → reads l at (c ∷ cs) ≡ reads m at (c ∷ cs)
unfolding reads
same_step l m at c cs e = ap (option_and_then (λ m. reads m (at + length (encode_utf8 c)) cs)) e

-- two states that do the same wherever the text ends, and at whatever follows
pub same_end : (l m : Lexer) (at : ℕ) → ends l.tokens l.mode at ≡ ends m.tokens m.mode at → reads l at [] ≡ reads m at []
unfolding reads
same_end l m at e = e

-- a mode that keeps the characters that pass
module _ (p : ℕ → Bool) (M : List ℕ → Mode) (tokens : List Token)
    (keeps : (text : List ℕ) (at c : ℕ) → p c ≡ true → step tokens (M text) at c ≡ Some (lexer tokens (M (text ++ encode_utf8 c)))) where
  pub run_read : {w cs rest : List ℕ} (text t : List ℕ) (at n : ℕ) → Run p w cs rest → t ≡ text ++ encode_utf8_all w → n ≡ at + width w
      → reads (lexer tokens (M text)) at cs ≡ reads (lexer tokens (M t)) n rest
  run_read text t at n run_ends e f = rw (text_none text t e, at_none at n f)
  run_read text t at n (run_stops s) e f = rw (text_none text t e, at_none at n f)
  run_read text t at n (run_goes {c = c} {w = w} {cs = cs} s r) e f =
      goes (lexer tokens (M text)) (lexer tokens (M (text ++ encode_utf8 c))) at c cs (keeps text at c s)
      ∙ run_read (text ++ encode_utf8 c) t (at + length (encode_utf8 c)) n r (text_more text w t c e) (at_more at n w c f)
