-- The lexer on words.
use Rattle.std.proofs.Common.{ℕ, ◌≡◌, ◌+◌, refl, ◌∙◌, List, [], ◌∷◌, ◌++◌}
use Rattle.std.specs.Prelude.{encode_utf8_all}
use Rattle.source_text.specs.Characters.{width, Run, is_name_character}
use Rattle.ruby_tokens.specs.declared.token.Token.{Token}
use Rattle.ruby_tokens.specs.declared.mode.Mode.TheVariants as mode
use Rattle.ruby_tokens.specs.Words.{word_kind}
use Rattle.ruby_tokens.specs.Machine.{lexer, between, with_token}
use Rattle.ruby_tokens.specs.Reads.{reads}
use Rattle.ruby_tokens.proofs.Runs.{Stops, stops, run_read, same_step, same_end}

word_ends : (tokens : List Token) (start : ℕ) (text : List ℕ) (at : ℕ) (rest : List ℕ) → Stops is_name_character rest
    → reads (lexer tokens (mode.Word start text)) at rest ≡ reads (lexer (with_token tokens (word_kind text) start at) between) at rest
word_ends tokens start text at [] s = same_end (lexer tokens (mode.Word start text)) (lexer (with_token tokens (word_kind text) start at) between) at refl
word_ends tokens start text at (c ∷ cs) s = same_step (lexer tokens (mode.Word start text)) (lexer (with_token tokens (word_kind text) start at) between) at c cs (rw s)

pub word_read : {w cs rest : List ℕ} (tokens : List Token) (start : ℕ) (text t : List ℕ) (at n : ℕ) → Run is_name_character w cs rest → t ≡ text ++ encode_utf8_all w → n ≡ at + width w
    → reads (lexer tokens (mode.Word start text)) at cs ≡ reads (lexer (with_token tokens (word_kind t) start n) between) n rest
word_read {rest = rest} tokens start text t at n r e f =
    run_read is_name_character (λ text. mode.Word start text) tokens (λ text at c p. rw p) text t at n r e f ∙ word_ends tokens start t n rest (stops r)
