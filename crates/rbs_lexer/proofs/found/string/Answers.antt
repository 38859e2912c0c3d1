use Rattle.std.proofs.Common.{ℕ, ◌≡◌, ◌+◌, ◌∷◌, ◌∙◌, sym, subst, arith}
use Rattle.rbs_lexer.specs.declared.token.TokenKind.TheVariants as kind
use Rattle.rbs_lexer.specs.Longest.{BeginsWith}
use Rattle.rbs_lexer.specs.Scanned.{Finds}
use Rattle.rbs_lexer.proofs.FirstTokens.{string_token, no_string_token}
use Rattle.rbs_lexer.proofs.found.string.Goals as goal

two : (n : ℕ) → 1 + (n + 1) ≡ n + 2
two n = omega arith

pub returns-then-byte_at-eq34 : goal.returns-then-byte_at-eq34
returns-then-byte_at-eq34 c =
    subst (Finds (34 ∷ c.args.rest.now)) (sym c.of_kind.ensures)
    (subst (λ n. BeginsWith kind.Str n (34 ∷ c.args.rest.now)) (two c.run_length-text.result) (string_token c.args.rest.now c.run_length-text.result c.run_length-text.ensures (sym c.byte_at.ensures ∙ c.if-byte_at-eq34.true)))

pub returns-else-byte_at-eq34 : goal.returns-else-byte_at-eq34
returns-else-byte_at-eq34 c = no_string_token c.args.rest.now c.run_length-text.result c.run_length-text.ensures (λ e. c.if-byte_at-eq34.false (c.byte_at.ensures ∙ e))
