-- A text writes one program.
use Rattle.std.proofs.Common.{◌≡◌, ℕ, List, sym, subst}
use Rattle.ruby_tokens.specs.declared.token.Token.{Token}
use Rattle.ruby_tokens.specs.Tokens.{IsDivided}
use Rattle.ruby_reader.specs.PlainTree.{PlainProgram}
use Rattle.ruby_reader.specs.Grammar.{IsWritten, IsRuby}
use Rattle.ruby_reader.proofs.Files.{written_once}

pub ruby_once : (bytes : List ℕ) → ((ts us : List Token) → IsDivided ts bytes → IsDivided us bytes → ts ≡ us) → (p q : PlainProgram) → IsRuby p bytes → IsRuby q bytes → p ≡ q
ruby_once bytes once p q f g = written_once f.tokens p q f.written f.low (subst (IsWritten q) (once g.tokens f.tokens g.divided f.divided) g.written) g.low
