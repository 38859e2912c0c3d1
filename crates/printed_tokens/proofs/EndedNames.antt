-- Names end where no character of a name follows.
use Rattle.std.proofs.Common.{ℕ, ◌≡◌, ◌≤◌, true, not, refl, sym, subst, List, [], ◌∷◌, ◌++◌, length, inl, inr, arith}
use Rattle.std.specs.Prelude.{◌⊎◌, nat_lt}
use Rattle.std.specs.Char.{IsScalar, is_ascii_uppercase}
use Rattle.source_text.specs.Characters.{is_name_character, starts_word}
use Rattle.rbs_lexer.specs.declared.token.TokenKind.{TokenKind}
use Rattle.rbs_lexer.specs.declared.token.TokenKind.TheVariants as kind
use Rattle.rbs_lexer.specs.declared.pieces.Run.TheVariants as run
use Rattle.rbs_lexer.specs.Pieces.{IsCharacter}
use Rattle.rbs_lexer.specs.Names.{IsNameRest, IsLower, IsUpper, IsWord, starts_lower}
use Rattle.rbs_lexer.specs.Kinds.{IsToken, IsMark}
use Rattle.rbs_lexer.specs.Longest.{BeginsWith}
use Rattle.rbs_lexer.specs.Scanned.{NoPiece}
use Rattle.rbs_lexer.proofs.Bytes.{and_true}
use Rattle.rbs_lexer.proofs.FirstBytes.{upper_name, upper_scalar, behind_word, behind_at, mark_short}
use Rattle.printed_tokens.specs.Pieces.{ends_name}
use Rattle.printed_tokens.proofs.Ended.{not_false, front_character, no_character, run_most, begins_behind}

-- ---- words

upper_ascii : (c : ℕ) → is_ascii_uppercase c ≡ true → nat_lt c 128 ≡ true
upper_ascii c e = grind arith

lower_ascii : (c : ℕ) → starts_lower c ≡ true → nat_lt c 128 ≡ true
lower_ascii c e = grind arith

lower_scalar : (c : ℕ) → starts_lower c ≡ true → IsScalar c
lower_scalar c e = grind arith

lower_name : (c : ℕ) → starts_lower c ≡ true → is_name_character c ≡ true
lower_name c e = grind arith

lower_starts : (c : ℕ) → starts_lower c ≡ true → starts_word c ≡ true
lower_starts c e = grind arith

upper_starts : (c : ℕ) → is_ascii_uppercase c ≡ true → starts_word c ≡ true
upper_starts c e = grind arith

-- the first character of a word goes on with names too
pub lower_rest : (w : List ℕ) → IsLower w → IsNameRest w
lower_rest [] h = absurd h
lower_rest (c ∷ v) h = front_character is_name_character c v (lower_ascii c h.0) (lower_scalar c h.0) (lower_name c h.0) h.1

upper_rest : (w : List ℕ) → IsUpper w → IsNameRest w
upper_rest [] h = absurd h
upper_rest (c ∷ v) h = front_character is_name_character c v (upper_ascii c h.0) (upper_scalar c h.0) (upper_name c h.0) h.1

pub word_rest : (w : List ℕ) → IsWord w → IsNameRest w
word_rest w (inl h) = lower_rest w h
word_rest w (inr h) = upper_rest w h

-- a byte that ends names begins no character of one
pub no_name : (b : ℕ) (rest : List ℕ) → ends_name b ≡ true → NoPiece (IsCharacter is_name_character) (b ∷ rest)
no_name b rest e = let both = and_true (nat_lt b 128) (not (is_name_character b)) e in no_character is_name_character b rest both.0 (not_false (is_name_character b) both.1)

module _ (b : ℕ) (rest : List ℕ) (f : ends_name b ≡ true) where
  word_ended : (k : TokenKind) (c : ℕ) (v : List ℕ) → starts_word c ≡ true → IsToken k (c ∷ v) → BeginsWith k (length (c ∷ v)) ((c ∷ v) ++ b ∷ rest)
  word_ended k c v s is =
      begins_behind k c v (b ∷ rest) is (λ j x others p e. run_most run.Name v x (b ∷ rest) others (behind_word c s k v is) (behind_word c s j x p) (no_name b rest f) e)

  pub lower_ended : (w : List ℕ) → IsToken kind.Ident w → BeginsWith kind.Ident (length w) (w ++ b ∷ rest)
  lower_ended [] h = absurd h
  lower_ended (c ∷ v) h = word_ended kind.Ident c v (lower_starts c h.0) h

  pub upper_ended : (w : List ℕ) → IsToken kind.Upper w → BeginsWith kind.Upper (length w) (w ++ b ∷ rest)
  upper_ended [] h = absurd h
  upper_ended (c ∷ v) h = word_ended kind.Upper c v (upper_starts c h.0) h

  underscore : (c : ℕ) → c ≡ 95 → starts_word c ≡ true
  underscore c e = rw e refl

  pub interface_ended : (w : List ℕ) → IsToken kind.IfaceName w → BeginsWith kind.IfaceName (length w) (w ++ b ∷ rest)
  interface_ended [] h = absurd h
  interface_ended (c ∷ v) h = word_ended kind.IfaceName c v (underscore c h.0) h

  some : (v : List ℕ) → IsLower v → 1 ≤ length v
  some [] h = absurd h
  some (c ∷ v) h = omega arith

  variable_at : (v : List ℕ) → IsLower v → BeginsWith kind.Ivar (length (64 ∷ v)) ((64 ∷ v) ++ b ∷ rest)
  variable_at v h = begins_behind kind.Ivar 64 v (b ∷ rest) (refl, h) (λ j x others p e. at_most x others (behind_at j x p) e)
    where
      at_most : (x others : List ℕ) → IsLower x ⊎ IsMark (64 ∷ x) → v ++ b ∷ rest ≡ x ++ others → length x ≤ length v
      at_most x others (inl p) e = run_most run.Name v x (b ∷ rest) others (lower_rest v h) (lower_rest x p) (no_name b rest f) e
      at_most x others (inr m) e = let short : length x ≤ 1 = mark_short 64 x m in omega (arith, some v h)

  pub variable_ended : (w : List ℕ) → IsToken kind.Ivar w → BeginsWith kind.Ivar (length w) (w ++ b ∷ rest)
  variable_ended [] h = absurd h
  variable_ended (c ∷ v) h = subst (λ c. BeginsWith kind.Ivar (length (c ∷ v)) ((c ∷ v) ++ b ∷ rest)) (sym h.0) (variable_at v h.1)
