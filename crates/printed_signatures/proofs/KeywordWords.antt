-- Keywords are words.
use Rattle.std.specs.Prelude.{◌≡◌, refl, ℕ, Bool, true, false, ◌&&◌, nat_lt, List, [], ◌∷◌}
use Rattle.std.proofs.Common.{sym, arith}
use Rattle.std.specs.Char.{IsScalar}
use Rattle.source_text.specs.Characters.{is_name_character}
use Rattle.rbs_lexer.specs.Pieces.{Repeated, repeated_none, repeated_more, IsCharacter}
use Rattle.rbs_lexer.specs.Names.{IsLower, IsNameRest, IsInterfaceName}
use Rattle.rbs_lexer.proofs.Bytes.{ascii, and_true}
use Rattle.rbs_terminals.specs.declared.token.Keyword.{Keyword}
use Rattle.rbs_terminals.specs.declared.token.Keyword.TheVariants as keyword
use Rattle.rbs_terminals.specs.Keywords.{keyword_text}

abbrev pub all_plain : List ℕ → Bool
all_plain [] = true
all_plain (b ∷ w) = (nat_lt b 128 && is_name_character b) && all_plain w

scalar_of : (b : ℕ) → nat_lt b 128 ≡ true → IsScalar b
scalar_of b e = grind arith

pub name_rest : (w : List ℕ) → all_plain w ≡ true → IsNameRest w
name_rest [] e = repeated_none
name_rest (b ∷ w) e =
    let both = and_true (nat_lt b 128 && is_name_character b) (all_plain w) e in
    let first = and_true (nat_lt b 128) (is_name_character b) both.0 in
    repeated_more (b, scalar_of b first.0, first.1, sym (ascii b first.0)) (name_rest w both.1) refl

pub keyword_is_lower : (k : Keyword) → IsLower (keyword_text k)
keyword_is_lower keyword.Class = (refl, name_rest _ refl, λ h. absurd (omega (arith, h.0)))
keyword_is_lower _ = (refl, name_rest _ refl, λ h. absurd (omega (arith, h.0)))
