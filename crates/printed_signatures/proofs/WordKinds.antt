-- The terminals that words are.
use Rattle.std.proofs.Common.{ℕ, ◌≡◌, refl, ◌∙◌, ap, true, false, List, [], ◌∷◌, Option, Some, None, arith}
use Rattle.std.specs.Prelude.{◌==◌, IfSome}
use Rattle.std.specs.Char.{is_ascii_uppercase}
use Rattle.rbs_lexer.specs.declared.token.TokenKind.TheVariants as token_kind
use Rattle.rbs_lexer.specs.Names.{IsUpper, IsLower, IsInterfaceName, IsNameRest, starts_lower}
use Rattle.source_text.specs.Characters.{is_name_character}
use Rattle.rbs_lexer.proofs.Bytes.{bool_cases}
use Rattle.rbs_lexer.proofs.NameFronts.{repeated_tail, upper_ascii}
use Rattle.rbs_terminals.specs.declared.token.Keyword.{Keyword}
use Rattle.rbs_terminals.specs.declared.token.Kind.TheVariants as kind
use Rattle.rbs_terminals.specs.Kinds.{kind_at, word_kind, lower_of}
use Rattle.rbs_terminals.specs.Keywords.{keyword_of, keyword_text}
use Rattle.rbs_terminals.proofs.Words.{found_text}
use Rattle.printed_tokens.specs.Layout.{word_token}

-- ---- the kind of token

upper_token : (b : ℕ) (w : List ℕ) → is_ascii_uppercase b ≡ true → word_token (b ∷ w) ≡ token_kind.Upper
upper_token b w e = rw e

pub token_of_upper : (w : List ℕ) → IsUpper w → word_token w ≡ token_kind.Upper
token_of_upper [] h = absurd h
token_of_upper (b ∷ w) h = upper_token b w h.0

underscore_token : (c : ℕ) (w : List ℕ) → is_ascii_uppercase c ≡ true → word_token (95 ∷ c ∷ w) ≡ token_kind.IfaceName
underscore_token c w e = rw e

pub token_of_interface : (w : List ℕ) → IsInterfaceName w → word_token w ≡ token_kind.IfaceName
token_of_interface [] h = absurd h
token_of_interface (b ∷ []) h = absurd h.1
token_of_interface (b ∷ c ∷ w) h = ap (λ b. word_token (b ∷ c ∷ w)) h.0 ∙ underscore_token c w h.1.0

lower_no_upper : (b : ℕ) → starts_lower b ≡ true → is_ascii_uppercase b ≡ false
lower_no_upper b e = grind arith

other_token : (b : ℕ) (w : List ℕ) → is_ascii_uppercase b ≡ false → (b == 95) ≡ false → word_token (b ∷ w) ≡ token_kind.Ident
other_token b w e f = rw (e, f)

alone_token : (b : ℕ) → is_ascii_uppercase b ≡ false → word_token (b ∷ []) ≡ token_kind.Ident
alone_token b e = bool_cases (b == 95) (λ t. rw (e, t)) (λ f. rw (e, f))

behind_token : (b c : ℕ) (w : List ℕ) → is_ascii_uppercase b ≡ false → is_ascii_uppercase c ≡ false → word_token (b ∷ c ∷ w) ≡ token_kind.Ident
behind_token b c w e f = bool_cases (b == 95) (λ t. rw (e, t, f)) (λ n. rw (e, n))

is_underscore : (b : ℕ) → (b == 95) ≡ true → b ≡ 95
is_underscore b e = grind arith

interface_at : (b c : ℕ) (w : List ℕ) → b ≡ 95 → is_ascii_uppercase c ≡ true → IsNameRest (c ∷ w) → IsInterfaceName (b ∷ c ∷ w)
interface_at b c w e u r = (e, (u, repeated_tail is_name_character c w (c ∷ w) (upper_ascii c u) r refl))

pub token_of_lower : (w : List ℕ) → IsLower w → word_token w ≡ token_kind.Ident
token_of_lower [] h = absurd h
token_of_lower (b ∷ []) h = alone_token b (lower_no_upper b h.0)
token_of_lower (b ∷ c ∷ w) h =
    let none : is_ascii_uppercase b ≡ false = lower_no_upper b h.0 in
    bool_cases (is_ascii_uppercase c)
    (λ u. bool_cases (b == 95) (λ t. absurd (h.2 (interface_at b c w (is_underscore b t) u h.1))) (λ f. other_token b (c ∷ w) none f)) (λ f. behind_token b c w none f)

-- ---- the terminal

pub upper_word : (w : List ℕ) → IsUpper w → kind_at (word_token w) w ≡ kind.Upper w
upper_word w h = ap (λ k. kind_at k w) (token_of_upper w h)

pub interface_word : (w : List ℕ) → IsInterfaceName w → kind_at (word_token w) w ≡ kind.Interface w
interface_word w h = ap (λ k. kind_at k w) (token_of_interface w h)

pub small_word : (w : List ℕ) → IsLower w → keyword_of w ≡ None → kind_at (word_token w) w ≡ kind.Lower w
small_word w h e = ap (λ k. kind_at k w) (token_of_lower w h) ∙ ap (word_kind w) e

kept_word : (w : List ℕ) (r : Option Keyword) → IfSome r (λ k. keyword_text k ≡ w) → lower_of (word_kind w r) ≡ Some w
kept_word w None h = refl
kept_word w (Some k) h = ap Some h

-- a small word may be a keyword, and is a name even so
pub lower_word : (w : List ℕ) → IsLower w → lower_of (kind_at (word_token w) w) ≡ Some w
lower_word w h = ap (λ k. lower_of (kind_at k w)) (token_of_lower w h) ∙ kept_word w (keyword_of w) (found_text w (keyword_of w) refl)
