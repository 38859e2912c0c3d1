-- The names of methods: words with the mark that ends them, and operators.
use Rattle.std.proofs.Common.{ℕ, suc, ◌+◌, ◌<◌, ◌≤◌, ◌≡◌, refl, sym, ◌∙◌, ap, subst, Bool, true, false, List, [], ◌∷◌, ◌++◌, length, get_or, append-nil, inl, inr, arith}
use Rattle.std.specs.Prelude.{◌⊎◌, ◌==◌, ◌&&◌, ◌||◌, not, nat_lt}
use Rattle.std.specs.Char.{IsScalar, encode_utf8, is_ascii_uppercase}
use Rattle.std.proofs.lemmas.Bool.{cases_lt}
use Rattle.std.proofs.lemmas.Str.{inside_one}
use Rattle.source_text.specs.Characters.{is_name_character, starts_word}
use Rattle.rbs_lexer.specs.Pieces.{Repeated, repeated_none, repeated_more, IsCharacter}
use Rattle.rbs_lexer.specs.Names.{IsUpper, IsLower, IsNameRest, IsWord, IsEndedWord, IsMethodName, is_ending, starts_lower, operators}
use Rattle.rbs_lexer.specs.declared.token.TokenKind.TheVariants as token
use Rattle.rbs_lexer.proofs.Bytes.{ascii, bool_cases, or_cases}
use Rattle.rbs_lexer.proofs.Listed.{Each, among_each}
use Rattle.printed_tokens.specs.Pieces.{Piece, blank, tok, first_byte, ends_name, Apart}
use Rattle.printed_tokens.specs.Layout.{word, stem, ending, operator_pieces, method_pieces}
use Rattle.printed_signatures.proofs.NamesApart.{lower_apart, upper_apart}

-- ---- no byte of a word ends the name of a method

abbrev pub Unended : List ℕ → Type 0
Unended [] = Unit {0}
Unended (b ∷ w) = (is_ending b ≡ false) × Unended w

unended_append : (v w : List ℕ) → Unended v → Unended w → Unended (v ++ w)
unended_append [] w h i = i
unended_append (b ∷ v) w h i = (h.0, unended_append v w h.1 i)

high_unended : (w : List ℕ) → ((k : ℕ) → k < length w → 128 ≤ get_or w k 0) → Unended w
high_unended [] h = tt
high_unended (b ∷ w) h = (no_ending b (h 0 (omega arith)), high_unended w (λ k below. h (suc k) (omega arith)))
  where
    no_ending : (b : ℕ) → 128 ≤ b → is_ending b ≡ false
    no_ending b h = grind arith

name_no_ending : (c : ℕ) → nat_lt c 128 ≡ true → is_name_character c ≡ true → is_ending c ≡ false
name_no_ending c small name =
    bool_cases (c == 63) (λ t. absurd (clash (ap is_name_character (sym (same c 63 t)) ∙ name))) (λ e.
    bool_cases (c == 33) (λ t. absurd (clash (ap is_name_character (sym (same c 33 t)) ∙ name))) (λ f.
    bool_cases (c == 61) (λ t. absurd (clash (ap is_name_character (sym (same c 61 t)) ∙ name))) (λ g. rw (e, f, g) refl)))
  where
    same : (b c : ℕ) → (b == c) ≡ true → b ≡ c
    same b c e = grind arith

    clash : false ≡ true → ⊥
    clash e = cc

not_small : (c n : ℕ) → nat_lt c 128 ≡ false → c ≡ n → n < 128 → ⊥
not_small c n e f h = grind arith

character_unended : (x : List ℕ) → IsCharacter is_name_character x → Unended x
character_unended x (c, s, p, e) =
    subst Unended (sym e) (bool_cases (nat_lt c 128)
    (λ t. subst Unended (sym (ascii c t)) (name_no_ending c t p, tt))
    (λ f. high_unended (encode_utf8 c) (λ k below. elim (cases_lt (get_or (encode_utf8 c) k 0) 128) [
      | inl low ↦ absurd (not_small c (get_or (encode_utf8 c) k 0) f (inside_one c [] (encode_utf8 c) k (sym (append-nil _)) below low) low)
      | inr h ↦ h
    ])))

rest_unended : (w : List ℕ) → IsNameRest w → Unended w
rest_unended w repeated_none = tt
rest_unended w (repeated_more {x = x} {w = v} p r e) = subst Unended (sym e) (unended_append x v (character_unended x p) (rest_unended v r))

upper_no_ending : (b : ℕ) → is_ascii_uppercase b ≡ true → is_ending b ≡ false
upper_no_ending b e = grind arith

lower_no_ending : (b : ℕ) → starts_lower b ≡ true → is_ending b ≡ false
lower_no_ending b e = grind arith

pub word_unended : (w : List ℕ) → IsWord w → Unended w
word_unended [] (inl h) = absurd h
word_unended [] (inr h) = absurd h
word_unended (b ∷ w) (inl h) = (lower_no_ending b h.0, rest_unended w h.1)
word_unended (b ∷ w) (inr h) = (upper_no_ending b h.0, rest_unended w h.1)

-- ---- the stem and the ending

pub stem_of_word : (w : List ℕ) → Unended w → stem w ≡ w
stem_of_word [] h = refl
stem_of_word (b ∷ []) h = rw h.0 refl
stem_of_word (b ∷ c ∷ w) h = ap (λ v. b ∷ v) (stem_of_word (c ∷ w) h.1)

pub ending_of_word : (w : List ℕ) → Unended w → ending w ≡ []
ending_of_word [] h = refl
ending_of_word (b ∷ []) h = rw h.0 refl
ending_of_word (b ∷ c ∷ w) h = ending_of_word (c ∷ w) h.1

pub stem_of_ended : (w : List ℕ) (b : ℕ) → is_ending b ≡ true → stem (w ++ b ∷ []) ≡ w
stem_of_ended [] b e = rw e refl
stem_of_ended (a ∷ []) b e = rw e refl
stem_of_ended (a ∷ c ∷ w) b e = ap (λ v. a ∷ v) (stem_of_ended (c ∷ w) b e)

pub ending_of_ended : (w : List ℕ) (b : ℕ) → is_ending b ≡ true → ending (w ++ b ∷ []) ≡ tok token.Mark (b ∷ []) ∷ []
ending_of_ended [] b e = rw e refl
ending_of_ended (a ∷ []) b e = rw e refl
ending_of_ended (a ∷ c ∷ w) b e = ending_of_ended (c ∷ w) b e

starts_upper : (b : ℕ) → is_ascii_uppercase b ≡ true → starts_word b ≡ true
starts_upper b e = grind arith

starts_small : (b : ℕ) → starts_lower b ≡ true → starts_word b ≡ true
starts_small b e = grind arith

-- a name that begins with a word is its stem and its ending
pub word_pieces : (w v : List ℕ) → IsWord w → method_pieces (w ++ v) ≡ word (stem (w ++ v)) ∷ ending (w ++ v)
word_pieces [] v (inl h) = absurd h
word_pieces [] v (inr h) = absurd h
word_pieces (b ∷ w) v (inl h) = rw (starts_small b h.0) refl
word_pieces (b ∷ w) v (inr h) = rw (starts_upper b h.0) refl

pub plain_name : (w : List ℕ) → IsWord w → method_pieces w ≡ word w ∷ []
plain_name w h =
    let u = word_unended w h in
    ap method_pieces (sym (append-nil w)) ∙ word_pieces w [] h ∙ ap (λ v. word (stem v) ∷ ending v) (append-nil w) ∙ ap (λ v. word v ∷ ending w) (stem_of_word w u) ∙ ap (λ r. word w ∷ r) (ending_of_word w u)

pub ended_name : (w : List ℕ) (b : ℕ) → IsWord w → is_ending b ≡ true → method_pieces (w ++ b ∷ []) ≡ word w ∷ tok token.Mark (b ∷ []) ∷ []
ended_name w b h e =
    word_pieces w (b ∷ []) h ∙ ap (λ v. word v ∷ ending (w ++ b ∷ [])) (stem_of_ended w b e) ∙ ap (λ r. word w ∷ r) (ending_of_ended w b e)

-- ---- told apart

word_apart : (w : List ℕ) → IsWord w → (ps : List Piece) (b : ℕ) → ends_name (first_byte ps b) ≡ true → Apart ps b → Apart (word w ∷ ps) b
word_apart w (inl h) ps b e i = lower_apart w h ps b e i
word_apart w (inr h) ps b e i = upper_apart w h ps b e i

-- what stands behind the name of a method
abbrev pub is_behind_name : ℕ → Bool
is_behind_name b = b == 58 || b == 32 || b == 10

same_byte : (b c : ℕ) → (b == c) ≡ true → b ≡ c
same_byte b c e = grind arith

module _ (P : ℕ → Type 0) where
  behind_cases : P 58 → P 32 → P 10 → (b : ℕ) → is_behind_name b ≡ true → P b
  behind_cases x y z b e =
      or_cases (b == 58 || b == 32) (b == 10) e (λ f. or_cases (b == 58) (b == 32) f (λ t. subst P (sym (same_byte b 58 t)) x) (λ t. subst P (sym (same_byte b 32 t)) y)) (λ t. subst P (sym (same_byte b 10 t)) z)

  ending_cases : P 63 → P 33 → P 61 → (b : ℕ) → is_ending b ≡ true → P b
  ending_cases x y z b e =
      or_cases (b == 63 || b == 33) (b == 61) e (λ f. or_cases (b == 63) (b == 33) f (λ t. subst P (sym (same_byte b 63 t)) x) (λ t. subst P (sym (same_byte b 33 t)) y)) (λ t. subst P (sym (same_byte b 61 t)) z)

abbrev OperatorApart : ℕ → List ℕ → Type 0
OperatorApart b w = Apart (method_pieces w) b

each_operator : (b : ℕ) → is_behind_name b ≡ true → Each (OperatorApart b) operators
each_operator b e =
    behind_cases (λ b. Each (OperatorApart b) operators)
    ((refl, tt, refl, tt), ((refl, tt, refl, tt), ((refl, tt, refl, tt), ((refl, tt, refl, tt), ((refl, tt, refl, tt), ((refl, tt, refl, (refl, tt, refl, tt)), ((refl, tt, refl, tt), ((refl, tt, refl, (refl, tt, refl, tt)), ((refl, tt, refl, tt), ((refl, tt, refl, (refl, tt, refl, tt)), ((refl, tt, refl, (refl, tt, refl, (refl, tt, refl, tt))), ((refl, tt, refl, (refl, tt, refl, tt)), ((refl, tt, refl, (refl, tt, refl, tt)), ((refl, tt, refl, (refl, tt, refl, (refl, tt, refl, tt))), ((refl, tt, refl, (refl, tt, refl, tt)), tt)))))))))))))))
    ((refl, tt, refl, tt), ((refl, tt, refl, tt), ((refl, tt, refl, tt), ((refl, tt, refl, tt), ((refl, tt, refl, tt), ((refl, tt, refl, (refl, tt, refl, tt)), ((refl, tt, refl, tt), ((refl, tt, refl, (refl, tt, refl, tt)), ((refl, tt, refl, tt), ((refl, tt, refl, (refl, tt, refl, tt)), ((refl, tt, refl, (refl, tt, refl, (refl, tt, refl, tt))), ((refl, tt, refl, (refl, tt, refl, tt)), ((refl, tt, refl, (refl, tt, refl, tt)), ((refl, tt, refl, (refl, tt, refl, (refl, tt, refl, tt))), ((refl, tt, refl, (refl, tt, refl, tt)), tt)))))))))))))))
    ((refl, tt, refl, tt), ((refl, tt, refl, tt), ((refl, tt, refl, tt), ((refl, tt, refl, tt), ((refl, tt, refl, tt), ((refl, tt, refl, (refl, tt, refl, tt)), ((refl, tt, refl, tt), ((refl, tt, refl, (refl, tt, refl, tt)), ((refl, tt, refl, tt), ((refl, tt, refl, (refl, tt, refl, tt)), ((refl, tt, refl, (refl, tt, refl, (refl, tt, refl, tt))), ((refl, tt, refl, (refl, tt, refl, tt)), ((refl, tt, refl, (refl, tt, refl, tt)), ((refl, tt, refl, (refl, tt, refl, (refl, tt, refl, tt))), ((refl, tt, refl, (refl, tt, refl, tt)), tt))))))))))))))) b e

pub method_apart : (w : List ℕ) → IsMethodName w → (b : ℕ) → is_behind_name b ≡ true → Apart (method_pieces w) b
method_apart w (inl (inl h)) b e = subst (λ ps. Apart ps b) (sym (plain_name w h)) (word_apart w h [] b (behind_cases (λ b. ends_name b ≡ true) refl refl refl b e) tt)
method_apart w (inl (inr (v, c, h, f, g))) b e =
    subst (λ w. Apart (method_pieces w) b) (sym g) (subst (λ ps. Apart ps b) (sym (ended_name v c h f))
    (word_apart v h (tok token.Mark (c ∷ []) ∷ []) b (ending_cases (λ c. ends_name c ≡ true) refl refl refl c f) (ending_cases (λ c. Apart (tok token.Mark (c ∷ []) ∷ []) b) (refl, tt, refl, tt) (refl, tt, refl, tt) (refl, tt, refl, tt) c f)))
method_apart w (inr h) b e = among_each (OperatorApart b) w operators (each_operator b e) h
