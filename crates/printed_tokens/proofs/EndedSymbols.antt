-- Symbols end where nothing goes on with the name of a method.
use Rattle.std.proofs.Common.{ℕ, ◌≡◌, ◌+◌, ◌<◌, ◌≤◌, Bool, true, false, not, refl, sym, ◌∙◌, ap, subst, List, [], ◌∷◌, ◌++◌, length, get_or, append_assoc, append-nil, inl, inr, arith, length-append}
use Rattle.std.specs.Prelude.{◌==◌, ◌||◌, ◌⊎◌, nat_lt}
use Rattle.std.specs.Char.{encode_utf8, is_ascii_uppercase}
use Rattle.std.proofs.Math.Seq.{get_or-append_seam}
use Rattle.std.proofs.lemmas.Bool.{eqb-true}
use Rattle.std.proofs.lemmas.List.{get_or_append_left}
use Rattle.source_text.specs.Characters.{is_name_character}
use Rattle.rbs_lexer.specs.declared.token.TokenKind.TheVariants as kind
use Rattle.rbs_lexer.specs.declared.pieces.Run.TheVariants as run
use Rattle.rbs_lexer.specs.Pieces.{IsCharacter, repeated_none, repeated_more}
use Rattle.rbs_lexer.specs.Names.{IsNameRest, IsWord, IsOperator, IsMethodName, operators, starts_lower, is_ending}
use Rattle.rbs_lexer.specs.Kinds.{IsToken, IsMark}
use Rattle.rbs_lexer.specs.Longest.{BeginsWith}
use Rattle.rbs_lexer.specs.Scanned.{NoPiece}
use Rattle.rbs_lexer.proofs.Bytes.{and_true, or_cases, bool_cases, not_true}
use Rattle.rbs_lexer.proofs.Listed.{Each, among_each}
use Rattle.rbs_lexer.proofs.FirstBytes.{clash, behind_colon, mark_short}
use Rattle.rbs_lexer.proofs.Operators.{operator_of, operator_longest, no_word}
use Rattle.rbs_printer.specs.Texts.{ends_in_word, is_sign}
use Rattle.rbs_printer.proofs.Joined.{last_of_word}
use Rattle.printed_tokens.specs.Pieces.{ends_symbol}
use Rattle.printed_tokens.proofs.Ended.{not_false, no_character, run_most, begins_behind}
use Rattle.printed_tokens.proofs.EndedNames.{word_rest}

-- ---- the last byte of a word

sign_no_letter : (c : ℕ) → is_sign c ≡ true → is_name_character c ≡ false
sign_no_letter c e =
    or_cases _ _ e (λ e. or_cases _ _ e (λ e. or_cases _ _ e (λ e. or_cases _ _ e (λ e. or_cases _ _ e (λ e. or_cases _ _ e (λ e. or_cases _ _ e (λ e. or_cases _ _ e (λ e. or_cases _ _ e (λ e. or_cases _ _ e (λ e. or_cases _ _ e (at 33 c refl) (at 37 c refl)) (at 42 c refl)) (at 43 c refl)) (at 45 c refl)) (at 47 c refl)) (at 60 c refl)) (at 61 c refl)) (at 62 c refl)) (at 63 c refl)) (at 64 c refl)) (at 93 c refl)
  where
    at : (n c : ℕ) → is_name_character n ≡ false → (c == n) ≡ true → is_name_character c ≡ false
    at n c h e = subst (λ c. is_name_character c ≡ false) (sym (eqb-true c n e)) h

letter_no_sign : (c : ℕ) → is_name_character c ≡ true → is_sign c ≡ false
letter_no_sign c e = not_true (is_sign c) (λ s. clash (sym (sign_no_letter c s) ∙ e))

high_no_sign : (b : ℕ) → 128 ≤ b → is_sign b ≡ false
high_no_sign b l = grind arith

ends_so : (front : List ℕ) (last : ℕ) → is_sign last ≡ false → ends_in_word (front ++ last ∷ []) ≡ true
ends_so front last f = last_of_word front last ∙ ap not f

two_behind : (front : List ℕ) (a b : ℕ) → 128 ≤ b → ends_in_word (front ++ a ∷ b ∷ []) ≡ true
two_behind front a b l = ap ends_in_word (sym (append_assoc front (a ∷ []) (b ∷ []))) ∙ ends_so (front ++ a ∷ []) b (high_no_sign b l)

three_behind : (front : List ℕ) (a b c : ℕ) → 128 ≤ c → ends_in_word (front ++ a ∷ b ∷ c ∷ []) ≡ true
three_behind front a b c l = ap ends_in_word (sym (append_assoc front (a ∷ b ∷ []) (c ∷ []))) ∙ ends_so (front ++ a ∷ b ∷ []) c (high_no_sign c l)

four_behind : (front : List ℕ) (a b c d : ℕ) → 128 ≤ d → ends_in_word (front ++ a ∷ b ∷ c ∷ d ∷ []) ≡ true
four_behind front a b c d l = ap ends_in_word (sym (append_assoc front (a ∷ b ∷ c ∷ []) (d ∷ []))) ∙ ends_so (front ++ a ∷ b ∷ c ∷ []) d (high_no_sign d l)

character_ends : (front : List ℕ) (c : ℕ) → is_name_character c ≡ true → ends_in_word (front ++ encode_utf8 c) ≡ true
unfolding encode_utf8
character_ends front c h =
    bool_cases (nat_lt c 128) (λ t. rw t (ends_so front c (letter_no_sign c h)))
    (λ f. bool_cases (nat_lt c 2048) (λ t. rw (f, t) (two_behind front _ _ (omega arith)))
    (λ g. bool_cases (nat_lt c 65536) (λ t. rw (f, g, t) (three_behind front _ _ _ (omega arith))) (λ h. rw (f, g, h) (four_behind front _ _ _ _ (omega arith)))))

rest_ends : {w : List ℕ} (front : List ℕ) → IsNameRest w → ends_in_word front ≡ true → ends_in_word (front ++ w) ≡ true
rest_ends front repeated_none e = ap ends_in_word (append-nil front) ∙ e
rest_ends {w = v} front (repeated_more {x = x} {w = w} (c, s, h, f) r g) e =
    let here : ends_in_word (front ++ x) ≡ true = ap (λ x. ends_in_word (front ++ x)) f ∙ character_ends front c h in
    ap ends_in_word (ap (λ v. front ++ v) g ∙ sym (append_assoc front x w)) ∙ rest_ends (front ++ x) r here

word_ends : (w : List ℕ) → IsWord w → ends_in_word (58 ∷ w) ≡ true
word_ends w h = rest_ends (58 ∷ []) (word_rest w h) refl

-- ---- what stands behind a symbol

-- it goes on with no operator, and with no name
abbrev NoMore : ℕ → Type 0
NoMore b = (nat_lt b 128 ≡ true) × (is_name_character b ≡ false) × ((b == 60) ≡ false) × ((b == 61) ≡ false) × ((b == 62) ≡ false) × ((b == 64) ≡ false)

at_byte : (n b : ℕ) → NoMore n → (b == n) ≡ true → NoMore b
at_byte n b h e = subst NoMore (sym (eqb-true b n e)) h

no_more : (w : List ℕ) (b : ℕ) → ends_symbol w b ≡ true → NoMore b
no_more w b e =
    or_cases _ _ e
    (λ e. or_cases _ _ e
    (λ e. or_cases _ _ e
    (λ e. or_cases _ _ e (λ e. or_cases _ _ e (at_byte 32 b (refl, refl, refl, refl, refl, refl)) (at_byte 10 b (refl, refl, refl, refl, refl, refl))) (at_byte 41 b (refl, refl, refl, refl, refl, refl))) (at_byte 93 b (refl, refl, refl, refl, refl, refl))) (at_byte 44 b (refl, refl, refl, refl, refl, refl)))
    (λ e. at_byte 63 b (refl, refl, refl, refl, refl, refl) (and_true (b == 63) (not (ends_in_word w)) e).0)

-- behind a word no mark that would end its name
no_ending : (w : List ℕ) (b : ℕ) → ends_symbol w b ≡ true → ends_in_word w ≡ true → is_ending b ≡ false
no_ending w b e f =
    or_cases _ _ e (λ e. plain b e) (λ e. absurd (clash (sym (not_false (ends_in_word w) (and_true (b == 63) (not (ends_in_word w)) e).1) ∙ f)))
  where
    plain : (b : ℕ) → ((b == 32 || b == 10 || b == 41 || b == 93 || b == 44)) ≡ true → is_ending b ≡ false
    plain b e = grind arith

-- ---- operators

abbrev Ended : List ℕ → Type 0
Ended w = (b : ℕ) (rest : List ℕ) → (b == 60) ≡ false → (b == 61) ≡ false → (b == 62) ≡ false → (b == 64) ≡ false → operator_of (w ++ b ∷ rest) ≡ length w

operators_ended : Each Ended operators
operators_ended = (
  λ b r k l m n. refl,
  (
    λ b r k l m n. rw n refl,
    (
      λ b r k l m n. refl,
      (
        λ b r k l m n. refl,
        (
          λ b r k l m n. refl,
          (
            λ b r k l m n. refl,
            (
              λ b r k l m n. rw (l, k) refl,
              (
                λ b r k l m n. rw m refl,
                (
                  λ b r k l m n. rw l refl,
                  (
                    λ b r k l m n. refl,
                    (
                      λ b r k l m n. refl,
                      (
                        λ b r k l m n. refl,
                        (
                          λ b r k l m n. rw l refl,
                          (λ b r k l m n. refl, (λ b r k l m n. refl, tt)),
                        ),
                      ),
                    ),
                  ),
                ),
              ),
            ),
          ),
        ),
      ),
    ),
  ),
)

operator_most : (v x : List ℕ) (b : ℕ) (rest others : List ℕ) → NoMore b → IsOperator v → IsOperator x → v ++ b ∷ rest ≡ x ++ others → length x ≤ length v
operator_most v x b rest others h o p e =
    let is : operator_of (v ++ b ∷ rest) ≡ length v = among_each Ended v operators operators_ended o b rest h.2 h.3 h.4 h.5 in
    let less : length x ≤ operator_of (v ++ b ∷ rest) = (operator_longest (v ++ b ∷ rest)).longest x others p e in
    omega (arith, is, less)

-- ---- words and operators begin differently

begins_word : ℕ → Bool
begins_word b = starts_lower b || is_ascii_uppercase b

word_some : (w : List ℕ) → IsWord w → 0 < length w
word_some [] (inl h) = absurd h
word_some [] (inr h) = absurd h
word_some (b ∷ w) h = omega arith

either_true : (x y : Bool) → (x ≡ true) ⊎ (y ≡ true) → (x || y) ≡ true
either_true true y h = refl
either_true false y (inl e) = absurd (clash e)
either_true false y (inr e) = e

word_first : (w : List ℕ) → IsWord w → begins_word (get_or w 0 0) ≡ true
unfolding begins_word
word_first [] (inl h) = absurd h
word_first [] (inr h) = absurd h
word_first (b ∷ w) (inl h) = either_true (starts_lower b) (is_ascii_uppercase b) (inl h.0)
word_first (b ∷ w) (inr h) = either_true (starts_lower b) (is_ascii_uppercase b) (inr h.0)

other_first : (u v w rest : List ℕ) → IsWord u → IsOperator w → u ++ v ≡ w ++ rest → ⊥
unfolding begins_word
other_first u v w rest h o e =
    let other = no_word w o in
    let same : get_or u 0 0 ≡ get_or w 0 0 = sym (get_or_append_left u v 0 0 (word_some u h)) ∙ ap (λ b. get_or b 0 0) e ∙ get_or_append_left w rest 0 0 other.0 in
    let is : begins_word (get_or w 0 0) ≡ true = subst (λ b. begins_word b ≡ true) same (word_first u h) in
    let fails : begins_word (get_or w 0 0) ≡ false = other.1 in
    clash (sym fails ∙ is)

-- ---- names of methods

-- a word and its ending, and what stands behind them
ended_split : (w x : List ℕ) (c : ℕ) (rest : List ℕ) → x ≡ w ++ c ∷ [] → x ++ rest ≡ w ++ (c ∷ rest)
ended_split w x c rest e = ap (λ x. x ++ rest) e ∙ append_assoc w (c ∷ []) rest

ended_length : (w x : List ℕ) (c : ℕ) → x ≡ w ++ c ∷ [] → length x ≡ length w + 1
ended_length w x c e = ap length e ∙ length-append w (c ∷ [])

ending_plain : (c : ℕ) → is_ending c ≡ true → (nat_lt c 128 ≡ true) × (is_name_character c ≡ false)
ending_plain c e = or_cases _ _ e (λ e. or_cases _ _ e (at 63 (refl, refl)) (at 33 (refl, refl))) (at 61 (refl, refl))
  where
    at : (n : ℕ) → (nat_lt n 128 ≡ true) × (is_name_character n ≡ false) → (c == n) ≡ true → (nat_lt c 128 ≡ true) × (is_name_character c ≡ false)
    at n h e = subst (λ c. (nat_lt c 128 ≡ true) × (is_name_character c ≡ false)) (sym (eqb-true c n e)) h

no_name_at : (b : ℕ) (rest : List ℕ) → (nat_lt b 128 ≡ true) → (is_name_character b ≡ false) → NoPiece (IsCharacter is_name_character) (b ∷ rest)
no_name_at b rest a f = no_character is_name_character b rest a f

word_most : (v x : List ℕ) (b : ℕ) (rest others : List ℕ) → nat_lt b 128 ≡ true → is_name_character b ≡ false → IsWord v → IsWord x → v ++ b ∷ rest ≡ x ++ others → length x ≤ length v
word_most v x b rest others a f h p e = run_most run.Name v x (b ∷ rest) others (word_rest v h) (word_rest x p) (no_name_at b rest a f) e

-- a byte behind two fronts of the same length is one byte
same_byte : (v w : List ℕ) (b c : ℕ) (rest others : List ℕ) → length w ≡ length v → v ++ b ∷ rest ≡ w ++ c ∷ others → b ≡ c
same_byte v w b c rest others l e =
    sym (get_or-append_seam v b rest 0) ∙ ap (λ s. get_or s (length v) 0) e ∙ ap (λ n. get_or (w ++ c ∷ others) n 0) (sym l) ∙ get_or-append_seam w c others 0

module _ (v : List ℕ) (b : ℕ) (rest : List ℕ) (f : ends_symbol (58 ∷ v) b ≡ true) where
  behind : NoMore b
  behind = no_more (58 ∷ v) b f

  behind_plain_word : IsWord v → (x others : List ℕ) → IsMethodName x → v ++ b ∷ rest ≡ x ++ others → length x ≤ length v
  behind_plain_word h x others (inl (inl p)) e = word_most v x b rest others behind.0 behind.1 h p e
  behind_plain_word h x others (inl (inr (w, c, p, g, k))) e =
      let split : v ++ b ∷ rest ≡ w ++ (c ∷ others) = e ∙ ended_split w x c others k in
      let less : length w ≤ length v = word_most v w b rest (c ∷ others) behind.0 behind.1 h p split in
      let differs : length w ≡ length v → ⊥ = λ l.
      clash (sym (no_ending (58 ∷ v) b f (word_ends v h)) ∙ ap is_ending (same_byte v w b c rest others l split) ∙ g) in
      omega (arith, less, differs, ended_length w x c k)
  behind_plain_word h x others (inr o) e = absurd (other_first v (b ∷ rest) x others h o e)

  behind_ended_word : (u : List ℕ) (a : ℕ) → IsWord u → is_ending a ≡ true → v ≡ u ++ a ∷ [] → (x others : List ℕ) → IsMethodName x → v ++ b ∷ rest ≡ x ++ others → length x ≤ length v
  behind_ended_word u a h g i x others p e = by p
    where
      split : u ++ (a ∷ b ∷ rest) ≡ x ++ others
      split = sym (ended_split u v a (b ∷ rest) i) ∙ e

      by : IsMethodName x → length x ≤ length v
      by (inl (inl p)) =
          let less : length x ≤ length u = word_most u x a (b ∷ rest) others (ending_plain a g).0 (ending_plain a g).1 h p split in
          omega (arith, less, ended_length u v a i)
      by (inl (inr (w, c, p, j, k))) =
          let less : length w ≤ length u = word_most u w a (b ∷ rest) (c ∷ others) (ending_plain a g).0 (ending_plain a g).1 h p (split ∙ ended_split w x c others k) in
          omega (arith, less, ended_length u v a i, ended_length w x c k)
      by (inr o) = absurd (other_first u (a ∷ b ∷ rest) x others h o split)

  behind_operator : IsOperator v → (x others : List ℕ) → IsMethodName x → v ++ b ∷ rest ≡ x ++ others → length x ≤ length v
  behind_operator h x others (inl (inl p)) e = absurd (other_first x others v (b ∷ rest) p h (sym e))
  behind_operator h x others (inl (inr (w, c, p, g, k))) e = absurd (other_first w (c ∷ others) v (b ∷ rest) p h (sym (e ∙ ended_split w x c others k)))
  behind_operator h x others (inr o) e = operator_most v x b rest others behind h o e

  name_most : IsMethodName v → (x others : List ℕ) → IsMethodName x → v ++ b ∷ rest ≡ x ++ others → length x ≤ length v
  name_most (inl (inl h)) = behind_plain_word h
  name_most (inl (inr (u, a, h, g, i))) = behind_ended_word u a h g i
  name_most (inr h) = behind_operator h

  some : IsMethodName v → 1 ≤ length v
  some (inl (inl h)) = let l = word_some v h in omega arith
  some (inl (inr (u, a, h, g, i))) = omega (arith, ended_length u v a i)
  some (inr h) = let l = (no_word v h).0 in omega arith

  pub symbol_at : IsMethodName v → BeginsWith kind.Sym (length (58 ∷ v)) ((58 ∷ v) ++ b ∷ rest)
  symbol_at h = begins_behind kind.Sym 58 v (b ∷ rest) (refl, h) (λ j x others p e. at_most x others (behind_colon j x p) e)
    where
      at_most : (x others : List ℕ) → IsMethodName x ⊎ IsMark (58 ∷ x) → v ++ b ∷ rest ≡ x ++ others → length x ≤ length v
      at_most x others (inl p) e = name_most h x others p e
      at_most x others (inr m) e = let short : length x ≤ 1 = mark_short 58 x m in omega (arith, some h)

pub symbol_ended : (w : List ℕ) (b : ℕ) (rest : List ℕ) → IsToken kind.Sym w → ends_symbol w b ≡ true → BeginsWith kind.Sym (length w) (w ++ b ∷ rest)
symbol_ended [] b rest h f = absurd h
symbol_ended (c ∷ v) b rest h f =
    subst (λ c. BeginsWith kind.Sym (length (c ∷ v)) ((c ∷ v) ++ b ∷ rest)) (sym h.0) (symbol_at v b rest (subst (λ c. ends_symbol (c ∷ v) b ≡ true) h.0 f) h.1)

-- the name of a method begins with no colon, blank or newline
abbrev pub NameFirst : List ℕ → Type 0
NameFirst [] = ⊥
NameFirst (c ∷ w) = (((c == 58) || (c == 32)) || (c == 10)) ≡ false

letter_first : (c : ℕ) → (starts_lower c || is_ascii_uppercase c) ≡ true → (((c == 58) || (c == 32)) || (c == 10)) ≡ false
letter_first c e = grind arith

word_first_byte : (w : List ℕ) → IsWord w → NameFirst w
word_first_byte [] (inl h) = h
word_first_byte [] (inr h) = h
word_first_byte (c ∷ w) (inl h) = letter_first c (either_true (starts_lower c) (is_ascii_uppercase c) (inl h.0))
word_first_byte (c ∷ w) (inr h) = letter_first c (either_true (starts_lower c) (is_ascii_uppercase c) (inr h.0))

longer_first : (w x : List ℕ) (b : ℕ) → x ≡ w ++ b ∷ [] → NameFirst w → NameFirst x
longer_first [] x b e h = absurd h
longer_first (c ∷ w) x b e h = subst NameFirst (sym e) h

operators_first : Each NameFirst operators
operators_first = (
  refl,
  (refl, (refl, (refl, (refl, (refl, (refl, (refl, (refl, (refl, (refl, (refl, (refl, (refl, (refl, tt)))))))))))))),
)

pub name_first : (w : List ℕ) → IsMethodName w → NameFirst w
name_first w (inl (inl h)) = word_first_byte w h
name_first x (inl (inr (w, b, h, g, e))) = longer_first w x b e (word_first_byte w h)
name_first w (inr o) = among_each NameFirst w operators operators_first o
