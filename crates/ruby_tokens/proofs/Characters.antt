-- Facts about single characters and their widths.
use Rattle.std.proofs.Common.{ℕ, ◌≡◌, ◌≢◌, ◌+◌, ◌-◌, ◌^◌, ◌≤◌, Bool, true, false, refl, sym, ◌∙◌, ap, subst, List, [], ◌∷◌, ◌++◌, length, append_assoc, arith}
use Rattle.std.specs.Prelude.{◌&&◌, ◌||◌, ◌==◌, not, nat_lt, codes, encode_utf8_all}
use Rattle.std.proofs.lemmas.List.{append-nil, length-append}
use Rattle.std.proofs.lemmas.Bool.{eqb-true}
use Rattle.std.specs.Char.{is_ascii_digit, is_ascii_uppercase, encode_utf8}
use Rattle.names.specs.Places.{is_among}
use Rattle.source_text.specs.Characters.{is_blank, is_name_character, starts_word, width}
use Rattle.ruby_tokens.specs.declared.starts.Sort.{Sort}
use Rattle.ruby_tokens.specs.declared.starts.Sort.TheVariants as sort
use Rattle.ruby_tokens.specs.Starts.{sort_of}
use Rattle.ruby_tokens.specs.Literals.{is_mark, is_ending}

pub ascii : (c : ℕ) → nat_lt c 128 ≡ true → encode_utf8 c ≡ c ∷ []
unfolding encode_utf8
ascii c e = rw e

pub one_byte : (c : ℕ) → nat_lt c 128 ≡ true → length (encode_utf8 c) ≡ 1
one_byte c e = ap length (ascii c e)

pub width_one : (c : ℕ) → width (c ∷ []) ≡ length (encode_utf8 c)
width_one c = ap length (append-nil (encode_utf8 c))

pub width_more : (c : ℕ) (w : List ℕ) → width (c ∷ w) ≡ length (encode_utf8 c) + width w
width_more c w = length-append (encode_utf8 c) (encode_utf8_all w)

pub text_more : (text w t : List ℕ) (c : ℕ) → t ≡ text ++ encode_utf8_all (c ∷ w) → t ≡ (text ++ encode_utf8 c) ++ encode_utf8_all w
text_more text w t c e = e ∙ sym (append_assoc text (encode_utf8 c) (encode_utf8_all w))

pub text_none : (text t : List ℕ) → t ≡ text ++ [] → t ≡ text
text_none text t e = e ∙ append-nil text

pub at_more : (at n : ℕ) (w : List ℕ) (c : ℕ) → n ≡ at + width (c ∷ w) → n ≡ (at + length (encode_utf8 c)) + width w
at_more at n w c e = omega (arith, e, width_more c w)

pub at_none : (at n : ℕ) → n ≡ at + 0 → n ≡ at
at_none at n e = omega arith

pub bool_cases : {P : Type 0} (b : Bool) → (b ≡ true → P) → (b ≡ false → P) → P
bool_cases true t f = t refl
bool_cases false t f = f refl

pub not_true : (b : Bool) → (b ≡ true → ⊥) → b ≡ false
not_true true h = absurd (h refl)
not_true false h = refl

pub not_equal : (c d : ℕ) → c ≢ d → (c == d) ≡ false
not_equal c d h = not_true (c == d) (λ e. h (eqb-true c d e))

pub or_false : (a b : Bool) → (a || b) ≡ false → (a ≡ false) × (b ≡ false)
or_false false b e = (refl, e)
or_false true b e = cc

pub and_true : (a b : Bool) → (a && b) ≡ true → (a ≡ true) × (b ≡ true)
and_true true b e = (refl, e)
and_true false b e = cc

pub not_false : (b : Bool) → not b ≡ true → b ≡ false
not_false false e = refl
not_false true e = cc

pub or_cases : {P : Type 0} (a b : Bool) → (a || b) ≡ true → (a ≡ true → P) → (b ≡ true → P) → P
or_cases true b e f g = f refl
or_cases false b e f g = g e

-- each of the names is one character, at which the fact holds
abbrev pub EachOne : (ℕ → Type 0) → List (List ℕ) → Type 0
EachOne P [] = Unit {0}
EachOne P ([] ∷ names) = ⊥
EachOne P ((k ∷ []) ∷ names) = P k × EachOne P names
EachOne P ((k ∷ l ∷ ls) ∷ names) = ⊥

-- a fact of each of some characters is one of a character among them
pub of_each : (P : ℕ → Type 0) (c : ℕ) (names : List (List ℕ)) → EachOne P names → is_among (c ∷ []) names ≡ true → P c
of_each P c [] h e = cc
of_each P c ([] ∷ names) h e = absurd h
of_each P c ((k ∷ l ∷ ls) ∷ names) h e = absurd h
of_each P c ((k ∷ []) ∷ names) h e =
    or_cases _ _ e (λ s. subst P (sym (eqb-true c k (and_true _ _ s).0)) h.0) (λ s. of_each P c names h.1 s)

abbrev IsAsciiSort : Sort → ℕ → Type 0
IsAsciiSort s c = (sort_of c ≡ s) × (nat_lt c 128 ≡ true)

pub sort_blank : (c : ℕ) → is_blank c ≡ true → IsAsciiSort sort.Blank c
sort_blank c e = or_cases _ _ e
    (λ f. or_cases _ _ f (λ g. subst (IsAsciiSort sort.Blank) (sym (eqb-true c 32 g)) (refl, refl)) (λ g. subst (IsAsciiSort sort.Blank) (sym (eqb-true c 9 g)) (refl, refl)))
    (λ f. subst (IsAsciiSort sort.Blank) (sym (eqb-true c 13 f)) (refl, refl))

pub sort_word : (c : ℕ) → starts_word c ≡ true → sort_of c ≡ sort.Word
sort_word c e = rw e

-- a digit that is no zero
pub sort_digit : (c : ℕ) → is_ascii_digit c ≡ true → (c == 48) ≡ false → sort_of c ≡ sort.Digit
sort_digit c e f = grind arith

pub digit_ascii : (c : ℕ) → is_ascii_digit c ≡ true → nat_lt c 128 ≡ true
digit_ascii c e = grind arith

pub word_ascii : (c : ℕ) → starts_word c ≡ true → nat_lt c 128 ≡ true
word_ascii c e = grind arith

abbrev marks : List (List ℕ)
marks = codes "+" ∷ codes "-" ∷ codes "*" ∷ codes "/" ∷ codes "%" ∷ codes "=" ∷ codes "<" ∷ codes ">" ∷ codes "[" ∷ codes "]" ∷ codes "@" ∷ codes "!" ∷ codes "?" ∷ codes "~" ∷ []

pub mark_plain : (c : ℕ) → is_mark c ≡ true → ((c == 95) ≡ false) × (starts_word c ≡ false) × (encode_utf8 c ≡ c ∷ [])
unfolding encode_utf8
mark_plain c e = of_each (λ c. ((c == 95) ≡ false) × (starts_word c ≡ false) × (encode_utf8 c ≡ c ∷ [])) c marks
    ((refl, refl, refl), ((refl, refl, refl), ((refl, refl, refl), ((refl, refl, refl), ((refl, refl, refl), ((refl, refl, refl), ((refl, refl, refl), ((refl, refl, refl), ((refl, refl, refl), ((refl, refl, refl), ((refl, refl, refl), ((refl, refl, refl), ((refl, refl, refl), ((refl, refl, refl), tt)))))))))))))) e

-- what no mark is, ends no name
clash : (c d : ℕ) → is_mark c ≡ false → c ≡ d → is_mark d ≡ true → ⊥
clash c d e i m = let f : is_mark d ≡ false = subst (λ k. is_mark k ≡ false) i e in cc

pub no_ending : (c : ℕ) → is_mark c ≡ false → is_ending c ≡ false
no_ending c e = not_true (is_ending c) (λ f. or_cases _ _ f
    (λ g. or_cases _ _ g (λ h. clash c 63 e (eqb-true c 63 h) refl) (λ h. clash c 33 e (eqb-true c 33 h) refl)) (λ g. clash c 61 e (eqb-true c 61 g) refl))

-- a capital goes on with a name
pub upper_name : (c : ℕ) → is_name_character c ≡ false → is_ascii_uppercase c ≡ false
upper_name c e = grind arith

-- the marks that end a name are ASCII
pub ending_mark : (c : ℕ) → is_ending c ≡ true → nat_lt c 128 ≡ true
ending_mark c e = grind arith

pub digit_small : (c : ℕ) → is_ascii_digit c ≡ true → c - 48 ≤ 2 ^ 63 - 1
digit_small c e = grind arith
