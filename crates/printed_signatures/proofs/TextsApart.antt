-- Printed integers, strings and words are tokens.
use Rattle.std.proofs.Common.{ℕ, suc, ◌+◌, ◌^◌, ◌<◌, ◌≤◌, ◌≡◌, refl, sym, ◌∙◌, ap, ap₂, subst, Bool, true, false, List, [], ◌∷◌, ◌++◌, length, get_or, append_assoc, append-nil, inl, inr, arith, ltb-true}
use Rattle.std.specs.Prelude.{◌⊎◌, ◌==◌, ◌&&◌, not, nat_lt, ℤ, pos, negsuc}
use Rattle.std.specs.List.{flat_map}
use Rattle.std.specs.Char.{IsScalar, is_ascii_digit, digit_value, encode_utf8}
use Rattle.std.specs.Str.Parse.{AllDigits}
use Rattle.std.specs.Fmt.{decimal, signed_decimal}
use Rattle.std.proofs.lemmas.Bool.{cases_lt}
use Rattle.std.proofs.lemmas.Fmt.{decimal_is_IsNumeral}
use Rattle.std.proofs.lemmas.Str.{inside_one}
use Rattle.std.proofs.lemmas.Str.Parse.{digit_from_value}
use Rattle.rbs_lexer.specs.Pieces.{Repeated, repeated_none, repeated_more, IsCharacter, IsStringPiece, is_plain}
use Rattle.rbs_lexer.specs.Integers.{IsDigits, IsNumber, IsInteger, value_from, Fits64}
use Rattle.rbs_lexer.specs.Kinds.{IsToken}
use Rattle.rbs_lexer.specs.declared.token.TokenKind.TheVariants as token
use Rattle.rbs_lexer.proofs.Bytes.{ascii, bool_cases}
use Rattle.rbs_printer.specs.Texts.{escaped, string_text}
use Rattle.printed_signatures.specs.Writable.{IsUtf8, Is64, any_character}
use Rattle.printed_signatures.proofs.Values.{decimal_value}

-- ---- integers

digit_is : (c : ℕ) → digit_value c < 10 → is_ascii_digit c ≡ true
digit_is c h = let k = digit_from_value c h in grind arith

digit_small : (c : ℕ) → is_ascii_digit c ≡ true → (nat_lt c 128 ≡ true) × IsScalar c
digit_small c e = (grind arith, grind arith)

digits_of : (ds : List ℕ) → AllDigits 10 ds → IsDigits ds
digits_of [] d = repeated_none
digits_of (c ∷ cs) d =
    let is = digit_is c d.0 in
    let small = digit_small c is in
    repeated_more (c, small.1, is, sym (ascii c small.0)) (digits_of cs d.1) refl

number_of : (ds : List ℕ) → 0 < length ds → AllDigits 10 ds → IsNumber ds
number_of [] l d = absurd (omega arith)
number_of (c ∷ cs) l d = (digit_is c d.0, digits_of cs d.1)

decimal_number : (n : ℕ) → n < 2 ^ 64 → IsNumber (decimal n)
decimal_number n h = let k = decimal_is_IsNumeral n h in number_of (decimal n) k.0.0 k.0.1

pub integer_is : (n : ℤ) → Is64 n → IsInteger (signed_decimal n)
integer_is (pos n) h = inl (decimal_number n (omega arith))
integer_is (negsuc n) h = inr (refl, decimal_number (suc n) (omega arith))

no_minus : (c : ℕ) → is_ascii_digit c ≡ true → (c == 45) ≡ false
no_minus c e = grind arith

number_fits : (ds : List ℕ) → IsNumber ds → value_from 0 ds < 2 ^ 63 → Fits64 ds
number_fits [] d h = tt
number_fits (c ∷ cs) d h = rw (no_minus c d.0) h

pub integer_fits : (n : ℤ) → Is64 n → Fits64 (signed_decimal n)
integer_fits (pos n) h = number_fits (decimal n) (decimal_number n (omega arith)) (omega (arith, decimal_value n (omega arith)))
integer_fits (negsuc n) h = omega (arith, decimal_value (suc n) (omega arith))

-- ---- strings

high_byte : (b : ℕ) → 128 ≤ b → escaped b ≡ b ∷ []
high_byte b h =
    let e : (b == 34) ≡ false = grind arith in
    let f : (b == 92) ≡ false = grind arith in
    let g : (b == 10) ≡ false = grind arith in
    let i : (b == 9) ≡ false = grind arith in
    rw (e, f, g, i) refl

high_bytes : (w : List ℕ) → ((k : ℕ) → k < length w → 128 ≤ get_or w k 0) → flat_map escaped w ≡ w
high_bytes [] h = refl
high_bytes (b ∷ w) h = ap₂ (λ (x y : List ℕ). x ++ y) (high_byte b (h 0 (omega arith))) (high_bytes w (λ k below. h (suc k) (omega arith)))

abbrev Written : List ℕ → Type 0
Written x = (w : List ℕ) → Repeated IsStringPiece w → Repeated IsStringPiece (flat_map escaped x ++ w)

plain_small : (c : ℕ) → (c == 34) ≡ false → (c == 92) ≡ false → is_plain c ≡ true
plain_small c e f = rw (e, f) refl

same_byte : (b c : ℕ) → (b == c) ≡ true → b ≡ c
same_byte b c e = grind arith

-- an ASCII character, alone or escaped
small_character : (c : ℕ) → nat_lt c 128 ≡ true → IsScalar c → (w : List ℕ) → Repeated IsStringPiece w → Repeated IsStringPiece (escaped c ++ w)
small_character c small s w r =
    let P : ℕ → Type 0 = λ c. Repeated IsStringPiece (escaped c ++ w) in
    bool_cases (c == 34) (λ t. subst P (sym (same_byte c 34 t)) (repeated_more (inr (34, refl, refl)) r refl)) (λ e.
    bool_cases (c == 92) (λ t. subst P (sym (same_byte c 92 t)) (repeated_more (inr (92, refl, refl)) r refl)) (λ f.
    bool_cases (c == 10) (λ t. subst P (sym (same_byte c 10 t)) (repeated_more (inr (110, refl, refl)) r refl)) (λ g.
    bool_cases (c == 9) (λ t. subst P (sym (same_byte c 9 t)) (repeated_more (inr (116, refl, refl)) r refl)) (λ h.
    let alone : escaped c ≡ c ∷ [] = rw (e, f, g, h) refl in
    repeated_more (inl (c, s, plain_small c e f, refl)) r (ap (λ x. x ++ w) (alone ∙ sym (ascii c small)))))))

not_small : (c n : ℕ) → nat_lt c 128 ≡ false → c ≡ n → n < 128 → ⊥
not_small c n e f h = grind arith

big_plain : (c : ℕ) → nat_lt c 128 ≡ false → is_plain c ≡ true
big_plain c e =
    let f : (c == 34) ≡ false = grind arith in
    let g : (c == 92) ≡ false = grind arith in
    rw (f, g) refl

big_character : (c : ℕ) → nat_lt c 128 ≡ false → IsScalar c → (w : List ℕ) → Repeated IsStringPiece w → Repeated IsStringPiece (flat_map escaped (encode_utf8 c) ++ w)
big_character c big s w r =
    let high : (k : ℕ) → k < length (encode_utf8 c) → 128 ≤ get_or (encode_utf8 c) k 0 = λ k below. elim (cases_lt (get_or (encode_utf8 c) k 0) 128) [
      | inl low ↦ absurd (not_small c (get_or (encode_utf8 c) k 0) big (inside_one c [] (encode_utf8 c) k (sym (append-nil _)) below low) low)
      | inr h ↦ h
    ] in
    repeated_more (inl (c, s, big_plain c big, refl)) r (ap (λ x. x ++ w) (high_bytes (encode_utf8 c) high))

one_byte : (c : ℕ) → flat_map escaped (c ∷ []) ≡ escaped c
one_byte c = append-nil (escaped c)

character_written : (x : List ℕ) → IsCharacter any_character x → Written x
character_written x (c, s, p, e) w r =
    subst (λ x. Repeated IsStringPiece (flat_map escaped x ++ w)) (sym e) (bool_cases (nat_lt c 128)
    (λ t. subst (λ y. Repeated IsStringPiece (y ++ w)) (sym (ap (flat_map escaped) (ascii c t) ∙ one_byte c)) (small_character c t s w r))
    (λ f. big_character c f s w r))

flat_append : (x y : List ℕ) → flat_map escaped (x ++ y) ≡ flat_map escaped x ++ flat_map escaped y
flat_append [] y = refl
flat_append (b ∷ x) y = ap (λ l. escaped b ++ l) (flat_append x y) ∙ sym (append_assoc (escaped b) _ _)

text_written : (w : List ℕ) → IsUtf8 w → Repeated IsStringPiece (flat_map escaped w)
text_written w repeated_none = repeated_none
text_written w (repeated_more {x = x} {w = v} p r e) =
    subst (λ w. Repeated IsStringPiece (flat_map escaped w)) (sym e) (subst (Repeated IsStringPiece) (sym (flat_append x v)) (character_written x p (flat_map escaped v) (text_written v r)))

pub string_is : (w : List ℕ) → IsUtf8 w → IsToken token.Str (string_text w)
string_is w u = (refl, (flat_map escaped w, text_written w u, refl))
