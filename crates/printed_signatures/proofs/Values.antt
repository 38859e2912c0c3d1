-- The values that printed integers, strings and symbols are read as.
use Rattle.std.proofs.Common.{ℕ, suc, ◌+◌, ◌-◌, ◌*◌, ◌^◌, ◌<◌, ◌≤◌, ◌≡◌, refl, sym, ◌∙◌, ap, subst, true, false, List, [], ◌∷◌, ◌++◌, length, take, arith, length-append}
use Rattle.std.specs.Prelude.{◌==◌, ℤ, pos, negsuc, neg_ℤ, slice_range}
use Rattle.std.specs.List.{flat_map}
use Rattle.std.specs.Char.{digit_value}
use Rattle.std.specs.Str.Parse.{AllDigits, digits_value_after}
use Rattle.std.specs.Fmt.{decimal, signed_decimal}
use Rattle.std.proofs.lemmas.Fmt.{decimal_is_IsNumeral}
use Rattle.std.proofs.lemmas.Str.Parse.{digit_from_value}
use Rattle.std.proofs.Math.Seq.{take-append_seam}
use Rattle.rbs_lexer.specs.declared.token.TokenKind.TheVariants as token_kind
use Rattle.rbs_lexer.specs.Integers.{value_from, Fits64}
use Rattle.rbs_lexer.proofs.Bytes.{bool_cases}
use Rattle.rbs_terminals.specs.declared.token.Kind.TheVariants as kind
use Rattle.rbs_terminals.specs.Kinds.{kind_at}
use Rattle.rbs_terminals.specs.Values.{integer_value, unescaped}
use Rattle.rbs_printer.specs.Texts.{escaped, string_text}
use Rattle.printed_signatures.specs.Writable.{Is64}

-- ---- integers

digit_worth : (c : ℕ) → digit_value c < 10 → digit_value c ≡ c - 48
digit_worth c h = let k = digit_from_value c h in grind arith

digit_least : (c : ℕ) → digit_value c < 10 → 48 ≤ c
digit_least c h = let k = digit_from_value c h in omega arith

value_of_digits : (m : ℕ) (ds : List ℕ) → AllDigits 10 ds → value_from m ds ≡ digits_value_after 10 m ds
value_of_digits m [] d = refl
value_of_digits m (c ∷ cs) d = ap (λ v. value_from (m * 10 + v) cs) (sym (digit_worth c d.0)) ∙ value_of_digits (m * 10 + digit_value c) cs d.1

no_minus : (c : ℕ) → digit_value c < 10 → (c == 45) ≡ false
no_minus c h = let k = digit_least c h in grind arith

-- where the first digit is no minus sign
no_sign : (ds : List ℕ) → AllDigits 10 ds → integer_value ds ≡ pos (value_from 0 ds)
no_sign [] d = refl
no_sign (c ∷ cs) d = rw (no_minus c d.0)

fits_digits : (ds : List ℕ) → AllDigits 10 ds → value_from 0 ds < 2 ^ 63 → Fits64 ds
fits_digits [] d l = tt
fits_digits (c ∷ cs) d l = rw (no_minus c d.0) l

pub decimal_value : (n : ℕ) → n < 2 ^ 64 → value_from 0 (decimal n) ≡ n
decimal_value n h = let k = decimal_is_IsNumeral n h in value_of_digits 0 (decimal n) k.0.1 ∙ k.1

pub integer_back : (n : ℤ) → Is64 n → integer_value (signed_decimal n) ≡ n
integer_back (pos n) h = no_sign (decimal n) (decimal_is_IsNumeral n (omega arith)).0.1 ∙ ap pos (decimal_value n (omega arith))
integer_back (negsuc n) h = ap (λ m. neg_ℤ (pos m)) (decimal_value (suc n) (omega arith))

pub integer_at : (n : ℤ) → Is64 n → kind_at token_kind.Int (signed_decimal n) ≡ kind.Integer n
integer_at n h = ap kind.Integer (integer_back n h)

-- what is printed of an integer of 64 bits is one
pub integer_fits : (n : ℤ) → Is64 n → Fits64 (signed_decimal n)
integer_fits (pos n) h = fits_digits (decimal n) (decimal_is_IsNumeral n (omega arith)).0.1 (omega (arith, decimal_value n (omega arith)))
integer_fits (negsuc n) h = omega (arith, decimal_value (suc n) (omega arith))

-- ---- strings

other_byte : (b : ℕ) (w : List ℕ) → (b == 34) ≡ false → (b == 92) ≡ false → (b == 10) ≡ false → (b == 9) ≡ false → unescaped (escaped b ++ w) ≡ b ∷ unescaped w
other_byte b w e f g h = rw (e, f, g, h, f)

is_byte : (b c : ℕ) → (b == c) ≡ true → b ≡ c
is_byte b c e = grind arith

byte_back : (b : ℕ) (w : List ℕ) → unescaped (escaped b ++ w) ≡ b ∷ unescaped w
byte_back b w =
    let P : ℕ → Type 0 = λ b. unescaped (escaped b ++ w) ≡ b ∷ unescaped w in
    bool_cases (b == 34) (λ t. subst P (sym (is_byte b 34 t)) refl) (λ e.
    bool_cases (b == 92) (λ t. subst P (sym (is_byte b 92 t)) refl) (λ f.
    bool_cases (b == 10) (λ t. subst P (sym (is_byte b 10 t)) refl) (λ g.
    bool_cases (b == 9) (λ t. subst P (sym (is_byte b 9 t)) refl) (λ h. other_byte b w e f g h))))

text_back : (w : List ℕ) → unescaped (flat_map escaped w) ≡ w
text_back [] = refl
text_back (b ∷ w) = byte_back b (flat_map escaped w) ∙ ap (λ v. b ∷ v) (text_back w)

-- what stands between the quotes
quoted : (v : List ℕ) → slice_range (34 ∷ v ++ 34 ∷ []) 1 (length (34 ∷ v ++ 34 ∷ []) - 1) ≡ v
quoted v =
    let size : (length (34 ∷ v ++ 34 ∷ []) - 1) - 1 ≡ length v = omega (arith, length-append v (34 ∷ [])) in
    ap (λ n. take n (v ++ 34 ∷ [])) size ∙ take-append_seam v (34 ∷ [])

pub text_at : (w : List ℕ) → kind_at token_kind.Str (string_text w) ≡ kind.Text w
text_at w = ap (λ v. kind.Text (unescaped v)) (quoted (flat_map escaped w)) ∙ ap kind.Text (text_back w)
