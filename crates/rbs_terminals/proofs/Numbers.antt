-- The values of integers and strings.
use Rattle.std.proofs.Common.{ℕ, suc, ◌≡◌, ◌≢◌, ◌+◌, ◌-◌, ◌*◌, ◌<◌, ◌≤◌, true, false, refl, sym, ◌∙◌, ap, subst, List, [], ◌∷◌, ◌++◌, length, drop, get_or, inl, inr, arith}
use Rattle.std.specs.Prelude.{◌==◌, IsUtf8, encode_utf8}
use Rattle.std.specs.Char.{IsScalar}
use Rattle.std.proofs.lemmas.List.{append-nil}
use Rattle.std.proofs.lemmas.Str.{IsUtf8-append, IsUtf8-encode, IsUtf8-nil, encode_ascii, inside_one}
use Rattle.rbs_lexer.specs.Pieces.{Repeated, repeated_none, repeated_more, IsStringPiece, is_plain, is_escaped}
use Rattle.rbs_lexer.specs.Integers.{value_from}
use Rattle.rbs_lexer.proofs.Values.{value_least, value_more}
use Rattle.rbs_terminals.specs.Values.{escaped, unescaped}

-- a further digit keeps the limit that the whole number keeps
pub next_digit : (limit m i d : ℕ) (w : List ℕ) → i < length w → d ≡ get_or w i 0 - 48 → value_from m (drop i w) ≡ value_from 0 w → value_from 0 w ≤ limit → m * 10 + d ≤ limit
next_digit limit m i d w l e f g =
    let least : m * 10 + (get_or w i 0 - 48) ≤ value_from (m * 10 + (get_or w i 0 - 48)) (drop (i + 1) w) = value_least (m * 10 + (get_or w i 0 - 48)) (drop (i + 1) w) in
    omega (arith, least, e, f, g, value_more m w i l)

-- a text without backslashes in front stands for itself
plain_more : (x w : List ℕ) → ((k : ℕ) → k < length x → get_or x k 0 ≢ 92) → unescaped (x ++ w) ≡ x ++ unescaped w
plain_more [] w h = refl
plain_more (b ∷ x) w h =
    let other : (b == 92) ≡ false = differs b (h 0 (omega arith)) in
    rw other (ap (λ v. b ∷ v) (plain_more x w (λ k l. h (suc k) (omega arith))))
  where
    differs : (b : ℕ) → b ≢ 92 → (b == 92) ≡ false
    differs b n = grind arith

-- no byte of a character but the backslash is a backslash
no_backslash : (c : ℕ) → is_plain c ≡ true → (k : ℕ) → k < length (encode_utf8 c) → get_or (encode_utf8 c) k 0 ≢ 92
no_backslash c p k l e =
    let is : c ≡ get_or (encode_utf8 c) k 0 = inside_one c [] (encode_utf8 c) k (sym (append-nil (encode_utf8 c))) l (omega (arith, e)) in
    plain c (is ∙ e) p
  where
    plain : (c : ℕ) → c ≡ 92 → is_plain c ≡ true → ⊥
    plain c e p = grind arith

utf8_one : (d : ℕ) → d < 128 → IsScalar d → IsUtf8 (d ∷ [])
utf8_one d l s = subst IsUtf8 (encode_ascii d l) (IsUtf8-encode d s)

escaped_small : (c : ℕ) → is_escaped c ≡ true → escaped c < 128
escaped_small c e = grind arith

escaped_scalar : (c : ℕ) → is_escaped c ≡ true → IsScalar (escaped c)
escaped_scalar c e = grind arith

pub utf8_unescaped : {w : List ℕ} → Repeated IsStringPiece w → IsUtf8 (unescaped w)
utf8_unescaped repeated_none = IsUtf8-nil
utf8_unescaped (repeated_more {x = x} {w = w} (inl (c, s, p, e)) r f) =
    let more : unescaped (x ++ w) ≡ x ++ unescaped w = plain_more x w (subst (λ x. (k : ℕ) → k < length x → get_or x k 0 ≢ 92) (sym e) (no_backslash c p)) in
    subst (λ v. IsUtf8 (unescaped v)) (sym f) (subst IsUtf8 (sym more) (IsUtf8-append x (unescaped w) (subst IsUtf8 (sym e) (IsUtf8-encode c s)) (utf8_unescaped r)))
utf8_unescaped (repeated_more {x = x} {w = w} (inr (c, k, e)) r f) =
    subst (λ v. IsUtf8 (unescaped v)) (sym (f ∙ ap (λ x. x ++ w) e)) (IsUtf8-append (escaped c ∷ []) (unescaped w) (utf8_one (escaped c) (escaped_small c k) (escaped_scalar c k)) (utf8_unescaped r))
