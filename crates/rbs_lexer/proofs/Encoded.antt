-- What divides into tokens is UTF-8.
use Rattle.std.proofs.Common.{ℕ, ◌≡◌, ◌+◌, ◌<◌, ◌≤◌, true, Bool, refl, sym, ◌∙◌, ap, subst, List, [], ◌∷◌, ◌++◌, length, take, drop, inl, inr, arith, drop-drop, take-append-drop, Ok, Err}
use Rattle.std.proofs.lemmas.Bool.{cases_lt}
use Rattle.std.specs.Prelude.{◌⊎◌, IsUtf8, encode_utf8, nat_lt}
use Rattle.std.specs.Char.{IsScalar, is_ascii_digit, is_ascii_uppercase}
use Rattle.std.specs.Str.{IsValidUpTo}
use Rattle.std.proofs.Math.Seq.{take-add, take-append_seam, take-length}
use Rattle.std.proofs.lemmas.List.{append-nil}
use Rattle.std.proofs.lemmas.Str.{IsUtf8-append, IsUtf8-encode, IsUtf8-nil}
use Rattle.rbs_lexer.specs.declared.token.TokenKind.{TokenKind}
use Rattle.rbs_lexer.specs.declared.token.TokenKind.TheVariants as kind
use Rattle.rbs_lexer.specs.declared.token.SigToken.{SigToken}
use Rattle.rbs_lexer.specs.Pieces.{IsCharacter, IsStringPiece, Repeated, repeated_none, repeated_more, Closed, After, is_escaped}
use Rattle.rbs_lexer.specs.Names.{IsNameRest, IsLower, IsUpper, IsWord, IsMethodName, operators, starts_lower, is_ending}
use Rattle.sig_model.specs.declared.place.Place.{Place}
use Rattle.rbs_lexer.specs.declared.refused.LexRefused.TheVariants as refused
use Rattle.rbs_lexer.specs.Integers.{IsNumber}
use Rattle.rbs_lexer.specs.Kinds.{IsToken, marks}
use Rattle.rbs_lexer.specs.Longest.{BeginsNone, BeginsWith}
use Rattle.rbs_lexer.specs.Division.{is_gap, span, End, whole, stray, past, Divides, at_end, at_gap, at_token, at_stray, at_past}
use Rattle.rbs_lexer.specs.Standing.{stop_of, RefusesBroken}
use Rattle.rbs_lexer.proofs.Bytes.{ascii}
use Rattle.rbs_lexer.proofs.Listed.{Each, among_each}
use Rattle.rbs_lexer.proofs.FirstBytes.{empty_token}
use Rattle.rbs_lexer.proofs.Stands.{behind}

utf8_byte : (b : ℕ) (w : List ℕ) → nat_lt b 128 ≡ true → IsScalar b → IsUtf8 w → IsUtf8 (b ∷ w)
utf8_byte b w a s u = subst IsUtf8 (ap (λ x. x ++ w) (ascii b a)) (IsUtf8-append (encode_utf8 b) w (IsUtf8-encode b s) u)

utf8_repeated : (P : List ℕ → Type 0) → ((x : List ℕ) → P x → IsUtf8 x) → {w : List ℕ} → Repeated P w → IsUtf8 w
utf8_repeated P each repeated_none = IsUtf8-nil
utf8_repeated P each (repeated_more {x = x} {w = w} p r e) = subst IsUtf8 (sym e) (IsUtf8-append x w (each x p) (utf8_repeated P each r))

utf8_character : (p : ℕ → Bool) (x : List ℕ) → IsCharacter p x → IsUtf8 x
utf8_character p x (c, s, h, e) = subst IsUtf8 (sym e) (IsUtf8-encode c s)

utf8_closed : (P : List ℕ → Type 0) → ((w : List ℕ) → P w → IsUtf8 w) → (b : ℕ) → nat_lt b 128 ≡ true → IsScalar b → (v : List ℕ) → Closed b P v → IsUtf8 v
utf8_closed P each b a s v (w, p, e) = subst IsUtf8 (sym e) (IsUtf8-append w (b ∷ []) (each w p) (utf8_byte b [] a s IsUtf8-nil))

utf8_after : (P : List ℕ → Type 0) → ((w : List ℕ) → P w → IsUtf8 w) → (b : ℕ) → nat_lt b 128 ≡ true → IsScalar b → (v : List ℕ) → After b P v → IsUtf8 v
utf8_after P each b a s [] h = absurd h
utf8_after P each b a s (c ∷ w) h = subst (λ c. IsUtf8 (c ∷ w)) (sym h.0) (utf8_byte b w a s (each w h.1))

escape_ascii : (c : ℕ) → is_escaped c ≡ true → (nat_lt c 128 ≡ true) × IsScalar c
escape_ascii c e = (grind arith, grind arith)

utf8_piece : (x : List ℕ) → IsStringPiece x → IsUtf8 x
utf8_piece x (inl h) = utf8_character _ x h
utf8_piece x (inr (c, k, e)) =
    let a = escape_ascii c k in
    subst IsUtf8 (sym e) (utf8_byte 92 (c ∷ []) refl refl (utf8_byte c [] a.0 a.1 IsUtf8-nil))

utf8_name : (w : List ℕ) → IsNameRest w → IsUtf8 w
utf8_name w r = utf8_repeated _ (utf8_character _) r

upper_plain : (c : ℕ) → is_ascii_uppercase c ≡ true → (nat_lt c 128 ≡ true) × IsScalar c
upper_plain c e = (grind arith, grind arith)

lower_plain : (c : ℕ) → starts_lower c ≡ true → (nat_lt c 128 ≡ true) × IsScalar c
lower_plain c e = (grind arith, grind arith)

digit_plain : (c : ℕ) → is_ascii_digit c ≡ true → (nat_lt c 128 ≡ true) × IsScalar c
digit_plain c e = (grind arith, grind arith)

ending_plain : (c : ℕ) → is_ending c ≡ true → (nat_lt c 128 ≡ true) × IsScalar c
ending_plain c e = (grind arith, grind arith)

gap_plain : (c : ℕ) → is_gap c ≡ true → (nat_lt c 128 ≡ true) × IsScalar c
gap_plain c e = (grind arith, grind arith)

utf8_upper : (w : List ℕ) → IsUpper w → IsUtf8 w
utf8_upper [] h = absurd h
utf8_upper (c ∷ w) h = utf8_byte c w (upper_plain c h.0).0 (upper_plain c h.0).1 (utf8_name w h.1)

utf8_lower : (w : List ℕ) → IsLower w → IsUtf8 w
utf8_lower [] h = absurd h
utf8_lower (c ∷ w) h = utf8_byte c w (lower_plain c h.0).0 (lower_plain c h.0).1 (utf8_name w h.1)

utf8_number : (w : List ℕ) → IsNumber w → IsUtf8 w
utf8_number [] h = absurd h
utf8_number (c ∷ w) h = utf8_byte c w (digit_plain c h.0).0 (digit_plain c h.0).1 (utf8_repeated _ (utf8_character _) h.1)

-- bytes that are ASCII, one by one
abbrev AreAscii : List ℕ → Type 0
AreAscii [] = Unit {0}
AreAscii (b ∷ w) = (nat_lt b 128 ≡ true) × IsScalar b × AreAscii w

utf8_ascii : (w : List ℕ) → AreAscii w → IsUtf8 w
utf8_ascii [] h = IsUtf8-nil
utf8_ascii (b ∷ w) h = utf8_byte b w h.0 h.1 (utf8_ascii w h.2)

utf8_word : (w : List ℕ) → IsWord w → IsUtf8 w
utf8_word w (inl h) = utf8_lower w h
utf8_word w (inr h) = utf8_upper w h

operators_ascii : Each AreAscii operators
operators_ascii =
    ((refl, refl, tt), ((refl, refl, tt), ((refl, refl, tt), ((refl, refl, tt), ((refl, refl, tt), ((refl, refl, (refl, refl, tt)), ((refl, refl, tt), ((refl, refl, (refl, refl, tt)), ((refl, refl, tt), ((refl, refl, (refl, refl, tt)), ((refl, refl, (refl, refl, (refl, refl, tt))), ((refl, refl, (refl, refl, tt)), ((refl, refl, (refl, refl, tt)), ((refl, refl, (refl, refl, (refl, refl, tt))), ((refl, refl, (refl, refl, tt)), tt)))))))))))))))

marks_ascii : Each AreAscii marks
marks_ascii =
    ((refl, refl, (refl, refl, tt)), ((refl, refl, (refl, refl, tt)), ((refl, refl, (refl, refl, tt)), ((refl, refl, tt), ((refl, refl, tt), ((refl, refl, tt), ((refl, refl, tt), ((refl, refl, tt), ((refl, refl, tt), ((refl, refl, tt), ((refl, refl, tt), ((refl, refl, tt), ((refl, refl, tt), ((refl, refl, tt), ((refl, refl, tt), ((refl, refl, tt), ((refl, refl, tt), ((refl, refl, tt), ((refl, refl, tt), ((refl, refl, tt), ((refl, refl, tt), ((refl, refl, tt), ((refl, refl, tt), ((refl, refl, tt), ((refl, refl, tt), ((refl, refl, tt), tt))))))))))))))))))))))))))

utf8_method : (w : List ℕ) → IsMethodName w → IsUtf8 w
utf8_method w (inl (inl h)) = utf8_word w h
utf8_method x (inl (inr (w, b, h, g, e))) =
    subst IsUtf8 (sym e) (IsUtf8-append w (b ∷ []) (utf8_word w h) (utf8_byte b [] (ending_plain b g).0 (ending_plain b g).1 IsUtf8-nil))
utf8_method w (inr o) = utf8_ascii w (among_each AreAscii w operators operators_ascii o)

utf8_token : (k : TokenKind) (w : List ℕ) → IsToken k w → IsUtf8 w
utf8_token kind.Ident w h = utf8_lower w h
utf8_token kind.Upper w h = utf8_upper w h
utf8_token kind.IfaceName w h = utf8_after _ utf8_upper 95 refl refl w h
utf8_token kind.Ivar w h = utf8_after _ utf8_lower 64 refl refl w h
utf8_token kind.Int w (inl h) = utf8_number w h
utf8_token kind.Int w (inr h) = utf8_after _ utf8_number 45 refl refl w h
utf8_token kind.Str w h = utf8_after _ (utf8_closed _ (λ w r. utf8_repeated _ utf8_piece r) 34 refl refl) 34 refl refl w h
utf8_token kind.Sym w h = utf8_after _ utf8_method 58 refl refl w h
utf8_token kind.Mark w h = utf8_ascii w (among_each AreAscii w marks marks_ascii h)
utf8_token kind.Annotation w h =
    utf8_after _ (utf8_after _ (utf8_after _ (utf8_closed _ (λ w r. utf8_repeated _ (utf8_character _) r) 125 refl refl) 123 refl refl) 97 refl refl) 37 refl refl w h
utf8_token kind.Comment w h = utf8_after _ (λ w r. utf8_repeated _ (utf8_character _) r) 35 refl refl w h

-- what divides into tokens to its end is UTF-8
pub divided_utf8 : {file at : ℕ} {ts : List SigToken} {bytes : List ℕ} → Divides file at ts whole bytes → IsUtf8 bytes
divided_utf8 at_end = IsUtf8-nil
divided_utf8 (at_gap {b = b} {bytes = bytes} g d) = utf8_byte b bytes (gap_plain b g).0 (gap_plain b g).1 (divided_utf8 d)
divided_utf8 {bytes = bytes} (at_token {n = n} {k = k} h f d) =
    subst IsUtf8 (take-append-drop n bytes) (IsUtf8-append (take n bytes) (drop n bytes) (utf8_token k (take n bytes) h.token) (divided_utf8 d))

-- Bytes that aren't UTF-8 from `n` on.
module _ (bytes : List ℕ) (n : ℕ) (v : IsValidUpTo bytes n) where
  pub broken_none : BeginsNone (drop n bytes)
  broken_none k [] rest h e = empty_token k h
  broken_none k (b ∷ w) rest h e =
      let m = length (b ∷ w) in
      let front : take m (drop n bytes) ≡ b ∷ w = ap (take m) e ∙ take-append_seam (b ∷ w) rest in
      let more : take (n + m) bytes ≡ take n bytes ++ (b ∷ w) = take-add n m bytes ∙ ap (λ x. take n bytes ++ x) front in
      v.longest (n + m) (omega arith) (subst IsUtf8 (sym more) (IsUtf8-append (take n bytes) (b ∷ w) v.front (utf8_token k (b ∷ w) h)))

  up_to : (p : ℕ) → IsUtf8 (take p bytes) → p ≤ n
  up_to p u = either (cases_lt n p)
    where
      either : (n < p) ⊎ (p ≤ n) → p ≤ n
      either (inl l) = absurd (v.longest p l u)
      either (inr l) = l

  not_utf8 : IsUtf8 bytes → ⊥
  not_utf8 u = v.longest (length bytes) v.short (subst IsUtf8 (sym (take-length bytes)) u)

-- the bytes before the end of a division
module _ (file : ℕ) (bytes : List ℕ) where
  utf8_gap : (at b : ℕ) (rest : List ℕ) → is_gap b ≡ true → b ∷ rest ≡ drop at bytes → IsUtf8 (take at bytes) → IsUtf8 (take (at + 1) bytes)
  utf8_gap at b rest g e u =
      subst IsUtf8 (sym (take-add at 1 bytes)) (IsUtf8-append (take at bytes) (take 1 (drop at bytes)) u
      (subst (λ x. IsUtf8 (take 1 x)) e (utf8_byte b [] (gap_plain b g).0 (gap_plain b g).1 IsUtf8-nil)))

  utf8_more : (at n : ℕ) (k : TokenKind) (rest : List ℕ) → BeginsWith k n rest → rest ≡ drop at bytes → IsUtf8 (take at bytes) → IsUtf8 (take (at + n) bytes)
  utf8_more at n k rest h e u =
      subst IsUtf8 (sym (take-add at n bytes)) (IsUtf8-append (take at bytes) (take n (drop at bytes)) u (subst (λ x. IsUtf8 (take n x)) e (utf8_token k (take n rest) h.token)))

  utf8_from : {at : ℕ} {ts : List SigToken} {end : End} {rest : List ℕ} → Divides file at ts end rest → rest ≡ drop at bytes → IsUtf8 (take at bytes) → IsUtf8 (take (stop_of bytes end) bytes)
  utf8_from {at = at} at_end e u =
      let all : take at bytes ≡ bytes = sym (append-nil (take at bytes)) ∙ ap (λ rest. take at bytes ++ rest) e ∙ take-append-drop at bytes in
      subst IsUtf8 (all ∙ sym (take-length bytes)) u
  utf8_from (at_gap {at = at} {b = b} {bytes = rest} g d) e u = utf8_from d (behind file bytes at b rest e) (utf8_gap at b rest g e u)
  utf8_from {rest = rest} (at_token {at = at} {n = n} {k = k} h f d) e u = utf8_from d (ap (drop n) e ∙ drop-drop n at bytes) (utf8_more at n k rest h e u)
  utf8_from (at_stray g h) e u = u
  utf8_from (at_past h f) e u = u

  pub utf8_up_to : (ts : List SigToken) (end : End) → Divides file 0 ts end bytes → IsUtf8 (take (stop_of bytes end) bytes)
  utf8_up_to ts end d = utf8_from d refl IsUtf8-nil

  pub broken_ok : (ts : List SigToken) → Divides file 0 ts whole bytes → RefusesBroken bytes (Ok ts)
  broken_ok ts d n v = (broken_none bytes n v, not_utf8 bytes n v (divided_utf8 d))

  start_of : (place : Place) (at n : ℕ) → place ≡ span file at at → at ≤ n → place.start ≤ n
  start_of place at n e l = subst (λ (p : Place). p.start ≤ n) (sym e) l

  pub broken_stray : (place : Place) (ts : List SigToken) (at : ℕ) → place ≡ span file at at → Divides file 0 ts (stray at) bytes → RefusesBroken bytes (Err (refused.Fault place))
  broken_stray place ts at e d n v = (broken_none bytes n v, start_of place at n e (up_to bytes n v at (utf8_up_to ts (stray at) d)))

  pub broken_past : (place : Place) (ts : List SigToken) (at : ℕ) → place ≡ span file at at → Divides file 0 ts (past at) bytes → RefusesBroken bytes (Err (refused.Limit place))
  broken_past place ts at e d n v = (broken_none bytes n v, start_of place at n e (up_to bytes n v at (utf8_up_to ts (past at) d)))
