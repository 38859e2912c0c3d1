-- No piece of a run is a front of another one, so that a front of bytes is pieces in one way.
use Rattle.std.proofs.Common.{ℕ, ◌≡◌, ◌≤◌, Bool, true, refl, sym, ◌∙◌, ap, subst, List, [], ◌∷◌, ◌++◌, length, append_assoc, inl, inr, arith, length-append}
use Rattle.std.specs.Char.{encode_utf8}
use Rattle.std.proofs.lemmas.List.{append_cancel_left, append-nil}
use Rattle.std.proofs.lemmas.Str.{encode_same}
use Rattle.rbs_lexer.specs.declared.pieces.Run.{Run}
use Rattle.rbs_lexer.specs.declared.pieces.Run.TheVariants as run
use Rattle.rbs_lexer.specs.Pieces.{IsCharacter, IsEscape, IsStringPiece, Repeated, repeated_none, repeated_more, is_plain}
use Rattle.rbs_lexer.specs.Scanned.{IsPiece, NoPiece}
use Rattle.rbs_lexer.proofs.Bytes.{ascii}

-- the same character stands first
pub first_character : (p : ℕ → Bool) (x s t : List ℕ) (d : ℕ) → (h : IsCharacter p x) → x ++ s ≡ encode_utf8 d ++ t → (p d ≡ true) × (x ≡ encode_utf8 d)
first_character p x s t d (c, sc, pc, ex) e =
    let same : (c ≡ d) × (s ≡ t) = encode_same c d s t (ap (λ x. x ++ s) (sym ex) ∙ e) in
    (subst (λ c. p c ≡ true) same.0 pc, ex ∙ ap encode_utf8 same.0)

same_character : (p : ℕ → Bool) (x y s t : List ℕ) → IsCharacter p x → IsCharacter p y → x ++ s ≡ y ++ t → x ≡ y
same_character p x y s t h (d, sd, pd, ey) e = (first_character p x s t d h (e ∙ ap (λ y. y ++ t) ey)).1 ∙ sym ey

same_escape : (x y s t : List ℕ) → IsEscape x → IsEscape y → x ++ s ≡ y ++ t → x ≡ y
same_escape x y s t (c, ec, ex) (d, ed, ey) e =
    let joined : 92 ∷ c ∷ s ≡ 92 ∷ d ∷ t = ap (λ x. x ++ s) (sym ex) ∙ e ∙ ap (λ y. y ++ t) ey in
    let same : c ≡ d = cc in
    ex ∙ ap (λ c. 92 ∷ c ∷ []) same ∙ sym ey

no_plain_escape : (x y s t : List ℕ) → IsCharacter is_plain x → IsEscape y → x ++ s ≡ y ++ t → ⊥
no_plain_escape x y s t h (d, ed, ey) e =
    let joined : x ++ s ≡ encode_utf8 92 ++ (d ∷ t) = e ∙ ap (λ y. y ++ t) ey ∙ ap (λ f. f ++ (d ∷ t)) (sym (ascii 92 refl)) in
    let plain : is_plain 92 ≡ true = (first_character is_plain x s (d ∷ t) 92 h joined).0 in
    cc

same_string_piece : (x y s t : List ℕ) → IsStringPiece x → IsStringPiece y → x ++ s ≡ y ++ t → x ≡ y
same_string_piece x y s t (inl h) (inl k) e = same_character is_plain x y s t h k e
same_string_piece x y s t (inl h) (inr k) e = absurd (no_plain_escape x y s t h k e)
same_string_piece x y s t (inr h) (inl k) e = absurd (no_plain_escape y x t s k h (sym e))
same_string_piece x y s t (inr h) (inr k) e = same_escape x y s t h k e

pub same_piece : (r : Run) (x y s t : List ℕ) → IsPiece r x → IsPiece r y → x ++ s ≡ y ++ t → x ≡ y
same_piece run.Name x y s t h k e = same_character _ x y s t h k e
same_piece run.Digit x y s t h k e = same_character _ x y s t h k e
same_piece run.Text x y s t h k e = same_string_piece x y s t h k e
same_piece run.Note x y s t h k e = same_character _ x y s t h k e
same_piece run.Line x y s t h k e = same_character _ x y s t h k e

module _ (P : List ℕ → Type 0) where
  -- one more piece at the end
  pub repeated_push : {u x : List ℕ} → Repeated P u → P x → Repeated P (u ++ x)
  repeated_push {x = x} repeated_none p = repeated_more p repeated_none (sym (append-nil x))
  repeated_push {x = x} (repeated_more {x = y} {w = w} py r e) p = repeated_more py (repeated_push r p) (ap (λ u. u ++ x) e ∙ append_assoc y w x)

  module _ (same : (x y s t : List ℕ) → P x → P y → x ++ s ≡ y ++ t → x ≡ y) where
    -- where no piece follows, no longer front is pieces
    pub repeated_longest : {u w : List ℕ} → Repeated P u → Repeated P w → (v rest : List ℕ) → NoPiece P v → u ++ v ≡ w ++ rest → length w ≤ length u
    repeated_longest repeated_none repeated_none v rest none e = omega arith
    repeated_longest repeated_none (repeated_more {x = y} {w = w} py r ew) v rest none e =
        absurd (none y (w ++ rest) py (e ∙ ap (λ w. w ++ rest) ew ∙ append_assoc y w rest))
    repeated_longest (repeated_more {x = x} {w = u} px r eu) repeated_none v rest none e = omega arith
    repeated_longest (repeated_more {x = x} {w = u} px ru eu) (repeated_more {x = y} {w = w} py rz ew) v rest none e =
        let joined : x ++ (u ++ v) ≡ y ++ (w ++ rest) = sym (append_assoc x u v) ∙ ap (λ u. u ++ v) (sym eu) ∙ e ∙ ap (λ w. w ++ rest) ew ∙ append_assoc y w rest in
        let is : x ≡ y = same x y (u ++ v) (w ++ rest) px py joined in
        let behind : u ++ v ≡ w ++ rest = append_cancel_left x (u ++ v) (w ++ rest) (joined ∙ ap (λ y. y ++ (w ++ rest)) (sym is)) in
        let less : length w ≤ length u = repeated_longest ru rz v rest none behind in
        omega (arith, less, ap length eu, ap length ew, length-append x u, length-append y w, ap length is)
