-- Tokens by what stands behind their first byte, and runs that end where no more of their sort follows.
use Rattle.std.proofs.Common.{ℕ, ◌≡◌, ◌+◌, ◌≤◌, Bool, true, false, not, refl, sym, ◌∙◌, ap, subst, List, [], ◌∷◌, ◌++◌, length, append_assoc, inl, inr, arith, length-append}
use Rattle.std.specs.Prelude.{◌==◌, nat_lt}
use Rattle.std.specs.Char.{IsScalar}
use Rattle.std.proofs.Math.Seq.{take-append_seam}
use Rattle.rbs_lexer.specs.declared.token.TokenKind.{TokenKind}
use Rattle.rbs_lexer.specs.declared.pieces.Run.{Run}
use Rattle.rbs_lexer.specs.Pieces.{IsCharacter, IsStringPiece, Repeated, repeated_more, Closed, is_plain}
use Rattle.rbs_lexer.specs.Kinds.{IsToken}
use Rattle.rbs_lexer.specs.Longest.{BeginsWith}
use Rattle.rbs_lexer.specs.Scanned.{IsPiece, NoPiece}
use Rattle.rbs_lexer.proofs.Bytes.{ascii}
use Rattle.rbs_lexer.proofs.SamePieces.{first_character, same_piece, repeated_longest}
use Rattle.rbs_lexer.proofs.FirstBytes.{clash}

pub not_false : (b : Bool) → not b ≡ true → b ≡ false
not_false true e = absurd (clash e)
not_false false e = refl

-- the first byte is ASCII and begins a character of the sort
pub front_character : (p : ℕ → Bool) (c : ℕ) (v : List ℕ) → nat_lt c 128 ≡ true → IsScalar c → p c ≡ true → Repeated (IsCharacter p) v → Repeated (IsCharacter p) (c ∷ v)
front_character p c v a s h r = repeated_more (c, s, h, refl) r (ap (λ x. x ++ v) (sym (ascii c a)))

-- an ASCII byte that fails the test begins no character that passes it
pub no_character : (p : ℕ → Bool) (d : ℕ) (t : List ℕ) → nat_lt d 128 ≡ true → p d ≡ false → NoPiece (IsCharacter p) (d ∷ t)
no_character p d t a f x rest h e =
    let is : p d ≡ true = (first_character p x rest t d h (sym e ∙ ap (λ f. f ++ t) (sym (ascii d a)))).0 in
    clash (sym f ∙ is)

-- a quote begins no piece of a string's text
pub no_string_piece : (t : List ℕ) → NoPiece IsStringPiece (34 ∷ t)
no_string_piece t x rest (inl h) e = no_character is_plain 34 t refl refl x rest h e
no_string_piece t x rest (inr (c, k, i)) e =
    let same : 34 ∷ t ≡ 92 ∷ (c ∷ rest) = e ∙ ap (λ x. x ++ rest) i in
    let first : 34 ≡ 92 = cc in
    clash (ap (λ d. d == 92) first)

-- where nothing of the sort follows, no longer front is of the sort
pub run_most : (r : Run) (v x next others : List ℕ) → Repeated (IsPiece r) v → Repeated (IsPiece r) x → NoPiece (IsPiece r) next → v ++ next ≡ x ++ others → length x ≤ length v
run_most r v x next others p q none e = repeated_longest (IsPiece r) (same_piece r) p q next others none e

closed_length : (w x : List ℕ) (b : ℕ) → x ≡ w ++ b ∷ [] → length x ≡ length w + 1
closed_length w x b f = ap length f ∙ length-append w (b ∷ [])

-- runs up to a closing byte, which belongs to none of them
pub closed_most : (r : Run) (b : ℕ) → ((t : List ℕ) → NoPiece (IsPiece r) (b ∷ t)) → (v x rest others : List ℕ) → Closed b (Repeated (IsPiece r)) v → Closed b (Repeated (IsPiece r)) x → v ++ rest ≡ x ++ others
    → length x ≤ length v
closed_most r b none v x rest others (u, p, f) (y, q, g) e =
    let split : u ++ (b ∷ rest) ≡ y ++ (b ∷ others) =
    sym (append_assoc u (b ∷ []) rest) ∙ ap (λ v. v ++ rest) (sym f) ∙ e ∙ ap (λ x. x ++ others) g ∙ append_assoc y (b ∷ []) others in
    let less : length y ≤ length u = run_most r u y (b ∷ rest) (b ∷ others) p q (none rest) split in
    omega (arith, less, closed_length u v b f, closed_length y x b g)

-- a token stands first, by what stands behind its first byte
module _ (k : TokenKind) (c : ℕ) (v rest : List ℕ) where
  pub begins_behind : IsToken k (c ∷ v) → ((j : TokenKind) (x others : List ℕ) → IsToken j (c ∷ x) → v ++ rest ≡ x ++ others → length x ≤ length v) → BeginsWith k (length (c ∷ v)) ((c ∷ v) ++ rest)
  begins_behind is longest = record {
    within = omega (arith, length-append v rest);
    token = subst (IsToken k) (sym (take-append_seam (c ∷ v) rest)) is;
    longest = at_most;
  }
    where
      at_most : (j : TokenKind) (w others : List ℕ) → IsToken j w → (c ∷ v) ++ rest ≡ w ++ others → length w ≤ length (c ∷ v)
      at_most j [] others p e = omega arith
      at_most j (d ∷ x) others p e =
          let first : c ≡ d = cc in
          let behind : v ++ rest ≡ x ++ others = cc in
          omega (arith, longest j x others (subst (λ d. IsToken j (d ∷ x)) (sym first) p) behind)
