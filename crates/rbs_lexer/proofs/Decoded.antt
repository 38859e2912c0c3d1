-- The first character of bytes, as `bstr` decodes it.
use Rattle.std.proofs.Common.{ℕ, ◌≡◌, ◌+◌, Bool, true, false, sym, ◌∙◌, ap, subst, List, ◌++◌, length, take, drop, Some, None, arith, length-append, take-append-drop}
use Rattle.std.specs.Char.{encode_utf8, IsScalar}
use Rattle.std.proofs.lemmas.List.{append_cancel_right}
use Rattle.std.proofs.lemmas.Str.{length-encode, len_utf8_bounds}
use Rattle.bstr.specs.Utf8.{Decoded, decoded}
use Rattle.bstr.proofs.lemmas.EncodeLemmas.{decoded-encode}
use Rattle.bstr.proofs.lemmas.SoundLemmas.{SpellsChar, SpellsChar-decoded}
use Rattle.rbs_lexer.specs.Pieces.{IsCharacter}
use Rattle.rbs_lexer.specs.Scanned.{NoPiece, IsFirst}

module _ (p : ℕ → Bool) (bytes : List ℕ) where
  -- the front of a split is what the split takes
  first_of : (c n : ℕ) → IsScalar c → p c ≡ true → bytes ≡ encode_utf8 c ++ drop n bytes → length (encode_utf8 c) ≡ n → IsFirst (IsCharacter p) bytes n
  first_of c n sc pc e w =
      let long : length bytes ≡ length (encode_utf8 c) + length (drop n bytes) = ap length e ∙ length-append (encode_utf8 c) (drop n bytes) in
      let front : take n bytes ≡ encode_utf8 c = append_cancel_right (take n bytes) (encode_utf8 c) (drop n bytes) (take-append-drop n bytes ∙ e) in
      record { some = omega (arith, w, length-encode c, (len_utf8_bounds c).0); within = omega (arith, w, long); piece = (c, sc, pc, front) }

  pub decoded_first : (c n : ℕ) → Some c ≡ (decoded bytes).char → n ≡ (decoded bytes).size → p c ≡ true → IsFirst (IsCharacter p) bytes n
  decoded_first c n e f pc =
      let s : SpellsChar bytes c (decoded bytes).size = SpellsChar-decoded bytes c (sym e) in
      subst (λ n. IsFirst (IsCharacter p) bytes n) (sym f) (first_of c (decoded bytes).size s.scalar pc s.bytes s.width)

  -- what decodes is the only character that may stand first
  decoded_only : (c : ℕ) (rest : List ℕ) → IsScalar c → bytes ≡ encode_utf8 c ++ rest → (decoded bytes).char ≡ Some c
  decoded_only c rest sc e = ap (λ (b : List ℕ). (decoded b).char) e ∙ ap (λ (d : Decoded). d.char) (decoded-encode c rest sc)

  pub decoded_none : None ≡ (decoded bytes).char → NoPiece (IsCharacter p) bytes
  decoded_none e x rest (c, sc, pc, ex) f = let same : None ≡ Some c = e ∙ decoded_only c rest sc (f ∙ ap (λ x. x ++ rest) ex) in cc

  pub decoded_other : (c : ℕ) → Some c ≡ (decoded bytes).char → p c ≡ false → NoPiece (IsCharacter p) bytes
  decoded_other c e g x rest (d, sd, pd, ex) f =
      let same : Some c ≡ Some d = e ∙ decoded_only d rest sd (f ∙ ap (λ x. x ++ rest) ex) in
      let is : c ≡ d = cc in
      let fails : p d ≡ false = subst (λ c. p c ≡ false) is g in
      cc
