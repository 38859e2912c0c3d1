-- The longest names that stand first.
use Rattle.std.proofs.Common.{ℕ, ◌≡◌, ◌+◌, ◌≤◌, Bool, true, false, refl, sym, ◌∙◌, ap, subst, List, [], ◌∷◌, ◌++◌, length, take, drop, inl, inr, arith, one-add, take-append-drop}
use Rattle.std.specs.Prelude.{◌==◌, nat_lt}
use Rattle.std.specs.Char.{encode_utf8, is_ascii_uppercase}
use Rattle.std.proofs.lemmas.Bool.{eqb-true}
use Rattle.std.proofs.lemmas.Str.{encode_same}
use Rattle.source_text.specs.Characters.{is_name_character}
use Rattle.rbs_lexer.specs.declared.pieces.Run.TheVariants as run
use Rattle.rbs_lexer.specs.Pieces.{IsCharacter, Repeated, repeated_none, repeated_more}
use Rattle.rbs_lexer.specs.Names.{IsUpper, IsInterfaceName, IsLower, IsWord, starts_lower}
use Rattle.rbs_lexer.specs.Scanned.{IsPiece, IsRun, IsLongest, begins_upper, begins_interface}
use Rattle.rbs_lexer.proofs.Bytes.{ascii, and_true}
use Rattle.rbs_lexer.proofs.Runs.{run_longest}

-- behind an ASCII character, the others are characters of the same sort
pub repeated_tail : (p : ℕ → Bool) (d : ℕ) (w v : List ℕ) → nat_lt d 128 ≡ true → Repeated (IsCharacter p) v → v ≡ d ∷ w → Repeated (IsCharacter p) w
repeated_tail p d w v a repeated_none e = cc
repeated_tail p d w v a (repeated_more {x = x} {w = u} (c, sc, pc, ex) r f) e =
    let joined : encode_utf8 c ++ u ≡ encode_utf8 d ++ w = ap (λ x. x ++ u) (sym ex) ∙ sym f ∙ e ∙ ap (λ x. x ++ w) (sym (ascii d a)) in
    subst (Repeated (IsCharacter p)) (encode_same c d u w joined).1 r

pub upper_ascii : (b : ℕ) → is_ascii_uppercase b ≡ true → nat_lt b 128 ≡ true
upper_ascii b e = grind arith

-- a longest front of bytes with a first one, by what stands behind it
module _ (P : List ℕ → Type 0) (b : ℕ) (t : List ℕ) where
  pub longest_more : (n : ℕ) → n ≤ length t → P (b ∷ take n t) → ((v rest : List ℕ) → P (b ∷ v) → t ≡ v ++ rest → length v ≤ n) → IsLongest P (b ∷ t) (1 + n)
  longest_more n within is longest = record { within = omega arith; front = λ some. subst (λ m. P (take m (b ∷ t))) (sym (one-add n)) is; longest = λ w rest p e. at_most w rest p e }
    where
      at_most : (w rest : List ℕ) → P w → b ∷ t ≡ w ++ rest → length w ≤ 1 + n
      at_most [] rest p e = omega arith
      at_most (c ∷ v) rest p e =
          let first : b ≡ c = cc in
          let behind : t ≡ v ++ rest = cc in
          omega (arith, longest v rest (subst (λ c. P (c ∷ v)) (sym first) p) behind)

begins_upper_of : (t w rest : List ℕ) → IsUpper w → t ≡ w ++ rest → begins_upper t ≡ true
begins_upper_of t [] rest u e = absurd u
begins_upper_of t (d ∷ w) rest u e = ap begins_upper e ∙ u.0

module _ (b : ℕ) (t : List ℕ) (n : ℕ) (h : IsRun (IsPiece run.Name) t n) where
  pub upper_longest : is_ascii_uppercase b ≡ true → IsLongest IsUpper (b ∷ t) (1 + n)
  upper_longest u = longest_more IsUpper b t n h.within (u, h.pieces) (λ v rest p e. run_longest run.Name t n h v rest p.1 e)

  pub no_interface : begins_interface b t ≡ false → IsInterfaceName (b ∷ take n t) → ⊥
  no_interface f (e, u) =
      let upper : begins_upper t ≡ true = begins_upper_of t (take n t) (drop n t) u (sym (take-append-drop n t)) in
      let both : begins_interface b t ≡ true = rw (e, upper) in
      cc

  pub lower_longest : starts_lower b ≡ true → begins_interface b t ≡ false → IsLongest IsLower (b ∷ t) (1 + n)
  lower_longest s f = longest_more IsLower b t n h.within (s, h.pieces, no_interface f) (λ v rest p e. run_longest run.Name t n h v rest p.1 e)

-- behind an underscore and before a capital nothing more belongs to the word
pub lower_short : (b : ℕ) (t : List ℕ) → begins_interface b t ≡ true → IsLongest IsLower (b ∷ t) 1
lower_short b t f = longest_more IsLower b t 0 (omega arith) (lower_alone b (eqb-true b 95 both.0)) short
  where
    both : ((b == 95) ≡ true) × (begins_upper t ≡ true)
    both = and_true (b == 95) (begins_upper t) f

    lower_alone : (b : ℕ) → b ≡ 95 → IsLower (b ∷ [])
    lower_alone b e = (rw e, repeated_none, λ h. h.1)

    short : (v rest : List ℕ) → IsLower (b ∷ v) → t ≡ v ++ rest → length v ≤ 0
    short [] rest p e = omega arith
    short (d ∷ v) rest (s, r, other) e =
        let upper : is_ascii_uppercase d ≡ true = sym (ap begins_upper e) ∙ both.1 in
        absurd (other (eqb-true b 95 both.0, (upper, repeated_tail is_name_character d v (d ∷ v) (upper_ascii d upper) r refl)))

lower_none : (b : ℕ) (t : List ℕ) → starts_lower b ≡ false → (w rest : List ℕ) → IsLower w → b ∷ t ≡ w ++ rest → length w ≤ 0
lower_none b t f [] rest p e = omega arith
lower_none b t f (c ∷ v) rest (s, r, other) e = let first : b ≡ c = cc in let fails : starts_lower c ≡ false = subst (λ b. starts_lower b ≡ false) first f in cc

no_lower : (b : ℕ) → is_ascii_uppercase b ≡ true → starts_lower b ≡ false
no_lower b u = grind arith

-- words
pub word_upper : (b : ℕ) (t : List ℕ) (n : ℕ) → IsRun (IsPiece run.Name) t n → is_ascii_uppercase b ≡ true → IsLongest IsWord (b ∷ t) (1 + n)
word_upper b t n h u =
    let l = upper_longest b t n h u in
    record { within = l.within; front = λ some. inr (l.front some); longest = λ w rest p e. at_most l w rest p e }
  where
    at_most : IsLongest IsUpper (b ∷ t) (1 + n) → (w rest : List ℕ) → IsWord w → b ∷ t ≡ w ++ rest → length w ≤ 1 + n
    at_most l w rest (inl p) e = let none : length w ≤ 0 = lower_none b t (no_lower b u) w rest p e in omega arith
    at_most l w rest (inr p) e = l.longest w rest p e

no_upper : (b : ℕ) (t : List ℕ) → is_ascii_uppercase b ≡ false → (w rest : List ℕ) → IsUpper w → b ∷ t ≡ w ++ rest → ⊥
no_upper b t f [] rest u e = u
no_upper b t f (c ∷ v) rest u e = let first : b ≡ c = cc in let fails : is_ascii_uppercase c ≡ false = subst (λ b. is_ascii_uppercase b ≡ false) first f in let holds = u.0 in cc

no_upper_empty : (w rest : List ℕ) → IsUpper w → [] ≡ w ++ rest → ⊥
no_upper_empty [] rest u e = u
no_upper_empty (c ∷ v) rest u e = cc

word_lower_by : (bytes : List ℕ) (n : ℕ) → IsLongest IsLower bytes n → ((w rest : List ℕ) → IsUpper w → bytes ≡ w ++ rest → ⊥) → IsLongest IsWord bytes n
word_lower_by bytes n l none = record { within = l.within; front = λ some. inl (l.front some); longest = at_most }
  where
    at_most : (w rest : List ℕ) → IsWord w → bytes ≡ w ++ rest → length w ≤ n
    at_most w rest (inl p) e = l.longest w rest p e
    at_most w rest (inr p) e = absurd (none w rest p e)

pub word_lower : (bytes : List ℕ) (n : ℕ) → IsLongest IsLower bytes n → begins_upper bytes ≡ false → IsLongest IsWord bytes n
word_lower [] n l f = word_lower_by [] n l no_upper_empty
word_lower (b ∷ t) n l f = word_lower_by (b ∷ t) n l (no_upper b t f)
