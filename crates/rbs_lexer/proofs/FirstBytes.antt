-- What tokens begin with a byte.
use Rattle.std.proofs.Common.{ℕ, ◌≡◌, ◌+◌, ◌≤◌, Bool, true, false, refl, sym, ◌∙◌, ap, subst, List, [], ◌∷◌, ◌++◌, length, take, get_or, inl, inr, arith, one-add}
use Rattle.std.specs.Prelude.{◌⊎◌, ◌==◌, ◌||◌, ◌&&◌, nat_lt}
use Rattle.std.specs.Char.{IsScalar, is_ascii_digit, is_ascii_uppercase}
use Rattle.std.proofs.lemmas.Bool.{eqb-true}
use Rattle.source_text.specs.Characters.{is_name_character, starts_word}
use Rattle.rbs_lexer.specs.declared.token.TokenKind.{TokenKind}
use Rattle.rbs_lexer.specs.declared.token.TokenKind.TheVariants as kind
use Rattle.rbs_lexer.specs.Pieces.{IsCharacter, IsStringPiece, Repeated, repeated_more, Closed, is_in_line}
use Rattle.rbs_lexer.specs.Names.{IsNameRest, IsLower, IsUpper, IsMethodName}
use Rattle.rbs_lexer.specs.Integers.{IsDigits, IsNumber}
use Rattle.rbs_lexer.specs.Kinds.{IsToken, IsMark, marks}
use Rattle.rbs_lexer.specs.Longest.{BeginsNone, BeginsWith}
use Rattle.rbs_lexer.specs.Scanned.{IsNoteRest, single_marks, is_mark_byte, is_pair, begins_more}
use Rattle.rbs_lexer.proofs.Bytes.{ascii, or_cases, and_true}
use Rattle.rbs_lexer.proofs.Listed.{Each, among_each}

-- no token is empty
pub empty_token : (j : TokenKind) → IsToken j [] → ⊥
empty_token kind.Int (inl h) = h
empty_token kind.Int (inr h) = h
empty_token kind.Mark h = cc
empty_token kind.Ident h = h
empty_token kind.Upper h = h
empty_token kind.IfaceName h = h
empty_token kind.Ivar h = h
empty_token kind.Str h = h
empty_token kind.Sym h = h
empty_token kind.Annotation h = h
empty_token kind.Comment h = h

-- a longest token by what stands behind its first byte
module _ (b : ℕ) (t : List ℕ) where
  pub begins : (k : TokenKind) (n : ℕ) → n ≤ length t → IsToken k (b ∷ take n t) → ((j : TokenKind) (v rest : List ℕ) → IsToken j (b ∷ v) → t ≡ v ++ rest → length v ≤ n)
      → BeginsWith k (1 + n) (b ∷ t)
  begins k n within is longest = record { within = omega arith; token = subst (λ m. IsToken k (take m (b ∷ t))) (sym (one-add n)) is; longest = at_most }
    where
      at_most : (j : TokenKind) (w rest : List ℕ) → IsToken j w → b ∷ t ≡ w ++ rest → length w ≤ 1 + n
      at_most j [] rest p e = omega arith
      at_most j (c ∷ v) rest p e =
          let first : b ≡ c = cc in
          let behind : t ≡ v ++ rest = cc in
          omega (arith, longest j v rest (subst (λ c. IsToken j (c ∷ v)) (sym first) p) behind)

  pub begins_none : ((j : TokenKind) (v rest : List ℕ) → IsToken j (b ∷ v) → t ≡ v ++ rest → ⊥) → BeginsNone (b ∷ t)
  begins_none none j [] rest p e = empty_token j p
  begins_none none j (c ∷ v) rest p e =
      let first : b ≡ c = cc in
      let behind : t ≡ v ++ rest = cc in
      none j v rest (subst (λ c. IsToken j (c ∷ v)) (sym first) p) behind

pub clash : false ≡ true → ⊥
clash e = cc

-- what a token with this first byte is behind it
abbrev pub Behind : ℕ → (List ℕ → Type 0) → Type 0
Behind b P = (j : TokenKind) (v : List ℕ) → IsToken j (b ∷ v) → P v

pub behind_quote : Behind 34 (Closed 34 (Repeated IsStringPiece))
behind_quote kind.Str v h = h.1
behind_quote _ v h = absurd (grind arith)

pub behind_hash : Behind 35 (Repeated (IsCharacter is_in_line))
behind_hash kind.Comment v h = h.1
behind_hash _ v h = absurd (grind arith)

pub behind_minus : Behind 45 (λ v. IsNumber v ⊎ IsMark (45 ∷ v))
behind_minus kind.Int v (inl h) = absurd (clash h.0)
behind_minus kind.Int v (inr h) = inl h.1
behind_minus kind.Mark v h = inr h
behind_minus _ v h = absurd (grind arith)

pub behind_at : Behind 64 (λ v. IsLower v ⊎ IsMark (64 ∷ v))
behind_at kind.Ivar v h = inl h.1
behind_at kind.Mark v h = inr h
behind_at _ v h = absurd (grind arith)

pub behind_colon : Behind 58 (λ v. IsMethodName v ⊎ IsMark (58 ∷ v))
behind_colon kind.Sym v h = inl h.1
behind_colon kind.Mark v h = inr h
behind_colon _ v h = absurd (grind arith)

pub behind_percent : Behind 37 (λ v. IsNoteRest v ⊎ IsMark (37 ∷ v))
behind_percent kind.Annotation v h = inl h.1
behind_percent kind.Mark v h = inr h
behind_percent _ v h = absurd (grind arith)

or_left : (x y : Bool) → x ≡ true → (x || y) ≡ true
or_left true y e = refl
or_left false y e = absurd (clash e)

or_right : (x y : Bool) → y ≡ true → (x || y) ≡ true
or_right true y e = refl
or_right false y e = e

upper_ascii : (c : ℕ) → is_ascii_uppercase c ≡ true → nat_lt c 128 ≡ true
upper_ascii c e = grind arith

pub upper_name : (c : ℕ) → is_ascii_uppercase c ≡ true → is_name_character c ≡ true
upper_name c e = grind arith

pub upper_scalar : (c : ℕ) → is_ascii_uppercase c ≡ true → IsScalar c
upper_scalar c e = grind arith

-- what is told of marks: the byte that they begin with, and what follows it
abbrev pub MarkFact : List ℕ → Type 0
MarkFact [] = ⊥
MarkFact (b ∷ v) = (is_mark_byte b ≡ true) × ((starts_word b || is_ascii_digit b) ≡ false) × ((b == 34 || b == 35) ≡ false)
    × ((rest : List ℕ) → (length v ≤ 0) ⊎ ((length v ≤ 1) × (is_pair b (get_or (v ++ rest) 0 0) ≡ true)))

mark_facts : Each MarkFact marks
mark_facts = (
  (refl, refl, refl, λ r. inr (omega arith, refl)),
  (
    (refl, refl, refl, λ r. inr (omega arith, refl)),
    (
      (refl, refl, refl, λ r. inr (omega arith, refl)),
      (
        (refl, refl, refl, λ r. inl (omega arith)),
        (
          (refl, refl, refl, λ r. inl (omega arith)),
          (
            (refl, refl, refl, λ r. inl (omega arith)),
            (
              (refl, refl, refl, λ r. inl (omega arith)),
              (
                (refl, refl, refl, λ r. inl (omega arith)),
                (
                  (refl, refl, refl, λ r. inl (omega arith)),
                  (
                    (refl, refl, refl, λ r. inl (omega arith)),
                    (
                      (refl, refl, refl, λ r. inl (omega arith)),
                      (
                        (refl, refl, refl, λ r. inl (omega arith)),
                        (
                          (refl, refl, refl, λ r. inl (omega arith)),
                          (
                            (refl, refl, refl, λ r. inl (omega arith)),
                            (
                              (refl, refl, refl, λ r. inl (omega arith)),
                              (
                                (refl, refl, refl, λ r. inl (omega arith)),
                                (
                                  (refl, refl, refl, λ r. inl (omega arith)),
                                  (
                                    (refl, refl, refl, λ r. inl (omega arith)),
                                    (
                                      (refl, refl, refl, λ r. inl (omega arith)),
                                      (
                                        (refl, refl, refl, λ r. inl (omega arith)),
                                        (
                                          (refl, refl, refl, λ r. inl (omega arith)),
                                          (
                                            (refl, refl, refl, λ r. inl (omega arith)),
                                            (
                                              (refl, refl, refl, λ r. inl (omega arith)),
                                              (
                                                (refl, refl, refl, λ r. inl (omega arith)),
                                                (
                                                  (refl, refl, refl, λ r. inl (omega arith)),
                                                  (
                                                    (refl, refl, refl, λ r. inl (omega arith)),
                                                    tt,
                                                  ),
                                                ),
                                              ),
                                            ),
                                          ),
                                        ),
                                      ),
                                    ),
                                  ),
                                ),
                              ),
                            ),
                          ),
                        ),
                      ),
                    ),
                  ),
                ),
              ),
            ),
          ),
        ),
      ),
    ),
  ),
)

pub mark_fact : (b : ℕ) (v : List ℕ) → IsMark (b ∷ v) → MarkFact (b ∷ v)
mark_fact b v h = among_each MarkFact (b ∷ v) marks mark_facts h

pub mark_short : (b : ℕ) (v : List ℕ) → IsMark (b ∷ v) → length v ≤ 1
mark_short b v h = either ((mark_fact b v h).3 [])
  where
    either : {A : Type 0} → (length v ≤ 0) ⊎ ((length v ≤ 1) × A) → length v ≤ 1
    either (inl l) = omega arith
    either (inr l) = l.0

-- behind a byte that no pair of marks begins with nothing more belongs to a mark
pub mark_one : (b : ℕ) (t v rest : List ℕ) → is_pair b (get_or t 0 0) ≡ false → IsMark (b ∷ v) → t ≡ v ++ rest → length v ≤ 0
mark_one b t v rest f h e = either ((mark_fact b v h).3 rest)
  where
    either : (length v ≤ 0) ⊎ ((length v ≤ 1) × (is_pair b (get_or (v ++ rest) 0 0) ≡ true)) → length v ≤ 0
    either (inl l) = l
    either (inr l) = let is : is_pair b (get_or t 0 0) ≡ true = ap (λ t. is_pair b (get_or t 0 0)) e ∙ l.1 in absurd (clash (sym f ∙ is))

pub mark_alone : (b : ℕ) → is_mark_byte b ≡ true → IsMark (b ∷ [])
mark_alone b h = among_each IsMark (b ∷ []) single_marks
    (refl, (refl, (refl, (refl, (refl, (refl, (refl, (refl, (refl, (refl, (refl, (refl, (refl, (refl, (refl, (refl, (refl, (refl, (refl, (refl, (refl, (refl, (refl, tt))))))))))))))))))))))) h

pub mark_pair : (b c : ℕ) → is_pair b c ≡ true → IsMark (b ∷ c ∷ [])
mark_pair b c e = or_cases _ _ e
    (λ f. or_cases _ _ f (λ g. pair 58 58 g refl) (λ g. pair 45 62 g refl)) (λ f. pair 42 42 f refl)
  where
    pair : (x y : ℕ) → ((b == x) && (c == y)) ≡ true → IsMark (x ∷ y ∷ []) → IsMark (b ∷ c ∷ [])
    pair x y h m =
        let both = and_true (b == x) (c == y) h in
        subst (λ b. IsMark (b ∷ c ∷ [])) (sym (eqb-true b x both.0)) (subst (λ c. IsMark (x ∷ c ∷ [])) (sym (eqb-true c y both.1)) m)

-- behind a digit
pub behind_digit : (b : ℕ) → is_ascii_digit b ≡ true → Behind b IsDigits
behind_digit b d kind.Int v (inl h) = h.1
behind_digit b d kind.Int v (inr h) = let e : b ≡ 45 = h.0 in absurd (grind arith)
behind_digit b d kind.Mark v h = let f = (mark_fact b v h).1 in absurd (clash (sym f ∙ or_right (starts_word b) (is_ascii_digit b) d))
behind_digit b d _ v h = absurd (grind arith)

-- behind the first byte of a word
upper_rest : (v : List ℕ) → IsUpper v → IsNameRest v
upper_rest [] h = absurd h
upper_rest (c ∷ v) h = repeated_more (c, upper_scalar c h.0, upper_name c h.0, refl) h.1 (ap (λ x. x ++ v) (sym (ascii c (upper_ascii c h.0))))

pub behind_word : (b : ℕ) → starts_word b ≡ true → Behind b IsNameRest
behind_word b s kind.Ident v h = h.1
behind_word b s kind.Upper v h = h.1
behind_word b s kind.IfaceName v h = upper_rest v h.1
behind_word b s kind.Mark v h = let f = (mark_fact b v h).1 in absurd (clash (sym f ∙ or_left (starts_word b) (is_ascii_digit b) s))
behind_word b s kind.Int v (inl h) = let d = h.0 in absurd (grind arith)
behind_word b s kind.Int v (inr h) = let e : b ≡ 45 = h.0 in absurd (grind arith)
behind_word b s _ v h = absurd (grind arith)

-- behind a byte that begins nothing but marks
pub behind_mark : (b : ℕ) → begins_more b ≡ false → Behind b (λ v. IsMark (b ∷ v))
behind_mark b f kind.Mark v h = h
behind_mark b f kind.Int v (inl h) = let d = h.0 in absurd (grind arith)
behind_mark b f kind.Int v (inr h) = let e : b ≡ 45 = h.0 in absurd (grind arith)
behind_mark b f _ v h = absurd (grind arith)
