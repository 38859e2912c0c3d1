-- Marks end where nothing goes on with a longer token.
use Rattle.std.proofs.Common.{ℕ, ◌≡◌, ◌≤◌, true, false, not, refl, sym, ◌∙◌, ap, List, [], ◌∷◌, ◌++◌, length, inl, inr}
use Rattle.std.specs.Prelude.{◌==◌, ◌||◌, ◌⊎◌}
use Rattle.std.specs.Char.{is_ascii_digit}
use Rattle.std.proofs.lemmas.Bool.{eqb-true}
use Rattle.rbs_lexer.specs.declared.token.TokenKind.TheVariants as kind
use Rattle.rbs_lexer.specs.Names.{IsLower, IsMethodName, starts_lower}
use Rattle.rbs_lexer.specs.Integers.{IsNumber}
use Rattle.rbs_lexer.specs.Kinds.{IsToken, IsMark, marks}
use Rattle.rbs_lexer.specs.Longest.{BeginsWith}
use Rattle.rbs_lexer.specs.Scanned.{IsNoteRest, is_mark_byte, is_pair, begins_more}
use Rattle.rbs_lexer.proofs.Bytes.{and_true, or_cases}
use Rattle.rbs_lexer.proofs.Listed.{Each, among_each}
use Rattle.rbs_lexer.proofs.FirstBytes.{clash, behind_minus, behind_at, behind_colon, behind_percent, behind_mark, mark_short, mark_one, mark_alone}
use Rattle.printed_tokens.specs.Pieces.{ends_mark}
use Rattle.printed_tokens.proofs.Ended.{not_false, begins_behind}
use Rattle.printed_tokens.proofs.EndedSymbols.{name_first}

-- a mark stands first, where the byte behind it ends it
abbrev MarkEnded : List ℕ → Type 0
MarkEnded w = (b : ℕ) (rest : List ℕ) → ends_mark w b ≡ true → BeginsWith kind.Mark (length w) (w ++ b ∷ rest)

-- a mark of one byte, which begins nothing but marks
alone : (a : ℕ) → begins_more a ≡ false → is_mark_byte a ≡ true → ((b : ℕ) → ends_mark (a ∷ []) b ≡ true → is_pair a b ≡ false) → MarkEnded (a ∷ [])
alone a f m no_pair b rest e =
    begins_behind kind.Mark a [] (b ∷ rest) (mark_alone a m) (λ j x others p g. mark_one a (b ∷ rest) x others (no_pair b e) (behind_mark a f j x p) g)

-- what begins with this byte begins with that
first_byte : (P : List ℕ → Type 0) (b : ℕ) (rest x others : List ℕ) → P x → (P [] → ⊥) → ((c : ℕ) (v : List ℕ) → P (c ∷ v) → c ≡ b → ⊥) → b ∷ rest ≡ x ++ others → ⊥
first_byte P b rest [] others p none never e = none p
first_byte P b rest (c ∷ v) others p none never e = let same : c ≡ b = cc in never c v p same

minus : MarkEnded (45 ∷ [])
minus b rest e = begins_behind kind.Mark 45 [] (b ∷ rest) refl (λ j x others p g. at_most x others (behind_minus j x p) g)
  where
    both : (not (is_ascii_digit b) ≡ true) × (not (b == 62) ≡ true)
    both = and_true (not (is_ascii_digit b)) (not (b == 62)) e

    no_pair : is_pair 45 b ≡ false
    no_pair = rw (not_false (b == 62) both.1) refl

    never : (c : ℕ) (v : List ℕ) → IsNumber (c ∷ v) → c ≡ b → ⊥
    never c v p same = clash (sym (not_false (is_ascii_digit b) both.0) ∙ ap is_ascii_digit (sym same) ∙ p.0)

    at_most : (x others : List ℕ) → IsNumber x ⊎ IsMark (45 ∷ x) → b ∷ rest ≡ x ++ others → length x ≤ 0
    at_most x others (inl p) g = absurd (first_byte IsNumber b rest x others p (λ h. h) never g)
    at_most x others (inr m) g = mark_one 45 (b ∷ rest) x others no_pair m g

at_sign : MarkEnded (64 ∷ [])
at_sign b rest e = begins_behind kind.Mark 64 [] (b ∷ rest) refl (λ j x others p g. at_most x others (behind_at j x p) g)
  where
    never : (c : ℕ) (v : List ℕ) → IsLower (c ∷ v) → c ≡ b → ⊥
    never c v p same = clash (sym (not_false (starts_lower b) e) ∙ ap starts_lower (sym same) ∙ p.0)

    at_most : (x others : List ℕ) → IsLower x ⊎ IsMark (64 ∷ x) → b ∷ rest ≡ x ++ others → length x ≤ 0
    at_most x others (inl p) g = absurd (first_byte IsLower b rest x others p (λ h. h) never g)
    at_most x others (inr m) g = mark_one 64 (b ∷ rest) x others refl m g

percent : MarkEnded (37 ∷ [])
percent b rest e = begins_behind kind.Mark 37 [] (b ∷ rest) refl (λ j x others p g. at_most x others (behind_percent j x p) g)
  where
    never : (c : ℕ) (v : List ℕ) → IsNoteRest (c ∷ v) → c ≡ b → ⊥
    never c v p same = clash (sym (not_false (b == 97) e) ∙ ap (λ b. b == 97) (sym same ∙ p.0))

    at_most : (x others : List ℕ) → IsNoteRest x ⊎ IsMark (37 ∷ x) → b ∷ rest ≡ x ++ others → length x ≤ 0
    at_most x others (inl p) g = absurd (first_byte IsNoteRest b rest x others p (λ h. h) never g)
    at_most x others (inr m) g = mark_one 37 (b ∷ rest) x others refl m g

colon : MarkEnded (58 ∷ [])
colon b rest e = begins_behind kind.Mark 58 [] (b ∷ rest) refl (λ j x others p g. at_most x others (behind_colon j x p) g)
  where
    blank : (b : ℕ) → (b == 32 || b == 10) ≡ true → (((b == 58) || (b == 32)) || (b == 10)) ≡ true
    blank b e = or_cases _ _ e (λ e. rw (eqb-true b 32 e) refl) (λ e. rw (eqb-true b 10 e) refl)

    no_pair : is_pair 58 b ≡ false
    no_pair = or_cases _ _ e (λ e. rw (eqb-true b 32 e) refl) (λ e. rw (eqb-true b 10 e) refl)

    never : (c : ℕ) (v : List ℕ) → IsMethodName (c ∷ v) → c ≡ b → ⊥
    never c v p same = clash (sym (name_first (c ∷ v) p) ∙ ap (λ c. ((c == 58) || (c == 32)) || (c == 10)) same ∙ blank b e)

    at_most : (x others : List ℕ) → IsMethodName x ⊎ IsMark (58 ∷ x) → b ∷ rest ≡ x ++ others → length x ≤ 0
    at_most x others (inl p) g = absurd (first_byte IsMethodName b rest x others p (λ h. name_first [] h) never g)
    at_most x others (inr m) g = mark_one 58 (b ∷ rest) x others no_pair m g

-- ---- marks of two bytes

scope : MarkEnded (58 ∷ 58 ∷ [])
scope b rest e = begins_behind kind.Mark 58 (58 ∷ []) (b ∷ rest) refl (λ j x others p g. at_most x others (behind_colon j x p) g)
  where
    never : (c : ℕ) (v : List ℕ) → IsMethodName (c ∷ v) → c ≡ 58 → ⊥
    never c v p same = clash (sym (name_first (c ∷ v) p) ∙ ap (λ c. ((c == 58) || (c == 32)) || (c == 10)) same)

    at_most : (x others : List ℕ) → IsMethodName x ⊎ IsMark (58 ∷ x) → 58 ∷ b ∷ rest ≡ x ++ others → length x ≤ 1
    at_most x others (inl p) g = absurd (first_byte IsMethodName 58 (b ∷ rest) x others p (λ h. name_first [] h) never g)
    at_most x others (inr m) g = mark_short 58 x m

arrow : MarkEnded (45 ∷ 62 ∷ [])
arrow b rest e = begins_behind kind.Mark 45 (62 ∷ []) (b ∷ rest) refl (λ j x others p g. at_most x others (behind_minus j x p) g)
  where
    never : (c : ℕ) (v : List ℕ) → IsNumber (c ∷ v) → c ≡ 62 → ⊥
    never c v p same = clash (ap is_ascii_digit (sym same) ∙ p.0)

    at_most : (x others : List ℕ) → IsNumber x ⊎ IsMark (45 ∷ x) → 62 ∷ b ∷ rest ≡ x ++ others → length x ≤ 1
    at_most x others (inl p) g = absurd (first_byte IsNumber 62 (b ∷ rest) x others p (λ h. h) never g)
    at_most x others (inr m) g = mark_short 45 x m

double_star : MarkEnded (42 ∷ 42 ∷ [])
double_star b rest e = begins_behind kind.Mark 42 (42 ∷ []) (b ∷ rest) refl (λ j x others p g. mark_short 42 x (behind_mark 42 refl j x p))

star_pair : (b : ℕ) → ends_mark (42 ∷ []) b ≡ true → is_pair 42 b ≡ false
star_pair b e = not_false (b == 42) e

marks_ended : Each MarkEnded marks
marks_ended = (
  scope,
  (
    arrow,
    (
      double_star,
      (
        alone 60 refl refl (λ b e. refl),
        (
          colon,
          (
            alone 44 refl refl (λ b e. refl),
            (
              alone 46 refl refl (λ b e. refl),
              (
                at_sign,
                (
                  alone 91 refl refl (λ b e. refl),
                  (
                    alone 93 refl refl (λ b e. refl),
                    (
                      alone 40 refl refl (λ b e. refl),
                      (
                        alone 41 refl refl (λ b e. refl),
                        (
                          alone 123 refl refl (λ b e. refl),
                          (
                            alone 125 refl refl (λ b e. refl),
                            (
                              alone 124 refl refl (λ b e. refl),
                              (
                                alone 38 refl refl (λ b e. refl),
                                (
                                  alone 94 refl refl (λ b e. refl),
                                  (
                                    alone 63 refl refl (λ b e. refl),
                                    (
                                      alone 33 refl refl (λ b e. refl),
                                      (
                                        alone 61 refl refl (λ b e. refl),
                                        (
                                          alone 42 refl refl star_pair,
                                          (
                                            minus,
                                            (
                                              alone 62 refl refl (λ b e. refl),
                                              (
                                                alone 43 refl refl (λ b e. refl),
                                                (
                                                  alone 47 refl refl (λ b e. refl),
                                                  (
                                                    percent,
                                                    tt,
                                                  ),
                                                ),
                                              ),
                                            ),
                                          ),
                                        ),
                                      ),
                                    ),
                                  ),
                                ),
                              ),
                            ),
                          ),
                        ),
                      ),
                    ),
                  ),
                ),
              ),
            ),
          ),
        ),
      ),
    ),
  ),
)

pub mark_ended : (w : List ℕ) (b : ℕ) (rest : List ℕ) → IsToken kind.Mark w → ends_mark w b ≡ true → BeginsWith kind.Mark (length w) (w ++ b ∷ rest)
mark_ended w b rest h e = among_each MarkEnded w marks marks_ended h b rest e
