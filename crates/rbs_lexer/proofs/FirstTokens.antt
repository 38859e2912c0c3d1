-- The longest tokens, by their first byte.
use Rattle.std.proofs.Common.{ℕ, zero, suc, ◌≡◌, ◌≢◌, ◌+◌, ◌<◌, ◌≤◌, Bool, true, false, refl, sym, ◌∙◌, ap, subst, List, [], ◌∷◌, ◌++◌, length, take, get_or, append_assoc, inl, inr, arith, length-append, length-take-le}
use Rattle.std.specs.Prelude.{◌⊎◌, ◌==◌, nat_lt}
use Rattle.std.specs.Char.{IsScalar, is_ascii_digit, is_ascii_uppercase}
use Rattle.std.proofs.Math.Seq.{get_or-append_seam}
use Rattle.std.proofs.lemmas.Bool.{eqb-true}
use Rattle.std.proofs.lemmas.List.{take_more}
use Rattle.source_text.specs.Characters.{is_name_character, starts_word}
use Rattle.rbs_lexer.specs.declared.token.TokenKind.{TokenKind}
use Rattle.rbs_lexer.specs.declared.token.TokenKind.TheVariants as kind
use Rattle.rbs_lexer.specs.declared.pieces.Run.{Run}
use Rattle.rbs_lexer.specs.declared.pieces.Run.TheVariants as run
use Rattle.rbs_lexer.specs.Pieces.{IsCharacter, IsStringPiece, Repeated, repeated_none, repeated_more, Closed, is_plain, is_note_character}
use Rattle.rbs_lexer.specs.Names.{IsUpper, IsMethodName, starts_lower}
use Rattle.rbs_lexer.specs.Integers.{IsDigits, IsNumber}
use Rattle.rbs_lexer.specs.Kinds.{IsToken, IsMark}
use Rattle.rbs_lexer.specs.Longest.{BeginsNone, BeginsWith}
use Rattle.rbs_lexer.specs.Scanned.{IsPiece, NoPiece, IsRun, IsLongest, IsNoteRest, begins_upper, begins_interface, is_mark_byte, is_pair, begins_more}
use Rattle.rbs_lexer.proofs.Bytes.{ascii, and_true}
use Rattle.rbs_lexer.proofs.SamePieces.{first_character}
use Rattle.rbs_lexer.proofs.Runs.{run_longest, run_only}
use Rattle.rbs_lexer.proofs.NameFronts.{repeated_tail, no_interface}
use Rattle.rbs_lexer.proofs.MethodNames.{inside}
use Rattle.rbs_lexer.proofs.FirstBytes.{begins, begins_none, behind_quote, behind_hash, behind_minus, behind_colon, behind_digit, behind_word, behind_mark, mark_fact, mark_short, mark_one, mark_alone, mark_pair, upper_name, upper_scalar, clash}

-- what is closed is one byte longer than what it closes
closed_length : (w x : List ℕ) (b : ℕ) → x ≡ w ++ b ∷ [] → length x ≡ length w + 1
closed_length w x b f = ap length f ∙ length-append w (b ∷ [])

closed_split : (t v rest x : List ℕ) (b : ℕ) → t ≡ v ++ rest → v ≡ x ++ b ∷ [] → t ≡ x ++ (b ∷ rest)
closed_split t v rest x b e f = e ∙ ap (λ v. v ++ rest) f ∙ append_assoc x (b ∷ []) rest

-- an ASCII byte that fails the test begins no character that passes it
no_character : (p : ℕ → Bool) (d : ℕ) (t : List ℕ) → nat_lt d 128 ≡ true → p d ≡ false → NoPiece (IsCharacter p) (d ∷ t)
no_character p d t a f x rest h e =
    let is : p d ≡ true = (first_character p x rest t d h (sym e ∙ ap (λ f. f ++ t) (sym (ascii d a)))).0 in
    clash (sym f ∙ is)

no_piece : (d : ℕ) (t : List ℕ) → nat_lt d 128 ≡ true → is_plain d ≡ false → (d == 92) ≡ false → NoPiece IsStringPiece (d ∷ t)
no_piece d t a f g x rest (inl h) e = no_character is_plain d t a f x rest h e
no_piece d t a f g x rest (inr (c, k, i)) e =
    let same : d ∷ t ≡ 92 ∷ (c ∷ rest) = e ∙ ap (λ x. x ++ rest) i in
    let first : d ≡ 92 = cc in
    clash (sym g ∙ ap (λ d. d == 92) first)

no_string_piece : (t : List ℕ) → NoPiece IsStringPiece (34 ∷ t)
no_string_piece t = no_piece 34 t refl refl refl

-- Runs up to a closing byte.
module _ (r : Run) (b : ℕ) (t : List ℕ) (n : ℕ) (h : IsRun (IsPiece r) t n) where
  closed_longest : (v rest : List ℕ) → Closed b (Repeated (IsPiece r)) v → t ≡ v ++ rest → length v ≤ n + 1
  closed_longest v rest (x, p, f) e =
      let less : length x ≤ n = run_longest r t n h x (b ∷ rest) p (closed_split t v rest x b e f) in
      omega (arith, less, closed_length x v b f)

  closed_front : get_or t n 0 ≡ b → n < length t → Closed b (Repeated (IsPiece r)) (take (n + 1) t)
  closed_front e l = (take n t, h.pieces, take_more t n 0 l ∙ ap (λ b. take n t ++ b ∷ []) e)

  closed_at : ((rest : List ℕ) → NoPiece (IsPiece r) (b ∷ rest)) → (v rest : List ℕ) → Closed b (Repeated (IsPiece r)) v → t ≡ v ++ rest → get_or t n 0 ≡ b
  closed_at none v rest (x, p, f) e =
      let split = closed_split t v rest x b e f in
      let long : length x ≡ n = run_only r t n h x (b ∷ rest) p (none rest) split in
      ap (λ m. get_or t m 0) (sym long) ∙ ap (λ t. get_or t (length x) 0) split ∙ get_or-append_seam x b rest 0

module _ (t : List ℕ) (n : ℕ) where
  -- comments
  pub comment_token : IsRun (IsPiece run.Line) t n → BeginsWith kind.Comment (1 + n) (35 ∷ t)
  comment_token h = begins 35 t kind.Comment n h.within (refl, h.pieces) (λ j v rest p e. run_longest run.Line t n h v rest (behind_hash j v p) e)

  -- strings
  pub string_token : IsRun (IsPiece run.Text) t n → get_or t n 0 ≡ 34 → BeginsWith kind.Str (1 + (n + 1)) (34 ∷ t)
  string_token h e =
      let l : n < length t = inside t n (omega (arith, e)) in
      begins 34 t kind.Str (n + 1) (omega arith) (refl, closed_front run.Text 34 t n h e l) (λ j v rest p f. closed_longest run.Text 34 t n h v rest (behind_quote j v p) f)

  pub no_string_token : IsRun (IsPiece run.Text) t n → get_or t n 0 ≢ 34 → BeginsNone (34 ∷ t)
  no_string_token h f = begins_none 34 t (λ j v rest p e. f (closed_at run.Text 34 t n h no_string_piece v rest (behind_quote j v p) e))

  -- annotations
  pub note_longest : IsRun (IsPiece run.Note) t n → get_or t n 0 ≡ 125 → IsLongest IsNoteRest (97 ∷ 123 ∷ t) (n + 3)
  note_longest h e =
      let l : n < length t = inside t n (omega (arith, e)) in
      record {
        within = omega arith;
        front = λ some. subst (λ m. IsNoteRest (take m (97 ∷ 123 ∷ t))) three (refl, (refl, closed_front run.Note 125 t n h e l));
        longest = at_most;
      }
    where
      three : suc (suc (n + 1)) ≡ n + 3
      three = omega arith

      at_most : (w rest : List ℕ) → IsNoteRest w → 97 ∷ 123 ∷ t ≡ w ++ rest → length w ≤ n + 3
      at_most [] rest p e = omega arith
      at_most (a ∷ []) rest p e = omega arith
      at_most (a ∷ b ∷ v) rest p e =
          let behind : t ≡ v ++ rest = cc in
          let less : length v ≤ n + 1 = closed_longest run.Note 125 t n h v rest p.1.1 behind in
          omega arith

  pub no_note : IsRun (IsPiece run.Note) t n → get_or t n 0 ≢ 125 → IsLongest IsNoteRest (97 ∷ 123 ∷ t) 0
  no_note h f = record { within = omega arith; front = λ some. absurd (omega arith); longest = at_most }
    where
      at_most : (w rest : List ℕ) → IsNoteRest w → 97 ∷ 123 ∷ t ≡ w ++ rest → length w ≤ 0
      at_most [] rest p e = omega arith
      at_most (a ∷ []) rest p e = absurd p.1
      at_most (a ∷ b ∷ v) rest p e =
          let behind : t ≡ v ++ rest = cc in
          absurd (f (closed_at run.Note 125 t n h (λ rest. no_character is_note_character 125 rest refl refl) v rest p.1.1 behind))

  -- integers
  pub number_token : (b : ℕ) → is_ascii_digit b ≡ true → IsRun (IsPiece run.Digit) t n → BeginsWith kind.Int (1 + n) (b ∷ t)
  number_token b d h = begins b t kind.Int n h.within (inl (d, h.pieces)) (λ j v rest p e. run_longest run.Digit t n h v rest (behind_digit b d j v p) e)

digit_ascii : (c : ℕ) → is_ascii_digit c ≡ true → nat_lt c 128 ≡ true
digit_ascii c e = grind arith

digit_scalar : (c : ℕ) → is_ascii_digit c ≡ true → IsScalar c
digit_scalar c e = grind arith

-- digits, one or more
number_of : {w : List ℕ} → IsDigits w → 0 < length w → IsNumber w
number_of repeated_none l = absurd (omega arith)
number_of {w = w} (repeated_more {x = x} {w = u} (c, sc, pc, ex) r e) l =
    let bytes : w ≡ c ∷ u = e ∙ ap (λ x. x ++ u) ex ∙ ap (λ x. x ++ u) (ascii c (digit_ascii c pc)) in
    subst IsNumber (sym bytes) (pc, r)

digits_of : (w : List ℕ) → IsNumber w → IsDigits w × (0 < length w)
digits_of [] h = absurd h
digits_of (c ∷ w) h = (repeated_more (c, digit_scalar c h.0, h.0, refl) h.1 (ap (λ x. x ++ w) (sym (ascii c (digit_ascii c h.0)))), omega arith)

module _ (t : List ℕ) (n : ℕ) where
  pub negative_token : 0 < n → IsRun (IsPiece run.Digit) t n → BeginsWith kind.Int (1 + n) (45 ∷ t)
  negative_token some h = begins 45 t kind.Int n h.within (inr (refl, number_of h.pieces (omega (arith, length-take-le n t h.within)))) (λ j v rest p e. at_most v rest (behind_minus j v p) e)
    where
      at_most : (v rest : List ℕ) → IsNumber v ⊎ IsMark (45 ∷ v) → t ≡ v ++ rest → length v ≤ n
      at_most v rest (inl k) e = run_longest run.Digit t n h v rest (digits_of v k).0 e
      at_most v rest (inr m) e = let short : length v ≤ 1 = mark_short 45 v m in omega arith

  pub minus_token : IsRun (IsPiece run.Digit) t 0 → get_or t 0 0 ≢ 62 → BeginsWith kind.Mark (1 + 0) (45 ∷ t)
  minus_token h f = begins 45 t kind.Mark 0 (omega arith) refl (λ j v rest p e. at_most v rest (behind_minus j v p) e)
    where
      no_pair : is_pair 45 (get_or t 0 0) ≡ false
      no_pair = grind arith

      at_most : (v rest : List ℕ) → IsNumber v ⊎ IsMark (45 ∷ v) → t ≡ v ++ rest → length v ≤ 0
      at_most v rest (inl k) e = run_longest run.Digit t 0 h v rest (digits_of v k).0 e
      at_most v rest (inr m) e = mark_one 45 t v rest no_pair m e

  -- symbols
  pub symbol_token : 0 < n → IsLongest IsMethodName t n → BeginsWith kind.Sym (1 + n) (58 ∷ t)
  symbol_token some h = begins 58 t kind.Sym n h.within (refl, h.front some) (λ j v rest p e. at_most v rest (behind_colon j v p) e)
    where
      at_most : (v rest : List ℕ) → IsMethodName v ⊎ IsMark (58 ∷ v) → t ≡ v ++ rest → length v ≤ n
      at_most v rest (inl k) e = h.longest v rest k e
      at_most v rest (inr m) e = let short : length v ≤ 1 = mark_short 58 v m in omega arith

-- words
module _ (b : ℕ) (t : List ℕ) (n : ℕ) (s : starts_word b ≡ true) (h : IsRun (IsPiece run.Name) t n) where
  word_token : (k : TokenKind) → IsToken k (b ∷ take n t) → BeginsWith k (1 + n) (b ∷ t)
  word_token k is = begins b t k n h.within is (λ j v rest p e. run_longest run.Name t n h v rest (behind_word b s j v p) e)

  pub upper_token : is_ascii_uppercase b ≡ true → BeginsWith kind.Upper (1 + n) (b ∷ t)
  upper_token u = word_token kind.Upper (u, h.pieces)

  lower_start : is_ascii_uppercase b ≡ false → starts_lower b ≡ true
  lower_start u = grind arith

  pub lower_token : is_ascii_uppercase b ≡ false → begins_interface b t ≡ false → BeginsWith kind.Ident (1 + n) (b ∷ t)
  lower_token u f = word_token kind.Ident (lower_start u, h.pieces, no_interface b t n h f)

  upper_ascii : (c : ℕ) → is_ascii_uppercase c ≡ true → nat_lt c 128 ≡ true
  upper_ascii c e = grind arith

  upper_front : (m : ℕ) (v : List ℕ) → IsRun (IsPiece run.Name) v m → begins_upper v ≡ true → IsUpper (take m v)
  upper_front m [] g u = absurd (clash u)
  upper_front zero (c ∷ v) g u =
      absurd (g.stops (c ∷ []) v (c, upper_scalar c u, upper_name c u, sym (ascii c (upper_ascii c u))) refl)
  upper_front (suc m) (c ∷ v) g u = (u, repeated_tail is_name_character c (take m v) (c ∷ take m v) (upper_ascii c u) g.pieces refl)

  pub interface_token : begins_interface b t ≡ true → BeginsWith kind.IfaceName (1 + n) (b ∷ t)
  interface_token f =
      let both = and_true (b == 95) (begins_upper t) f in
      word_token kind.IfaceName (eqb-true b 95 both.0, upper_front n t h both.1)

-- marks
module _ (b : ℕ) (t : List ℕ) (f : begins_more b ≡ false) where
  front_of : (t : List ℕ) → 0 < get_or t 0 0 → (1 ≤ length t) × (take 1 t ≡ get_or t 0 0 ∷ [])
  front_of [] l = absurd (omega arith)
  front_of (c ∷ t) l = (omega arith, refl)

  pair_some : (b c : ℕ) → is_pair b c ≡ true → 0 < c
  pair_some b c e = grind arith

  pub pair_token : is_pair b (get_or t 0 0) ≡ true → BeginsWith kind.Mark (1 + 1) (b ∷ t)
  pair_token e =
      let front = front_of t (pair_some b (get_or t 0 0) e) in
      begins b t kind.Mark 1 front.0 (subst (λ x. IsMark (b ∷ x)) (sym front.1) (mark_pair b (get_or t 0 0) e)) (λ j v rest p g. mark_short b v (behind_mark b f j v p))

  pub mark_token : is_pair b (get_or t 0 0) ≡ false → is_mark_byte b ≡ true → BeginsWith kind.Mark (1 + 0) (b ∷ t)
  mark_token e m = begins b t kind.Mark 0 (omega arith) (mark_alone b m) (λ j v rest p g. mark_one b t v rest e (behind_mark b f j v p) g)

  pub no_mark_token : is_mark_byte b ≡ false → BeginsNone (b ∷ t)
  no_mark_token m = begins_none b t (λ j v rest p g. clash (sym m ∙ (mark_fact b v (behind_mark b f j v p)).0))
