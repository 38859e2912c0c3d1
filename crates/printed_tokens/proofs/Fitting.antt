-- The terminals of lines.
use Rattle.std.proofs.Common.{ℕ, suc, ◌≡◌, ◌+◌, ◌<◌, Bool, true, false, refl, sym, ◌∙◌, ap, subst, List, [], ◌∷◌, ◌++◌, length, append_assoc, append-nil, Option, Some, None, inl, inr, arith, length-append, drop}
use Rattle.std.specs.Prelude.{◌⊎◌, ◌==◌, ◌||◌, nat_lt, if◌then◌else◌}
use Rattle.std.specs.List.{flat_map}
use Rattle.rbs_lexer.specs.declared.token.TokenKind.TheVariants as token
use Rattle.rbs_lexer.specs.declared.token.SigToken.{SigToken}
use Rattle.rbs_lexer.specs.Division.{span, token_of}
use Rattle.rbs_lexer.proofs.FirstBytes.{clash}
use Rattle.rbs_terminals.specs.declared.before.Before.{Before}
use Rattle.rbs_terminals.specs.declared.token.Gap.TheVariants as gap
use Rattle.rbs_terminals.specs.Kinds.{kind_at}
use Rattle.rbs_terminals.specs.Terminals.{text_of, newlines, gap_at, begins_line, carried, at_start, behind_comment, terminals_from, terminals}
use Rattle.rbs_printer.specs.Texts.{indent}
use Rattle.printed_tokens.specs.Pieces.{Piece, blank, tok, pieces_text, Line, comment_text, line_text, lines_text, tokens_at, comments_tokens, pieces_start, line_tokens, lines_tokens, first_byte, begins_with_token, Apart, IsApart, AreApart}
use Rattle.printed_tokens.specs.Fits.{Fits, comments_at, FitsLine, FitsLines}
use Rattle.printed_tokens.proofs.Since.{lines_in, lines_append, lines_indent, Since, slice_is, newlines_are, since_more, since_there, since_now, since_same, gap_line}
use Rattle.printed_tokens.proofs.FittingPieces.{no_comment, token_terminal, inside, pieces_fit}

module _ (bytes : List ℕ) where
  -- a line begins behind the last terminal, if there is one
  abbrev pub OnNewLine : Option ℕ → ℕ → List ℕ → Type 0
  OnNewLine None at rest = Unit {0}
  OnNewLine (Some end) at rest = (between : List ℕ) × Since bytes end at between rest × (0 < lines_in between)

  -- Before what begins a line, at a place with only blanks before it on the line: where the comments so far are carried on.
  pub record Begins (before : Before) (at : ℕ) (rest : List ℕ) : Type 0 where
    pub between : List ℕ
    pub since : Since bytes before.end at between rest
    pub fresh : (before.end ≡ 0) ⊎ (0 < lines_in between)
    pub kept : (lines_in between ≡ 1) ⊎ (before.comments ≡ [])
    pub line : OnNewLine before.last at rest

  new_line_more : (last : Option ℕ) (at : ℕ) (w rest : List ℕ) → OnNewLine last at (w ++ rest) → OnNewLine last (at + length w) rest
  new_line_more None at w rest h = tt
  new_line_more (Some end) at w rest h = (h.0 ++ w, since_more h.0 w rest h.1, omega (arith, h.2, lines_append h.0 w))

  -- behind blanks
  indented : (before : Before) (at depth : ℕ) (rest : List ℕ) → Begins before at (indent depth ++ rest) → Begins before (at + length (indent depth)) rest
  indented before at depth rest h =
      let same : lines_in (h.between ++ indent depth) ≡ lines_in h.between = lines_append h.between (indent depth) ∙ omega (arith, lines_indent depth) in
      record {
        between = h.between ++ indent depth;
        since = since_more h.between (indent depth) rest h.since;
        fresh = subst (λ n. (before.end ≡ 0) ⊎ (0 < n)) (sym same) h.fresh;
        kept = subst (λ n. (n ≡ 1) ⊎ (before.comments ≡ [])) (sym same) h.kept;
        line = new_line_more before.last at (indent depth) rest h.line;
      }

  begins_so : (before : Before) (at : ℕ) (rest : List ℕ) → Begins before at rest → begins_line bytes before at ≡ true
  begins_so before at rest h = either h.fresh
    where
      zero_first : (n : ℕ) (t : Bool) → n ≡ 0 → (n == 0 || t) ≡ true
      zero_first n t e = rw e refl

      some_first : (m n : ℕ) → 0 < n → (m == 0 || nat_lt 0 n) ≡ true
      some_first m n l = grind arith

      either : (before.end ≡ 0) ⊎ (0 < lines_in h.between) → begins_line bytes before at ≡ true
      either (inl e) = zero_first before.end (nat_lt 0 (newlines bytes before.end at)) e
      either (inr l) = some_first before.end (newlines bytes before.end at) (subst (λ n. 0 < n) (sym (newlines_are h.between rest h.since)) l)

  carried_so : (before : Before) (at : ℕ) (rest : List ℕ) → Begins before at rest → carried bytes before at ≡ before.comments
  carried_so before at rest h = either h.kept
    where
      one : (n : ℕ) (c : List (List ℕ)) → n ≡ 1 → (if n == 1 then c else []) ≡ c
      one n c e = rw e refl

      none : (t : Bool) (c : List (List ℕ)) → c ≡ [] → (if t then c else []) ≡ c
      none true c e = refl
      none false c e = sym e

      either : (lines_in h.between ≡ 1) ⊎ (before.comments ≡ []) → carried bytes before at ≡ before.comments
      either (inl e) = one (newlines bytes before.end at) before.comments (newlines_are h.between rest h.since ∙ e)
      either (inr e) = none (newlines bytes before.end at == 1) before.comments e

  gap_so : (last : Option ℕ) (at : ℕ) (rest : List ℕ) → OnNewLine last at rest → gap_at bytes last at ≡ gap.Line
  gap_so None at rest h = refl
  gap_so (Some end) at rest h = gap_line h.0 rest h.1 h.2

  -- ---- comments

  module _ (file : ℕ) where
    abbrev comment_at : ℕ → List ℕ → SigToken
    comment_at at w = token_of token.Comment (span file at (at + suc (length w)))

    choose_true : {A : Type 0} (t : Bool) (x y : A) → t ≡ true → (if t then x else y) ≡ x
    choose_true true x y e = refl
    choose_true false x y e = absurd (clash e)

    comment_carried : (before : Before) (at : ℕ) (w rest : List ℕ) → Begins before at ((35 ∷ w) ++ 10 ∷ rest) → (behind_comment bytes before (comment_at at w)).comments ≡ before.comments ++ w ∷ []
    comment_carried before at w rest h =
        let text : text_of bytes (comment_at at w) ≡ 35 ∷ w = slice_is (35 ∷ w) (10 ∷ rest) (since_there h.between (35 ∷ w) (10 ∷ rest) h.since) in
        choose_true (begins_line bytes before at) (carried bytes before at ++ drop 1 (text_of bytes (comment_at at w)) ∷ []) [] (begins_so before at ((35 ∷ w) ++ 10 ∷ rest) h)
        ∙ ap (λ c. c ++ drop 1 (text_of bytes (comment_at at w)) ∷ []) (carried_so before at ((35 ∷ w) ++ 10 ∷ rest) h) ∙ ap (λ t. before.comments ++ drop 1 t ∷ []) text

    comment_begins : (before : Before) (at : ℕ) (w rest : List ℕ) → Begins before at ((35 ∷ w) ++ 10 ∷ rest) → Begins (behind_comment bytes before (comment_at at w)) ((at + suc (length w)) + 1) rest
    comment_begins before at w rest h =
        let here = since_there h.between (35 ∷ w) (10 ∷ rest) h.since in
        let one : lines_in (10 ∷ []) ≡ 1 = refl in
        record {
          between = 10 ∷ [];
          since = since_there (35 ∷ w) (10 ∷ []) rest here;
          fresh = inr (omega (arith, one));
          kept = inl refl;
          line = new_line_more before.last (at + suc (length w)) (10 ∷ []) rest (new_line_more before.last at (35 ∷ w) (10 ∷ rest) h.line);
        }

    moved : (before : Before) (at to : ℕ) (v w : List ℕ) → at ≡ to → v ≡ w → Begins before at v → Begins before to w
    moved before at to v w e f h = subst (λ at. Begins before at w) e (subst (Begins before at) f h)

    comment_bytes : (i w f rest : List ℕ) → i ++ (35 ∷ w) ++ 10 ∷ [] ++ f ++ rest ≡ i ++ ((35 ∷ w) ++ 10 ∷ (f ++ rest))
    comment_bytes i w f rest =
        append_assoc (i ++ (35 ∷ w) ++ 10 ∷ []) f rest ∙ append_assoc (i ++ (35 ∷ w)) (10 ∷ []) (f ++ rest) ∙ append_assoc i (35 ∷ w) (10 ∷ (f ++ rest))

    comments_go : (depth : ℕ) (ws : List (List ℕ)) (before : Before) (at : ℕ) (rest : List ℕ) (more : List SigToken) → Begins before at (flat_map (comment_text depth) ws ++ rest)
        → (after : Before) × (terminals_from bytes before (comments_tokens file at depth ws ++ more) ≡ terminals_from bytes after more)
        × Begins after (at + length (flat_map (comment_text depth) ws)) rest × (after.comments ≡ before.comments ++ ws)
    comments_go depth [] before at rest more h =
        (before, refl, moved before at (at + length (flat_map (comment_text depth) [])) rest rest (omega arith) refl h, sym (append-nil before.comments))
    comments_go depth (w ∷ ws) before at rest more h =
        let i = indent depth in
        let others = flat_map (comment_text depth) ws in
        let size : length (comment_text depth w) ≡ (length i + suc (length w)) + 1 = length-append (i ++ (35 ∷ w)) (10 ∷ []) ∙ ap (λ n. n + 1) (length-append i (35 ∷ w)) in
        let begins = indented before at depth ((35 ∷ w) ++ 10 ∷ (others ++ rest)) (moved before at at (comment_text depth w ++ others ++ rest) (i ++ ((35 ∷ w) ++ 10 ∷ (others ++ rest))) refl (comment_bytes i w others rest) h) in
        let next = behind_comment bytes before (comment_at (at + length i) w) in
        let further =
        moved next (((at + length i) + suc (length w)) + 1) (at + length (comment_text depth w)) (others ++ rest) (others ++ rest) (omega (arith, size)) refl
        (comment_begins before (at + length i) w (others ++ rest) begins) in
        let (after, goes, behind, comments) = comments_go depth ws next (at + length (comment_text depth w)) rest more further in
        let place : ((at + length (comment_text depth w)) + length others) ≡ at + length (comment_text depth w ++ others) = omega (arith, length-append (comment_text depth w) others) in (
          after,
          goes,
          moved after ((at + length (comment_text depth w)) + length others) (at + length (comment_text depth w ++ others)) rest rest place refl behind,
          comments ∙ ap (λ c. c ++ ws) (comment_carried before (at + length i) w (others ++ rest) begins) ∙ append_assoc before.comments (w ∷ []) ws,
        )

    -- ---- pieces

    -- the pieces of a line, the first of which is a token
    first_fits : (ps : List Piece) (before : Before) (at : ℕ) (post : List ℕ) (more : List SigToken) (b : ℕ) → begins_with_token ps ≡ true → Apart ps b → Begins before at (pieces_text ps ++ post)
        → (end : ℕ) × (between : List ℕ) × Fits gap.Line ps (terminals_from bytes before (tokens_at file at ps ++ more)) (terminals_from bytes (inside end) more)
        × (comments_at (terminals_from bytes before (tokens_at file at ps ++ more)) ≡ before.comments) × Since bytes end (at + length (pieces_text ps)) between post × (lines_in between ≡ 0)
    first_fits [] before at post more b e a h = absurd (clash e)
    first_fits (blank ∷ ps) before at post more b e a h = absurd (clash e)
    first_fits (tok k w ∷ ps) before at post more b e a h =
        let t = token_of k (span file at (at + length w)) in
        let rest = pieces_text ps ++ post in
        let start = moved before at at ((w ++ pieces_text ps) ++ post) (w ++ rest) refl (append_assoc w (pieces_text ps) post) h in
        let there = since_there start.between w rest start.since in
        let (end, between, f, s, n) = pieces_fit file bytes more ps (at + length w) (at + length w) [] post b (since_now w rest there) refl a.3 in
        let place : ((at + length w) + length (pieces_text ps)) ≡ at + length (w ++ pieces_text ps) = omega (arith, length-append w (pieces_text ps)) in
        let text : kind_at k (text_of bytes t) ≡ kind_at k w = ap (kind_at k) (slice_is w rest there) in
        let is = token_terminal bytes before t (tokens_at file (at + length w) ps ++ more) (no_comment k w (first_byte ps b) a.2) in (
          end,
          between,
          subst (λ ts. Fits gap.Line (tok k w ∷ ps) ts (terminals_from bytes (inside end) more)) (sym is) (text, gap_so before.last at (w ++ rest) start.line, f),
          ap comments_at is ∙ carried_so before at (w ++ rest) start,
          since_same (at + length (w ++ pieces_text ps)) between post post place refl s,
          n,
        )

    -- ---- lines

    line_bytes : (c i p post : List ℕ) → c ++ i ++ p ++ 10 ∷ [] ++ post ≡ c ++ (i ++ (p ++ 10 ∷ post))
    line_bytes c i p post = append_assoc (c ++ i ++ p) (10 ∷ []) post ∙ append_assoc (c ++ i) p (10 ∷ post) ∙ append_assoc c i (p ++ 10 ∷ post)

    line_length : (c i p : List ℕ) → length (c ++ i ++ p ++ 10 ∷ []) ≡ ((length c + length i) + length p) + 1
    line_length c i p = length-append (c ++ i ++ p) (10 ∷ []) ∙ ap (λ n. n + 1) (length-append (c ++ i) p ∙ ap (λ n. n + length p) (length-append c i))

    -- behind the newline that ends a line
    next_line : (end at : ℕ) (between post : List ℕ) → Since bytes end at between (10 ∷ post) → lines_in between ≡ 0 → Begins (inside end) (at + 1) post
    next_line end at between post s n =
        let since : Since bytes end (at + 1) (between ++ 10 ∷ []) post = since_more between (10 ∷ []) post s in
        let one : lines_in (10 ∷ []) ≡ 1 = refl in
        let some : 0 < lines_in (between ++ 10 ∷ []) = omega (arith, one, lines_append between (10 ∷ [])) in
        record { between = between ++ 10 ∷ []; since = since; fresh = inr some; kept = inr refl; line = (between ++ 10 ∷ [], since, some) }

    no_comments : (end : ℕ) → (inside end).comments ≡ []
    no_comments end = refl

    line_fits : (l : Line) (before : Before) (at : ℕ) (post : List ℕ) (more : List SigToken) → IsApart l → before.comments ≡ [] → Begins before at (line_text l ++ post)
        → (after : Before) × FitsLine l (terminals_from bytes before (line_tokens file at l ++ more)) (terminals_from bytes after more) × Begins after (at + length (line_text l)) post × (after.comments ≡ [])
    line_fits l before at post more a e h =
        let c = flat_map (comment_text l.depth) l.comments in
        let i = indent l.depth in
        let p = pieces_text l.pieces in
        let start = moved before at at (line_text l ++ post) (c ++ (i ++ (p ++ 10 ∷ post))) refl (line_bytes c i p post) h in
        let (noted, goes, behind, comments) = comments_go l.depth l.comments before at (i ++ (p ++ 10 ∷ post)) (tokens_at file (pieces_start at l) l.pieces ++ more) start in
        let (end, between, f, carries, s, n) =
        first_fits l.pieces noted (pieces_start at l) (10 ∷ post) more 10 a.first a.pieces (indented noted (at + length c) l.depth (p ++ 10 ∷ post) behind) in
        let tokens : line_tokens file at l ++ more ≡ comments_tokens file at l.depth l.comments ++ (tokens_at file (pieces_start at l) l.pieces ++ more) =
        append_assoc (comments_tokens file at l.depth l.comments) (tokens_at file (pieces_start at l) l.pieces) more in
        let all : terminals_from bytes before (line_tokens file at l ++ more) ≡ terminals_from bytes noted (tokens_at file (pieces_start at l) l.pieces ++ more) =
        ap (terminals_from bytes before) tokens ∙ goes in (
          inside end,
          subst (λ ts. FitsLine l ts (terminals_from bytes (inside end) more)) (sym all) (f, carries ∙ comments ∙ ap (λ c. c ++ l.comments) e),
          moved (inside end) ((pieces_start at l + length p) + 1) (at + length (line_text l)) post post (omega (arith, line_length c i p)) refl (next_line end (pieces_start at l + length p) between post s n),
          no_comments end,
        )

    lines_fit : (ls : List Line) (before : Before) (at : ℕ) → AreApart ls → before.comments ≡ [] → Begins before at (lines_text ls) → FitsLines ls (terminals_from bytes before (lines_tokens file at ls)) []
    lines_fit [] before at a e h = refl
    lines_fit (l ∷ ls) before at a e h =
        let (after, f, behind, none) = line_fits l before at (lines_text ls) (lines_tokens file (at + length (line_text l)) ls) a.0 e h in
        (terminals_from bytes after (lines_tokens file (at + length (line_text l)) ls), f, lines_fit ls after (at + length (line_text l)) a.1 none behind)

  starts : Begins at_start 0 bytes
  starts = record { between = []; since = ([], refl, refl, refl); fresh = inl refl; kept = inr refl; line = tt }

-- the terminals of the text of lines are those of their pieces, with their comments
pub fits : (file : ℕ) (ls : List Line) → AreApart ls → FitsLines ls (terminals (lines_text ls) (lines_tokens file 0 ls)) []
fits file ls a = lines_fit (lines_text ls) file ls at_start 0 a refl (starts (lines_text ls))
