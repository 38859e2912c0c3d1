-- Lines whose pieces are told apart divide into their tokens.
use Rattle.std.proofs.Common.{ℕ, zero, suc, ◌≡◌, ◌+◌, refl, sym, ◌∙◌, ap, subst, List, [], ◌∷◌, ◌++◌, length, append_assoc, arith, length-append}
use Rattle.std.specs.List.{flat_map}
use Rattle.std.proofs.Math.Seq.{take-append_seam, drop-append_seam}
use Rattle.rbs_lexer.specs.declared.token.TokenKind.{TokenKind}
use Rattle.rbs_lexer.specs.declared.token.TokenKind.TheVariants as kind
use Rattle.rbs_lexer.specs.declared.token.SigToken.{SigToken}
use Rattle.rbs_lexer.specs.Longest.{BeginsWith}
use Rattle.rbs_lexer.specs.Division.{IsFit, span, token_of, End, whole, Divides, at_end, at_gap, at_token}
use Rattle.rbs_printer.specs.Texts.{indent}
use Rattle.printed_tokens.specs.Pieces.{Piece, blank, tok, pieces_text, Line, comment_text, line_text, lines_text, tokens_at, comments_tokens, pieces_start, line_tokens, lines_tokens, first_byte, Apart, AreComments, IsApart, AreApart}
use Rattle.printed_tokens.proofs.ToldApart.{told_apart, comment_ended}

-- the first byte of pieces, and of what stands behind them
pub first_is : (ps : List Piece) (b : ℕ) (rest : List ℕ) → (tail : List ℕ) × (pieces_text ps ++ b ∷ rest ≡ first_byte ps b ∷ tail)
first_is [] b rest = (rest, refl)
first_is (blank ∷ ps) b rest = (pieces_text ps ++ b ∷ rest, refl)
first_is (tok k [] ∷ ps) b rest = first_is ps b rest
first_is (tok k (c ∷ w) ∷ ps) b rest = ((w ++ pieces_text ps) ++ b ∷ rest, refl)

module _ (file : ℕ) where
  -- a token in front, by its text
  pub token_front : {at : ℕ} {ts : List SigToken} {e : End} (k : TokenKind) (w rest : List ℕ) → BeginsWith k (length w) (w ++ rest) → IsFit k w → Divides file (at + length w) ts e rest
      → Divides file at (token_of k (span file at (at + length w)) ∷ ts) e (w ++ rest)
  token_front {at = at} {ts = ts} {e = e} k w rest h f d =
      at_token h (subst (IsFit k) (sym (take-append_seam w rest)) f) (subst (Divides file (at + length w) ts e) (sym (drop-append_seam w rest)) d)

  -- the same place, and the same bytes
  moved : {at to : ℕ} {ts : List SigToken} {e : End} {bytes : List ℕ} → at ≡ to → Divides file at ts e bytes → Divides file to ts e bytes
  moved {ts = ts} {e = e} {bytes = bytes} i d = subst (λ at. Divides file at ts e bytes) i d

  written : {at : ℕ} {ts : List SigToken} {e : End} {bytes others : List ℕ} → bytes ≡ others → Divides file at ts e bytes → Divides file at ts e others
  written {at = at} {ts = ts} {e = e} i d = subst (Divides file at ts e) i d

  tokens_are : {at : ℕ} {ts us : List SigToken} {e : End} {bytes : List ℕ} → ts ≡ us → Divides file at ts e bytes → Divides file at us e bytes
  tokens_are {at = at} {e = e} {bytes = bytes} i d = subst (λ ts. Divides file at ts e bytes) i d

  pieces_divided : (ps : List Piece) (b : ℕ) (rest : List ℕ) {at : ℕ} {us : List SigToken} {e : End} → Apart ps b → Divides file (at + length (pieces_text ps)) us e (b ∷ rest)
      → Divides file at (tokens_at file at ps ++ us) e (pieces_text ps ++ b ∷ rest)
  pieces_divided [] b rest {at = at} h d = moved (omega arith) d
  pieces_divided (blank ∷ ps) b rest {at = at} h d = at_gap refl (pieces_divided ps b rest h (moved (omega arith) d))
  pieces_divided (tok k w ∷ ps) b rest {at = at} h d =
      let (tail, e) = first_is ps b rest in
      let begins = subst (λ next. BeginsWith k (length w) (w ++ next)) (sym e) (told_apart k w (first_byte ps b) tail h.0 h.2) in
      let long : (at + length (w ++ pieces_text ps)) ≡ (at + length w) + length (pieces_text ps) = omega (arith, length-append w (pieces_text ps)) in
      written (sym (append_assoc w (pieces_text ps) (b ∷ rest))) (token_front k w (pieces_text ps ++ b ∷ rest) begins h.1 (pieces_divided ps b rest h.3 (moved long d)))

  indent_divided : (depth : ℕ) {at : ℕ} {us : List SigToken} {e : End} {bytes : List ℕ} → Divides file (at + length (indent depth)) us e bytes → Divides file at us e (indent depth ++ bytes)
  indent_divided zero d = moved (omega arith) d
  indent_divided (suc depth) d = at_gap refl (at_gap refl (indent_divided depth (moved (omega arith) d)))

  comment_bytes : (i w bytes : List ℕ) → i ++ ((35 ∷ w) ++ 10 ∷ bytes) ≡ i ++ (35 ∷ w) ++ 10 ∷ [] ++ bytes
  comment_bytes i w bytes = sym (append_assoc i (35 ∷ w) (10 ∷ bytes)) ∙ sym (append_assoc (i ++ (35 ∷ w)) (10 ∷ []) bytes)

  comments_divided : (depth : ℕ) (ws : List (List ℕ)) {at : ℕ} {us : List SigToken} {e : End} {bytes : List ℕ} → AreComments ws
      → Divides file (at + length (flat_map (comment_text depth) ws)) us e bytes → Divides file at (comments_tokens file at depth ws ++ us) e (flat_map (comment_text depth) ws ++ bytes)
  comments_divided depth [] h d = moved (omega arith) d
  comments_divided depth (w ∷ ws) {at = at} {bytes = bytes} h d =
      let i = length (indent depth) in
      let others = flat_map (comment_text depth) ws in
      let long : length (comment_text depth w) ≡ (i + suc (length w)) + 1 = length-append (indent depth ++ (35 ∷ w)) (10 ∷ []) ∙ ap (λ n. n + 1) (length-append (indent depth) (35 ∷ w)) in
      let all : length (comment_text depth w ++ others) ≡ length (comment_text depth w) + length others = length-append (comment_text depth w) others in
      let further = comments_divided depth ws {at = at + length (comment_text depth w)} h.1 (moved (omega (arith, all)) d) in
      let newline = at_gap {at = at + i + suc (length w)} refl (moved (omega (arith, long)) further) in
      let comment = token_front {at = at + i} kind.Comment (35 ∷ w) (10 ∷ (others ++ bytes)) (comment_ended w (others ++ bytes) h.0) tt newline in
      written (comment_bytes (indent depth) w (others ++ bytes) ∙ sym (append_assoc (comment_text depth w) others bytes)) (indent_divided depth comment)

  line_bytes : (c i p bytes : List ℕ) → c ++ (i ++ (p ++ 10 ∷ bytes)) ≡ c ++ i ++ p ++ 10 ∷ [] ++ bytes
  line_bytes c i p bytes =
      ap (λ w. c ++ w) (sym (append_assoc i p (10 ∷ bytes))) ∙ sym (append_assoc c (i ++ p) (10 ∷ bytes)) ∙ ap (λ w. w ++ 10 ∷ bytes) (sym (append_assoc c i p)) ∙ sym (append_assoc (c ++ i ++ p) (10 ∷ []) bytes)

  line_length : (c i p : List ℕ) → length (c ++ i ++ p ++ 10 ∷ []) ≡ ((length c + length i) + length p) + 1
  line_length c i p = length-append (c ++ i ++ p) (10 ∷ []) ∙ ap (λ n. n + 1) (length-append (c ++ i) p ∙ ap (λ n. n + length p) (length-append c i))

  line_divided : (l : Line) {at : ℕ} {us : List SigToken} {e : End} {bytes : List ℕ} → IsApart l → Divides file (at + length (line_text l)) us e bytes
      → Divides file at (line_tokens file at l ++ us) e (line_text l ++ bytes)
  line_divided l {at = at} {us = us} {bytes = bytes} h d =
      let c = flat_map (comment_text l.depth) l.comments in
      let i = indent l.depth in
      let p = pieces_text l.pieces in
      let newline = at_gap {at = at + length c + length i + length p} refl (moved (omega (arith, line_length c i p)) d) in
      let pieces = indent_divided l.depth {at = at + length c} (pieces_divided l.pieces 10 bytes h.pieces newline) in
      let all = comments_divided l.depth l.comments {at = at} h.comments pieces in
      tokens_are (sym (append_assoc (comments_tokens file at l.depth l.comments) (tokens_at file (pieces_start at l) l.pieces) us)) (written (line_bytes c i p bytes) all)

  lines_divided : (ls : List Line) {at : ℕ} → AreApart ls → Divides file at (lines_tokens file at ls) whole (lines_text ls)
  lines_divided [] h = at_end
  lines_divided (l ∷ ls) h = line_divided l h.0 (lines_divided ls h.1)

-- the text of lines divides into their tokens
pub divided : (file : ℕ) (ls : List Line) → AreApart ls → Divides file 0 (lines_tokens file 0 ls) whole (lines_text ls)
divided file ls h = lines_divided file ls h
