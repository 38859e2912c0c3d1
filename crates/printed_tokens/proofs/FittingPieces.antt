-- The terminals of the pieces of a line.
use Rattle.std.proofs.Common.{ℕ, ◌≡◌, ◌+◌, Bool, true, false, refl, sym, ◌∙◌, ap, subst, List, [], ◌∷◌, ◌++◌, length, append_assoc, Some, arith, length-append}
use Rattle.std.specs.Prelude.{if◌then◌else◌}
use Rattle.rbs_lexer.specs.declared.token.TokenKind.{TokenKind}
use Rattle.rbs_lexer.specs.declared.token.TokenKind.TheVariants as token
use Rattle.rbs_lexer.specs.declared.token.SigToken.{SigToken}
use Rattle.rbs_lexer.specs.Division.{span, token_of}
use Rattle.rbs_lexer.proofs.FirstBytes.{clash}
use Rattle.rbs_terminals.specs.declared.before.Before.{Before}
use Rattle.rbs_terminals.specs.declared.token.Gap.{Gap}
use Rattle.rbs_terminals.specs.declared.token.Gap.TheVariants as gap
use Rattle.rbs_terminals.specs.Kinds.{kind_at}
use Rattle.rbs_terminals.specs.Terminals.{is_comment, text_of, behind_comment, behind_token, terminal_at, terminals_from}
use Rattle.printed_tokens.specs.Pieces.{Piece, blank, tok, pieces_text, tokens_at, first_byte, ends, Apart}
use Rattle.printed_tokens.specs.Fits.{Fits}
use Rattle.printed_tokens.proofs.Since.{lines_in, lines_append, Since, slice_is, since_more, since_there, since_now, since_same, gap_of, gap_is}

-- no piece is a comment
pub no_comment : (k : TokenKind) (w : List ℕ) (b : ℕ) → ends k w b ≡ true → is_comment k ≡ false
no_comment token.Comment w b e = absurd (clash e)
no_comment _ w b e = refl

choose_false : {A : Type 0} (t : Bool) (x y : A) → t ≡ false → (if t then x else y) ≡ y
choose_false true x y e = absurd (clash (sym e))
choose_false false x y e = refl

pub token_terminal : (bytes : List ℕ) (before : Before) (t : SigToken) (ts : List SigToken) → is_comment t.kind ≡ false
    → terminals_from bytes before (t ∷ ts) ≡ terminal_at bytes before t ∷ terminals_from bytes (behind_token t) ts
token_terminal bytes before t ts f =
    choose_false (is_comment t.kind) (terminals_from bytes (behind_comment bytes before t) ts) (terminal_at bytes before t ∷ terminals_from bytes (behind_token t) ts) f

-- behind a token that ends there
abbrev pub inside : ℕ → Before
inside end = record { last = Some end; end = end; comments = [] }

module _ (file : ℕ) (bytes : List ℕ) (more : List SigToken) where
  -- the pieces are those terminals, and no newline stands behind the last of them
  abbrev pub Goes : (from at : ℕ) → Gap → List Piece → List ℕ → Type 0
  Goes from at g ps post =
      (end : ℕ) × (between : List ℕ) × Fits g ps (terminals_from bytes (inside from) (tokens_at file at ps ++ more)) (terminals_from bytes (inside end) more)
      × Since bytes end (at + length (pieces_text ps)) between post × (lines_in between ≡ 0)

  blank_gap : (w : List ℕ) → gap_of (w ++ 32 ∷ []) ≡ gap.Blank
  blank_gap [] = refl
  blank_gap (b ∷ w) = refl

  blank_lines : (w : List ℕ) → lines_in w ≡ 0 → lines_in (w ++ 32 ∷ []) ≡ 0
  blank_lines w e = lines_append w (32 ∷ []) ∙ ap (λ n. n + lines_in (32 ∷ [])) e

  pub pieces_fit : (ps : List Piece) (from at : ℕ) (between post : List ℕ) (b : ℕ) → Since bytes from at between (pieces_text ps ++ post) → lines_in between ≡ 0 → Apart ps b → Goes from at (gap_of between) ps post
  pieces_fit [] from at between post b h e a = (from, between, refl, since_same (at + length (pieces_text [])) between post post (omega arith) refl h, e)
  pieces_fit (blank ∷ ps) from at between post b h e a =
      let further : Since bytes from (at + 1) (between ++ 32 ∷ []) (pieces_text ps ++ post) = since_more between (32 ∷ []) (pieces_text ps ++ post) h in
      let (end, rest, f, s, n) = pieces_fit ps from (at + 1) (between ++ 32 ∷ []) post b further (blank_lines between e) a in
      let place : ((at + 1) + length (pieces_text ps)) ≡ at + length (pieces_text (blank ∷ ps)) = omega arith in (
        end,
        rest,
        subst (λ g. Fits g ps (terminals_from bytes (inside from) (tokens_at file (at + 1) ps ++ more)) (terminals_from bytes (inside end) more)) (blank_gap between) f,
        since_same (at + length (pieces_text (blank ∷ ps))) rest post post place refl s,
        n,
      )
  pieces_fit (tok k w ∷ ps) from at between post b h e a =
      let t = token_of k (span file at (at + length w)) in
      let here : Since bytes from at between (w ++ (pieces_text ps ++ post)) = since_same at between ((w ++ pieces_text ps) ++ post) (w ++ (pieces_text ps ++ post)) refl (append_assoc w (pieces_text ps) post) h in
      let there = since_there between w (pieces_text ps ++ post) here in
      let (end, rest, f, s, n) = pieces_fit ps (at + length w) (at + length w) [] post b (since_now w (pieces_text ps ++ post) there) refl a.3 in
      let place : ((at + length w) + length (pieces_text ps)) ≡ at + length (w ++ pieces_text ps) = omega (arith, length-append w (pieces_text ps)) in
      let text : kind_at k (text_of bytes t) ≡ kind_at k w = ap (kind_at k) (slice_is w (pieces_text ps ++ post) there) in (
        end,
        rest,
        subst (λ ts. Fits (gap_of between) (tok k w ∷ ps) ts (terminals_from bytes (inside end) more))
            (sym (token_terminal bytes (inside from) t (tokens_at file (at + length w) ps ++ more) (no_comment k w (first_byte ps b) a.2))) (text, gap_is between (w ++ (pieces_text ps ++ post)) here e, f),
        since_same (at + length (w ++ pieces_text ps)) rest post post place refl s,
        n,
      )
