-- The tokens of a division stand in its bytes, and are terminals but for comments.
use Rattle.std.proofs.Common.{ℕ, zero, suc, ◌≡◌, ◌+◌, ◌-◌, ◌<◌, ◌≤◌, true, false, refl, sym, ◌∙◌, ap, subst, List, [], ◌∷◌, Option, Some, None, take, drop, arith, drop-drop, length-drop}
use Rattle.std.specs.List.{AllByRecursion}
use Rattle.rbs_lexer.specs.declared.token.TokenKind.{TokenKind}
use Rattle.rbs_lexer.specs.declared.token.SigToken.{SigToken}
use Rattle.rbs_lexer.specs.declared.token.TokenKind.TheVariants as kind
use Rattle.rbs_lexer.specs.Kinds.{IsToken, marks}
use Rattle.rbs_lexer.specs.Longest.{BeginsWith}
use Rattle.rbs_lexer.specs.Division.{IsFit, span, token_of, End, Divides, at_end, at_gap, at_token, at_stray, at_past}
use Rattle.rbs_lexer.proofs.Stands.{behind}
use Rattle.rbs_lexer.proofs.FirstBytes.{empty_token}
use Rattle.rbs_lexer.proofs.Bytes.{bool_cases}
use Rattle.rbs_lexer.proofs.Listed.{Each, among_each}
use Rattle.rbs_terminals.specs.declared.before.Before.{Before}
use Rattle.rbs_terminals.specs.declared.token.Keyword.{Keyword}
use Rattle.rbs_terminals.specs.declared.token.Token.{Token}
use Rattle.rbs_terminals.specs.Keywords.{keyword_of}
use Rattle.rbs_terminals.specs.Marks.{mark_of}
use Rattle.rbs_terminals.specs.Kinds.{word_kind, mark_kind, kind_at, IsOfToken}
use Rattle.rbs_terminals.specs.Terminals.{is_comment, text_of, behind_comment, behind_token, terminals_from, StandsFrom, AllStand}

module _ (file : ℕ) (bytes : List ℕ) where
  sooner : (at to : ℕ) (ts : List SigToken) → at ≤ to → AllStand bytes to ts → AllStand bytes at ts
  sooner at to [] l h = tt
  sooner at to (t ∷ ts) l h = let first = h.0 in (record { after = omega (arith, first.after); some = first.some; within = first.within; text = first.text; fit = first.fit }, h.1)

  size_is : (at n : ℕ) → (at + n) - at ≡ n
  size_is at n = omega arith

  some : (k : TokenKind) (n : ℕ) (rest : List ℕ) → BeginsWith k n rest → 0 < n
  some k zero rest h = absurd (empty_token k h.token)
  some k (suc n) rest h = omega arith

  stands : (at n : ℕ) (k : TokenKind) → BeginsWith k n (drop at bytes) → IsFit k (take n (drop at bytes)) → StandsFrom bytes at (token_of k (span file at (at + n)))
  stands at n k h f = record {
    after = omega arith;
    some = omega (arith, some k n (drop at bytes) h);
    within = omega (arith, h.within, length-drop at bytes, some k n (drop at bytes) h);
    text = subst (λ n. IsToken k (take n (drop at bytes))) (sym (size_is at n)) h.token;
    fit = subst (λ n. IsFit k (take n (drop at bytes))) (sym (size_is at n)) f;
  }

  all_from : {at : ℕ} {ts : List SigToken} {end : End} {rest : List ℕ} → Divides file at ts end rest → rest ≡ drop at bytes → AllStand bytes at ts
  all_from at_end e = tt
  all_from (at_gap {at = at} {b = b} {ts = ts} {bytes = rest} g d) e = sooner at (at + 1) ts (omega arith) (all_from d (behind file bytes at b rest e))
  all_from {rest = rest} (at_token {at = at} {n = n} {k = k} h f d) e =
      (stands at n k (subst (BeginsWith k n) e h) (subst (λ r. IsFit k (take n r)) e f), all_from d (ap (drop n) e ∙ drop-drop n at bytes))
  all_from (at_stray g h) e = tt
  all_from (at_past h f) e = tt

  -- the tokens of a division, also of one that ends before the bytes do
  pub all_stand : (ts : List SigToken) (end : End) → Divides file 0 ts end bytes → AllStand bytes 0 ts
  all_stand ts end d = all_from d refl

no_token : (k : TokenKind) → is_comment k ≡ true → is_comment k ≡ false → ⊥
no_token k e f = cc

marks_known : Each (λ w. IsOfToken (mark_kind (mark_of w))) marks
marks_known = (tt, (tt, (tt, (tt, (tt, (tt, (tt, (tt, (tt, (tt, (tt, (tt, (tt, (tt, (tt, (tt, (tt, (tt, (tt, (tt, (tt, (tt, (tt, (tt, (tt, (tt, tt))))))))))))))))))))))))))

word_known : (w : List ℕ) (k : Option Keyword) → IsOfToken (word_kind w k)
word_known w None = tt
word_known w (Some k) = tt

-- a token that isn't a comment is a terminal
kind_known : (k : TokenKind) (w : List ℕ) → is_comment k ≡ false → IsToken k w → IsOfToken (kind_at k w)
kind_known kind.Comment w e h = absurd (no_token kind.Comment refl e)
kind_known kind.Mark w e h = among_each (λ w. IsOfToken (mark_kind (mark_of w))) w marks marks_known h
kind_known kind.Ident w e h = word_known w (keyword_of w)
kind_known _ w e h = tt

-- the terminals of tokens are all of tokens
pub all_known : (bytes : List ℕ) (at : ℕ) (before : Before) (ts : List SigToken) → AllStand bytes at ts → AllByRecursion (λ (t : Token). IsOfToken t.kind) (terminals_from bytes before ts)
all_known bytes at before [] h = tt
all_known bytes at before (t ∷ ts) h =
    bool_cases (is_comment t.kind) (λ e. rw e (all_known bytes t.place.end (behind_comment bytes before t) ts h.1))
    (λ e. rw e (kind_known t.kind (text_of bytes t) e h.0.text, all_known bytes t.place.end (behind_token t) ts h.1))
