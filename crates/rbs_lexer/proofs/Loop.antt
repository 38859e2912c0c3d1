-- The loop over the bytes.
use Rattle.std.proofs.Common.{ℕ, ◌≡◌, ◌+◌, ◌<◌, ◌≤◌, true, false, sym, ◌∙◌, ap, subst, List, [], ◌∷◌, ◌++◌, length, take, drop, get_or, append_assoc, add-one, drop-cons, drop-drop}
use Rattle.std.proofs.lemmas.List.{append-nil, drop_all}
use Rattle.rbs_lexer.specs.declared.token.TokenKind.{TokenKind}
use Rattle.rbs_lexer.specs.declared.token.TokenKind.TheVariants as kind
use Rattle.rbs_lexer.specs.declared.token.SigToken.{SigToken}
use Rattle.rbs_lexer.specs.Longest.{BeginsNone, BeginsWith}
use Rattle.rbs_lexer.specs.Division.{is_gap, IsFit, span, token_of, End, whole, stray, past, Divides, at_end, at_gap, at_token, at_stray, at_past, IsDivided}
use Rattle.rbs_lexer.proofs.OneDivision.{divides_only}

-- what follows a place, with its first byte
pub here : (bytes : List ℕ) (at : ℕ) → at < length bytes → drop at bytes ≡ get_or bytes at 0 ∷ drop (at + 1) bytes
here bytes at l = drop-cons bytes at 0 l ∙ ap (λ j. get_or bytes at 0 ∷ drop j bytes) (sym (add-one at))

module _ (file : ℕ) (bytes : List ℕ) where
  -- the tokens so far, and any division of what follows, are a division of the whole
  abbrev pub Extends : List SigToken → ℕ → Type 0
  Extends ts at = (us : List SigToken) (e : End) → Divides file at us e (drop at bytes) → Divides file 0 (ts ++ us) e bytes

  only : (ts : List SigToken) (e : End) → Divides file 0 ts e bytes → IsDivided file ts e bytes
  only ts e d = record { divided = d; only = λ us f c. divides_only file d c }

  module _ (ts : List SigToken) (at : ℕ) (h : Extends ts at) where
    pub gap_more : at < length bytes → is_gap (get_or bytes at 0) ≡ true → Extends ts (at + 1)
    gap_more l g us e d = h us e (subst (Divides file at us e) (sym (here bytes at l)) (at_gap g d))

    pub token_more : (k : TokenKind) (n : ℕ) → BeginsWith k n (drop at bytes) → IsFit k (take n (drop at bytes)) → Extends (ts ++ token_of k (span file at (at + n)) ∷ []) (at + n)
    token_more k n b f us e d =
        let one : SigToken = token_of k (span file at (at + n)) in
        subst (λ all. Divides file 0 all e bytes) (sym (append_assoc ts (one ∷ []) us)) (h (one ∷ us) e (at_token b f (subst (Divides file (at + n) us e) (sym (drop-drop n at bytes)) d)))

    end_of : (e : End) → Divides file at [] e (drop at bytes) → IsDivided file ts e bytes
    end_of e d = only ts e (subst (λ all. Divides file 0 all e bytes) (append-nil ts) (h [] e d))

    pub ended : length bytes ≤ at → IsDivided file ts whole bytes
    ended l = end_of whole (subst (Divides file at [] whole) (sym (drop_all at bytes l)) at_end)

    pub strayed : at < length bytes → is_gap (get_or bytes at 0) ≡ false → BeginsNone (drop at bytes) → IsDivided file ts (stray at) bytes
    strayed l g b = end_of (stray at) (subst (Divides file at [] (stray at)) (sym (here bytes at l)) (at_stray g (subst BeginsNone (here bytes at l) b)))

    pub passed : (k : TokenKind) (n : ℕ) → BeginsWith k n (drop at bytes) → (IsFit k (take n (drop at bytes)) → ⊥) → IsDivided file ts (past at) bytes
    passed kind.Int n b f = end_of (past at) (at_past b f)
    passed _ n b f = absurd (f tt)
