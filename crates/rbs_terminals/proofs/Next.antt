-- The next terminal, by the first token that is no comment.
use Rattle.std.proofs.Common.{ℕ, ◌≡◌, ◌≤◌, true, false, cond, refl, sym, ◌∙◌, ap, subst, List, [], ◌∷◌, Option, Some, None, arith}
use Rattle.std.specs.Prelude.{IfSome, MatchOption}
use Rattle.rbs_lexer.specs.declared.token.TokenKind.{TokenKind}
use Rattle.rbs_lexer.specs.declared.token.TokenKind.TheVariants as token
use Rattle.rbs_lexer.specs.declared.token.SigToken.{SigToken}
use Rattle.rbs_lexer.proofs.Bytes.{bool_cases}
use Rattle.rbs_terminals.specs.declared.before.Before.{Before}
use Rattle.rbs_terminals.specs.declared.token.Keyword.{Keyword}
use Rattle.rbs_terminals.specs.declared.token.Mark.{Mark}
use Rattle.rbs_terminals.specs.declared.token.Token.{Token}
use Rattle.rbs_terminals.specs.declared.token.Kind.TheVariants as kind
use Rattle.rbs_terminals.specs.declared.sorts.Sort.TheVariants as sort
use Rattle.rbs_terminals.specs.Sorts.{sort_of, next_sort, next_gap, next_before}
use Rattle.rbs_terminals.specs.Keywords.{keyword_of}
use Rattle.rbs_terminals.specs.Marks.{mark_of}
use Rattle.rbs_terminals.specs.Kinds.{word_kind, mark_kind, kind_at}
use Rattle.rbs_terminals.specs.Terminals.{is_comment, text_of, gap_at, end_or_start, behind, behind_comment, behind_token, terminal_at, begins_uncommented, behind_first, first_token, terminals_from, StandsFrom, AllStand}

-- the terminals begin with that of the token: its kind, where it stands and what is before it
pub record Begins (bytes : List ℕ) (last : Option ℕ) (t : SigToken) (c : Token) : Type 0 where
  pub kind : c.kind ≡ kind_at t.kind (text_of bytes t)
  pub gap : c.spot.gap ≡ gap_at bytes last t.place.start
  pub before : c.spot.before ≡ end_or_start last
  pub end : c.spot.end ≡ t.place.end

clash : false ≡ true → ⊥
clash e = cc

some_is : {u t : SigToken} → Some u ≡ Some t → u ≡ t
some_is e = cc

-- nothing follows where no token but comments does, else the first token is the terminal that follows
module _ (bytes : List ℕ) where
  pub next_is : (before : Before) (ts : List SigToken)
      → MatchOption (first_token ts) (terminals_from bytes before ts ≡ []) (λ t. (c : Token) × (terminals_from bytes before ts ≡ c ∷ terminals_from bytes (behind_token t) (behind_first ts)) × Begins bytes before.last t c)
  next_is before [] = refl
  next_is before (t ∷ ts) = bool_cases (is_comment t.kind)
      (λ e. rw e (next_is (behind_comment bytes before t) ts))
      (λ e. rw e (_, refl, record { kind = refl; gap = refl; before = refl; end = refl }))

  further : (at to : ℕ) (r : Option SigToken) → at ≤ to → IfSome r (λ t. StandsFrom bytes to t) → IfSome r (λ t. StandsFrom bytes at t)
  further at to None l h = tt
  further at to (Some t) l h = record { after = omega (arith, h.after, l); some = h.some; within = h.within; text = h.text; fit = h.fit }

  -- that token stands in the bytes
  pub first_stands : (at : ℕ) (ts : List SigToken) → AllStand bytes at ts → IfSome (first_token ts) (λ t. StandsFrom bytes at t)
  first_stands at [] h = tt
  first_stands at (t ∷ ts) h = bool_cases (is_comment t.kind)
      (λ e. rw e (further at t.place.end (first_token ts) (omega (arith, h.0.after, h.0.some)) (first_stands t.place.end ts h.1)))
      (λ e. rw e h.0)

  pub none_next : (before : Before) (ts : List SigToken) → first_token ts ≡ None → terminals_from bytes before ts ≡ []
  none_next before ts e = subst (λ r. MatchOption r (terminals_from bytes before ts ≡ []) (λ t. (c : Token) × (terminals_from bytes before ts ≡ c ∷ terminals_from bytes (behind_token t) (behind_first ts)) × Begins bytes before.last t c)) e (next_is before ts)

  pub some_next : (before : Before) (ts : List SigToken) (t : SigToken) → first_token ts ≡ Some t
      → (c : Token) × (terminals_from bytes before ts ≡ c ∷ terminals_from bytes (behind_token t) (behind_first ts)) × Begins bytes before.last t c
  some_next before ts t e = subst (λ r. MatchOption r (terminals_from bytes before ts ≡ []) (λ t. (c : Token) × (terminals_from bytes before ts ≡ c ∷ terminals_from bytes (behind_token t) (behind_first ts)) × Begins bytes before.last t c)) e (next_is before ts)

  pub stands_next : (at : ℕ) (ts : List SigToken) (t : SigToken) → AllStand bytes at ts → first_token ts ≡ Some t → StandsFrom bytes at t
  stands_next at ts t h e = subst (λ r. IfSome r (λ t. StandsFrom bytes at t)) e (first_stands at ts h)

  -- the terminals from that one on
  pub from_first : (before : Before) (ts : List SigToken) (t : SigToken) (b : Before) (rest : List SigToken) → first_token ts ≡ Some t → behind_first ts ≡ rest → b ≡ behind t.place.end
      → (c : Token) × (terminals_from bytes before ts ≡ c ∷ terminals_from bytes b rest) × Begins bytes before.last t c
  from_first before ts t b rest e f g = let n = some_next before ts t e in (n.0, rw (g, ← f) n.1, n.2)

  -- where the first token is no comment, the terminals begin with that which it is
  pub leading : (before : Before) (ts : List SigToken) (t : SigToken) (rest : List SigToken) (b : Before) → begins_uncommented ts ≡ true → ts ≡ t ∷ rest → b ≡ behind t.place.end
      → terminals_from bytes before ts ≡ terminal_at bytes before t ∷ terminals_from bytes b rest
  leading before ts t rest b h e f = bool_cases (is_comment t.kind)
      (λ g. absurd (clash (subst (λ b. cond b false true ≡ true) g (subst (λ ts. begins_uncommented ts ≡ true) e h))))
      (λ g. rw (e, f, g) refl)

  further_all : (at to : ℕ) (ts : List SigToken) → at ≤ to → AllStand bytes to ts → AllStand bytes at ts
  further_all at to [] l h = tt
  further_all at to (t ∷ ts) l h = (further at to (Some t) l h.0, h.1)

  -- what is behind it stands behind it
  pub rest_stands : (at : ℕ) (ts : List SigToken) (t : SigToken) → AllStand bytes at ts → first_token ts ≡ Some t → AllStand bytes t.place.end (behind_first ts)
  rest_stands at [] t h e = tt
  rest_stands at (u ∷ ts) t h e = bool_cases (is_comment u.kind)
      (λ f. rw f (rest_stands u.place.end ts t h.1 (subst (λ b. cond b (first_token ts) (Some u) ≡ Some t) f e)))
      (λ f. rw f (subst (λ v. AllStand bytes v.place.end ts) (some_is (subst (λ b. cond b (first_token ts) (Some u) ≡ Some t) f e)) h.1))

  pub sort_is : (before : Before) (ts : List SigToken) (t : SigToken) → first_token ts ≡ Some t → next_sort (terminals_from bytes before ts) ≡ Some (sort_of (kind_at t.kind (text_of bytes t)))
  sort_is before ts t e = let n = some_next before ts t e in ap next_sort n.1 ∙ ap (λ k. Some (sort_of k)) n.2.kind

  pub gap_is : (before : Before) (ts : List SigToken) (t : SigToken) → first_token ts ≡ Some t → next_gap (terminals_from bytes before ts) ≡ Some (gap_at bytes before.last t.place.start)
  gap_is before ts t e = let n = some_next before ts t e in ap next_gap n.1 ∙ ap (λ g. Some g) n.2.gap

  pub before_is : (before : Before) (ts : List SigToken) (t : SigToken) → first_token ts ≡ Some t → next_before (terminals_from bytes before ts) ≡ Some (end_or_start before.last)
  before_is before ts t e = let n = some_next before ts t e in ap next_before n.1 ∙ ap (λ b. Some b) n.2.before

lower_word : (w : List ℕ) (k : Option Keyword) → sort.Lower ≡ sort_of (word_kind w k) → word_kind w k ≡ kind.Lower w
lower_word w None e = refl
lower_word w (Some k) e = absurd (cc)

lower_mark : {w : List ℕ} (m : Option Mark) → sort.Lower ≡ sort_of (mark_kind m) → mark_kind m ≡ kind.Lower w
lower_mark None e = absurd (cc)
lower_mark (Some m) e = absurd (cc)

-- a small word is its text
pub lower_is : (k : TokenKind) (w : List ℕ) → sort.Lower ≡ sort_of (kind_at k w) → kind_at k w ≡ kind.Lower w
lower_is token.Ident w e = lower_word w (keyword_of w) e
lower_is token.Mark w e = lower_mark (mark_of w) e
lower_is _ w e = absurd (cc)

pub last_before : (last : Option ℕ) {end start : ℕ} → IfSome last (λ l. l ≤ end) → end ≤ start → IfSome last (λ l. l ≤ start)
last_before None h l = tt
last_before (Some n) h l = omega (arith, h, l)

-- behind a token nothing was left out
pub standing : (bytes : List ℕ) (end : ℕ) (b : Before) (rest : List SigToken) → b ≡ behind end → AllStand bytes end rest → (IfSome b.last (λ last. last ≤ b.end)) × AllStand bytes b.end rest
standing bytes end b rest e h = subst (λ (b : Before). (IfSome b.last (λ last. last ≤ b.end)) × AllStand bytes b.end rest) (sym e) (omega arith, h)
