-- What the reader makes of an alias of a method. A `=` directly behind the new name ends it, or begins the old one.
use Rattle.std.proofs.Common.{ℕ, ◌≡◌, refl, ◌∙◌, ap, sym, subst, Bool, true, false, ◌&&◌, if◌then◌else◌, codes, List, [], ◌∷◌, ◌++◌, Some, None}
use Rattle.std.proofs.lemmas.Bool.{and_right}
use Rattle.rbs_terminals.specs.declared.token.Token.{Token}
use Rattle.rbs_terminals.specs.declared.token.Spot.{Spot}
use Rattle.rbs_terminals.specs.declared.token.Gap.{Gap}
use Rattle.rbs_terminals.specs.declared.token.Gap.TheVariants as gap
use Rattle.rbs_terminals.specs.declared.token.Mark.{Mark}
use Rattle.rbs_terminals.specs.declared.token.Mark.TheVariants as mark
use Rattle.rbs_terminals.specs.declared.token.Kind.{Kind}
use Rattle.rbs_terminals.specs.declared.token.Kind.TheVariants as kind
use Rattle.sig_model.specs.PlainMember.{alias}
use Rattle.sig_model.specs.PlainDecl.{PlainDecls}
use Rattle.rbs_types.specs.Symbols.{token, sign, scope_at, scope_follows}
use Rattle.rbs_declarations.specs.declared.operators.Operator.{Operator}
use Rattle.rbs_declarations.specs.declared.operators.Operator.TheVariants as operator
use Rattle.rbs_declarations.specs.declared.state.Begun.{Begun}
use Rattle.rbs_declarations.specs.declared.state.Frame.{Frame}
use Rattle.rbs_declarations.specs.declared.state.Focus.TheVariants as focus
use Rattle.rbs_declarations.specs.Operators.{operator_text, is_operator, begun_by}
use Rattle.rbs_declarations.specs.Words.{method_word, is_capital, is_joined, ending_of, extended_at, extension, end_at}
use Rattle.rbs_declarations.specs.Grammar.{Marks, no_more, one_more, MethodName, bare_word, marked_word, an_operator}
use Rattle.rbs_declarations.specs.Machine.{at, double_equals, with_equals, then_part, ending_if, ending_at, with_alias, old_operator, old_begins, after_new, new_operator, new_begins, new_marked, new_marked_if, after_new_word, joined_equals, new_operator_ended, old_word_ended, old_operator_ended}
use Rattle.rbs_declarations.proofs.Borders.{stops, Stops}
use Rattle.rbs_declarations.proofs.OnTheWay.{Read, at_least, twice, Calm}
use Rattle.rbs_declarations.proofs.Onward.{level, reading, here, goes_on, took, moved, membered_on}

-- In the file of this number, whose last token ends at the byte `last`; among the parts of this frame.
module _ (file last : ℕ) (ds : PlainDecls) (f : Frame) (fs : List Frame) (begun : Begun) where
  -- behind the alias
  abbrev aliased : List ℕ → List ℕ → List Token → Read
  aliased new old rest = membered_on file last begun (end_at last rest) (alias new old) ds (f ∷ fs) rest

  abbrev calm : Read → Read → Type 0
  calm a b = Calm (level 0 (f ∷ fs)) a b

  -- no token is between
  at_once : {a b : Read} → a ≡ b → calm a b
  at_once e = ap (at_least (level 0 (f ∷ fs))) e

  -- ---- the old name

  old_name_read : (new old : List ℕ) (rest : List Token) → here file last (focus.OldName begun new old) ds (f ∷ fs) rest ≡ aliased new old rest
  unfolding reading
  old_name_read new old [] = refl
  old_name_read new old (c ∷ ts) = refl

  unmarked : (b : Bool) → ending_if file b mark.Scope ≡ None
  unmarked true = refl
  unmarked false = refl

  unended : (k : Kind) (s : Spot) → stops k → ending_at file k s ≡ None
  unended (kind.Mark mark.Scope) s h = unmarked (is_joined s)
  unended (kind.Mark _) s h = absurd h
  unended _ s h = refl

  old_word_read : (new w : List ℕ) (capital : Bool) (rest : List Token) → Stops rest → (capital && scope_follows rest) ≡ false → here file last (focus.OldWord begun new w capital) ds (f ∷ fs) rest ≡ aliased new w rest
  unfolding reading
  old_word_read new w capital [] h u = refl
  old_word_read new w capital (c ∷ ts) h u =
      ap (λ b. goes_on file last (if b then None else old_word_ended file begun new w ds (f ∷ fs) c.kind c.spot (ending_at file c.kind c.spot)) ts) u
      ∙ ap (λ o. goes_on file last (old_word_ended file begun new w ds (f ∷ fs) c.kind c.spot o) ts) (unended c.kind c.spot h)

  ending_unscoped : (m : Mark) (e : List ℕ) (s : Spot) → ending_of m ≡ Some e → scope_at (kind.Mark m) s ≡ false
  ending_unscoped mark.Scope e s x = absurd (cc)
  ending_unscoped _ e s x = refl

  old_operator_read : (new : List ℕ) (o : Operator) (rest : List Token) → is_operator o ≡ true → extension o rest ≡ None → here file last (focus.OldOperator begun new o) ds (f ∷ fs) rest ≡ aliased new (operator_text o) rest
  unfolding reading
  old_operator_read new o [] e x = refl
  old_operator_read new o (c ∷ ts) e x =
      ap (λ p. goes_on file last (old_operator_ended file begun new o ds (f ∷ fs) c.kind c.spot p) ts) x
      ∙ ap (λ b. goes_on file last (if b then then_part file (Some (with_alias file begun new (operator_text o) c.spot.before ds (f ∷ fs))) c.kind c.spot else None) ts) e

  old_marks_read : {o o' : Operator} {ts rest : List Token} (new : List ℕ) → Marks o o' ts rest → calm (here file last (focus.OldOperator begun new o) ds (f ∷ fs) ts) (aliased new (operator_text o') rest)
  old_marks_read {o = o} {rest = rest} new (no_more e x) = at_once (old_operator_read new o rest e x)
  old_marks_read {o = o} new (one_more {o' = p} m s {ts = ts} e d) =
      moved file last (focus.OldOperator begun new o) ds (f ∷ fs) (sign m s) ts (focus.OldOperator begun new p) (ap (old_operator_ended file begun new o ds (f ∷ fs) (kind.Mark m) s) e) ∙ old_marks_read new d

  -- behind the new name
  old_read : {old : List ℕ} {ts rest : List Token} (new : List ℕ) → MethodName old ts rest → Stops rest → calm (here file last (focus.NewName begun new) ds (f ∷ fs) ts) (aliased new old rest)
  old_read new (bare_word k w s {rest = rest} e u) h =
      moved file last (focus.NewName begun new) ds (f ∷ fs) (token k s) rest (focus.OldWord begun new w (is_capital k)) (ap (old_begins file begun new ds (f ∷ fs) k) e)
      ∙ at_once (old_word_read new w (is_capital k) rest h u)
  old_read new (marked_word k w e m s s' {rest = rest} i x j) h =
      moved file last (focus.NewName begun new) ds (f ∷ fs) (token k s) (sign m s' ∷ rest) (focus.OldWord begun new w (is_capital k)) (ap (old_begins file begun new ds (f ∷ fs) k) i)
      ∙ moved file last (focus.OldWord begun new w (is_capital k)) ds (f ∷ fs) (sign m s') rest (focus.OldName begun new (w ++ e))
      (ap (λ b. if b then None else old_word_ended file begun new w ds (f ∷ fs) (kind.Mark m) s' (ending_if file (is_joined s') m)) (and_right (is_capital k) (scope_at (kind.Mark m) s') (ending_unscoped m e s' x))
      ∙ ap (λ b. old_word_ended file begun new w ds (f ∷ fs) (kind.Mark m) s' (ending_if file b m)) j
      ∙ ap (old_word_ended file begun new w ds (f ∷ fs) (kind.Mark m) s') x)
      ∙ at_once (old_name_read new (w ++ e) rest)
  old_read new (an_operator {o = o} m s {ts = ts} e d) h =
      moved file last (focus.NewName begun new) ds (f ∷ fs) (sign m s) ts (focus.OldOperator begun new o) (ap (old_operator file begun new ds (f ∷ fs)) e) ∙ old_marks_read new d

  -- ---- a `=` directly behind a new name's word

  no_double : (k : Kind) (s : Spot) → stops k → joined_equals file k s ≡ false
  no_double (kind.Mark mark.Scope) s h = refl
  no_double (kind.Mark _) s h = absurd h
  no_double _ s h = refl

  -- two of them are the old name where no further one follows
  double_read : (w : List ℕ) (rest : List Token) → Stops rest → here file last (focus.NewEqualsEquals begun w) ds (f ∷ fs) rest ≡ aliased w double_equals rest
  unfolding reading
  double_read w [] h = refl
  double_read w (c ∷ ts) h =
      ap (λ b. goes_on file last (if b then at (focus.OldName begun (with_equals w) double_equals) ds (f ∷ fs) else then_part file (Some (with_alias file begun w double_equals c.spot.before ds (f ∷ fs))) c.kind c.spot) ts)
      (no_double c.kind c.spot h)

  -- Only a further `=` that stands directly behind it goes on with the mark `=`, and nothing goes on with both.

  extends_equals : (m : Mark) (o : Operator) (x : ℕ) (g : Gap) (y z : ℕ) (cs : List (List ℕ)) → extended_at operator.Assign (kind.Mark m) (record { before = x; gap = g; start = y; end = z; comments = cs }) ≡ Some o
      → (joined_equals file (kind.Mark m) (record { before = x; gap = g; start = y; end = z; comments = cs }) ≡ true) × (operator.Equal ≡ o)
  extends_equals mark.Equals o x gap.Joined y z cs e = (refl, cc)
  extends_equals mark.Equals o x gap.Blank y z cs e = absurd (cc)
  extends_equals mark.Equals o x gap.Line y z cs e = absurd (cc)
  extends_equals _ o x gap.Joined y z cs e = absurd (cc)
  extends_equals _ o x gap.Blank y z cs e = absurd (cc)
  extends_equals _ o x gap.Line y z cs e = absurd (cc)

  extends_double : (m : Mark) (o : Operator) (x : ℕ) (g : Gap) (y z : ℕ) (cs : List (List ℕ)) → extended_at operator.Equal (kind.Mark m) (record { before = x; gap = g; start = y; end = z; comments = cs }) ≡ Some o → ⊥
  extends_double m o x gap.Joined y z cs e = absurd (cc)
  extends_double m o x gap.Blank y z cs e = absurd (cc)
  extends_double m o x gap.Line y z cs e = absurd (cc)

  -- behind both, as the old name
  doubled_read : {o' : Operator} {ts rest : List Token} (w : List ℕ) → Marks operator.Equal o' ts rest → Stops rest → here file last (focus.NewEqualsEquals begun w) ds (f ∷ fs) ts ≡ aliased w (operator_text o') rest
  doubled_read {rest = rest} w (no_more e x) h = double_read w rest h
  doubled_read w (one_more {o' = p} m s e d) h = absurd (extends_double m p s.before s.gap s.start s.end s.comments e)

  -- behind the first, which begins the old name
  equals_read : {o' : Operator} {ts rest : List Token} (w : List ℕ) → Marks operator.Assign o' ts rest → Stops rest → calm (here file last (focus.NewEquals begun w) ds (f ∷ fs) ts) (aliased w (operator_text o') rest)
  equals_read w (no_more e x) h = absurd (cc)
  equals_read {o' = q} {rest = rest} w (one_more {o' = p} m s {ts = ts} e d) h =
      let (j, i) = extends_equals m p s.before s.gap s.start s.end s.comments e in
      moved file last (focus.NewEquals begun w) ds (f ∷ fs) (sign m s) ts (focus.NewEqualsEquals begun w)
      (ap (λ b. if b then at (focus.NewEqualsEquals begun w) ds (f ∷ fs) else after_new file begun (with_equals w) ds (f ∷ fs) (kind.Mark m)) j)
      ∙ at_once (doubled_read w (subst (λ o. Marks o q ts rest) (sym i) d) h)

  -- behind the second, where the first ends the new name

  all_doubled_read : {o' : Operator} {ts rest : List Token} (w : List ℕ) → Marks operator.Equal o' ts rest → here file last (focus.OldName begun (with_equals w) double_equals) ds (f ∷ fs) ts ≡ aliased (with_equals w) (operator_text o') rest
  all_doubled_read {rest = rest} w (no_more e x) = old_name_read (with_equals w) double_equals rest
  all_doubled_read w (one_more {o' = p} m s e d) = absurd (extends_double m p s.before s.gap s.start s.end s.comments e)

  second_read : {o' : Operator} {ts rest : List Token} (w : List ℕ) → Marks operator.Assign o' ts rest → calm (here file last (focus.NewEqualsEquals begun w) ds (f ∷ fs) ts) (aliased (with_equals w) (operator_text o') rest)
  second_read w (no_more e x) = absurd (cc)
  second_read {o' = q} {rest = rest} w (one_more {o' = p} m s {ts = ts} e d) =
      let (j, i) = extends_equals m p s.before s.gap s.start s.end s.comments e in
      moved file last (focus.NewEqualsEquals begun w) ds (f ∷ fs) (sign m s) ts (focus.OldName begun (with_equals w) double_equals)
      (ap (λ b. if b then at (focus.OldName begun (with_equals w) double_equals) ds (f ∷ fs) else then_part file (Some (with_alias file begun w double_equals s.before ds (f ∷ fs))) (kind.Mark m) s) j)
      ∙ at_once (all_doubled_read w (subst (λ o. Marks o q ts rest) (sym i) d))

  -- ---- the new name

  -- the old name behind a new one that a `=` ends

  word_single : (k : Kind) (w : List ℕ) (s : Spot) → method_word k ≡ Some w → joined_equals file k s ≡ false
  word_single (kind.Mark m) w s e = absurd (cc)
  word_single _ w s e = refl

  single_read : (w : List ℕ) (c : Token) (ts : List Token) → joined_equals file c.kind c.spot ≡ false
      → here file last (focus.NewEquals begun w) ds (f ∷ fs) (c ∷ ts) ≡ here file last (focus.NewName begun (with_equals w)) ds (f ∷ fs) (c ∷ ts)
  unfolding reading
  single_read w c ts e = ap (λ b. goes_on file last (if b then at (focus.NewEqualsEquals begun w) ds (f ∷ fs) else after_new file begun (with_equals w) ds (f ∷ fs) c.kind) ts) e

  begins_equals : (m : Mark) (s : Spot) (o : Operator) → joined_equals file (kind.Mark m) s ≡ true → begun_by m ≡ Some o → operator.Assign ≡ o
  begins_equals mark.Equals s o j e = cc
  begins_equals _ s o j e = absurd (cc)

  ended_operator_read : {o o' : Operator} {ts rest : List Token} (w : List ℕ) (m : Mark) (s : Spot) (b : Bool) → joined_equals file (kind.Mark m) s ≡ b → begun_by m ≡ Some o → Marks o o' ts rest → Stops rest
      → calm (here file last (focus.NewEquals begun w) ds (f ∷ fs) (sign m s ∷ ts)) (aliased (with_equals w) (operator_text o') rest)
  ended_operator_read {ts = ts} w m s false j e d h = at_once (single_read w (sign m s) ts j) ∙ old_read (with_equals w) (an_operator m s e d) h
  ended_operator_read {o = o} {o' = q} {ts = ts} {rest = rest} w m s true j e d h =
      moved file last (focus.NewEquals begun w) ds (f ∷ fs) (sign m s) ts (focus.NewEqualsEquals begun w)
      (ap (λ b. if b then at (focus.NewEqualsEquals begun w) ds (f ∷ fs) else after_new file begun (with_equals w) ds (f ∷ fs) (kind.Mark m)) j)
      ∙ second_read w (subst (λ o. Marks o q ts rest) (sym (begins_equals m s o j e)) d)

  ended_read : {old : List ℕ} {ts rest : List Token} (w : List ℕ) → MethodName old ts rest → Stops rest → calm (here file last (focus.NewEquals begun w) ds (f ∷ fs) ts) (aliased (with_equals w) old rest)
  ended_read w (bare_word k v s {rest = rest} e u) h = at_once (single_read w (token k s) rest (word_single k v s e)) ∙ old_read (with_equals w) (bare_word k v s e u) h
  ended_read w (marked_word k v e m s s' {rest = rest} i x j) h =
      at_once (single_read w (token k s) (sign m s' ∷ rest) (word_single k v s i)) ∙ old_read (with_equals w) (marked_word k v e m s s' i x j) h
  ended_read w (an_operator m s e d) h = ended_operator_read w m s (joined_equals file (kind.Mark m) s) refl e d h

  -- the old name behind a new one that is a word

  word_plain : (w : List ℕ) (k : Kind) (v : List ℕ) (s : Spot) → method_word k ≡ Some v → after_new_word file begun w ds (f ∷ fs) k s ≡ after_new file begun w ds (f ∷ fs) k
  word_plain w (kind.Mark m) v s e = absurd (cc)
  word_plain w _ v s e = refl

  plain_read : (w : List ℕ) (k : Kind) (v : List ℕ) (s : Spot) (ts : List Token) → method_word k ≡ Some v
      → here file last (focus.NewWord begun w) ds (f ∷ fs) (token k s ∷ ts) ≡ here file last (focus.NewName begun w) ds (f ∷ fs) (token k s ∷ ts)
  unfolding reading
  plain_read w k v s ts e = ap (λ o. goes_on file last o ts) (word_plain w k v s e)

  plain_operator_read : {o o' : Operator} {ts rest : List Token} (w : List ℕ) (b : Bool) (m : Mark) (s : Spot) → begun_by m ≡ Some o → Marks o o' ts rest → Stops rest
      → calm (goes_on file last (new_marked_if file b begun w ds (f ∷ fs) m) ts) (aliased w (operator_text o') rest)
  unfolding reading
  plain_operator_read {o' = q} {ts = ts} {rest = rest} w true mark.Equals s e d h = twice (level 0 (f ∷ fs)) (here file last (focus.NewEquals begun w) ds (f ∷ fs) ts) ∙ equals_read w (subst (λ o. Marks o q ts rest) (sym (begins_assign e)) d) h
    where
      begins_assign : {o : Operator} → Some operator.Assign ≡ Some o → operator.Assign ≡ o
      begins_assign e = cc
  plain_operator_read w true mark.Question s e d h = absurd (cc)
  plain_operator_read w true mark.Bang s e d h = absurd (cc)
  plain_operator_read w _ m s e d h = old_read w (an_operator m s e d) h

  word_read : {old : List ℕ} {ts rest : List Token} (w : List ℕ) → MethodName old ts rest → Stops rest → calm (here file last (focus.NewWord begun w) ds (f ∷ fs) ts) (aliased w old rest)
  unfolding reading
  word_read w (bare_word k v s {rest = rest} e u) h = at_once (plain_read w k v s rest e) ∙ old_read w (bare_word k v s e u) h
  word_read w (marked_word k v e m s s' {rest = rest} i x j) h = at_once (plain_read w k v s (sign m s' ∷ rest) i) ∙ old_read w (marked_word k v e m s s' i x j) h
  word_read w (an_operator m s e d) h = plain_operator_read w (is_joined s) m s e d h

  -- the old name behind a new one that is a word with a mark

  marked_read : {old : List ℕ} {ts rest : List Token} (w e : List ℕ) (m : Mark) → ending_of m ≡ Some e → MethodName old ts rest → Stops rest → calm (goes_on file last (new_marked file begun w ds (f ∷ fs) m) ts) (aliased (w ++ e) old rest)
  marked_read {old = old} {ts = ts} {rest = rest} w e mark.Question x d h =
      let i : codes "?" ≡ e = cc in
      twice (level 0 (f ∷ fs)) (here file last (focus.NewName begun (w ++ codes "?")) ds (f ∷ fs) ts) ∙ old_read (w ++ codes "?") d h ∙ at_once (ap (λ e. aliased (w ++ e) old rest) i)
  marked_read {old = old} {ts = ts} {rest = rest} w e mark.Bang x d h =
      let i : codes "!" ≡ e = cc in
      twice (level 0 (f ∷ fs)) (here file last (focus.NewName begun (w ++ codes "!")) ds (f ∷ fs) ts) ∙ old_read (w ++ codes "!") d h ∙ at_once (ap (λ e. aliased (w ++ e) old rest) i)
  marked_read {old = old} {ts = ts} {rest = rest} w e mark.Equals x d h =
      let i : codes "=" ≡ e = cc in
      twice (level 0 (f ∷ fs)) (here file last (focus.NewEquals begun w) ds (f ∷ fs) ts) ∙ ended_read w d h ∙ at_once (ap (λ e. aliased (w ++ e) old rest) i)
  marked_read w e _ x d h = absurd (cc)

  new_operator_read : (o : Operator) (ts : List Token) → is_operator o ≡ true → extension o ts ≡ None
      → here file last (focus.NewOperator begun o) ds (f ∷ fs) ts ≡ here file last (focus.NewName begun (operator_text o)) ds (f ∷ fs) ts
  unfolding reading
  new_operator_read o [] e x = refl
  new_operator_read o (c ∷ ts) e x =
      ap (λ p. goes_on file last (new_operator_ended file begun o ds (f ∷ fs) c.kind p) ts) x
      ∙ ap (λ b. goes_on file last (if b then after_new file begun (operator_text o) ds (f ∷ fs) c.kind else None) ts) e

  new_marks_read : {o o' : Operator} {ts rest : List Token} → Marks o o' ts rest → calm (here file last (focus.NewOperator begun o) ds (f ∷ fs) ts) (here file last (focus.NewName begun (operator_text o')) ds (f ∷ fs) rest)
  new_marks_read {o = o} {rest = rest} (no_more e x) = at_once (new_operator_read o rest e x)
  new_marks_read {o = o} (one_more {o' = p} m s {ts = ts} e d) =
      moved file last (focus.NewOperator begun o) ds (f ∷ fs) (sign m s) ts (focus.NewOperator begun p) (ap (new_operator_ended file begun o ds (f ∷ fs) (kind.Mark m)) e) ∙ new_marks_read d

  pub alias_read : {new old : List ℕ} {ts mid rest : List Token} → MethodName new ts mid → MethodName old mid rest → Stops rest → Calm (level 0 (f ∷ fs)) (here file last (focus.Alias begun) ds (f ∷ fs) ts) (aliased new old rest)
  alias_read (bare_word k w s {rest = mid} e u) d h =
      moved file last (focus.Alias begun) ds (f ∷ fs) (token k s) mid (focus.NewWord begun w) (ap (new_begins file begun ds (f ∷ fs) k) e) ∙ word_read w d h
  alias_read (marked_word k w e m s s' {rest = mid} i x j) d h =
      moved file last (focus.Alias begun) ds (f ∷ fs) (token k s) (sign m s' ∷ mid) (focus.NewWord begun w) (ap (new_begins file begun ds (f ∷ fs) k) i)
      ∙ at_once (took file last (focus.NewWord begun w) ds (f ∷ fs) (sign m s') mid (new_marked file begun w ds (f ∷ fs) m) (ap (λ b. new_marked_if file b begun w ds (f ∷ fs) m) j))
      ∙ marked_read w e m x d h
  alias_read (an_operator {o = o} {o' = q} m s {ts = ts} e n) d h =
      moved file last (focus.Alias begun) ds (f ∷ fs) (sign m s) ts (focus.NewOperator begun o) (ap (new_operator file begun ds (f ∷ fs)) e)
      ∙ new_marks_read n
      ∙ old_read (operator_text q) d h
