-- What the reader makes of the name of a method: behind `def`, and as the new and the old name of an alias.
use Rattle.std.proofs.Common.{ℕ, ◌≡◌, refl, ◌∙◌, ap, Bool, true, false, if◌then◌else◌, List, [], ◌∷◌, ◌++◌, Option, Some, None}
use Rattle.rbs_terminals.specs.declared.token.Token.{Token}
use Rattle.rbs_terminals.specs.declared.token.Spot.{Spot}
use Rattle.rbs_terminals.specs.declared.token.Mark.{Mark}
use Rattle.rbs_terminals.specs.declared.token.Mark.TheVariants as mark
use Rattle.rbs_terminals.specs.declared.token.Keyword.TheVariants as keyword
use Rattle.rbs_terminals.specs.declared.token.Kind.{Kind}
use Rattle.rbs_terminals.specs.declared.token.Kind.TheVariants as kind
use Rattle.sig_model.specs.declared.decl.Vis.{Vis}
use Rattle.sig_model.specs.PlainDecl.{PlainDecls}
use Rattle.rbs_types.specs.Symbols.{token, sign, word}
use Rattle.rbs_declarations.specs.declared.operators.Operator.{Operator}
use Rattle.rbs_declarations.specs.declared.state.Begun.{Begun}
use Rattle.rbs_declarations.specs.declared.state.Frame.{Frame}
use Rattle.rbs_declarations.specs.declared.state.Signature.{Signature}
use Rattle.rbs_declarations.specs.declared.state.Focus.TheVariants as focus
use Rattle.rbs_declarations.specs.Operators.{operator_text}
use Rattle.rbs_declarations.specs.Words.{is_joined, ending_of}
use Rattle.rbs_declarations.specs.Grammar.{Marks, no_more, one_more, MethodName, bare_word, marked_word, an_operator, Single, of_instances, of_itself}
use Rattle.rbs_declarations.specs.Machine.{signed, after_method_name, method_ending, ending_if, operator_ended, operator_begins, method_begins, after_def_self, after_method_word, text_of_self}
use Rattle.rbs_declarations.proofs.OnTheWay.{at_least, Calm}
use Rattle.rbs_declarations.proofs.Onward.{level, reading, here, goes_on, moved}

-- no dot: behind `self` it would go on with the name
abbrev undotted : Kind → Type 0
undotted (kind.Mark mark.Dot) = ⊥
undotted _ = Unit {0}

abbrev Undotted : List Token → Type 0
Undotted [] = Unit {0}
Undotted (c ∷ ts) = undotted c.kind

ending_undotted : (m : Mark) (e : List ℕ) → ending_of m ≡ Some e → undotted (kind.Mark m)
ending_undotted mark.Dot e h = absurd (cc)
ending_undotted _ e h = tt

-- In the file of this number, whose last token ends at the byte `last`; at the place with these declarations and frames.
module _ (file last : ℕ) (ds : PlainDecls) (fs : List Frame) where
  -- ---- behind `def`

  no_ending : (b : Bool) → ending_if file b mark.Colon ≡ None
  no_ending true = refl
  no_ending false = refl

  word_ended : (sig : Signature) (s : Spot) (rest : List Token) → Calm (level 0 fs) (here file last (focus.MethodWord sig) ds fs (sign mark.Colon s ∷ rest)) (here file last (focus.Overload sig []) ds fs rest)
  word_ended sig s rest = moved file last (focus.MethodWord sig) ds fs (sign mark.Colon s) rest (focus.Overload sig []) (ap (method_ending file sig ds fs (kind.Mark mark.Colon)) (no_ending (is_joined s)))

  marks_read : {o o' : Operator} {s : Spot} {ts rest : List Token} (begun : Begun) (v : Option Vis) (single : Bool) → Marks o o' ts (sign mark.Colon s ∷ rest)
      → Calm (level 0 fs) (here file last (focus.MethodOperator begun v single o) ds fs ts) (here file last (focus.Overload (signed file begun v single (operator_text o')) []) ds fs rest)
  marks_read {o = o} {s = s} {rest = rest} begun v single (no_more e x) =
      moved file last (focus.MethodOperator begun v single o) ds fs (sign mark.Colon s) rest (focus.Overload (signed file begun v single (operator_text o)) [])
      (ap (operator_ended file begun v single o ds fs (kind.Mark mark.Colon)) x ∙ ap (λ b. if b then after_method_name file (signed file begun v single (operator_text o)) ds fs (kind.Mark mark.Colon) else None) e)
  marks_read {o = o} begun v single (one_more {o' = p} m s {ts = ts} e d) =
      moved file last (focus.MethodOperator begun v single o) ds fs (sign m s) ts (focus.MethodOperator begun v single p) (ap (operator_ended file begun v single o ds fs (kind.Mark m)) e) ∙ marks_read begun v single d

  pub method_name_read : {n : List ℕ} {s : Spot} {ts rest : List Token} (begun : Begun) (v : Option Vis) (single : Bool) → MethodName n ts (sign mark.Colon s ∷ rest)
      → Calm (level 0 fs) (here file last (focus.MethodStart begun v single) ds fs ts) (here file last (focus.Overload (signed file begun v single n) []) ds fs rest)
  method_name_read {s = s'} {rest = rest} begun v single (bare_word k w s e u) =
      moved file last (focus.MethodStart begun v single) ds fs (token k s) (sign mark.Colon s' ∷ rest) (focus.MethodWord (signed file begun v single w)) (ap (method_begins file begun v single ds fs k) e)
      ∙ word_ended (signed file begun v single w) s' rest
  method_name_read {s = t} {rest = rest} begun v single (marked_word k w e m s s' h x j) =
      moved file last (focus.MethodStart begun v single) ds fs (token k s) (sign m s' ∷ sign mark.Colon t ∷ rest) (focus.MethodWord (signed file begun v single w)) (ap (method_begins file begun v single ds fs k) h)
      ∙ moved file last (focus.MethodWord (signed file begun v single w)) ds fs (sign m s') (sign mark.Colon t ∷ rest) (focus.MethodName (signed file begun v single (w ++ e)))
      (ap (λ b. method_ending file (signed file begun v single w) ds fs (kind.Mark m) (ending_if file b m)) j ∙ ap (method_ending file (signed file begun v single w) ds fs (kind.Mark m)) x)
      ∙ moved file last (focus.MethodName (signed file begun v single (w ++ e))) ds fs (sign mark.Colon t) rest (focus.Overload (signed file begun v single (w ++ e)) []) refl
  method_name_read begun v single (an_operator {o = o} m s {ts = ts} e d) =
      moved file last (focus.MethodStart begun v single) ds fs (sign m s) ts (focus.MethodOperator begun v single o) (ap (operator_begins file begun v single ds fs) e) ∙ marks_read begun v single d

  self_ended : (begun : Begun) (v : Option Vis) (k : Kind) (s : Spot) → undotted k → after_def_self file begun v ds fs k s ≡ after_method_word file (signed file begun v false text_of_self) ds fs k s
  self_ended begun v (kind.Mark mark.Dot) s h = absurd h
  self_ended begun v _ s h = refl

  -- `self` is a name where no dot is behind it
  self_read : (begun : Begun) (v : Option Vis) (ts : List Token) → Undotted ts → here file last (focus.DefSelf begun v) ds fs ts ≡ here file last (focus.MethodWord (signed file begun v false text_of_self)) ds fs ts
  unfolding reading
  self_read begun v [] h = refl
  self_read begun v (c ∷ ts) h = ap (λ o. goes_on file last o ts) (self_ended begun v c.kind c.spot h)

  word_begun : (begun : Begun) (v : Option Vis) (k : Kind) (s : Spot) (ts : List Token) → Undotted ts → here file last (focus.Def begun v) ds fs (token k s ∷ ts) ≡ here file last (focus.MethodStart begun v false) ds fs (token k s ∷ ts)
  unfolding reading
  word_begun begun v (kind.Keyword keyword.SelfWord) s ts h = ap (at_least (level 0 fs)) (self_read begun v ts h)
  word_begun begun v _ s ts h = refl

  name_begun : {n : List ℕ} {s : Spot} {ts rest : List Token} (begun : Begun) (v : Option Vis) → MethodName n ts (sign mark.Colon s ∷ rest) → here file last (focus.Def begun v) ds fs ts ≡ here file last (focus.MethodStart begun v false) ds fs ts
  unfolding reading
  name_begun {s = s'} {rest = rest} begun v (bare_word k w s e u) = word_begun begun v k s (sign mark.Colon s' ∷ rest) tt
  name_begun {s = t} {rest = rest} begun v (marked_word k w e m s s' h x j) = word_begun begun v k s (sign m s' ∷ sign mark.Colon t ∷ rest) (ending_undotted m e x)
  name_begun begun v (an_operator m s e d) = refl

  pub def_read : {single : Bool} {n : List ℕ} {s : Spot} {ts mid rest : List Token} (begun : Begun) (v : Option Vis) → Single single ts mid → MethodName n mid (sign mark.Colon s ∷ rest)
      → Calm (level 0 fs) (here file last (focus.Def begun v) ds fs ts) (here file last (focus.Overload (signed file begun v single n) []) ds fs rest)
  def_read begun v of_instances d = ap (at_least (level 0 fs)) (name_begun begun v d) ∙ method_name_read begun v false d
  def_read begun v (of_itself s s' {rest = mid}) d =
      moved file last (focus.Def begun v) ds fs (word keyword.SelfWord s) (sign mark.Dot s' ∷ mid) (focus.DefSelf begun v) refl
      ∙ moved file last (focus.DefSelf begun v) ds fs (sign mark.Dot s') mid (focus.MethodStart begun v true) refl
      ∙ method_name_read begun v true d
