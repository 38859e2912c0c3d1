-- Aliases of methods.
use Rattle.std.specs.Prelude.{ℕ, ◌≡◌, refl, Bool, true, false, ◌&&◌, if◌then◌else◌, codes, List, ◌∷◌, ◌++◌, Option, Some, None}
use Rattle.std.proofs.Common.{subst}
use Rattle.std.proofs.Math.Bool.{and-false}
use Rattle.rbs_terminals.specs.declared.token.Token.{Token}
use Rattle.rbs_terminals.specs.declared.token.Spot.{Spot}
use Rattle.rbs_terminals.specs.declared.token.Mark.{Mark}
use Rattle.rbs_terminals.specs.declared.token.Mark.TheVariants as mark
use Rattle.rbs_terminals.specs.declared.token.Kind.{Kind}
use Rattle.rbs_terminals.specs.declared.token.Kind.TheVariants as kind
use Rattle.sig_model.specs.declared.place.Place.{Place}
use Rattle.sig_model.specs.declared.decl.Notes.{Notes}
use Rattle.sig_model.specs.PlainMember.{PlainMember, alias as renamed}
use Rattle.sig_model.specs.PlainDecl.{PlainDecl, PlainDecls}
use Rattle.rbs_types.specs.Symbols.{token, sign, scope_at}
use Rattle.rbs_declarations.specs.declared.operators.Operator.{Operator}
use Rattle.rbs_declarations.specs.declared.state.Begun.{Begun}
use Rattle.rbs_declarations.specs.declared.state.Frame.{Frame}
use Rattle.rbs_declarations.specs.declared.state.Focus.TheVariants as focus
use Rattle.rbs_declarations.specs.declared.state.State.{State}
use Rattle.rbs_declarations.specs.Operators.{operator_text, is_operator}
use Rattle.rbs_declarations.specs.Words.{method_word, is_capital, is_joined, extended_at}
use Rattle.rbs_declarations.specs.Grammar.{bare_word, marked_word}
use Rattle.rbs_declarations.specs.Machine.{at, double_equals, with_equals, place_from, ending_at, operator_at, then_part, old_operator, old_begins, after_new, new_operator, new_begins, new_marked, new_marked_if, after_new_word, after_new_equals, after_new_equals_equals, with_alias, new_operator_ended, old_word_ended, old_ending, old_operator_ended}
use Rattle.rbs_declarations.proofs.Places.{OperatorAt, MemberedAt, OldAt, AliasAt, BehindDecl, BehindMember, StepAt}
use Rattle.rbs_declarations.proofs.NamePlaces.{ended_word, operator_begins_at, operator_goes_on, operator_ends, double_equals_at}
use Rattle.rbs_declarations.proofs.PartPlaces.{then_membered}

module _ (file last : ℕ) (text : List Token) where
  abbrev Declared : PlainDecls → List Frame → PlainDecl → List Token → Type 0
  Declared = BehindDecl file last text

  abbrev Membered : PlainDecls → List Frame → Place → Notes → PlainMember → List Token → Type 0
  Membered = BehindMember file last text

  abbrev Next : Option State → List Token → Type 0
  Next = StepAt file last text

  abbrev MemberedIn : PlainDecls → List Frame → Begun → PlainMember → List Token → Type 0
  MemberedIn ds fs = MemberedAt file last (Declared ds fs) (Membered ds fs)

  abbrev OldIn : PlainDecls → List Frame → Begun → List ℕ → List Token → Type 0
  OldIn ds fs = OldAt file last (Declared ds fs) (Membered ds fs)

  abbrev AliasIn : PlainDecls → List Frame → Begun → List Token → Type 0
  AliasIn ds fs = AliasAt file last (Declared ds fs) (Membered ds fs)

  -- the old name is whole
  pub old_whole : (begun : Begun) (new old : List ℕ) (ds : PlainDecls) (fs : List Frame) (k : Kind) (s : Spot) (ts : List Token) → MemberedIn ds fs begun (renamed new old) (token k s ∷ ts)
      → Next (then_part file (Some (with_alias file begun new old s.before ds fs)) k s) ts
  old_whole begun new old ds fs k s ts h = then_membered file last text ds fs (place_from file begun s.before) begun.notes (renamed new old) k s ts h

  old_operator_begins : (begun : Begun) (new : List ℕ) (ds : PlainDecls) (fs : List Frame) (x : Option Operator) (k : Kind) (s : Spot) (ts : List Token) → operator_at file k ≡ x → OldIn ds fs begun new (token k s ∷ ts)
      → Next (old_operator file begun new ds fs x) ts
  old_operator_begins begun new ds fs (Some o) k s ts e h = (token k s ∷ ts, h, operator_begins_at file o k s ts e)
  old_operator_begins begun new ds fs None k s ts e h = tt

  old_name_begins : (begun : Begun) (new : List ℕ) (ds : PlainDecls) (fs : List Frame) (x : Option (List ℕ)) (k : Kind) (s : Spot) (ts : List Token) → method_word k ≡ x → OldIn ds fs begun new (token k s ∷ ts)
      → Next (old_begins file begun new ds fs k x) ts
  old_name_begins begun new ds fs (Some x) k s ts e h = (k, s, e, refl, h)
  old_name_begins begun new ds fs None k s ts e h = old_operator_begins begun new ds fs (operator_at file k) k s ts refl h

  -- the new name is whole
  pub new_whole : (begun : Begun) (new : List ℕ) (ds : PlainDecls) (fs : List Frame) (k : Kind) (s : Spot) (ts : List Token) → OldIn ds fs begun new (token k s ∷ ts) → Next (after_new file begun new ds fs k) ts
  new_whole begun new ds fs k s ts h = old_name_begins begun new ds fs (method_word k) k s ts refl h

  new_operator_begins : (begun : Begun) (ds : PlainDecls) (fs : List Frame) (x : Option Operator) (k : Kind) (s : Spot) (ts : List Token) → operator_at file k ≡ x → AliasIn ds fs begun (token k s ∷ ts)
      → Next (new_operator file begun ds fs x) ts
  new_operator_begins begun ds fs (Some o) k s ts e h = (token k s ∷ ts, h, operator_begins_at file o k s ts e)
  new_operator_begins begun ds fs None k s ts e h = tt

  pub new_name_begins : (begun : Begun) (ds : PlainDecls) (fs : List Frame) (x : Option (List ℕ)) (k : Kind) (s : Spot) (ts : List Token) → method_word k ≡ x → AliasIn ds fs begun (token k s ∷ ts)
      → Next (new_begins file begun ds fs k x) ts
  new_name_begins begun ds fs (Some x) k s ts e h = (k, s, e, h)
  new_name_begins begun ds fs None k s ts e h = new_operator_begins begun ds fs (operator_at file k) k s ts refl h

  -- a word that ends without a mark
  bare_new : (begun : Begun) (x : List ℕ) (ds : PlainDecls) (fs : List Frame) (k : Kind) (s : Spot) (k' : Kind) (s' : Spot) (ts : List Token) → method_word k ≡ Some x → AliasIn ds fs begun (token k s ∷ token k' s' ∷ ts)
      → Next (after_new file begun x ds fs k') ts
  bare_new begun x ds fs k s (kind.Mark mark.Scope) s' ts w h = tt
  bare_new begun x ds fs k s k' s' ts w h = new_whole begun x ds fs k' s' ts (h x (token k' s' ∷ ts) (bare_word k x s w (and-false (is_capital k))))

  -- a mark directly behind the word: an ending of it, or what begins the old name
  new_mark_at : (begun : Begun) (x : List ℕ) (ds : PlainDecls) (fs : List Frame) (k : Kind) (s : Spot) (m : Mark) (s' : Spot) (ts : List Token) → method_word k ≡ Some x → is_joined s' ≡ true
      → AliasIn ds fs begun (token k s ∷ sign m s' ∷ ts) → Next (new_marked file begun x ds fs m) ts
  new_mark_at begun x ds fs k s mark.Question s' ts w j h = h (x ++ codes "?") ts (marked_word k x (codes "?") mark.Question s s' w refl j)
  new_mark_at begun x ds fs k s mark.Bang s' ts w j h = h (x ++ codes "!") ts (marked_word k x (codes "!") mark.Bang s s' w refl j)
  new_mark_at begun x ds fs k s mark.Equals s' ts w j h = (k, s, s', w, j, h)
  new_mark_at begun x ds fs k s m s' ts w j h = bare_new begun x ds fs k s (kind.Mark m) s' ts w h

  new_mark_if : (begun : Begun) (x : List ℕ) (ds : PlainDecls) (fs : List Frame) (k : Kind) (s : Spot) (m : Mark) (s' : Spot) (ts : List Token) (b : Bool) → is_joined s' ≡ b → method_word k ≡ Some x
      → AliasIn ds fs begun (token k s ∷ sign m s' ∷ ts) → Next (new_marked_if file b begun x ds fs m) ts
  new_mark_if begun x ds fs k s m s' ts true j w h = new_mark_at begun x ds fs k s m s' ts w j h
  new_mark_if begun x ds fs k s m s' ts false j w h = bare_new begun x ds fs k s (kind.Mark m) s' ts w h

  pub new_word_at : (begun : Begun) (x : List ℕ) (ds : PlainDecls) (fs : List Frame) (k : Kind) (s : Spot) (k' : Kind) (s' : Spot) (ts : List Token) → method_word k ≡ Some x
      → AliasIn ds fs begun (token k s ∷ token k' s' ∷ ts) → Next (after_new_word file begun x ds fs k' s') ts
  new_word_at begun x ds fs k s (kind.Mark m) s' ts w h = new_mark_if begun x ds fs k s m s' ts (is_joined s') refl w h
  new_word_at begun x ds fs k s k' s' ts w h = bare_new begun x ds fs k s k' s' ts w h

  -- a word with a `=` directly behind it
  equals_new : (begun : Begun) (x : List ℕ) (ds : PlainDecls) (fs : List Frame) (k : Kind) (s s' : Spot) (k' : Kind) (s'' : Spot) (ts : List Token) → method_word k ≡ Some x → is_joined s' ≡ true
      → AliasIn ds fs begun (token k s ∷ sign mark.Equals s' ∷ token k' s'' ∷ ts) → Next (after_new file begun (with_equals x) ds fs k') ts
  equals_new begun x ds fs k s s' k' s'' ts w j h = new_whole begun (with_equals x) ds fs k' s'' ts (h (with_equals x) (token k' s'' ∷ ts) (marked_word k x (codes "=") mark.Equals s s' w refl j))

  equals_if : (begun : Begun) (x : List ℕ) (ds : PlainDecls) (fs : List Frame) (k : Kind) (s s' s'' : Spot) (ts : List Token) (b : Bool) → is_joined s'' ≡ b → method_word k ≡ Some x → is_joined s' ≡ true
      → AliasIn ds fs begun (token k s ∷ sign mark.Equals s' ∷ sign mark.Equals s'' ∷ ts)
      → Next (if b then at (focus.NewEqualsEquals begun x) ds fs else after_new file begun (with_equals x) ds fs (kind.Mark mark.Equals)) ts
  equals_if begun x ds fs k s s' s'' ts true e w j h = (k, s, s', s'', w, j, e, h)
  equals_if begun x ds fs k s s' s'' ts false e w j h = equals_new begun x ds fs k s s' (kind.Mark mark.Equals) s'' ts w j h

  pub new_equals_at : (begun : Begun) (x : List ℕ) (ds : PlainDecls) (fs : List Frame) (k : Kind) (s s' : Spot) (k' : Kind) (s'' : Spot) (ts : List Token) → method_word k ≡ Some x → is_joined s' ≡ true
      → AliasIn ds fs begun (token k s ∷ sign mark.Equals s' ∷ token k' s'' ∷ ts) → Next (after_new_equals file begun x ds fs k' s'') ts
  new_equals_at begun x ds fs k s s' (kind.Mark mark.Equals) s'' ts w j h = equals_if begun x ds fs k s s' s'' ts (is_joined s'') refl w j h
  new_equals_at begun x ds fs k s s' k' s'' ts w j h = equals_new begun x ds fs k s s' k' s'' ts w j h

  -- a word, and then `==` as the old name
  equal_old : (begun : Begun) (x : List ℕ) (ds : PlainDecls) (fs : List Frame) (k : Kind) (s s' s'' : Spot) (k' : Kind) (s''' : Spot) (ts : List Token) → method_word k ≡ Some x → is_joined s'' ≡ true
      → AliasIn ds fs begun (token k s ∷ sign mark.Equals s' ∷ sign mark.Equals s'' ∷ token k' s''' ∷ ts) → Next (then_part file (Some (with_alias file begun x double_equals s'''.before ds fs)) k' s''') ts
  equal_old begun x ds fs k s s' s'' k' s''' ts w j h =
      old_whole begun x double_equals ds fs k' s''' ts
      (h x (sign mark.Equals s' ∷ sign mark.Equals s'' ∷ token k' s''' ∷ ts) (bare_word k x s w (and-false (is_capital k))) double_equals (token k' s''' ∷ ts) (double_equals_at s' s'' (token k' s''' ∷ ts) j))

  equal_if : (begun : Begun) (x : List ℕ) (ds : PlainDecls) (fs : List Frame) (k : Kind) (s s' s'' s''' : Spot) (ts : List Token) (b : Bool) → is_joined s''' ≡ b → method_word k ≡ Some x → is_joined s' ≡ true → is_joined s'' ≡ true
      → AliasIn ds fs begun (token k s ∷ sign mark.Equals s' ∷ sign mark.Equals s'' ∷ sign mark.Equals s''' ∷ ts)
      → Next (if b then at (focus.OldName begun (with_equals x) double_equals) ds fs else then_part file (Some (with_alias file begun x double_equals s'''.before ds fs)) (kind.Mark mark.Equals) s''') ts
  equal_if begun x ds fs k s s' s'' s''' ts true e w j j' h =
      h (with_equals x) (sign mark.Equals s'' ∷ sign mark.Equals s''' ∷ ts) (marked_word k x (codes "=") mark.Equals s s' w refl j) double_equals ts (double_equals_at s'' s''' ts e)
  equal_if begun x ds fs k s s' s'' s''' ts false e w j j' h = equal_old begun x ds fs k s s' s'' (kind.Mark mark.Equals) s''' ts w j' h

  pub new_equals_equals_at : (begun : Begun) (x : List ℕ) (ds : PlainDecls) (fs : List Frame) (k : Kind) (s s' s'' : Spot) (k' : Kind) (s''' : Spot) (ts : List Token) → method_word k ≡ Some x → is_joined s' ≡ true
      → is_joined s'' ≡ true → AliasIn ds fs begun (token k s ∷ sign mark.Equals s' ∷ sign mark.Equals s'' ∷ token k' s''' ∷ ts) → Next (after_new_equals_equals file begun x ds fs k' s''') ts
  new_equals_equals_at begun x ds fs k s s' s'' (kind.Mark mark.Equals) s''' ts w j j' h = equal_if begun x ds fs k s s' s'' s''' ts (is_joined s''') refl w j j' h
  new_equals_equals_at begun x ds fs k s s' s'' k' s''' ts w j j' h = equal_old begun x ds fs k s s' s'' k' s''' ts w j' h

  -- ---- operators as names

  new_operator_end : (begun : Begun) (o : Operator) (m : List Token) (ds : PlainDecls) (fs : List Frame) (k : Kind) (s : Spot) (ts : List Token) (b : Bool) → is_operator o ≡ b → extended_at o k s ≡ None
      → AliasIn ds fs begun m → OperatorAt o m (token k s ∷ ts) → Next (if b then after_new file begun (operator_text o) ds fs k else None) ts
  new_operator_end begun o m ds fs k s ts true e e' h g = new_whole begun (operator_text o) ds fs k s ts (h (operator_text o) (token k s ∷ ts) (operator_ends o m (token k s ∷ ts) e e' g))
  new_operator_end begun o m ds fs k s ts false e e' h g = tt

  pub new_operator_at : (begun : Begun) (o : Operator) (m : List Token) (ds : PlainDecls) (fs : List Frame) (x : Option Operator) (k : Kind) (s : Spot) (ts : List Token) → extended_at o k s ≡ x
      → AliasIn ds fs begun m → OperatorAt o m (token k s ∷ ts) → Next (new_operator_ended file begun o ds fs k x) ts
  new_operator_at begun o m ds fs (Some o') k s ts e h g = (m, h, operator_goes_on o o' m k s ts e g)
  new_operator_at begun o m ds fs None k s ts e h g = new_operator_end begun o m ds fs k s ts (is_operator o) refl e h g

  old_operator_end : (begun : Begun) (new : List ℕ) (o : Operator) (m : List Token) (ds : PlainDecls) (fs : List Frame) (k : Kind) (s : Spot) (ts : List Token) (b : Bool) → is_operator o ≡ b → extended_at o k s ≡ None
      → OldIn ds fs begun new m → OperatorAt o m (token k s ∷ ts) → Next (if b then then_part file (Some (with_alias file begun new (operator_text o) s.before ds fs)) k s else None) ts
  old_operator_end begun new o m ds fs k s ts true e e' h g = old_whole begun new (operator_text o) ds fs k s ts (h (operator_text o) (token k s ∷ ts) (operator_ends o m (token k s ∷ ts) e e' g))
  old_operator_end begun new o m ds fs k s ts false e e' h g = tt

  pub old_operator_at : (begun : Begun) (new : List ℕ) (o : Operator) (m : List Token) (ds : PlainDecls) (fs : List Frame) (x : Option Operator) (k : Kind) (s : Spot) (ts : List Token) → extended_at o k s ≡ x
      → OldIn ds fs begun new m → OperatorAt o m (token k s ∷ ts) → Next (old_operator_ended file begun new o ds fs k s x) ts
  old_operator_at begun new o m ds fs (Some o') k s ts e h g = (m, h, operator_goes_on o o' m k s ts e g)
  old_operator_at begun new o m ds fs None k s ts e h g = old_operator_end begun new o m ds fs k s ts (is_operator o) refl e h g

  -- ---- a word as the old name

  old_word_ending : (begun : Begun) (new x : List ℕ) (ds : PlainDecls) (fs : List Frame) (o : Option (List ℕ)) (k : Kind) (s : Spot) (k' : Kind) (s' : Spot) (ts : List Token) → ending_at file k' s' ≡ o
      → method_word k ≡ Some x → (is_capital k && scope_at k' s') ≡ false → OldIn ds fs begun new (token k s ∷ token k' s' ∷ ts) → Next (old_word_ended file begun new x ds fs k' s' o) ts
  old_word_ending begun new x ds fs (Some e) k s k' s' ts e' w c h = h (x ++ e) ts (ended_word file k x e s k' s' ts w e')
  old_word_ending begun new x ds fs None k s k' s' ts e' w c h = old_whole begun new x ds fs k' s' ts (h x (token k' s' ∷ ts) (bare_word k x s w c))

  old_word_unless : (begun : Begun) (new x : List ℕ) (ds : PlainDecls) (fs : List Frame) (k : Kind) (s : Spot) (k' : Kind) (s' : Spot) (ts : List Token) (b : Bool) → (is_capital k && scope_at k' s') ≡ b
      → method_word k ≡ Some x → OldIn ds fs begun new (token k s ∷ token k' s' ∷ ts) → Next (if b then None else old_word_ended file begun new x ds fs k' s' (ending_at file k' s')) ts
  old_word_unless begun new x ds fs k s k' s' ts true c w h = tt
  old_word_unless begun new x ds fs k s k' s' ts false c w h = old_word_ending begun new x ds fs (ending_at file k' s') k s k' s' ts refl w c h

  pub old_word_at : (begun : Begun) (new x : List ℕ) (capital : Bool) (ds : PlainDecls) (fs : List Frame) (k : Kind) (s : Spot) (k' : Kind) (s' : Spot) (ts : List Token) → method_word k ≡ Some x → is_capital k ≡ capital
      → OldIn ds fs begun new (token k s ∷ token k' s' ∷ ts) → Next (old_ending file begun new x capital ds fs k' s') ts
  old_word_at begun new x capital ds fs k s k' s' ts w c h =
      subst (λ b. Next (old_ending file begun new x b ds fs k' s') ts) c (old_word_unless begun new x ds fs k s k' s' ts (is_capital k && scope_at k' s') refl w h)
