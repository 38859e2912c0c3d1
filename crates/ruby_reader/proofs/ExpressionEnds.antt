-- An expression that ends: in front of a token, or with the text.
use Rattle.std.specs.Prelude.{◌==◌, if◌then◌else◌}
use Rattle.std.proofs.Common.{arith, ◌≡◌, ℕ, ◌≤◌, Bool, true, false, refl, sym, ◌∙◌, ap, subst, List, [], ◌∷◌, ◌++◌, Option, Some, None}
use Rattle.ruby_tokens.specs.declared.token.Token.{Token}
use Rattle.ruby_tokens.specs.declared.token.Kind.{Kind}
use Rattle.ruby_tokens.specs.declared.token.Kind.TheVariants as kind
use Rattle.ruby_reader.specs.declared.tree.Expression.{Expression}
use Rattle.ruby_reader.specs.declared.progress.Turn.{Turn}
use Rattle.ruby_reader.specs.declared.progress.Turn.TheVariants as turn
use Rattle.ruby_reader.specs.declared.frames.Target.{Target}
use Rattle.ruby_reader.specs.declared.frames.Target.TheVariants.{Value, Class}
use Rattle.ruby_reader.specs.declared.frames.Call.{Call}
use Rattle.ruby_reader.specs.declared.frames.Frame.{Frame}
use Rattle.ruby_reader.specs.declared.expression.Way.{Way}
use Rattle.ruby_reader.specs.declared.expression.Way.TheVariants as way
use Rattle.ruby_reader.specs.declared.expression.ExpressionPlace.{ExpressionPlace}
use Rattle.ruby_reader.specs.declared.expression.ExpressionPlace.TheVariants as place
use Rattle.ruby_reader.specs.declared.expression.ExpressionReader.{ExpressionReader}
use Rattle.ruby_reader.specs.declared.expression.Outcome.TheVariants.{Reading, Ended}
use Rattle.ruby_reader.specs.PlainTree.{PlainExpression, PlainExpressions, no_expressions}
use Rattle.ruby_reader.specs.PlainLaws.{plain_expression}
use Rattle.ruby_reader.specs.Heights.{height, limit}
use Rattle.ruby_reader.specs.Grammar.{Skips, skips_none, Dots, dot_leads, Closes, Expressions, expression_calls, Calls, calls_none, calls_more, Arguments, arguments_none, ArgumentList, argument_last, argument_more}
use Rattle.ruby_reader.specs.ExpressionMachine.{called, made, is_low, within, frame, operand_of, with_operand, before, opened, with_made, may_call, dotted, ended, ends, in_frame, behind, behind_made, after_name, at_open, comma, step, expression_next, final_behind, final, expression_final}
use Rattle.ruby_reader.proofs.OpenCalls.{plain_call, call_is, MoreArguments, no_more, OpenArguments, opens_empty, opens_some, FramesLeft, DotLeft, dot_left, LeadsLeft, leads_left, HereLeft, here_leads, StopsOn, BehindLeft, goes_on, stops_on, PlaceLeft, ExpressionLeft, Surrounds, within_low}

no_operand : (fs : List Frame) (o : Option Target) {x : Expression} {t : Turn} → with_operand fs o ≡ Some (Ended x t) → ⊥
no_operand fs None e = absurd (cc)
no_operand fs (Some u) e = absurd (cc)

no_made : (fs : List Frame) (o : Option Expression) {x : Expression} {t : Turn} → with_made fs o ≡ Some (Ended x t) → ⊥
no_made fs None e = absurd (cc)
no_made fs (Some u) e = absurd (cc)

no_before : (fs : List Frame) (k : Kind) {x : Expression} {t : Turn} → before fs k ≡ Some (Ended x t) → ⊥
no_before fs kind.Newline e = absurd (cc)
no_before fs kind.TypeNote e = absurd (cc)
no_before fs k e = no_operand fs (operand_of k) e

no_opened : (fs : List Frame) (c : Call) (k : Kind) {x : Expression} {t : Turn} → opened fs c k ≡ Some (Ended x t) → ⊥
no_opened fs c kind.Close e = no_made fs (made c []) e
no_opened fs c kind.Newline e = absurd (cc)
no_opened fs c kind.TypeNote e = absurd (cc)
no_opened fs c k e = no_operand (frame c [] ∷ fs) (operand_of k) e

no_called : (fs : List Frame) (c : Call) (b : Bool) {x : Expression} {t : Turn} → (if b then Some (Reading (record { frames = fs; place = place.Called c })) else None) ≡ Some (Ended x t) → ⊥
no_called fs c true e = absurd (cc)
no_called fs c false e = absurd (cc)

no_dotted : (fs : List Frame) (u : Target) (k : Kind) (s f : ℕ) {x : Expression} {t : Turn} → dotted fs u k s f ≡ Some (Ended x t) → ⊥
no_dotted fs u kind.Newline s f e = absurd (cc)
no_dotted fs u kind.TypeNote s f e = absurd (cc)
no_dotted fs u (kind.Name n) s f e = no_called fs (record { target = u; name = n; start = s; end = f }) (may_call u n) e
no_dotted fs u _ s f e = absurd (cc)

no_comma : (fs : List Frame) (v : Way) {x : Expression} {t : Turn} → comma fs v ≡ Some (Ended x t) → ⊥
no_comma fs way.Here e = absurd (cc)
no_comma fs way.Line e = absurd (cc)
no_comma fs way.Noted e = absurd (cc)

no_dot : (fs : List Frame) (u : Target) (v : Way) {x : Expression} {t : Turn} → behind fs u v kind.Dot ≡ Some (Ended x t) → ⊥
no_dot fs u way.Here e = absurd (cc)
no_dot fs u way.Line e = absurd (cc)
no_dot fs u way.Noted e = absurd (cc)

no_frame : (f : Frame) (fs : List Frame) (y : Expression) (v : Way) (k : Kind) {x : Expression} {t : Turn} → in_frame f fs y v k ≡ Some (Ended x t) → ⊥
no_frame f fs y v kind.Comma e = no_comma (frame f.call (f.arguments ++ y ∷ []) ∷ fs) v e
no_frame f fs y v kind.Close e = no_made fs (made f.call (f.arguments ++ y ∷ [])) e
no_frame f fs y v _ e = absurd (cc)

ended_final : (y : Expression) (v : Way) {x : Expression} {t : Turn} → ended y v ≡ Some (Ended x t) → final_behind (Value y) v ≡ Some x
ended_final y way.Here e = cc
ended_final y way.Line e = cc
ended_final y way.Noted e = absurd (cc)

ends_final : (fs : List Frame) (y : Expression) (v : Way) (k : Kind) {x : Expression} {t : Turn} → ends fs y v k ≡ Some (Ended x t) → final fs (place.Behind (Value y) v) ≡ Some x
ends_final [] y v k e = ended_final y v e
ends_final (f ∷ fs) y v k e = absurd (no_frame f fs y v k e)

behind_final : (fs : List Frame) (u : Target) (v : Way) (k : Kind) {x : Expression} {t : Turn} → behind fs u v k ≡ Some (Ended x t) → final fs (place.Behind u v) ≡ Some x
behind_final fs u v kind.Dot e = absurd (no_dot fs u v e)
behind_final fs u v kind.LeadingDot e = absurd (cc)
behind_final fs u v kind.Newline e = absurd (cc)
behind_final fs u v kind.TypeNote e = absurd (cc)
behind_final fs (Value y) v k e = ends_final fs y v k e
behind_final fs (Class c) v _ e = absurd (cc)

-- a call without parentheses, where it may end
abbrev final_made : List Frame → Option Expression → Option Expression
final_made [] o = o
final_made (f ∷ fs) o = None

same_final : (fs : List Frame) (y x : Expression) → final fs (place.Behind (Value y) way.Here) ≡ Some x → final_made fs (Some y) ≡ Some x
same_final [] y x e = e
same_final (f ∷ fs) y x e = e

made_final : (fs : List Frame) (o : Option Expression) (k : Kind) {x : Expression} {t : Turn} → behind_made fs o k ≡ Some (Ended x t) → final_made fs o ≡ Some x
made_final fs None k e = absurd (cc)
made_final fs (Some y) k {x = x} e = same_final fs y x (behind_final fs (Value y) way.Here k e)

call_final : (fs : List Frame) (c : Call) → final_made fs (made c []) ≡ final fs (place.Called c)
call_final [] c = refl
call_final (f ∷ fs) c = refl

bare_final : (fs : List Frame) (c : Call) (k : Kind) {x : Expression} {t : Turn} → behind_made fs (made c []) k ≡ Some (Ended x t) → final fs (place.Called c) ≡ Some x
bare_final fs c k e = sym (call_final fs c) ∙ made_final fs (made c []) k e

open_final : (fs : List Frame) (c : Call) (b : Bool) {x : Expression} {t : Turn} → at_open b fs c (behind_made fs (made c []) kind.Open) ≡ Some (Ended x t) → final fs (place.Called c) ≡ Some x
open_final fs c true e = absurd (cc)
open_final fs c false e = bare_final fs c kind.Open e

name_final : (fs : List Frame) (c : Call) (k : Kind) (s : ℕ) {x : Expression} {t : Turn} → after_name fs c k s ≡ Some (Ended x t) → final fs (place.Called c) ≡ Some x
name_final fs c kind.Open s e = open_final fs c (s == c.end) e
name_final fs c k s e = bare_final fs c k e

step_final : (fs : List Frame) (p : ExpressionPlace) (c : Token) {x : Expression} {t : Turn} → step fs p c.kind c.start c.end ≡ Some (Ended x t) → final fs p ≡ Some x
step_final fs place.Before c e = absurd (no_before fs c.kind e)
step_final fs (place.Opened call) c e = absurd (no_opened fs call c.kind e)
step_final fs (place.Behind u v) c e = behind_final fs u v c.kind e
step_final fs (place.Dot u) c e = absurd (no_dotted fs u c.kind c.start c.end e)
step_final fs (place.Called call) c e = name_final fs call c.kind c.start e

-- an expression that ends in front of a token may end there
pub ended_there : (r : ExpressionReader) (c : Token) (x : Expression) (t : Turn) → expression_next r c ≡ Some (Ended x t) → expression_final r ≡ Some x
ended_there r c x t e = step_final r.frames r.place c e

module _ (P : Turn → PlainExpression → List Token → Type 0) (w : Surrounds P) where
  -- the expression with which the text ends
  abbrev pub EndsAs : Option Expression → List Token → Type 0
  EndsAs o ts = (x : Expression) × (t : Turn) × (o ≡ Some x) × P t (plain_expression x) ts

  no_skips : {t : Token} {ts : List Token} → Skips [] (t ∷ ts) → ⊥
  no_skips sk = elim sk [ ]

  no_expression : {x : PlainExpression} {mid on : List Token} → Skips [] mid → Expressions x mid on → ⊥
  no_expression skips_none (expression_calls o c) = elim o [ ]

  no_list : {xs : PlainExpressions} {mid : List Token} → ArgumentList xs [] mid → ⊥
  no_list (argument_last sk ex cl) = no_expression sk ex
  no_list (argument_more sk ex al) = no_expression sk ex

  no_arguments : {xs : PlainExpressions} {mid : List Token} → OpenArguments xs [] mid → ⊥
  no_arguments (opens_empty cl) = elim cl [ ]
  no_arguments (opens_some al) = no_list al

  no_dot_left : (fs : List Frame) (t : Target) → DotLeft P fs t [] → ⊥
  no_dot_left fs t (dot_left sk may a c g) = no_skips sk

  no_leads : (fs : List Frame) (t : Target) → LeadsLeft P fs t [] → ⊥
  no_leads fs t (leads_left sk d) = no_skips sk

  no_here : (fs : List Frame) (t : Target) → HereLeft P fs t [] → ⊥
  no_here fs t (here_leads l) = no_leads fs t l

  no_goes : (fs : List Frame) (t : Target) (v : Way) → BehindLeft P fs t v [] → StopsOn P fs t v []
  no_goes fs t way.Here (goes_on g) = absurd (no_here fs t g)
  no_goes fs t way.Line (goes_on g) = absurd (no_leads fs t g)
  no_goes fs t way.Noted (goes_on g) = absurd (no_leads fs t g)
  no_goes fs t v (stops_on g) = g

  no_more_left : {xs : PlainExpressions} {mid : List Token} → MoreArguments xs [] mid → ⊥
  no_more_left (no_more cl) = elim cl [ ]

  no_close : {mid : List Token} → Closes [] mid → ⊥
  no_close cl = elim cl [ ]

  stops_end : (fs : List Frame) (t : Target) (v : Way) → StopsOn P fs t v [] → EndsAs (final fs (place.Behind t v)) []
  stops_end [] (Value x) way.Here g = (x, turn.Taken, refl, g)
  stops_end [] (Value x) way.Line g = (x, turn.Free, refl, g)
  stops_end [] (Value x) way.Noted g = absurd g
  stops_end (f ∷ fs) (Value x) way.Here g = absurd (no_more_left g.4)
  stops_end (f ∷ fs) (Value x) way.Line g = absurd (no_close g.3)
  stops_end (f ∷ fs) (Value x) way.Noted g = absurd (no_close g.3)
  stops_end fs (Class c) v g = absurd g

  no_dots : {t : Token} {ts : List Token} → Dots [] (t ∷ ts) → ⊥
  no_dots (dot_leads sk on) = no_skips sk

  whole : (c : Call) → P turn.Taken (plain_call c no_expressions) [] → EndsAs (final [] (place.Called c)) []
  whole c g =
      let same = call_is c [] no_expressions refl in
      let low = w.low turn.Taken (plain_call c no_expressions) [] g in
      let h : height (plain_expression (called c [])) ≡ height (plain_call c no_expressions) = ap height same in
      let fits : height (plain_expression (called c [])) ≤ limit = omega arith in
      (called c [], turn.Taken, within_low (called c []) fits, subst (λ y. P turn.Taken y []) (sym same) g)

  call_end : (fs : List Frame) (c : Call) → FramesLeft P fs (plain_call c no_expressions) [] → EndsAs (final fs (place.Called c)) []
  call_end [] c g = whole c g
  call_end (f ∷ fs) c g = absurd (no_more_left g.4)

  calls_end : (fs : List Frame) (c : Call) {z : PlainExpression} {on : List Token} → Calls (plain_call c no_expressions) z [] on → FramesLeft P fs z on → EndsAs (final fs (place.Called c)) []
  calls_end fs c calls_none g = call_end fs c g
  calls_end fs c (calls_more may d a cs) g = absurd (no_dots d)

  name_end : (fs : List Frame) (c : Call) {at : ℕ} {xs : PlainExpressions} {z : PlainExpression} {mid on : List Token} → Arguments at xs [] mid → Calls (plain_call c xs) z mid on → FramesLeft P fs z on → EndsAs (final fs (place.Called c)) []
  name_end fs c arguments_none cs g = calls_end fs c cs g

  place_ends : (fs : List Frame) (p : ExpressionPlace) → PlaceLeft P fs p [] → EndsAs (final fs p) []
  place_ends fs place.Before g = absurd (no_expression g.3 g.4)
  place_ends fs (place.Opened c) g = absurd (no_arguments g.4)
  place_ends fs (place.Behind t v) g = stops_end fs t v (no_goes fs t v g)
  place_ends fs (place.Dot t) g = absurd (no_dot_left fs t g)
  place_ends fs (place.Called c) g = name_end fs c g.4 g.5 g.6

  -- what is left of an expression where the text ends
  pub expression_ends : (r : ExpressionReader) → ExpressionLeft P r [] → EndsAs (expression_final r) []
  expression_ends r g = place_ends r.frames r.place g

  abbrev Stands : Expression → List Token → Type 0
  Stands x ts = (t : Turn) → P t (plain_expression x) ts

  some_same : {a b : Expression} → Some a ≡ Some b → b ≡ a
  some_same e = cc

  by_low : (y x : Expression) (b : Bool) → (if b then Some y else None) ≡ Some x → x ≡ y
  by_low y x true e = some_same e
  by_low y x false e = absurd (cc)

  within_same : (y x : Expression) → within y ≡ Some x → x ≡ y
  within_same y x e = by_low y x (is_low y) e

  behind_finished : (t : Target) (v : Way) (x : Expression) (ts : List Token) → final_behind t v ≡ Some x → Stands x ts → BehindLeft P [] t v ts
  behind_finished (Value y) way.Here x ts e g = stops_on (subst (λ y. P turn.Taken (plain_expression y) ts) (some_same e) (g turn.Taken))
  behind_finished (Value y) way.Line x ts e g = stops_on (subst (λ y. P turn.Free (plain_expression y) ts) (some_same e) (g turn.Free))
  behind_finished (Value y) way.Noted x ts e g = absurd (cc)
  behind_finished (Class c) v x ts e g = absurd (cc)

  call_finished : (c : Call) (x : Expression) (ts : List Token) → made c [] ≡ Some x → Stands x ts → PlaceLeft P [] (place.Called c) ts
  call_finished c x ts e g =
      let same : x ≡ called c [] = within_same (called c []) x e in
      let is : plain_expression x ≡ plain_call c no_expressions = ap plain_expression same ∙ call_is c [] no_expressions refl in
      (no_expressions, ts, plain_call c no_expressions, ts, arguments_none, calls_none, subst (λ y. P turn.Taken y ts) is (g turn.Taken))

  place_finished : (fs : List Frame) (p : ExpressionPlace) (x : Expression) (ts : List Token) → final fs p ≡ Some x → Stands x ts → PlaceLeft P fs p ts
  place_finished [] place.Before x ts e g = absurd (cc)
  place_finished [] (place.Opened c) x ts e g = absurd (cc)
  place_finished [] (place.Behind t v) x ts e g = behind_finished t v x ts e g
  place_finished [] (place.Dot t) x ts e g = absurd (cc)
  place_finished [] (place.Called c) x ts e g = call_finished c x ts e g
  place_finished (f ∷ fs) p x ts e g = absurd (cc)

  -- an expression that may end does so in front of what may stand behind it
  pub expression_finished : (r : ExpressionReader) (x : Expression) (ts : List Token) → expression_final r ≡ Some x → Stands x ts → ExpressionLeft P r ts
  expression_finished r x ts e g = place_finished r.frames r.place x ts e g
