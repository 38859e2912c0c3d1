-- What takes the reader of an expression on, or stands behind the expression, is a token of it or behind it.
use Rattle.std.specs.Prelude.{◌==◌, if◌then◌else◌}
use Rattle.std.proofs.Common.{◌≡◌, ℕ, Bool, true, false, refl, subst, List, [], ◌∷◌, ◌++◌, Some, None}
use Rattle.std.proofs.lemmas.Bool.{eqb-true}
use Rattle.names.proofs.Places.{same_name-true}
use Rattle.ruby_tokens.specs.declared.token.Token.{Token}
use Rattle.ruby_tokens.specs.declared.token.Kind.{Kind}
use Rattle.ruby_tokens.specs.declared.token.Kind.TheVariants as kind
use Rattle.ruby_reader.specs.declared.tree.Expression.{Expression}
use Rattle.ruby_reader.specs.declared.progress.Turn.{Turn}
use Rattle.ruby_reader.specs.declared.progress.Turn.TheVariants as turn
use Rattle.ruby_reader.specs.declared.frames.Target.{Target}
use Rattle.ruby_reader.specs.declared.frames.Target.TheVariants.{Value, Class}
use Rattle.ruby_reader.specs.declared.frames.Call.{Call}
use Rattle.ruby_reader.specs.declared.frames.Frame.{Frame}
use Rattle.ruby_reader.specs.declared.expression.Way.{Way}
use Rattle.ruby_reader.specs.declared.expression.Way.TheVariants as way
use Rattle.ruby_reader.specs.declared.expression.ExpressionPlace.{ExpressionPlace}
use Rattle.ruby_reader.specs.declared.expression.ExpressionPlace.TheVariants as place
use Rattle.ruby_reader.specs.declared.expression.ExpressionReader.{ExpressionReader}
use Rattle.ruby_reader.specs.declared.expression.Outcome.TheVariants.{Reading}
use Rattle.ruby_reader.specs.PlainTree.{PlainExpression, PlainExpressions, no_expressions, more_expressions}
use Rattle.ruby_reader.specs.PlainLaws.{plain_expression, plain_expressions, plain-Literal, plain-Local}
use Rattle.ruby_reader.specs.Called.{new_word}
use Rattle.ruby_reader.specs.Grammar.{tok, IsSkipped, skipped_newline, skipped_note, literal_int, literal_str, literal_sym, literal_nil, Skips, skips_none, skips_more, Dots, dot_here, dot_leads, close_skip, close_here, Expressions, expression_calls, Operands, operand_literal, operand_local, operand_new, Calls, calls_none, calls_more, Arguments, arguments_none, arguments_empty, arguments_some, ArgumentList, argument_last, argument_more}
use Rattle.ruby_reader.specs.ExpressionMachine.{called, made, frame, operand_of, with_operand, before, opened, with_made, may_call, dotted, lined, ended, ends, in_frame, behind, behind_made, after_name, at_open, step, expression_next}
use Rattle.ruby_reader.proofs.OpenCalls.{plain_call, call_is, MayCall, MoreArguments, no_more, some_more, OpenArguments, opens_empty, opens_some, with_arguments, FramesLeft, NotedLeft, DotLeft, dot_left, LeadsLeft, leads_left, here_dot, here_leads, StopsOn, BehindLeft, goes_on, stops_on, PlaceLeft, ExpressionLeft, ExpressionGoes, Surrounds, append_one, plain_one, within_out}

module _ (P : Turn → PlainExpression → List Token → Type 0) (w : Surrounds P) where
  -- the calls on a value, and what stands behind them
  abbrev pub ValueLeft : List Frame → PlainExpression → List Token → Type 0
  ValueLeft fs y ts = (z : PlainExpression) × (mid : List Token) × Calls y z ts mid × FramesLeft P fs z mid

  behind_value : (fs : List Frame) (x : Expression) {ts : List Token} → BehindLeft P fs (Value x) way.Here ts → ValueLeft fs (plain_expression x) ts
  behind_value fs x (goes_on (here_dot (dot_left {z = z} {last = last} sk may a c g))) = (z, last, calls_more may (dot_here sk) a c, g)
  behind_value fs x (goes_on (here_leads (leads_left sk (dot_left {z = z} {last = last} on may a c g)))) = (z, last, calls_more may (dot_leads sk on) a c, g)
  behind_value fs x {ts = ts} (stops_on g) = (plain_expression x, ts, calls_none, g)

  pub value_left : (fs : List Frame) (x : Expression) (y : PlainExpression) {ts : List Token} → plain_expression x ≡ y → BehindLeft P fs (Value x) way.Here ts → ValueLeft fs y ts
  value_left fs x y {ts = ts} same b = subst (λ y. ValueLeft fs y ts) same (behind_value fs x b)

  made_left : (fs : List Frame) (c : Call) (xs : List Expression) (ys : PlainExpressions) (t : Token) {ts : List Token} → plain_expressions xs ≡ ys → ExpressionGoes P (with_made fs (made c xs)) t ts → ValueLeft fs (plain_call c ys) ts
  made_left fs c xs ys t {ts = ts} same g =
      value_left fs (called c xs) (plain_call c ys) (call_is c xs ys same) (within_out (λ o. ExpressionGoes P (with_made fs o) t ts) (called c xs) (λ g. g) g)

  -- an expression from its first token on
  abbrev FirstLeft : List Frame → List Token → Type 0
  FirstLeft fs ts = (x : PlainExpression) × (on : List Token) × Expressions x ts on × FramesLeft P fs x on

  first_left : (fs : List Frame) {x : PlainExpression} {t : Token} {ts : List Token} → Operands x (t ∷ ts) ts → ValueLeft fs x ts → FirstLeft fs (t ∷ ts)
  first_left fs o v = (v.0, v.1, expression_calls o v.2, v.3)

  class_left : (fs : List Frame) (c : List ℕ) {s e : ℕ} {ts : List Token} → BehindLeft P fs (Class c) way.Here ts → FirstLeft fs (tok (kind.Upper c) s e ∷ ts)
  class_left fs c (goes_on (here_dot {s = b} {e = d} (dot_left {s = s} {e = e} {z = z} {ts = ts} {mid = mid} {last = last} sk may a cs g))) =
      (z, last, expression_calls (operand_new (subst (λ n. Dots (tok kind.Dot b d ∷ ts) (tok (kind.Name n) s e ∷ mid)) may (dot_here sk)) a) cs, g)
  class_left fs c (goes_on (here_leads (leads_left {ts = ts} sk (dot_left {s = s} {e = e} {z = z} {mid = mid} {last = last} on may a cs g)))) =
      (z, last, expression_calls (operand_new (subst (λ n. Dots ts (tok (kind.Name n) s e ∷ mid)) may (dot_leads sk on)) a) cs, g)
  class_left fs c (stops_on g) = absurd g

  pub operand_left : (fs : List Frame) (k : Kind) {s e : ℕ} {ts : List Token} → ExpressionGoes P (with_operand fs (operand_of k)) (tok k s e) ts → FirstLeft fs (tok k s e ∷ ts)
  operand_left fs (kind.Integer z) g = first_left fs (operand_literal literal_int) (value_left fs _ _ (plain-Literal _) g)
  operand_left fs (kind.Text z) g = first_left fs (operand_literal literal_str) (value_left fs _ _ (plain-Literal _) g)
  operand_left fs (kind.Symbol z) g = first_left fs (operand_literal literal_sym) (value_left fs _ _ (plain-Literal _) g)
  operand_left fs kind.Nil g = first_left fs (operand_literal literal_nil) (value_left fs _ _ (plain-Literal _) g)
  operand_left fs (kind.Name n) g = first_left fs operand_local (value_left fs _ _ (plain-Local _) g)
  operand_left fs (kind.Upper c) g = class_left fs c g
  operand_left fs _ g = absurd g

  before_first : (fs : List Frame) {ts : List Token} → FirstLeft fs ts → PlaceLeft P fs place.Before ts
  before_first fs {ts = ts} f = (f.0, ts, f.1, skips_none, f.2, f.3)

  before_left : (fs : List Frame) (k : Kind) {s e : ℕ} {ts : List Token} → ExpressionGoes P (before fs k) (tok k s e) ts → PlaceLeft P fs place.Before (tok k s e ∷ ts)
  before_left fs kind.Newline g = (g.0, g.1, g.2, skips_more skipped_newline g.3, g.4, g.5)
  before_left fs kind.TypeNote g = (g.0, g.1, g.2, skips_more skipped_note g.3, g.4, g.5)
  before_left fs k g = before_first fs (operand_left fs k g)

  list_skips : {k : Kind} {s e : ℕ} {xs : PlainExpressions} {ts rest : List Token} → IsSkipped k → ArgumentList xs ts rest → ArgumentList xs (tok k s e ∷ ts) rest
  list_skips i (argument_last sk ex cl) = argument_last (skips_more i sk) ex cl
  list_skips i (argument_more sk ex al) = argument_more (skips_more i sk) ex al

  arguments_skip : {k : Kind} {s e : ℕ} {xs : PlainExpressions} {ts rest : List Token} → IsSkipped k → OpenArguments xs ts rest → OpenArguments xs (tok k s e ∷ ts) rest
  arguments_skip i (opens_empty cl) = opens_empty (close_skip i cl)
  arguments_skip i (opens_some al) = opens_some (list_skips i al)

  with_more : {x : PlainExpression} {xs : PlainExpressions} {ts mid on rest : List Token} → Skips ts mid → Expressions x mid on → MoreArguments xs on rest → ArgumentList (more_expressions x xs) ts rest
  with_more sk ex (no_more cl) = argument_last sk ex cl
  with_more sk ex (some_more al) = argument_more sk ex al

  opened_first : (fs : List Frame) (call : Call) {ts : List Token} → FirstLeft (frame call [] ∷ fs) ts → PlaceLeft P fs (place.Opened call) ts
  opened_first fs call f = let g = f.3 in (more_expressions f.0 g.0, g.1, g.2, g.3, opens_some (with_more skips_none f.2 g.4), g.5, g.6)

  opened_empty : (fs : List Frame) (call : Call) {s e : ℕ} {ts : List Token} → ValueLeft fs (plain_call call no_expressions) ts → PlaceLeft P fs (place.Opened call) (tok kind.Close s e ∷ ts)
  opened_empty fs call {ts = ts} v = (no_expressions, ts, v.0, v.1, opens_empty close_here, v.2, v.3)

  opened_left : (fs : List Frame) (call : Call) (k : Kind) {s e : ℕ} {ts : List Token} → ExpressionGoes P (opened fs call k) (tok k s e) ts → PlaceLeft P fs (place.Opened call) (tok k s e ∷ ts)
  opened_left fs call kind.Close {s = s} {e = e} g = opened_empty fs call (made_left fs call [] no_expressions (tok kind.Close s e) refl g)
  opened_left fs call kind.Newline g = (g.0, g.1, g.2, g.3, arguments_skip skipped_newline g.4, g.5, g.6)
  opened_left fs call kind.TypeNote g = (g.0, g.1, g.2, g.3, arguments_skip skipped_note g.4, g.5, g.6)
  opened_left fs call k g = opened_first fs call (operand_left (frame call [] ∷ fs) k g)

  true_may : (t : Target) (n : List ℕ) → may_call t n ≡ true → MayCall t n
  true_may (Value x) n e = e
  true_may (Class c) n e = same_name-true n new_word e

  call_left : (fs : List Frame) (t : Target) (n : List ℕ) (s e : ℕ) (ts : List Token) (b : Bool) → may_call t n ≡ b
      → ExpressionGoes P (if b then Some (Reading (record { frames = fs; place = place.Called (record { target = t; name = n; start = s; end = e }) })) else None) (tok (kind.Name n) s e) ts → DotLeft P fs t (tok (kind.Name n) s e ∷ ts)
  call_left fs t n s e ts true is g = dot_left skips_none (true_may t n is) g.4 g.5 g.6
  call_left fs t n s e ts false is g = absurd g

  dot_skips : (fs : List Frame) (t : Target) {k : Kind} {s e : ℕ} {ts : List Token} → IsSkipped k → DotLeft P fs t ts → DotLeft P fs t (tok k s e ∷ ts)
  dot_skips fs t i (dot_left sk may a c g) = dot_left (skips_more i sk) may a c g

  dotted_left : (fs : List Frame) (t : Target) (k : Kind) {s e : ℕ} {ts : List Token} → ExpressionGoes P (dotted fs t k s e) (tok k s e) ts → DotLeft P fs t (tok k s e ∷ ts)
  dotted_left fs t kind.Newline g = dot_skips fs t skipped_newline g
  dotted_left fs t kind.TypeNote g = dot_skips fs t skipped_note g
  dotted_left fs t (kind.Name n) {s = s} {e = e} {ts = ts} g = call_left fs t n s e ts (may_call t n) refl g
  dotted_left fs t _ g = absurd g

  goes_leads : (fs : List Frame) (t : Target) (v : Way) {ts : List Token} → LeadsLeft P fs t ts → BehindLeft P fs t v ts
  goes_leads fs t way.Here l = goes_on (here_leads l)
  goes_leads fs t way.Line l = goes_on l
  goes_leads fs t way.Noted l = goes_on l

  leads_skips : (fs : List Frame) (t : Target) {k : Kind} {s e : ℕ} {ts : List Token} → IsSkipped k → LeadsLeft P fs t ts → LeadsLeft P fs t (tok k s e ∷ ts)
  leads_skips fs t i (leads_left sk d) = leads_left (skips_more i sk) d

  -- a skipped token in front of the parenthesis that closes a call
  closes_skip : (f : Frame) (fs : List Frame) (x : PlainExpression) (k : Kind) (s e : ℕ) (ts : List Token) → IsSkipped k → NotedLeft P (f ∷ fs) x ts → NotedLeft P (f ∷ fs) x (tok k s e ∷ ts)
  closes_skip f fs x k s e ts i g = (g.0, g.1, g.2, close_skip i g.3, g.4, g.5)

  closes_here : (f : Frame) (fs : List Frame) (x : PlainExpression) (ts : List Token) → NotedLeft P (f ∷ fs) x ts → FramesLeft P (f ∷ fs) x ts
  closes_here f fs x ts g = (no_expressions, g.0, g.1, g.2, no_more g.3, g.4, g.5)

  newline_stops : (fs : List Frame) (x : Expression) (v : Way) (s e : ℕ) (ts : List Token) → StopsOn P fs (Value x) (lined v) ts → StopsOn P fs (Value x) v (tok kind.Newline s e ∷ ts)
  newline_stops [] x way.Here s e ts g = w.from_line turn.Taken (plain_expression x) s e ts g
  newline_stops [] x way.Line s e ts g = w.from_line turn.Free (plain_expression x) s e ts g
  newline_stops [] x way.Noted s e ts g = absurd g
  newline_stops (f ∷ fs) x way.Here s e ts g = closes_here f fs (plain_expression x) _ (closes_skip f fs (plain_expression x) kind.Newline s e ts skipped_newline g)
  newline_stops (f ∷ fs) x way.Line s e ts g = closes_skip f fs (plain_expression x) kind.Newline s e ts skipped_newline g
  newline_stops (f ∷ fs) x way.Noted s e ts g = closes_skip f fs (plain_expression x) kind.Newline s e ts skipped_newline g

  note_stops : (fs : List Frame) (x : Expression) (v : Way) (s e : ℕ) (ts : List Token) → StopsOn P fs (Value x) way.Noted ts → StopsOn P fs (Value x) v (tok kind.TypeNote s e ∷ ts)
  note_stops [] x v s e ts g = absurd g
  note_stops (f ∷ fs) x way.Here s e ts g = closes_here f fs (plain_expression x) _ (closes_skip f fs (plain_expression x) kind.TypeNote s e ts skipped_note g)
  note_stops (f ∷ fs) x way.Line s e ts g = closes_skip f fs (plain_expression x) kind.TypeNote s e ts skipped_note g
  note_stops (f ∷ fs) x way.Noted s e ts g = closes_skip f fs (plain_expression x) kind.TypeNote s e ts skipped_note g

  on_lined : (fs : List Frame) (t : Target) (v : Way) {ts : List Token} → BehindLeft P fs t (lined v) ts → (s e : ℕ) → BehindLeft P fs t v (tok kind.Newline s e ∷ ts)
  on_lined fs t way.Here (goes_on l) s e = goes_leads fs t way.Here (leads_skips fs t skipped_newline l)
  on_lined fs t way.Line (goes_on l) s e = goes_leads fs t way.Line (leads_skips fs t skipped_newline l)
  on_lined fs t way.Noted (goes_on l) s e = goes_leads fs t way.Noted (leads_skips fs t skipped_newline l)
  on_lined fs (Value x) v {ts = ts} (stops_on g) s e = stops_on (newline_stops fs x v s e ts g)
  on_lined fs (Class c) v (stops_on g) s e = absurd g

  on_noted : (fs : List Frame) (t : Target) (v : Way) {ts : List Token} → BehindLeft P fs t way.Noted ts → (s e : ℕ) → BehindLeft P fs t v (tok kind.TypeNote s e ∷ ts)
  on_noted fs t v (goes_on l) s e = goes_leads fs t v (leads_skips fs t skipped_note l)
  on_noted fs (Value x) v {ts = ts} (stops_on g) s e = stops_on (note_stops fs x v s e ts g)
  on_noted fs (Class c) v (stops_on g) s e = absurd g

  comma_left : (f : Frame) (fs : List Frame) (x : Expression) (s e : ℕ) (ts : List Token) → PlaceLeft P (frame f.call (f.arguments ++ x ∷ []) ∷ fs) place.Before ts → FramesLeft P (f ∷ fs) (plain_expression x) (tok kind.Comma s e ∷ ts)
  comma_left f fs x s e ts g =
      let r = g.5 in
      (more_expressions g.0 r.0, r.1, r.2, r.3, some_more (with_more g.3 g.4 r.4), subst (λ ys. Calls (plain_call f.call ys) r.2 r.1 r.3) (append_one f.arguments x (more_expressions g.0 r.0)) r.5, r.6)

  comma_stops : (f : Frame) (fs : List Frame) (x : Expression) (v : Way) (s e : ℕ) (ts : List Token) → ExpressionGoes P (in_frame f fs x v kind.Comma) (tok kind.Comma s e) ts → StopsOn P (f ∷ fs) (Value x) v (tok kind.Comma s e ∷ ts)
  comma_stops f fs x way.Here s e ts g = comma_left f fs x s e ts g
  comma_stops f fs x way.Line s e ts g = absurd g
  comma_stops f fs x way.Noted s e ts g = absurd g

  closed_left : (f : Frame) (fs : List Frame) (x : PlainExpression) (s e : ℕ) (ts : List Token) → ValueLeft fs (with_arguments f x no_expressions) ts → NotedLeft P (f ∷ fs) x (tok kind.Close s e ∷ ts)
  closed_left f fs x s e ts v = (ts, v.0, v.1, close_here, v.2, v.3)

  close_stops : (f : Frame) (fs : List Frame) (x : Expression) (v : Way) (s e : ℕ) (ts : List Token) → NotedLeft P (f ∷ fs) (plain_expression x) (tok kind.Close s e ∷ ts) → StopsOn P (f ∷ fs) (Value x) v (tok kind.Close s e ∷ ts)
  close_stops f fs x way.Here s e ts g = closes_here f fs (plain_expression x) _ g
  close_stops f fs x way.Line s e ts g = g
  close_stops f fs x way.Noted s e ts g = g

  frame_stops : (f : Frame) (fs : List Frame) (x : Expression) (v : Way) (k : Kind) (s e : ℕ) (ts : List Token) → ExpressionGoes P (in_frame f fs x v k) (tok k s e) ts → StopsOn P (f ∷ fs) (Value x) v (tok k s e ∷ ts)
  frame_stops f fs x v kind.Comma s e ts g = comma_stops f fs x v s e ts g
  frame_stops f fs x v kind.Close s e ts g = close_stops f fs x v s e ts (closed_left f fs (plain_expression x) s e ts (made_left fs f.call (f.arguments ++ x ∷ []) _ (tok kind.Close s e) (plain_one f.arguments x) g))
  frame_stops f fs x v _ s e ts g = absurd g

  ended_stops : (x : Expression) (v : Way) (c : Token) (ts : List Token) → ExpressionGoes P (ended x v) c ts → StopsOn P [] (Value x) v (c ∷ ts)
  ended_stops x way.Here c ts g = g
  ended_stops x way.Line c ts g = g
  ended_stops x way.Noted c ts g = absurd g

  ends_stops : (fs : List Frame) (x : Expression) (v : Way) (k : Kind) (s e : ℕ) (ts : List Token) → ExpressionGoes P (ends fs x v k) (tok k s e) ts → StopsOn P fs (Value x) v (tok k s e ∷ ts)
  ends_stops [] x v k s e ts g = ended_stops x v (tok k s e) ts g
  ends_stops (f ∷ fs) x v k s e ts g = frame_stops f fs x v k s e ts g

  here_left : (fs : List Frame) (t : Target) (v : Way) (s e : ℕ) (ts : List Token) → ExpressionGoes P (behind fs t v kind.Dot) (tok kind.Dot s e) ts → BehindLeft P fs t v (tok kind.Dot s e ∷ ts)
  here_left fs t way.Here s e ts g = goes_on (here_dot g)
  here_left fs t way.Line s e ts g = absurd g
  here_left fs t way.Noted s e ts g = absurd g

  behind_left : (fs : List Frame) (t : Target) (v : Way) (k : Kind) (s e : ℕ) (ts : List Token) → ExpressionGoes P (behind fs t v k) (tok k s e) ts → BehindLeft P fs t v (tok k s e ∷ ts)
  behind_left fs t v kind.Dot s e ts g = here_left fs t v s e ts g
  behind_left fs t v kind.LeadingDot s e ts g = goes_leads fs t v (leads_left skips_none g)
  behind_left fs t v kind.Newline s e ts g = on_lined fs t v g s e
  behind_left fs t v kind.TypeNote s e ts g = on_noted fs t v g s e
  behind_left fs (Value x) v k s e ts g = stops_on (ends_stops fs x v k s e ts g)
  behind_left fs (Class c) v _ s e ts g = absurd g

  bare_call : (fs : List Frame) (call : Call) {ts : List Token} → ValueLeft fs (plain_call call no_expressions) ts → PlaceLeft P fs (place.Called call) ts
  bare_call fs call {ts = ts} v = (no_expressions, ts, v.0, v.1, arguments_none, v.2, v.3)

  bare_left : (fs : List Frame) (call : Call) (k : Kind) (s e : ℕ) (ts : List Token) → ExpressionGoes P (behind_made fs (made call []) k) (tok k s e) ts → PlaceLeft P fs (place.Called call) (tok k s e ∷ ts)
  bare_left fs call k s e ts g =
      bare_call fs call (value_left fs (called call []) (plain_call call no_expressions) (call_is call [] no_expressions refl)
      (behind_left fs (Value (called call [])) way.Here k s e ts (within_out (λ o. ExpressionGoes P (behind_made fs o k) (tok k s e) ts) (called call []) (λ g. g) g)))

  open_arguments : {at : ℕ} {s e : ℕ} {xs : PlainExpressions} {ts rest : List Token} → s ≡ at → OpenArguments xs ts rest → Arguments at xs (tok kind.Open s e ∷ ts) rest
  open_arguments {s = s} {e = e} {xs = xs} {ts = ts} {rest = rest} same (opens_empty cl) = subst (λ at. Arguments at xs (tok kind.Open s e ∷ ts) rest) same (arguments_empty cl)
  open_arguments {s = s} {e = e} {xs = xs} {ts = ts} {rest = rest} same (opens_some al) = subst (λ at. Arguments at xs (tok kind.Open s e ∷ ts) rest) same (arguments_some al)

  open_left : (fs : List Frame) (call : Call) (s e : ℕ) (ts : List Token) (b : Bool) → (s == call.end) ≡ b → ExpressionGoes P (at_open b fs call (behind_made fs (made call []) kind.Open)) (tok kind.Open s e) ts
      → PlaceLeft P fs (place.Called call) (tok kind.Open s e ∷ ts)
  open_left fs call s e ts true is g = (g.0, g.1, g.2, g.3, open_arguments (eqb-true s call.end is) g.4, g.5, g.6)
  open_left fs call s e ts false is g = bare_left fs call kind.Open s e ts g

  name_left : (fs : List Frame) (call : Call) (k : Kind) (s e : ℕ) (ts : List Token) → ExpressionGoes P (after_name fs call k s) (tok k s e) ts → PlaceLeft P fs (place.Called call) (tok k s e ∷ ts)
  name_left fs call kind.Open s e ts g = open_left fs call s e ts (s == call.end) refl g
  name_left fs call k s e ts g = bare_left fs call k s e ts g

  place_left : (fs : List Frame) (p : ExpressionPlace) (c : Token) (ts : List Token) → ExpressionGoes P (step fs p c.kind c.start c.end) c ts → PlaceLeft P fs p (c ∷ ts)
  place_left fs place.Before c ts g = before_left fs c.kind g
  place_left fs (place.Opened call) c ts g = opened_left fs call c.kind g
  place_left fs (place.Behind t v) c ts g = behind_left fs t v c.kind c.start c.end ts g
  place_left fs (place.Dot t) c ts g = dotted_left fs t c.kind g
  place_left fs (place.Called call) c ts g = name_left fs call c.kind c.start c.end ts g

  pub expression_left : (r : ExpressionReader) (c : Token) (ts : List Token) → ExpressionGoes P (expression_next r c) c ts → ExpressionLeft P r (c ∷ ts)
  expression_left r c ts g = place_left r.frames r.place c ts g
