-- A token of an expression takes the reader on, or stands behind the expression.
use Rattle.std.specs.Prelude.{if◌then◌else◌}
use Rattle.std.proofs.Common.{arith, ◌≡◌, ℕ, ◌≤◌, true, refl, sym, ap, subst, List, [], ◌∷◌, ◌++◌, Some, None}
use Rattle.std.proofs.lemmas.Bool.{eq-eqb}
use Rattle.names.proofs.Places.{eq-same_name}
use Rattle.ruby_tokens.specs.declared.token.Token.{Token}
use Rattle.ruby_tokens.specs.declared.token.Kind.{Kind}
use Rattle.ruby_tokens.specs.declared.token.Kind.TheVariants as kind
use Rattle.ruby_reader.specs.declared.tree.Expression.{Expression}
use Rattle.ruby_reader.specs.declared.progress.Turn.{Turn}
use Rattle.ruby_reader.specs.declared.progress.Turn.TheVariants as turn
use Rattle.ruby_reader.specs.declared.frames.Target.{Target}
use Rattle.ruby_reader.specs.declared.frames.Target.TheVariants.{Value, Class}
use Rattle.ruby_reader.specs.declared.frames.Call.{Call}
use Rattle.ruby_reader.specs.declared.frames.Frame.{Frame}
use Rattle.ruby_reader.specs.declared.expression.Way.{Way}
use Rattle.ruby_reader.specs.declared.expression.Way.TheVariants as way
use Rattle.ruby_reader.specs.declared.expression.ExpressionPlace.{ExpressionPlace}
use Rattle.ruby_reader.specs.declared.expression.ExpressionPlace.TheVariants as place
use Rattle.ruby_reader.specs.declared.expression.ExpressionReader.{ExpressionReader}
use Rattle.ruby_reader.specs.declared.expression.Outcome.TheVariants.{Reading}
use Rattle.ruby_reader.specs.PlainTree.{PlainExpression, PlainExpressions, no_expressions, more_expressions}
use Rattle.ruby_reader.specs.PlainLaws.{plain_expression, plain_expressions, plain-Literal, plain-Local}
use Rattle.ruby_reader.specs.Heights.{height, limit}
use Rattle.ruby_reader.specs.Called.{new_word}
use Rattle.ruby_reader.specs.Grammar.{tok, skipped_newline, skipped_note, literal_int, literal_str, literal_sym, literal_nil, Skips, skips_none, skips_more, Dots, dot_here, dot_leads, Closes, close_skip, close_here, Expressions, expression_calls, Operands, operand_literal, operand_local, operand_new, Calls, calls_none, calls_more, Arguments, arguments_none, arguments_empty, arguments_some, ArgumentList, argument_last, argument_more}
use Rattle.ruby_reader.specs.ExpressionMachine.{called, made, frame, operand_of, with_operand, before, opened, with_made, may_call, dotted, lined, behind, behind_made, after_name, at_open, step, expression_next}
use Rattle.ruby_reader.proofs.OpenCalls.{plain_called, plain_call, call_is, MayCall, MoreArguments, no_more, some_more, OpenArguments, opens_empty, opens_some, with_arguments, FramesLeft, DotLeft, dot_left, LeadsLeft, leads_left, HereLeft, here_dot, here_leads, StopsOn, BehindLeft, goes_on, stops_on, PlaceLeft, ExpressionLeft, ExpressionGoes, Surrounds, calls_higher, frames_low, append_one, plain_one, within_in}

module _ (P : Turn → PlainExpression → List Token → Type 0) (w : Surrounds P) where
  here_of_dots : (fs : List Frame) (t : Target) {n : List ℕ} {s e : ℕ} {xs : PlainExpressions} {z : PlainExpression} {ts mid on last : List Token} → Dots ts (tok (kind.Name n) s e ∷ mid) → MayCall t n → Arguments e xs mid on
      → Calls (plain_called t n s e xs) z on last → FramesLeft P fs z last → HereLeft P fs t ts
  here_of_dots fs t (dot_here sk) may a c g = here_dot (dot_left sk may a c g)
  here_of_dots fs t (dot_leads sk on) may a c g = here_leads (leads_left sk (dot_left on may a c g))

  -- what is left behind a value
  behind_of_calls : (fs : List Frame) (x : Expression) {z : PlainExpression} {ts mid : List Token} → Calls (plain_expression x) z ts mid → FramesLeft P fs z mid → BehindLeft P fs (Value x) way.Here ts
  behind_of_calls fs x calls_none g = stops_on g
  behind_of_calls fs x (calls_more may d a c) g = goes_on (here_of_dots fs (Value x) d may a c g)

  pub value_behind : (fs : List Frame) (x : Expression) (y : PlainExpression) {z : PlainExpression} {ts mid : List Token} → plain_expression x ≡ y → Calls y z ts mid → FramesLeft P fs z mid → BehindLeft P fs (Value x) way.Here ts
  value_behind fs x y {z = z} {ts = ts} {mid = mid} same c g = behind_of_calls fs x (subst (λ y. Calls y z ts mid) (sym same) c) g

  call_low : (fs : List Frame) (c : Call) (xs : List Expression) (ys : PlainExpressions) {z : PlainExpression} {ts mid : List Token} → plain_expressions xs ≡ ys → Calls (plain_call c ys) z ts mid → FramesLeft P fs z mid
      → height (plain_expression (called c xs)) ≤ limit
  call_low fs c xs ys {z = z} {mid = mid} same cs g =
      let h = calls_higher cs in let l = frames_low P w fs z mid g in let i : height (plain_expression (called c xs)) ≡ height (plain_call c ys) = ap height (call_is c xs ys same) in omega arith

  -- a call that is made
  made_goes : (fs : List Frame) (c : Call) (xs : List Expression) (ys : PlainExpressions) (t : Token) {z : PlainExpression} {ts mid : List Token} → plain_expressions xs ≡ ys → Calls (plain_call c ys) z ts mid → FramesLeft P fs z mid
      → ExpressionGoes P (with_made fs (made c xs)) t ts
  made_goes fs c xs ys t {ts = ts} same cs g =
      within_in (λ o. ExpressionGoes P (with_made fs o) t ts) (called c xs) (call_low fs c xs ys same cs g) (value_behind fs (called c xs) (plain_call c ys) (call_is c xs ys same) cs g)

  pub operand_goes : (fs : List Frame) {x z : PlainExpression} {k : Kind} {s e : ℕ} {ts mid on : List Token} → Operands x (tok k s e ∷ ts) mid → Calls x z mid on → FramesLeft P fs z on → ExpressionGoes P (with_operand fs (operand_of k)) (tok k s e) ts
  operand_goes fs (operand_literal literal_int) c g = value_behind fs _ _ (plain-Literal _) c g
  operand_goes fs (operand_literal literal_str) c g = value_behind fs _ _ (plain-Literal _) c g
  operand_goes fs (operand_literal literal_sym) c g = value_behind fs _ _ (plain-Literal _) c g
  operand_goes fs (operand_literal literal_nil) c g = value_behind fs _ _ (plain-Literal _) c g
  operand_goes fs operand_local c g = value_behind fs _ _ (plain-Local _) c g
  operand_goes fs (operand_new {c = class} d a) c g = goes_on (here_of_dots fs (Class class) d refl a c g)

  expression_goes_in : (fs : List Frame) {x : PlainExpression} {k : Kind} {s e : ℕ} {ts on : List Token} → Expressions x (tok k s e ∷ ts) on → FramesLeft P fs x on → ExpressionGoes P (with_operand fs (operand_of k)) (tok k s e) ts
  expression_goes_in fs (expression_calls o c) g = operand_goes fs o c g

  before_same : (fs : List Frame) {x : PlainExpression} {k : Kind} {s e : ℕ} {ts on : List Token} → Expressions x (tok k s e ∷ ts) on → before fs k ≡ with_operand fs (operand_of k)
  before_same fs (expression_calls (operand_literal literal_int) c) = refl
  before_same fs (expression_calls (operand_literal literal_str) c) = refl
  before_same fs (expression_calls (operand_literal literal_sym) c) = refl
  before_same fs (expression_calls (operand_literal literal_nil) c) = refl
  before_same fs (expression_calls operand_local c) = refl
  before_same fs (expression_calls (operand_new d a) c) = refl

  opened_same : (fs : List Frame) (call : Call) {x : PlainExpression} {k : Kind} {s e : ℕ} {ts on : List Token} → Expressions x (tok k s e ∷ ts) on → opened fs call k ≡ with_operand (frame call [] ∷ fs) (operand_of k)
  opened_same fs call (expression_calls (operand_literal literal_int) c) = refl
  opened_same fs call (expression_calls (operand_literal literal_str) c) = refl
  opened_same fs call (expression_calls (operand_literal literal_sym) c) = refl
  opened_same fs call (expression_calls (operand_literal literal_nil) c) = refl
  opened_same fs call (expression_calls operand_local c) = refl
  opened_same fs call (expression_calls (operand_new d a) c) = refl

  before_goes : (fs : List Frame) {x : PlainExpression} {k : Kind} {s e : ℕ} {ts mid on : List Token} → Skips (tok k s e ∷ ts) mid → Expressions x mid on → FramesLeft P fs x on → ExpressionGoes P (before fs k) (tok k s e) ts
  before_goes fs {x = x} {k = k} {s = s} {e = e} {ts = ts} skips_none ex g = subst (λ o. ExpressionGoes P o (tok k s e) ts) (sym (before_same fs ex)) (expression_goes_in fs ex g)
  before_goes fs {x = x} {mid = mid} {on = on} (skips_more skipped_newline sk) ex g = (x, mid, on, sk, ex, g)
  before_goes fs {x = x} {mid = mid} {on = on} (skips_more skipped_note sk) ex g = (x, mid, on, sk, ex, g)

  first_goes : (fs : List Frame) (call : Call) {x : PlainExpression} {k : Kind} {s e : ℕ} {ts on : List Token} → Expressions x (tok k s e ∷ ts) on → FramesLeft P (frame call [] ∷ fs) x on → ExpressionGoes P (opened fs call k) (tok k s e) ts
  first_goes fs call {k = k} {s = s} {e = e} {ts = ts} ex g = subst (λ o. ExpressionGoes P o (tok k s e) ts) (sym (opened_same fs call ex)) (expression_goes_in (frame call [] ∷ fs) ex g)

  list_goes : (fs : List Frame) (call : Call) {xs : PlainExpressions} {z : PlainExpression} {k : Kind} {s e : ℕ} {ts mid on : List Token} → ArgumentList xs (tok k s e ∷ ts) mid → Calls (plain_call call xs) z mid on → FramesLeft P fs z on
      → ExpressionGoes P (opened fs call k) (tok k s e) ts
  list_goes fs call {z = z} {mid = mid} {on = on} (argument_last skips_none ex cl) c g = first_goes fs call ex (no_expressions, mid, z, on, no_more cl, c, g)
  list_goes fs call {xs = xs} {z = z} {mid = mid} {on = on} (argument_last (skips_more skipped_newline sk) ex cl) c g = (xs, mid, z, on, opens_some (argument_last sk ex cl), c, g)
  list_goes fs call {xs = xs} {z = z} {mid = mid} {on = on} (argument_last (skips_more skipped_note sk) ex cl) c g = (xs, mid, z, on, opens_some (argument_last sk ex cl), c, g)
  list_goes fs call {z = z} {mid = mid} {on = on} (argument_more {xs = more} skips_none ex al) c g = first_goes fs call ex (more, mid, z, on, some_more al, c, g)
  list_goes fs call {xs = xs} {z = z} {mid = mid} {on = on} (argument_more (skips_more skipped_newline sk) ex al) c g = (xs, mid, z, on, opens_some (argument_more sk ex al), c, g)
  list_goes fs call {xs = xs} {z = z} {mid = mid} {on = on} (argument_more (skips_more skipped_note sk) ex al) c g = (xs, mid, z, on, opens_some (argument_more sk ex al), c, g)

  opened_goes : (fs : List Frame) (call : Call) {xs : PlainExpressions} {z : PlainExpression} {k : Kind} {s e : ℕ} {ts mid on : List Token} → OpenArguments xs (tok k s e ∷ ts) mid → Calls (plain_call call xs) z mid on → FramesLeft P fs z on
      → ExpressionGoes P (opened fs call k) (tok k s e) ts
  opened_goes fs call {z = z} {mid = mid} {on = on} (opens_empty (close_skip skipped_newline cl)) c g = (no_expressions, mid, z, on, opens_empty cl, c, g)
  opened_goes fs call {z = z} {mid = mid} {on = on} (opens_empty (close_skip skipped_note cl)) c g = (no_expressions, mid, z, on, opens_empty cl, c, g)
  opened_goes fs call (opens_empty close_here) c g = made_goes fs call [] no_expressions _ refl c g
  opened_goes fs call (opens_some al) c g = list_goes fs call al c g

  may_true : (t : Target) (n : List ℕ) → MayCall t n → may_call t n ≡ true
  may_true (Value x) n m = m
  may_true (Class c) n m = eq-same_name n new_word m

  dotted_goes : (fs : List Frame) (t : Target) {k : Kind} {s e : ℕ} {ts : List Token} → DotLeft P fs t (tok k s e ∷ ts) → ExpressionGoes P (dotted fs t k s e) (tok k s e) ts
  dotted_goes fs t {s = s} {e = e} {ts = ts} (dot_left {n = n} {xs = xs} {z = z} {on = on} {last = last} skips_none may a c g) =
      subst (λ b. ExpressionGoes P (if b then Some (Reading (record { frames = fs; place = place.Called (record { target = t; name = n; start = s; end = e }) })) else None) (tok (kind.Name n) s e) ts) (sym (may_true t n may)) (xs, on, z, last, a, c, g)
  dotted_goes fs t (dot_left (skips_more skipped_newline sk) may a c g) = dot_left sk may a c g
  dotted_goes fs t (dot_left (skips_more skipped_note sk) may a c g) = dot_left sk may a c g

  leads_lined : (fs : List Frame) (t : Target) (v : Way) {ts : List Token} → LeadsLeft P fs t ts → BehindLeft P fs t (lined v) ts
  leads_lined fs t way.Here l = goes_on l
  leads_lined fs t way.Line l = goes_on l
  leads_lined fs t way.Noted l = goes_on l

  leads_goes : (fs : List Frame) (t : Target) (v : Way) {k : Kind} {s e : ℕ} {ts : List Token} → LeadsLeft P fs t (tok k s e ∷ ts) → ExpressionGoes P (behind fs t v k) (tok k s e) ts
  leads_goes fs t v (leads_left skips_none d) = d
  leads_goes fs t v (leads_left (skips_more skipped_newline sk) d) = leads_lined fs t v (leads_left sk d)
  leads_goes fs t v (leads_left (skips_more skipped_note sk) d) = goes_on (leads_left sk d)

  on_goes : (fs : List Frame) (t : Target) {k : Kind} {s e : ℕ} {ts : List Token} → HereLeft P fs t (tok k s e ∷ ts) → ExpressionGoes P (behind fs t way.Here k) (tok k s e) ts
  on_goes fs t (here_dot d) = d
  on_goes fs t (here_leads l) = leads_goes fs t way.Here l

  -- an expression that ends in front of the token
  taken_goes : (x : Expression) (k : Kind) {s e : ℕ} {ts : List Token} → P turn.Taken (plain_expression x) (tok k s e ∷ ts) → ExpressionGoes P (behind [] (Value x) way.Here k) (tok k s e) ts
  taken_goes x kind.Dot g = absurd (w.no_dot _ _ _ _ _ g)
  taken_goes x kind.LeadingDot g = absurd (w.no_leading_dot _ _ _ _ _ g)
  taken_goes x kind.TypeNote g = absurd (w.no_note _ _ _ _ _ g)
  taken_goes x kind.Newline g = stops_on (w.to_line _ _ _ _ _ g)
  taken_goes x _ g = g

  free_goes : (x : Expression) (k : Kind) {s e : ℕ} {ts : List Token} → P turn.Free (plain_expression x) (tok k s e ∷ ts) → ExpressionGoes P (behind [] (Value x) way.Line k) (tok k s e) ts
  free_goes x kind.Dot g = absurd (w.no_dot _ _ _ _ _ g)
  free_goes x kind.LeadingDot g = absurd (w.no_leading_dot _ _ _ _ _ g)
  free_goes x kind.TypeNote g = absurd (w.no_note _ _ _ _ _ g)
  free_goes x kind.Newline g = stops_on (w.to_line _ _ _ _ _ g)
  free_goes x _ g = g

  -- a call whose last argument is read
  closed_goes : (f : Frame) (fs : List Frame) (x : Expression) (t : Token) {z : PlainExpression} {ts on : List Token} → Calls (with_arguments f (plain_expression x) no_expressions) z ts on → FramesLeft P fs z on
      → ExpressionGoes P (with_made fs (made f.call (f.arguments ++ x ∷ []))) t ts
  closed_goes f fs x t c g = made_goes fs f.call (f.arguments ++ x ∷ []) _ t (plain_one f.arguments x) c g

  lined_goes : (f : Frame) (fs : List Frame) (x : Expression) {z : PlainExpression} {k : Kind} {s e : ℕ} {ts mid on : List Token} → Closes (tok k s e ∷ ts) mid → Calls (with_arguments f (plain_expression x) no_expressions) z mid on
      → FramesLeft P fs z on → ExpressionGoes P (behind (f ∷ fs) (Value x) way.Line k) (tok k s e) ts
  lined_goes f fs x {z = z} {mid = mid} {on = on} (close_skip skipped_newline cl) c g = stops_on (mid, z, on, cl, c, g)
  lined_goes f fs x {z = z} {mid = mid} {on = on} (close_skip skipped_note cl) c g = stops_on (mid, z, on, cl, c, g)
  lined_goes f fs x close_here c g = closed_goes f fs x _ c g

  noted_goes : (f : Frame) (fs : List Frame) (x : Expression) {z : PlainExpression} {k : Kind} {s e : ℕ} {ts mid on : List Token} → Closes (tok k s e ∷ ts) mid → Calls (with_arguments f (plain_expression x) no_expressions) z mid on
      → FramesLeft P fs z on → ExpressionGoes P (behind (f ∷ fs) (Value x) way.Noted k) (tok k s e) ts
  noted_goes f fs x {z = z} {mid = mid} {on = on} (close_skip skipped_newline cl) c g = stops_on (mid, z, on, cl, c, g)
  noted_goes f fs x {z = z} {mid = mid} {on = on} (close_skip skipped_note cl) c g = stops_on (mid, z, on, cl, c, g)
  noted_goes f fs x close_here c g = closed_goes f fs x _ c g

  comma_goes : (f : Frame) (fs : List Frame) (x : Expression) {xs : PlainExpressions} {z : PlainExpression} {ts mid on : List Token} → ArgumentList xs ts mid → Calls (with_arguments f (plain_expression x) xs) z mid on → FramesLeft P fs z on
      → PlaceLeft P (frame f.call (f.arguments ++ x ∷ []) ∷ fs) place.Before ts
  comma_goes f fs x {z = z} {mid = mid} {on = on} (argument_last {x = y} {mid = m} {on = o} sk ex cl) c g =
      (y, m, o, sk, ex, (no_expressions, mid, z, on, no_more cl, subst (λ ys. Calls (plain_call f.call ys) z mid on) (sym (append_one f.arguments x (more_expressions y no_expressions))) c, g))
  comma_goes f fs x {z = z} {mid = mid} {on = on} (argument_more {x = y} {xs = ys} {s = s} {e = e} {mid = m} {on = o} sk ex al) c g =
      (y, m, tok kind.Comma s e ∷ o, sk, ex, (ys, mid, z, on, some_more al, subst (λ ys. Calls (plain_call f.call ys) z mid on) (sym (append_one f.arguments x (more_expressions y ys))) c, g))

  here_goes : (f : Frame) (fs : List Frame) (x : Expression) {xs : PlainExpressions} {z : PlainExpression} {k : Kind} {s e : ℕ} {ts mid on : List Token} → MoreArguments xs (tok k s e ∷ ts) mid → Calls (with_arguments f (plain_expression x) xs) z mid on
      → FramesLeft P fs z on → ExpressionGoes P (behind (f ∷ fs) (Value x) way.Here k) (tok k s e) ts
  here_goes f fs x {z = z} {mid = mid} {on = on} (no_more (close_skip skipped_newline cl)) c g = stops_on (mid, z, on, cl, c, g)
  here_goes f fs x {z = z} {mid = mid} {on = on} (no_more (close_skip skipped_note cl)) c g = stops_on (mid, z, on, cl, c, g)
  here_goes f fs x (no_more close_here) c g = closed_goes f fs x _ c g
  here_goes f fs x (some_more al) c g = comma_goes f fs x al c g

  stops_goes : (fs : List Frame) (x : Expression) (v : Way) (c : Token) (ts : List Token) → StopsOn P fs (Value x) v (c ∷ ts) → ExpressionGoes P (behind fs (Value x) v c.kind) c ts
  stops_goes [] x way.Here c ts g = taken_goes x c.kind g
  stops_goes [] x way.Line c ts g = free_goes x c.kind g
  stops_goes [] x way.Noted c ts g = absurd g
  stops_goes (f ∷ fs) x way.Here c ts g = here_goes f fs x g.4 g.5 g.6
  stops_goes (f ∷ fs) x way.Line c ts g = lined_goes f fs x g.3 g.4 g.5
  stops_goes (f ∷ fs) x way.Noted c ts g = noted_goes f fs x g.3 g.4 g.5

  behind_goes : (fs : List Frame) (t : Target) (v : Way) (c : Token) (ts : List Token) → BehindLeft P fs t v (c ∷ ts) → ExpressionGoes P (behind fs t v c.kind) c ts
  behind_goes fs t way.Here c ts (goes_on g) = on_goes fs t g
  behind_goes fs t way.Line c ts (goes_on g) = leads_goes fs t way.Line g
  behind_goes fs t way.Noted c ts (goes_on g) = leads_goes fs t way.Noted g
  behind_goes fs (Value x) v c ts (stops_on g) = stops_goes fs x v c ts g
  behind_goes fs (Class n) v c ts (stops_on g) = absurd g

  -- a parenthesis that is no argument's stands behind no expression
  frames_no_open : (fs : List Frame) (x : PlainExpression) (s e : ℕ) (ts : List Token) → FramesLeft P fs x (tok kind.Open s e ∷ ts) → ⊥
  frames_no_open [] x s e ts g = w.no_open _ _ _ _ _ g
  frames_no_open (f ∷ fs) x s e ts g = no_arguments g.4
    where
      no_arguments : {xs : PlainExpressions} {s e : ℕ} {ts rest : List Token} → MoreArguments xs (tok kind.Open s e ∷ ts) rest → ⊥
      no_arguments (no_more (close_skip i cl)) = elim i [ ]

  no_dots : {s e : ℕ} {ts rest : List Token} → Dots (tok kind.Open s e ∷ ts) rest → ⊥
  no_dots (dot_leads (skips_more i sk) on) = elim i [ ]

  calls_no_open : (fs : List Frame) {x z : PlainExpression} {s e : ℕ} {ts mid : List Token} → Calls x z (tok kind.Open s e ∷ ts) mid → FramesLeft P fs z mid → ⊥
  calls_no_open fs {z = z} {s = s} {e = e} {ts = ts} calls_none g = frames_no_open fs z s e ts g
  calls_no_open fs (calls_more may d a c) g = no_dots d

  -- a call without parentheses
  bare_goes : (fs : List Frame) (call : Call) {z : PlainExpression} (c : Token) {ts mid : List Token} → Calls (plain_call call no_expressions) z (c ∷ ts) mid → FramesLeft P fs z mid → ExpressionGoes P (behind_made fs (made call []) c.kind) c ts
  bare_goes fs call c {ts = ts} cs g =
      within_in (λ o. ExpressionGoes P (behind_made fs o c.kind) c ts) (called call []) (call_low fs call [] no_expressions refl cs g)
      (behind_goes fs (Value (called call [])) way.Here c ts (value_behind fs (called call []) (plain_call call no_expressions) (call_is call [] no_expressions refl) cs g))

  bare_name_goes : (fs : List Frame) (call : Call) (k : Kind) {z : PlainExpression} {s e : ℕ} {ts mid : List Token} → Calls (plain_call call no_expressions) z (tok k s e ∷ ts) mid → FramesLeft P fs z mid → ExpressionGoes P (after_name fs call k s) (tok k s e) ts
  bare_name_goes fs call kind.Open cs g = absurd (calls_no_open fs cs g)
  bare_name_goes fs call k {s = s} {e = e} cs g = bare_goes fs call (tok k s e) cs g

  open_goes : (fs : List Frame) (call : Call) (s e : ℕ) {ts : List Token} → call.end ≡ s → PlaceLeft P fs (place.Opened call) ts → ExpressionGoes P (after_name fs call kind.Open s) (tok kind.Open s e) ts
  open_goes fs call s e {ts = ts} same g = subst (λ b. ExpressionGoes P (at_open b fs call (behind_made fs (made call []) kind.Open)) (tok kind.Open s e) ts) (sym (eq-eqb s call.end (sym same))) g

  name_goes : (fs : List Frame) (call : Call) {at : ℕ} {xs : PlainExpressions} {z : PlainExpression} {k : Kind} {s e : ℕ} {ts mid on : List Token} → call.end ≡ at → Arguments at xs (tok k s e ∷ ts) mid → Calls (plain_call call xs) z mid on
      → FramesLeft P fs z on → ExpressionGoes P (after_name fs call k s) (tok k s e) ts
  name_goes fs call {k = k} same arguments_none c g = bare_name_goes fs call k c g
  name_goes fs call {z = z} {s = s} {e = e} {mid = mid} {on = on} same (arguments_empty cl) c g = open_goes fs call s e same (no_expressions, mid, z, on, opens_empty cl, c, g)
  name_goes fs call {xs = xs} {z = z} {s = s} {e = e} {mid = mid} {on = on} same (arguments_some al) c g = open_goes fs call s e same (xs, mid, z, on, opens_some al, c, g)

  place_goes : (fs : List Frame) (p : ExpressionPlace) (c : Token) (ts : List Token) → PlaceLeft P fs p (c ∷ ts) → ExpressionGoes P (step fs p c.kind c.start c.end) c ts
  place_goes fs place.Before c ts g = before_goes fs g.3 g.4 g.5
  place_goes fs (place.Opened call) c ts g = opened_goes fs call g.4 g.5 g.6
  place_goes fs (place.Behind t v) c ts g = behind_goes fs t v c ts g
  place_goes fs (place.Dot t) c ts g = dotted_goes fs t g
  place_goes fs (place.Called call) c ts g = name_goes fs call refl g.4 g.5 g.6

  pub expression_goes : (r : ExpressionReader) (c : Token) (ts : List Token) → ExpressionLeft P r (c ∷ ts) → ExpressionGoes P (expression_next r c) c ts
  expression_goes r c ts g = place_goes r.frames r.place c ts g
