-- What is left of an expression, by what still stands in front of its reader: for each open call its further arguments, the calls on it, and what stands behind those.
use Rattle.std.specs.Prelude.{if◌then◌else◌}
use Rattle.std.proofs.Common.{arith, ◌≡◌, ℕ, ◌≤◌, Bool, true, false, refl, sym, ◌∙◌, ap, subst, List, [], ◌∷◌, ◌++◌, Option, Some, None}
use Rattle.std.proofs.lemmas.Bool.{le-leb}
use Rattle.ruby_tokens.specs.declared.token.Token.{Token}
use Rattle.ruby_tokens.specs.declared.token.Kind.TheVariants as kind
use Rattle.ruby_reader.specs.declared.tree.Expression.{Expression}
use Rattle.ruby_reader.specs.declared.progress.Turn.{Turn}
use Rattle.ruby_reader.specs.declared.progress.Turn.TheVariants as turn
use Rattle.ruby_reader.specs.declared.frames.Target.{Target}
use Rattle.ruby_reader.specs.declared.frames.Target.TheVariants.{Value, Class}
use Rattle.ruby_reader.specs.declared.frames.Call.{Call}
use Rattle.ruby_reader.specs.declared.frames.Frame.{Frame}
use Rattle.ruby_reader.specs.declared.expression.Way.{Way}
use Rattle.ruby_reader.specs.declared.expression.Way.TheVariants as way
use Rattle.ruby_reader.specs.declared.expression.ExpressionPlace.{ExpressionPlace}
use Rattle.ruby_reader.specs.declared.expression.ExpressionPlace.TheVariants as place
use Rattle.ruby_reader.specs.declared.expression.ExpressionReader.{ExpressionReader}
use Rattle.ruby_reader.specs.declared.expression.Outcome.{Outcome}
use Rattle.ruby_reader.specs.declared.expression.Outcome.TheVariants.{Reading, Ended}
use Rattle.ruby_reader.specs.PlainTree as plain
use Rattle.ruby_reader.specs.PlainTree.{PlainExpression, PlainExpressions, no_expressions, more_expressions}
use Rattle.ruby_reader.specs.PlainLaws.{plain_expression, plain_expressions, append_expressions, plain-Call, plain-New}
use Rattle.ruby_reader.specs.Heights.{height, tallest, limit}
use Rattle.ruby_reader.specs.Called.{IsCalled, new_word}
use Rattle.ruby_reader.specs.Grammar.{tok, Skips, Closes, Expressions, Calls, calls_none, calls_more, Arguments, ArgumentList}
use Rattle.ruby_reader.specs.ExpressionMachine.{called_on, called, is_low, within}

-- a call with its arguments
abbrev pub plain_called : Target → List ℕ → ℕ → ℕ → PlainExpressions → PlainExpression
plain_called (Value x) n s e xs = plain.call (plain_expression x) n s e xs
plain_called (Class c) n s e xs = plain.new c s e xs

abbrev pub plain_call : Call → PlainExpressions → PlainExpression
plain_call c xs = plain_called c.target c.name c.start c.end xs

pub called_is : (t : Target) (n : List ℕ) (s e : ℕ) (xs : List Expression) → plain_expression (called_on t n s e xs) ≡ plain_called t n s e (plain_expressions xs)
called_is (Value x) n s e xs = plain-Call x n s e xs
called_is (Class c) n s e xs = plain-New c s e xs

pub call_is : (c : Call) (xs : List Expression) (ys : PlainExpressions) → plain_expressions xs ≡ ys → plain_expression (called c xs) ≡ plain_call c ys
call_is c xs ys same = called_is c.target c.name c.start c.end xs ∙ ap (plain_call c) same

-- the names that a call on a target may have
abbrev pub MayCall : Target → List ℕ → Type 0
MayCall (Value x) n = IsCalled n
MayCall (Class c) n = n ≡ new_word

-- further arguments behind one
pub data MoreArguments : PlainExpressions → List Token → List Token → Type 0 where
  no_more : {ts rest : List Token} → Closes ts rest → MoreArguments no_expressions ts rest
  some_more : {xs : PlainExpressions} {s e : ℕ} {ts rest : List Token} → ArgumentList xs ts rest → MoreArguments xs (tok kind.Comma s e ∷ ts) rest

-- arguments behind the parenthesis that opens them
pub data OpenArguments : PlainExpressions → List Token → List Token → Type 0 where
  opens_empty : {ts rest : List Token} → Closes ts rest → OpenArguments no_expressions ts rest
  opens_some : {xs : PlainExpressions} {ts rest : List Token} → ArgumentList xs ts rest → OpenArguments xs ts rest

-- the arguments of a call, by those that were read, the one that the reader stands behind, and further ones
abbrev pub with_arguments : Frame → PlainExpression → PlainExpressions → PlainExpression
with_arguments f x xs = plain_call f.call (append_expressions (plain_expressions f.arguments) (more_expressions x xs))

-- `P turn x ts` says that `ts` may stand behind the whole expression `x`, or, where the turn is free, behind it and a newline.
module _ (P : Turn → PlainExpression → List Token → Type 0) where
  -- what is left behind the expression `x` of the innermost call
  abbrev pub FramesLeft : List Frame → PlainExpression → List Token → Type 0
  FramesLeft [] x ts = P turn.Taken x ts
  FramesLeft (f ∷ fs) x ts = (xs : PlainExpressions) × (mid : List Token) × (z : PlainExpression) × (on : List Token) × MoreArguments xs ts mid × Calls (with_arguments f x xs) z mid on × FramesLeft fs z on

  -- what is left behind the expression `x`, newlines and comments
  abbrev pub NotedLeft : List Frame → PlainExpression → List Token → Type 0
  NotedLeft [] x ts = ⊥
  NotedLeft (f ∷ fs) x ts = (mid : List Token) × (z : PlainExpression) × (on : List Token) × Closes ts mid × Calls (with_arguments f x no_expressions) z mid on × FramesLeft fs z on

  -- what is left behind the expression `x` and newlines
  abbrev pub LineLeft : List Frame → PlainExpression → List Token → Type 0
  LineLeft [] x ts = P turn.Free x ts
  LineLeft (f ∷ fs) x ts = NotedLeft (f ∷ fs) x ts

  -- what is left behind a dot
  pub data DotLeft (fs : List Frame) (t : Target) : List Token → Type 0 where
    dot_left : {n : List ℕ} {s e : ℕ} {xs : PlainExpressions} {z : PlainExpression} {ts mid on last : List Token} → Skips ts (tok (kind.Name n) s e ∷ mid) → MayCall t n → Arguments e xs mid on
        → Calls (plain_called t n s e xs) z on last → FramesLeft fs z last → DotLeft fs t ts

  -- what is left in front of a dot that begins a line
  pub data LeadsLeft (fs : List Frame) (t : Target) : List Token → Type 0 where
    leads_left : {s e : ℕ} {ts mid : List Token} → Skips ts (tok kind.LeadingDot s e ∷ mid) → DotLeft fs t mid → LeadsLeft fs t ts

  -- what is left in front of a dot
  pub data HereLeft (fs : List Frame) (t : Target) : List Token → Type 0 where
    here_dot : {s e : ℕ} {ts : List Token} → DotLeft fs t ts → HereLeft fs t (tok kind.Dot s e ∷ ts)
    here_leads : {ts : List Token} → LeadsLeft fs t ts → HereLeft fs t ts

  abbrev pub GoesOn : List Frame → Target → Way → List Token → Type 0
  GoesOn fs t way.Here ts = HereLeft fs t ts
  GoesOn fs t way.Line ts = LeadsLeft fs t ts
  GoesOn fs t way.Noted ts = LeadsLeft fs t ts

  abbrev pub Stops : List Frame → PlainExpression → Way → List Token → Type 0
  Stops fs x way.Here ts = FramesLeft fs x ts
  Stops fs x way.Line ts = LineLeft fs x ts
  Stops fs x way.Noted ts = NotedLeft fs x ts

  abbrev pub StopsOn : List Frame → Target → Way → List Token → Type 0
  StopsOn fs (Value x) w ts = Stops fs (plain_expression x) w ts
  StopsOn fs (Class c) w ts = ⊥

  -- what is left behind what a call may be made on
  pub data BehindLeft (fs : List Frame) (t : Target) (w : Way) (ts : List Token) : Type 0 where
    goes_on : GoesOn fs t w ts → BehindLeft fs t w ts
    stops_on : StopsOn fs t w ts → BehindLeft fs t w ts

  abbrev pub PlaceLeft : List Frame → ExpressionPlace → List Token → Type 0
  PlaceLeft fs place.Before ts = (x : PlainExpression) × (mid : List Token) × (on : List Token) × Skips ts mid × Expressions x mid on × FramesLeft fs x on
  PlaceLeft fs (place.Opened c) ts = (xs : PlainExpressions) × (mid : List Token) × (z : PlainExpression) × (on : List Token) × OpenArguments xs ts mid × Calls (plain_call c xs) z mid on × FramesLeft fs z on
  PlaceLeft fs (place.Behind t w) ts = BehindLeft fs t w ts
  PlaceLeft fs (place.Dot t) ts = DotLeft fs t ts
  PlaceLeft fs (place.Called c) ts = (xs : PlainExpressions) × (mid : List Token) × (z : PlainExpression) × (on : List Token) × Arguments c.end xs ts mid × Calls (plain_call c xs) z mid on × FramesLeft fs z on

  -- what is left of an expression
  abbrev pub ExpressionLeft : ExpressionReader → List Token → Type 0
  ExpressionLeft r ts = PlaceLeft r.frames r.place ts

  -- what is left of an expression behind the token `c`, or from it on where the expression ends in front of it
  abbrev pub ExpressionGoes : Option Outcome → Token → List Token → Type 0
  ExpressionGoes None c ts = ⊥
  ExpressionGoes (Some (Reading r)) c ts = ExpressionLeft r ts
  ExpressionGoes (Some (Ended x t)) c ts = P t (plain_expression x) (c ∷ ts)

-- What stands behind an expression begins with nothing that the expression could go on with, and a newline frees the turn.
pub record Surrounds (P : Turn → PlainExpression → List Token → Type 0) : Type 0 where
  pub low : (t : Turn) (x : PlainExpression) (ts : List Token) → P t x ts → height x ≤ limit
  pub to_line : (t : Turn) (x : PlainExpression) (s e : ℕ) (ts : List Token) → P t x (tok kind.Newline s e ∷ ts) → P turn.Free x ts
  pub from_line : (t : Turn) (x : PlainExpression) (s e : ℕ) (ts : List Token) → P turn.Free x ts → P t x (tok kind.Newline s e ∷ ts)
  pub no_dot : (t : Turn) (x : PlainExpression) (s e : ℕ) (ts : List Token) → P t x (tok kind.Dot s e ∷ ts) → ⊥
  pub no_leading_dot : (t : Turn) (x : PlainExpression) (s e : ℕ) (ts : List Token) → P t x (tok kind.LeadingDot s e ∷ ts) → ⊥
  pub no_note : (t : Turn) (x : PlainExpression) (s e : ℕ) (ts : List Token) → P t x (tok kind.TypeNote s e ∷ ts) → ⊥
  pub no_open : (t : Turn) (x : PlainExpression) (s e : ℕ) (ts : List Token) → P t x (tok kind.Open s e ∷ ts) → ⊥

called_higher : (t : Target) (n : List ℕ) (s e : ℕ) (xs : PlainExpressions) → tallest xs ≤ height (plain_called t n s e xs)
called_higher (Value x) n s e xs = omega arith
called_higher (Class c) n s e xs = omega arith

append_higher : (xs : PlainExpressions) (x : PlainExpression) (ys : PlainExpressions) → height x ≤ tallest (append_expressions xs (more_expressions x ys))
append_higher no_expressions x ys = omega arith
append_higher (more_expressions y xs) x ys = let ih = append_higher xs x ys in omega arith

pub calls_higher : {x y : PlainExpression} {ts rest : List Token} → Calls x y ts rest → height x ≤ height y
calls_higher calls_none = omega arith
calls_higher (calls_more {x = x} {xs = xs} c d a cs) = let ih = calls_higher cs in omega arith

-- each expression that is whole is low
pub frames_low : (P : Turn → PlainExpression → List Token → Type 0) → Surrounds P → (fs : List Frame) (x : PlainExpression) (ts : List Token) → FramesLeft P fs x ts → height x ≤ limit
frames_low P w [] x ts g = w.low turn.Taken x ts g
frames_low P w (f ∷ fs) x ts g =
    let z = frames_low P w fs g.2 g.3 g.6 in
    let c = calls_higher g.5 in
    let a = append_higher (plain_expressions f.arguments) x g.0 in
    let b = called_higher f.call.target f.call.name f.call.start f.call.end (append_expressions (plain_expressions f.arguments) (more_expressions x g.0)) in omega arith

pub append_one : (xs : List Expression) (x : Expression) (ys : PlainExpressions) → append_expressions (plain_expressions (xs ++ x ∷ [])) ys ≡ append_expressions (plain_expressions xs) (more_expressions (plain_expression x) ys)
append_one [] x ys = refl
append_one (y ∷ xs) x ys = ap (more_expressions (plain_expression y)) (append_one xs x ys)

pub plain_one : (xs : List Expression) (x : Expression) → plain_expressions (xs ++ x ∷ []) ≡ append_expressions (plain_expressions xs) (more_expressions (plain_expression x) no_expressions)
plain_one [] x = refl
plain_one (y ∷ xs) x = ap (more_expressions (plain_expression y)) (plain_one xs x)

-- a low expression is within the limit
pub within_low : (x : Expression) → height (plain_expression x) ≤ limit → within x ≡ Some x
within_low x low = ap (λ b. if b then Some x else None) (le-leb (height (plain_expression x)) limit low)

pub within_in : (F : Option Expression → Type 0) (x : Expression) → height (plain_expression x) ≤ limit → F (Some x) → F (within x)
within_in F x low g = subst F (sym (within_low x low)) g

pub within_out : (F : Option Expression → Type 0) (x : Expression) → (F None → ⊥) → F (within x) → F (Some x)
within_out F x not_none g = by_cases (is_low x) g
  where
    by_cases : (b : Bool) → F (if b then Some x else None) → F (Some x)
    by_cases true g = g
    by_cases false g = absurd (not_none g)
