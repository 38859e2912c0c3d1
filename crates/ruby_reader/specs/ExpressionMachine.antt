-- A reader of an expression, which takes one token at a time. Its frames are the calls whose parenthesis is open, from the innermost on.
use Rattle.std.specs.Prelude.{ℕ, ◌==◌, nat_le, if◌then◌else◌, Bool, List, [], ◌∷◌, ◌++◌, Option, Some, None}
use Rattle.names.specs.Places.{same_name}
use Rattle.ruby_tokens.specs.declared.token.Token.{Token}
use Rattle.ruby_tokens.specs.declared.token.Kind.{Kind}
use Rattle.ruby_tokens.specs.declared.token.Kind.TheVariants as kind
use Rattle.ruby_reader.specs.declared.tree.Literal.TheVariants as literal
use Rattle.ruby_reader.specs.declared.tree.Expression.{Expression}
use Rattle.ruby_reader.specs.declared.tree.Expression.TheVariants as expression
use Rattle.ruby_reader.specs.declared.progress.Turn.TheVariants as turn
use Rattle.ruby_reader.specs.declared.frames.Target.{Target}
use Rattle.ruby_reader.specs.declared.frames.Target.TheVariants.{Value, Class}
use Rattle.ruby_reader.specs.declared.frames.Call.{Call}
use Rattle.ruby_reader.specs.declared.frames.Frame.{Frame}
use Rattle.ruby_reader.specs.declared.expression.Way.{Way}
use Rattle.ruby_reader.specs.declared.expression.Way.TheVariants as way
use Rattle.ruby_reader.specs.declared.expression.ExpressionPlace.{ExpressionPlace}
use Rattle.ruby_reader.specs.declared.expression.ExpressionPlace.TheVariants as place
use Rattle.ruby_reader.specs.declared.expression.ExpressionReader.{ExpressionReader}
use Rattle.ruby_reader.specs.declared.expression.Outcome.{Outcome}
use Rattle.ruby_reader.specs.declared.expression.Outcome.TheVariants.{Reading, Ended}
use Rattle.ruby_reader.specs.PlainLaws.{plain_expression}
use Rattle.ruby_reader.specs.Heights.{height, limit}
use Rattle.profile_words.specs.Words.{is_callable}
use Rattle.ruby_reader.specs.Called.{new_word}

abbrev pub at : List Frame → ExpressionPlace → ExpressionReader
at fs p = record { frames = fs; place = p }

abbrev pub reading : List Frame → ExpressionPlace → Option Outcome
reading fs p = Some (Reading (at fs p))

-- in front of an expression that may begin on a later line
abbrev pub start : ExpressionReader
start = at [] place.Before

-- an operand that stands here
abbrev pub operand : Target → ExpressionReader
operand t = at [] (place.Behind t way.Here)

abbrev pub called_on : Target → List ℕ → ℕ → ℕ → List Expression → Expression
called_on (Value x) n s e xs = expression.Call x n s e xs
called_on (Class c) n s e xs = expression.New c s e xs

-- a call with its arguments
abbrev pub called : Call → List Expression → Expression
called c xs = called_on c.target c.name c.start c.end xs

abbrev pub is_low : Expression → Bool
is_low x = nat_le (height (plain_expression x)) limit

abbrev pub within : Expression → Option Expression
within x = if is_low x then Some x else None

-- a call with its arguments, where it isn't too high
abbrev pub made : Call → List Expression → Option Expression
made c xs = within (called c xs)

-- the operand that a token is, or begins
abbrev pub operand_of : Kind → Option Target
operand_of (kind.Integer z) = Some (Value (expression.Literal (literal.Int z)))
operand_of (kind.Text w) = Some (Value (expression.Literal (literal.Str w)))
operand_of (kind.Symbol w) = Some (Value (expression.Literal (literal.Sym w)))
operand_of kind.Nil = Some (Value (expression.Literal literal.Nil))
operand_of (kind.Name n) = Some (Value (expression.Local n))
operand_of (kind.Upper c) = Some (Class c)
operand_of _ = None

abbrev pub with_operand : List Frame → Option Target → Option Outcome
with_operand fs None = None
with_operand fs (Some t) = reading fs (place.Behind t way.Here)

-- in front of an expression, where newlines are skipped
abbrev pub before : List Frame → Kind → Option Outcome
before fs kind.Newline = reading fs place.Before
before fs kind.TypeNote = reading fs place.Before
before fs k = with_operand fs (operand_of k)

abbrev pub frame : Call → List Expression → Frame
frame c xs = record { call = c; arguments = xs }

-- a value, where it isn't too high
abbrev pub with_made : List Frame → Option Expression → Option Outcome
with_made fs None = None
with_made fs (Some x) = reading fs (place.Behind (Value x) way.Here)

-- behind the parenthesis that opens arguments
abbrev pub opened : List Frame → Call → Kind → Option Outcome
opened fs c kind.Close = with_made fs (made c [])
opened fs c kind.Newline = reading fs (place.Opened c)
opened fs c kind.TypeNote = reading fs (place.Opened c)
opened fs c k = with_operand (frame c [] ∷ fs) (operand_of k)

-- the names that a call on a target may have
abbrev pub may_call : Target → List ℕ → Bool
may_call (Value x) n = is_callable n
may_call (Class c) n = same_name n new_word

-- behind a dot
abbrev pub dotted : List Frame → Target → Kind → ℕ → ℕ → Option Outcome
dotted fs t kind.Newline s e = reading fs (place.Dot t)
dotted fs t kind.TypeNote s e = reading fs (place.Dot t)
dotted fs t (kind.Name n) s e = if may_call t n then reading fs (place.Called (record { target = t; name = n; start = s; end = e })) else None
dotted fs t _ s e = None

abbrev pub lined : Way → Way
lined way.Noted = way.Noted
lined way.Here = way.Line
lined way.Line = way.Line

abbrev pub dot_here : List Frame → Target → Way → Option Outcome
dot_here fs t way.Here = reading fs (place.Dot t)
dot_here fs t way.Line = None
dot_here fs t way.Noted = None

-- an expression that ends in front of a token
abbrev pub ended : Expression → Way → Option Outcome
ended x way.Here = Some (Ended x turn.Taken)
ended x way.Line = Some (Ended x turn.Free)
ended x way.Noted = None

-- behind a comma
abbrev pub comma : List Frame → Way → Option Outcome
comma fs way.Here = reading fs place.Before
comma fs way.Line = None
comma fs way.Noted = None

abbrev pub in_frame : Frame → List Frame → Expression → Way → Kind → Option Outcome
in_frame f fs x w kind.Comma = comma (frame f.call (f.arguments ++ x ∷ []) ∷ fs) w
in_frame f fs x w kind.Close = with_made fs (made f.call (f.arguments ++ x ∷ []))
in_frame f fs x w _ = None

-- behind an expression that no dot follows
abbrev pub ends : List Frame → Expression → Way → Kind → Option Outcome
ends [] x w k = ended x w
ends (f ∷ fs) x w k = in_frame f fs x w k

abbrev pub ends_on : List Frame → Target → Way → Kind → Option Outcome
ends_on fs (Value x) w k = ends fs x w k
ends_on fs (Class c) w k = None

-- behind what a call may be made on
abbrev pub behind : List Frame → Target → Way → Kind → Option Outcome
behind fs t w kind.Dot = dot_here fs t w
behind fs t w kind.LeadingDot = reading fs (place.Dot t)
behind fs t w kind.Newline = reading fs (place.Behind t (lined w))
behind fs t w kind.TypeNote = reading fs (place.Behind t way.Noted)
behind fs t w k = ends_on fs t w k

-- behind a call without parentheses
abbrev pub behind_made : List Frame → Option Expression → Kind → Option Outcome
behind_made fs None k = None
behind_made fs (Some x) k = behind fs (Value x) way.Here k

abbrev pub at_open : Bool → List Frame → Call → Option Outcome → Option Outcome
at_open opens fs c o = if opens then reading fs (place.Opened c) else o

-- behind the name of a call
abbrev pub after_name : List Frame → Call → Kind → ℕ → Option Outcome
after_name fs c kind.Open s = at_open (s == c.end) fs c (behind_made fs (made c []) kind.Open)
after_name fs c k s = behind_made fs (made c []) k

abbrev pub step : List Frame → ExpressionPlace → Kind → ℕ → ℕ → Option Outcome
step fs place.Before k s e = before fs k
step fs (place.Opened c) k s e = opened fs c k
step fs (place.Behind t w) k s e = behind fs t w k
step fs (place.Dot t) k s e = dotted fs t k s e
step fs (place.Called c) k s e = after_name fs c k s

-- what a token makes of an expression
abbrev pub expression_next : ExpressionReader → Token → Option Outcome
expression_next r t = step r.frames r.place t.kind t.start t.end

abbrev pub final_behind : Target → Way → Option Expression
final_behind (Value x) way.Here = Some x
final_behind (Value x) way.Line = Some x
final_behind (Value x) way.Noted = None
final_behind (Class c) w = None

abbrev pub final_at : ExpressionPlace → Option Expression
final_at place.Before = None
final_at (place.Opened c) = None
final_at (place.Behind t w) = final_behind t w
final_at (place.Dot t) = None
final_at (place.Called c) = made c []

abbrev pub final : List Frame → ExpressionPlace → Option Expression
final [] p = final_at p
final (f ∷ fs) p = None

-- the expression, if it may end here
abbrev pub expression_final : ExpressionReader → Option Expression
expression_final r = final r.frames r.place
