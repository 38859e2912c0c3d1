-- A reader of a list of statements, which takes one token at a time.
use Rattle.std.specs.Prelude.{ℕ, nat_le, if◌then◌else◌, Bool, List, [], ◌∷◌, ◌++◌, Option, Some, None}
use Rattle.ruby_tokens.specs.declared.token.Token.{Token}
use Rattle.ruby_tokens.specs.declared.token.Kind.{Kind}
use Rattle.ruby_tokens.specs.declared.token.Kind.TheVariants as kind
use Rattle.ruby_reader.specs.declared.tree.Expression.{Expression}
use Rattle.ruby_reader.specs.declared.tree.Expression.TheVariants as expression
use Rattle.ruby_reader.specs.declared.tree.Statement.{Statement}
use Rattle.ruby_reader.specs.declared.tree.Statement.TheVariants as statement
use Rattle.ruby_reader.specs.declared.progress.Turn.{Turn}
use Rattle.ruby_reader.specs.declared.progress.Turn.TheVariants as turn
use Rattle.ruby_reader.specs.declared.frames.Target.{Target}
use Rattle.ruby_reader.specs.declared.frames.Target.TheVariants.{Value}
use Rattle.ruby_reader.specs.declared.expression.ExpressionReader.{ExpressionReader}
use Rattle.ruby_reader.specs.declared.expression.Outcome.{Outcome}
use Rattle.ruby_reader.specs.declared.expression.Outcome.TheVariants.{Reading, Ended}
use Rattle.ruby_reader.specs.declared.list.ListPlace.{ListPlace}
use Rattle.ruby_reader.specs.declared.list.ListPlace.TheVariants as place
use Rattle.ruby_reader.specs.declared.list.ListReader.{ListReader}
use Rattle.ruby_reader.specs.PlainLaws.{plain_statement}
use Rattle.ruby_reader.specs.Heights.{statement_height, limit}
use Rattle.ruby_reader.specs.ExpressionMachine as expressions

abbrev pub at : List Statement → ListPlace → ListReader
at ss p = record { statements = ss; place = p }

abbrev pub start : Turn → ListReader
start t = at [] (place.Between t)

abbrev pub reading : List Statement → Option (List ℕ) → ExpressionReader → ListReader
reading ss goal r = at ss (place.Reading goal r)

-- the statement that an expression makes: it is assigned to a local, or stands alone
abbrev pub statement_of : Option (List ℕ) → Expression → Statement
statement_of None x = statement.Expression x
statement_of (Some n) x = statement.Assignment (record { name = n; value = x })

abbrev pub is_low : Statement → Bool
is_low s = nat_le (statement_height (plain_statement s)) limit

abbrev pub with_target : List Statement → Option Target → Option ListReader
with_target ss None = None
with_target ss (Some t) = Some (reading ss None (expressions.operand t))

-- where a statement may begin
abbrev pub begin_statement : List Statement → Kind → Option ListReader
begin_statement ss (kind.Name n) = Some (at ss (place.Named n))
begin_statement ss k = with_target ss (expressions.operand_of k)

-- where a statement may begin only behind a newline or a `;`, it can't
abbrev pub in_turn : List Statement → Turn → Kind → Option ListReader
in_turn ss turn.Free k = begin_statement ss k
in_turn ss turn.Taken k = None

-- in front of a statement or the list's end
abbrev pub between_statements : List Statement → Turn → Kind → Option ListReader
between_statements ss t kind.Newline = Some (at ss (place.Between turn.Free))
between_statements ss t kind.Semicolon = Some (at ss (place.Between turn.Free))
between_statements ss t k = in_turn ss t k

-- the statement that an expression makes, where it isn't too high
abbrev pub low_statement : Option (List ℕ) → Expression → Option Statement
low_statement goal x = if is_low (statement_of goal x) then Some (statement_of goal x) else None

-- the statements with one more, where it isn't too high
abbrev pub with_low : List Statement → Option Statement → Option (List Statement)
with_low ss None = None
with_low ss (Some s) = Some (ss ++ s ∷ [])

abbrev pub with_statement : List Statement → Option (List ℕ) → Expression → Option (List Statement)
with_statement ss goal x = with_low ss (low_statement goal x)

-- behind a statement
abbrev pub behind_low : Option (List Statement) → Turn → Kind → Option ListReader
behind_low None t k = None
behind_low (Some ss) t k = between_statements ss t k

-- a list by what a token made of its expression
abbrev pub with_outcome : List Statement → Option (List ℕ) → Kind → Option Outcome → Option ListReader
with_outcome ss goal k None = None
with_outcome ss goal k (Some (Reading r)) = Some (reading ss goal r)
with_outcome ss goal k (Some (Ended x t)) = behind_low (with_statement ss goal x) t k

abbrev pub in_expression : List Statement → Option (List ℕ) → ExpressionReader → Token → Option ListReader
in_expression ss goal r token = with_outcome ss goal token.kind (expressions.expression_next r token)

-- the reader behind a local
abbrev pub local : List ℕ → ExpressionReader
local n = expressions.operand (Value (expression.Local n))

abbrev pub equals_or : List Statement → List ℕ → Kind → Option ListReader → Option ListReader
equals_or ss n kind.Equals o = Some (reading ss (Some n) expressions.start)
equals_or ss n _ o = o

-- behind a name that begins a statement
abbrev pub after_name : List Statement → List ℕ → Token → Option ListReader
after_name ss n token = equals_or ss n token.kind (in_expression ss None (local n) token)

abbrev pub step : List Statement → ListPlace → Token → Option ListReader
step ss (place.Between t) token = between_statements ss t token.kind
step ss (place.Named n) token = after_name ss n token
step ss (place.Reading goal r) token = in_expression ss goal r token

-- what a token makes of a list
abbrev pub list_next : ListReader → Token → Option ListReader
list_next r token = step r.statements r.place token

abbrev pub with_final : List Statement → Option (List ℕ) → Option Expression → Option (List Statement)
with_final ss goal None = None
with_final ss goal (Some x) = with_statement ss goal x

abbrev pub ends : List Statement → ListPlace → Option (List Statement)
ends ss (place.Between t) = Some ss
ends ss (place.Named n) = with_statement ss None (expression.Local n)
ends ss (place.Reading goal r) = with_final ss goal (expressions.expression_final r)

-- the statements, if the list may end here
abbrev pub list_final : ListReader → Option (List Statement)
list_final r = ends r.statements r.place
