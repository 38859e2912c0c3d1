-- The plain twin of each program, and the laws of the twins: one for each variant.
use Rattle.std.specs.Prelude.{ℕ, ◌≡◌, refl, List, [], ◌∷◌, ◌++◌, map}
use Rattle.std.proofs.Common.{ap, ◌∙◌}
use Rattle.ruby_reader.specs.declared.tree.Literal.{Literal}
use Rattle.ruby_reader.specs.declared.tree.Expression as expression
use Rattle.ruby_reader.specs.declared.tree.Expression.TheBlock.{hidden-the_row-Expression-0, hidden-the_row-Expression-1}
use Rattle.ruby_reader.specs.declared.tree.Statement.{Statement}
use Rattle.ruby_reader.specs.declared.tree.Statement.TheVariants as statement
use Rattle.ruby_reader.specs.declared.tree.Definition.{Definition}
use Rattle.ruby_reader.specs.declared.tree.Opening.{Opening}
use Rattle.ruby_reader.specs.declared.tree.Program.{Program}
use Rattle.ruby_reader.specs.PlainTree as plain
use Rattle.ruby_reader.specs.PlainTree.{PlainExpression, PlainExpressions, no_expressions, more_expressions, PlainStatement, PlainDefinition, PlainOpening, PlainProgram}

unfoldable mutual
  pub plain_expression : expression.Expression → PlainExpression
  plain_expression (expression.Literal l) = plain.literal l
  plain_expression (expression.Local n) = plain.local n
  plain_expression (expression.Call' s r n b e t q) = plain.call (held_expression r) n b e (expression_row q)
  plain_expression (expression.New' c b e s r) = plain.new c b e (expression_row r)

  -- a box is a row of one
  pub held_expression : {m : _} → expression.Row_of-Expression m → PlainExpression
  held_expression expression.end_of-Expression = plain.local []
  held_expression (expression.more_of-Expression x r) = plain_expression x

  pub expression_row : {m : _} → expression.Row_of-Expression m → PlainExpressions
  expression_row expression.end_of-Expression = no_expressions
  expression_row (expression.more_of-Expression x r) = more_expressions (plain_expression x) (expression_row r)

abbrev pub plain_expressions : List expression.Expression → PlainExpressions
plain_expressions [] = no_expressions
plain_expressions (x ∷ xs) = more_expressions (plain_expression x) (plain_expressions xs)

abbrev pub plain_statement : Statement → PlainStatement
plain_statement (statement.Assignment a) = plain.assignment a.name (plain_expression a.value)
plain_statement (statement.Expression x) = plain.expression (plain_expression x)

abbrev pub plain_statements : List Statement → List PlainStatement
plain_statements ss = map plain_statement ss

abbrev pub plain_definition : Definition → PlainDefinition
plain_definition d = record { name = d.name; start = d.start; parameters = d.parameters; body = plain_statements d.body }

abbrev pub plain_definitions : List Definition → List PlainDefinition
plain_definitions ds = map plain_definition ds

abbrev pub plain_opening : Opening → PlainOpening
plain_opening o = record { name = o.name; start = o.start; definitions = plain_definitions o.definitions }

abbrev pub plain_openings : List Opening → List PlainOpening
plain_openings os = map plain_opening os

abbrev pub plain_program : Program → PlainProgram
plain_program p = record { openings = plain_openings p.openings; statements = plain_statements p.statements }

-- the expressions of one list, and then those of another
abbrev pub append_expressions : PlainExpressions → PlainExpressions → PlainExpressions
append_expressions no_expressions ys = ys
append_expressions (more_expressions x xs) ys = more_expressions x (append_expressions xs ys)

row_is : (m : _) (r : expression.Row_of-Expression m) → expression_row r ≡ plain_expressions (expression.items-the_row-Expression m r)
unfolding plain_expression
row_is m expression.end_of-Expression = refl
row_is m (expression.more_of-Expression x r) = ap (more_expressions (plain_expression x)) (row_is _ r)

row_of : (xs : List expression.Expression) → expression_row (hidden-the_row-Expression-1 xs) ≡ plain_expressions xs
row_of xs = row_is _ (hidden-the_row-Expression-1 xs) ∙ ap plain_expressions (expression.items_hidden-the_row-Expression-1 xs)

pub plain-Literal : (l : Literal) → plain_expression (expression.Literal l) ≡ plain.literal l
unfolding plain_expression
plain-Literal l = refl

pub plain-Local : (n : List ℕ) → plain_expression (expression.Local n) ≡ plain.local n
unfolding plain_expression
plain-Local n = refl

pub plain-Call : (x : expression.Expression) (n : List ℕ) (s e : ℕ) (xs : List expression.Expression) → plain_expression (expression.Call x n s e xs) ≡ plain.call (plain_expression x) n s e (plain_expressions xs)
unfolding plain_expression hidden-the_row-Expression-0 denote.Hole.Carrier.hidden
plain-Call x n s e xs = ap (plain.call (plain_expression x) n s e) (row_of xs)

pub plain-New : (c : List ℕ) (s e : ℕ) (xs : List expression.Expression) → plain_expression (expression.New c s e xs) ≡ plain.new c s e (plain_expressions xs)
unfolding plain_expression
plain-New c s e xs = ap (plain.new c s e) (row_of xs)

pub plain_expressions-append : (xs ys : List expression.Expression) → plain_expressions (xs ++ ys) ≡ append_expressions (plain_expressions xs) (plain_expressions ys)
plain_expressions-append [] ys = refl
plain_expressions-append (x ∷ xs) ys = ap (more_expressions (plain_expression x)) (plain_expressions-append xs ys)

-- the laws of expressions, for the attribute `using`
pub ruleset plain_laws = (plain-Literal, plain-Local, plain-Call, plain-New)
