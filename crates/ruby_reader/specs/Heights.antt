-- How high an expression is: a leaf has height 1, and a call is 1 above its highest part. The class of a new object is such a part. Parentheses and lists add nothing.
use Rattle.std.specs.Prelude.{ℕ, ◌+◌, ◌≤◌, max, List}
use Rattle.std.specs.List.{AllByRecursion}
use Rattle.ruby_reader.specs.PlainTree.{PlainExpression, PlainExpressions, literal, local, call, new, no_expressions, more_expressions, PlainStatement, assignment, expression, PlainDefinition, PlainOpening, PlainProgram}

-- the greatest height of a statement
abbrev pub limit : ℕ
limit = 200

abbrev mutual
  pub height : PlainExpression → ℕ
  height (literal l) = 1
  height (local n) = 1
  height (call receiver n s e arguments) = max (height receiver) (tallest arguments) + 1
  height (new c s e arguments) = max 1 (tallest arguments) + 1

  -- the highest of several expressions, or 0 where there is none
  pub tallest : PlainExpressions → ℕ
  tallest no_expressions = 0
  tallest (more_expressions x xs) = max (height x) (tallest xs)

-- an assignment is 1 above its value
abbrev pub statement_height : PlainStatement → ℕ
statement_height (assignment n x) = height x + 1
statement_height (expression x) = height x

abbrev pub AreLow : List PlainStatement → Type 0
AreLow ss = AllByRecursion (λ s. statement_height s ≤ limit) ss

-- each statement keeps to the limit
pub record IsLow (p : PlainProgram) : Type 0 where
  pub methods : AllByRecursion (λ (o : PlainOpening). AllByRecursion (λ (d : PlainDefinition). AreLow d.body) o.definitions) p.openings
  pub main : AreLow p.statements
