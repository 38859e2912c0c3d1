-- Programs as plain data: what the grammar spells, and what bodies are checked by.
use Rattle.std.specs.Prelude.{ℕ, List}
use Rattle.ruby_reader.specs.declared.tree.Literal.{Literal}

mutual
  -- literals, locals, calls (receiver, name, where its token begins and ends, arguments) and new objects (class, where the token `new` begins and ends, arguments)
  pub data PlainExpression : Type 0 where
    literal : Literal → PlainExpression
    local : List ℕ → PlainExpression
    call : PlainExpression → List ℕ → ℕ → ℕ → PlainExpressions → PlainExpression
    new : List ℕ → ℕ → ℕ → PlainExpressions → PlainExpression

  pub data PlainExpressions : Type 0 where
    no_expressions : PlainExpressions
    more_expressions : PlainExpression → PlainExpressions → PlainExpressions

pub data PlainStatement : Type 0 where
  assignment : List ℕ → PlainExpression → PlainStatement
  expression : PlainExpression → PlainStatement

pub record PlainDefinition : Type 0 where
  pub name : List ℕ
  pub start : ℕ
  pub parameters : List (List ℕ)
  pub body : List PlainStatement

pub record PlainOpening : Type 0 where
  pub name : List ℕ
  pub start : ℕ
  pub definitions : List PlainDefinition

pub record PlainProgram : Type 0 where
  pub openings : List PlainOpening
  pub statements : List PlainStatement
