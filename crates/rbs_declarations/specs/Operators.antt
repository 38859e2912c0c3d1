-- Operators that may be defined, as runs of marks that stand side by side.
use Rattle.std.specs.Prelude.{ℕ, Bool, true, false, codes, List, Option, Some, None}
use Rattle.rbs_terminals.specs.declared.token.Mark.{Mark}
use Rattle.rbs_terminals.specs.declared.token.Mark.TheVariants as mark
use Rattle.rbs_declarations.specs.declared.operators.Operator.{Operator}
use Rattle.rbs_declarations.specs.declared.operators.Operator.TheVariants as operator

abbrev pub operator_text : Operator → List ℕ
operator_text operator.Plus = codes "+"
operator_text operator.Minus = codes "-"
operator_text operator.UnaryMinus = codes "-@"
operator_text operator.Times = codes "*"
operator_text operator.Divide = codes "/"
operator_text operator.Modulo = codes "%"
operator_text operator.Assign = codes "="
operator_text operator.Equal = codes "=="
operator_text operator.Less = codes "<"
operator_text operator.LessEqual = codes "<="
operator_text operator.Compare = codes "<=>"
operator_text operator.Append = codes "<<"
operator_text operator.Greater = codes ">"
operator_text operator.GreaterEqual = codes ">="
operator_text operator.Open = codes "["
operator_text operator.Index = codes "[]"
operator_text operator.IndexAssign = codes "[]="

-- it may be defined, and isn't the first marks of one alone
abbrev pub is_operator : Operator → Bool
is_operator operator.Assign = false
is_operator operator.Open = false
is_operator _ = true

-- the first mark of an operator
abbrev pub begun_by : Mark → Option Operator
begun_by mark.Plus = Some operator.Plus
begun_by mark.Minus = Some operator.Minus
begun_by mark.Star = Some operator.Times
begun_by mark.Slash = Some operator.Divide
begun_by mark.Percent = Some operator.Modulo
begun_by mark.Equals = Some operator.Assign
begun_by mark.Less = Some operator.Less
begun_by mark.Greater = Some operator.Greater
begun_by mark.OpenSquare = Some operator.Open
begun_by _ = None

-- one more mark
abbrev pub extended : Operator → Mark → Option Operator
extended operator.Minus mark.At = Some operator.UnaryMinus
extended operator.Assign mark.Equals = Some operator.Equal
extended operator.Less mark.Equals = Some operator.LessEqual
extended operator.Less mark.Less = Some operator.Append
extended operator.LessEqual mark.Greater = Some operator.Compare
extended operator.Greater mark.Equals = Some operator.GreaterEqual
extended operator.Open mark.CloseSquare = Some operator.Index
extended operator.Index mark.Equals = Some operator.IndexAssign
extended _ _ = None
