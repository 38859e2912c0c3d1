-- The typing rules: which type an expression has, where the types of the locals are known. What no rule gives a type has none.
use Rattle.std.specs.Prelude.{◌≡◌, ℕ, List, [], ◌∷◌, Option, Some}
use Rattle.std.specs.Map.{lookup}
use Rattle.indexmap.specs.IndexMap.{insert_entry}
use Rattle.names.specs.Places.{same_name}
use Rattle.ruby_reader.specs.declared.tree.Literal.{Literal}
use Rattle.ruby_reader.specs.PlainTree.{PlainExpression, PlainExpressions, literal, local, call, new, no_expressions, more_expressions, PlainStatement, assignment, expression}
use Rattle.body_check.specs.declared.ty.ValueType.{ValueType}
use Rattle.body_check.specs.declared.ty.ValueType.TheVariants as ty
use Rattle.body_check.specs.declared.table.MethodEntry.{MethodEntry}
use Rattle.body_check.specs.declared.table.ClassMethods.{ClassMethods}
use Rattle.body_check.specs.Types.{literal_type}
use Rattle.body_check.specs.Calls.{method_on, constructor_parameters, Fit}

-- the expression of a statement
abbrev pub expression_of : PlainStatement → PlainExpression
expression_of (expression x) = x
expression_of (assignment n x) = x

-- locals, each with the type of its value; one whose value has no type isn't among them
abbrev pub Locals : Type 0
Locals = List (List ℕ × ValueType)

-- the type of a local
abbrev pub type_in : Locals → List ℕ → Option ValueType
type_in locals name = lookup (same_name name) locals

-- a local gets a value of this type
abbrev pub with_local : Locals → List ℕ → ValueType → Locals
with_local locals name type = insert_entry same_name locals name type

-- the parameters of a method, each with its declared type
abbrev pub with_parameters : Locals → List (List ℕ) → List ValueType → Locals
with_parameters locals (name ∷ names) (type ∷ types) = with_parameters (with_local locals name type) names types
with_parameters locals _ _ = locals

module _ (classes : List ClassMethods) (locals : Locals) where
  mutual
    pub data HasType : PlainExpression → ValueType → Type 0 where
      literal_has : {l : Literal} → HasType (literal l) (literal_type l)
      local_has : {n : List ℕ} {t : ValueType} → type_in locals n ≡ Some t → HasType (local n) t
      call_has : {receiver : PlainExpression} {n : List ℕ} {s e : ℕ} {arguments : PlainExpressions} {t : ValueType} {ts : List ValueType} {m : MethodEntry}
          → HasType receiver t → HaveTypes arguments ts → method_on classes t n ≡ Some m → Fit ts m.parameters → HasType (call receiver n s e arguments) m.gives
      new_has : {c : List ℕ} {s e : ℕ} {arguments : PlainExpressions} {ts : List ValueType}
          → HaveTypes arguments ts → Fit ts (constructor_parameters classes c) → HasType (new c s e arguments) (ty.Class c)

    -- the types of several expressions
    pub data HaveTypes : PlainExpressions → List ValueType → Type 0 where
      none_have : HaveTypes no_expressions []
      more_have : {x : PlainExpression} {xs : PlainExpressions} {t : ValueType} {ts : List ValueType} → HasType x t → HaveTypes xs ts → HaveTypes (more_expressions x xs) (t ∷ ts)

  -- the type of a statement's value: an assignment gives what it assigns
  abbrev pub Gives : PlainStatement → ValueType → Type 0
  Gives s t = HasType (expression_of s) t

  -- the locals behind a statement: an assigned one is left out where its value has no type
  pub data Leaves : PlainStatement → Locals → Type 0 where
    expression_leaves : {x : PlainExpression} → Leaves (expression x) locals
    assignment_leaves : {n : List ℕ} {x : PlainExpression} {t : ValueType} → HasType x t → Leaves (assignment n x) (with_local locals n t)
    assignment_lost : {n : List ℕ} {x : PlainExpression} → ((t : ValueType) → HasType x t → ⊥) → Leaves (assignment n x) locals

module _ (classes : List ClassMethods) where
  -- `GivesLast locals before ss t`: each of these statements has a type, and the last has the type `t`; where there is none, `t` is `before`
  pub data GivesLast : Locals → ValueType → List PlainStatement → ValueType → Type 0 where
    last_none : {locals : Locals} {t : ValueType} → GivesLast locals t [] t
    last_more : {locals behind : Locals} {before given t : ValueType} {s : PlainStatement} {ss : List PlainStatement}
        → Gives classes locals s given → Leaves classes locals s behind → GivesLast behind given ss t → GivesLast locals before (s ∷ ss) t

  -- a body has the type of its last statement, and `nil` where it is empty; it has none where one of its statements has none
  abbrev pub HasBodyType : Locals → List PlainStatement → ValueType → Type 0
  HasBodyType locals ss t = GivesLast locals ty.Nil ss t
