-- Where locals and classes are in scope: a list of statements reads what its method's parameters or its earlier statements name, and names each local once; a new object's class is one that the program opens.
use Rattle.std.specs.Prelude.{◌≡◌, ℕ, true, false, List, [], ◌∷◌, ◌++◌, map}
use Rattle.std.specs.List.{IsDistinct, AllByRecursion}
use Rattle.names.specs.Places.{same_name, is_among}
use Rattle.ruby_reader.specs.PlainTree.{PlainExpression, PlainExpressions, literal, local, call, new, no_expressions, more_expressions, PlainStatement, assignment, expression, PlainDefinition, PlainOpening, PlainProgram}

module _ (classes : List (List ℕ)) where
  abbrev mutual
    -- an expression reads none but these locals, and makes objects of none but these classes
    pub Reads : List (List ℕ) → PlainExpression → Type 0
    Reads locals (literal l) = Unit {0}
    Reads locals (local n) = is_among n locals ≡ true
    Reads locals (call receiver n s e arguments) = Reads locals receiver × ReadsEach locals arguments
    Reads locals (new c s e arguments) = (is_among c classes ≡ true) × ReadsEach locals arguments

    pub ReadsEach : List (List ℕ) → PlainExpressions → Type 0
    ReadsEach locals no_expressions = Unit {0}
    ReadsEach locals (more_expressions x xs) = Reads locals x × ReadsEach locals xs

  -- a statement reads these locals, and names none of them again
  abbrev pub Keeps : List (List ℕ) → PlainStatement → Type 0
  Keeps locals (expression x) = Reads locals x
  Keeps locals (assignment n x) = Reads locals x × (is_among n locals ≡ false)

-- the locals behind a statement
abbrev pub locals_behind : List (List ℕ) → PlainStatement → List (List ℕ)
locals_behind locals (expression x) = locals
locals_behind locals (assignment n x) = locals ++ n ∷ []

module _ (classes : List (List ℕ)) where
  -- each statement keeps to the locals before it
  abbrev pub InScope : List (List ℕ) → List PlainStatement → Type 0
  InScope locals [] = Unit {0}
  InScope locals (s ∷ ss) = Keeps classes locals s × InScope (locals_behind locals s) ss

  -- a method's parameters have different names, and its body keeps to its scope
  pub record HasScope (d : PlainDefinition) : Type 0 where
    pub distinct : IsDistinct same_name d.parameters
    pub in_scope : InScope d.parameters d.body

abbrev pub opened_names : PlainProgram → List (List ℕ)
opened_names p = map (λ (o : PlainOpening). o.name) p.openings

-- each method keeps to its scope, and so does the main part
pub record HasScopes (p : PlainProgram) : Type 0 where
  pub methods : AllByRecursion (λ (o : PlainOpening). AllByRecursion (HasScope (opened_names p)) o.definitions) p.openings
  pub main : InScope (opened_names p) [] p.statements
