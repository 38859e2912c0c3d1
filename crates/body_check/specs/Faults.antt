-- The faults of a program. An expression is a fault where all its parts have types and no rule gives it one. One with a part that has none is no fault: it only follows from one.
use Rattle.std.specs.Prelude.{◌≡◌, ℕ, false, List, [], ◌∷◌, ◌++◌, codes, None, Some}
use Rattle.sig_model.specs.declared.diag.Diag.{Diag}
use Rattle.sig_model.specs.declared.diag.DiagId.{DiagId}
use Rattle.sig_model.specs.declared.diag.DiagId.TheVariants.{NoMethod, MethodBodyTypeMismatch}
use Rattle.ruby_reader.specs.declared.tree.Literal.{Literal}
use Rattle.ruby_reader.specs.PlainTree.{PlainExpression, PlainExpressions, literal, local, call, new, no_expressions, more_expressions, PlainStatement, PlainDefinition, PlainOpening, PlainProgram}
use Rattle.body_check.specs.declared.ty.ValueType.{ValueType}
use Rattle.body_check.specs.declared.table.MethodEntry.{MethodEntry}
use Rattle.body_check.specs.declared.table.ClassMethods.{ClassMethods}
use Rattle.body_check.specs.Types.{fits, type_text}
use Rattle.body_check.specs.Calls.{method_in, methods_in, method_on, constructor_parameters, Refuses}
use Rattle.body_check.specs.Typing.{Locals, expression_of, with_parameters, HasType, HaveTypes, Leaves, HasBodyType}

module _ (file : ℕ) where
  -- a fault from one byte to another
  abbrev pub fault : ℕ → ℕ → DiagId → List (List ℕ) → Diag
  fault start end id args = record { place = record { file = file; start = start; end = end }; id = id; args = args }

  module _ (classes : List ClassMethods) where
    module _ (locals : Locals) where
      -- the expression itself is a fault, at the name of what it calls
      pub data IsFault : PlainExpression → Diag → Type 0 where
        call_finds_none : {receiver : PlainExpression} {n : List ℕ} {s e : ℕ} {arguments : PlainExpressions} {t : ValueType} {ts : List ValueType}
            → HasType classes locals receiver t → HaveTypes classes locals arguments ts → method_on classes t n ≡ None
            → IsFault (call receiver n s e arguments) (fault s e NoMethod (type_text t ∷ n ∷ []))
        call_refuses : {receiver : PlainExpression} {n : List ℕ} {s e : ℕ} {arguments : PlainExpressions} {t : ValueType} {ts : List ValueType} {m : MethodEntry} {id : DiagId} {args : List (List ℕ)}
            → HasType classes locals receiver t → HaveTypes classes locals arguments ts → method_on classes t n ≡ Some m → Refuses n ts m.parameters id args
            → IsFault (call receiver n s e arguments) (fault s e id args)
        new_refuses : {c : List ℕ} {s e : ℕ} {arguments : PlainExpressions} {ts : List ValueType} {id : DiagId} {args : List (List ℕ)}
            → HaveTypes classes locals arguments ts → Refuses (codes "new") ts (constructor_parameters classes c) id args
            → IsFault (new c s e arguments) (fault s e id args)

      -- what is listed of an expression itself
      pub data Own (x : PlainExpression) : List Diag → Type 0 where
        own_fault : {d : Diag} → IsFault x d → Own x (d ∷ [])
        own_none : ((d : Diag) → IsFault x d → ⊥) → Own x []

      -- `Listed x list`: the faults in an expression. That of the expression itself stands behind those of its parts; there are none of those where there is one of it.
      mutual
        pub data Listed : PlainExpression → List Diag → Type 0 where
          listed_literal : {l : Literal} → Listed (literal l) []
          listed_local : {n : List ℕ} → Listed (local n) []
          listed_call : {receiver : PlainExpression} {n : List ℕ} {s e : ℕ} {arguments : PlainExpressions} {in_receiver in_arguments own : List Diag}
              → Listed receiver in_receiver → ListedEach arguments in_arguments → Own (call receiver n s e arguments) own
              → Listed (call receiver n s e arguments) (in_receiver ++ in_arguments ++ own)
          listed_new : {c : List ℕ} {s e : ℕ} {arguments : PlainExpressions} {in_arguments own : List Diag}
              → ListedEach arguments in_arguments → Own (new c s e arguments) own → Listed (new c s e arguments) (in_arguments ++ own)

        pub data ListedEach : PlainExpressions → List Diag → Type 0 where
          listed_none : ListedEach no_expressions []
          listed_more : {x : PlainExpression} {xs : PlainExpressions} {before behind : List Diag} → Listed x before → ListedEach xs behind → ListedEach (more_expressions x xs) (before ++ behind)

    -- `ListedIn locals ss list`: the faults in a list of statements
    pub data ListedIn : Locals → List PlainStatement → List Diag → Type 0 where
      in_none : {locals : Locals} → ListedIn locals [] []
      in_more : {locals behind : Locals} {s : PlainStatement} {ss : List PlainStatement} {before list : List Diag}
          → Listed locals (expression_of s) before → Leaves classes locals s behind → ListedIn behind ss list → ListedIn locals (s ∷ ss) (before ++ list)

    -- a definition of a method is a fault at its `def`: its body has a type that is not below what the method is declared to give
    pub data IsMisfit (d : PlainDefinition) (m : MethodEntry) : Diag → Type 0 where
      body_misfits : {t : ValueType} → HasBodyType classes (with_parameters [] d.parameters m.parameters) d.body t → fits t m.gives ≡ false
          → IsMisfit d m (fault d.start d.start MethodBodyTypeMismatch (type_text t ∷ type_text m.gives ∷ []))

    -- what is listed of a definition itself
    pub data OwnMisfit (d : PlainDefinition) (m : MethodEntry) : List Diag → Type 0 where
      misfit_own : {f : Diag} → IsMisfit d m f → OwnMisfit d m (f ∷ [])
      misfit_none : ((f : Diag) → IsMisfit d m f → ⊥) → OwnMisfit d m []

    -- `OfMethod d m list`: the faults of a definition of a method: those in its body, and its own, which is there only where those are not
    pub data OfMethod (d : PlainDefinition) (m : MethodEntry) : List Diag → Type 0 where
      of_method : {in_body own : List Diag} → ListedIn (with_parameters [] d.parameters m.parameters) d.body in_body → OwnMisfit d m own → OfMethod d m (in_body ++ own)

    -- `OfDefinitions methods ds list`: the faults of a class's definitions
    pub data OfDefinitions (methods : List MethodEntry) : List PlainDefinition → List Diag → Type 0 where
      of_no_definitions : OfDefinitions methods [] []
      of_definition : {d : PlainDefinition} {ds : List PlainDefinition} {m : MethodEntry} {before behind : List Diag}
          → method_in d.name methods ≡ Some m → OfMethod d m before → OfDefinitions methods ds behind → OfDefinitions methods (d ∷ ds) (before ++ behind)

    pub data OfOpenings : List PlainOpening → List Diag → Type 0 where
      of_no_openings : OfOpenings [] []
      of_opening : {o : PlainOpening} {os : List PlainOpening} {before behind : List Diag}
          → OfDefinitions (methods_in o.name classes) o.definitions before → OfOpenings os behind → OfOpenings (o ∷ os) (before ++ behind)

    -- the faults of a program in its order: those of its classes, and those of its main part
    pub record OfProgram (p : PlainProgram) (list : List Diag) : Type 0 where
      pub in_classes : List Diag
      pub in_main : List Diag
      pub classes_listed : OfOpenings p.openings in_classes
      pub main_listed : ListedIn [] p.statements in_main
      pub listed : list ≡ in_classes ++ in_main
