-- What the checker computes on its walk over a program. `proofs/` shows that the types are those of the typing rules, and the lists those of the faults.
use Rattle.std.specs.Prelude.{ℕ, if◌then◌else◌, List, [], ◌∷◌, ◌++◌, length, nat_lt, codes, Option, None, Some}
use Rattle.std.specs.Option.{option_map_or}
use Rattle.sig_model.specs.declared.diag.Diag.{Diag}
use Rattle.sig_model.specs.declared.diag.DiagId.{DiagId}
use Rattle.sig_model.specs.declared.diag.DiagId.TheVariants.{NoMethod, InsufficientPositionalArguments, UnexpectedPositionalArgument, ArgumentTypeMismatch, MethodBodyTypeMismatch}
use Rattle.ruby_reader.specs.PlainTree.{PlainExpression, PlainExpressions, literal, local, call, new, no_expressions, more_expressions, PlainStatement, assignment, expression, PlainDefinition, PlainOpening, PlainProgram}
use Rattle.body_check.specs.declared.ty.ValueType.{ValueType}
use Rattle.body_check.specs.declared.ty.ValueType.TheVariants as ty
use Rattle.body_check.specs.declared.table.MethodEntry.{MethodEntry}
use Rattle.body_check.specs.declared.table.ClassMethods.{ClassMethods}
use Rattle.body_check.specs.declared.calls.Refusal.{Refusal}
use Rattle.body_check.specs.declared.calls.Outcome.{Outcome}
use Rattle.body_check.specs.declared.calls.Outcome.TheVariants as a_call
use Rattle.body_check.specs.Types.{literal_type, fits, type_text}
use Rattle.body_check.specs.Calls.{methods_in, method_in, method_on, constructor_parameters}
use Rattle.body_check.specs.Typing.{Locals, expression_of, type_in, with_local, with_parameters}
use Rattle.body_check.specs.Faults.{fault}

abbrev pub refusal : DiagId → List (List ℕ) → Refusal
refusal id args = record { id = id; args = args }

abbrev pub misfit_of : List ValueType → List ValueType → Option Refusal
misfit_of (t ∷ ts) (u ∷ us) = if fits t u then misfit_of ts us else Some (refusal ArgumentTypeMismatch (type_text t ∷ type_text u ∷ []))
misfit_of _ _ = None

-- why arguments of these types are refused, if they are
abbrev pub refusal_of : List ℕ → List ValueType → List ValueType → Option Refusal
refusal_of name ts us =
    if nat_lt (length ts) (length us) then Some (refusal InsufficientPositionalArguments (name ∷ []))
    else if nat_lt (length us) (length ts) then Some (refusal UnexpectedPositionalArgument (name ∷ [])) else misfit_of ts us

abbrev pub no_method : ValueType → List ℕ → Refusal
no_method t name = refusal NoMethod (type_text t ∷ name ∷ [])

abbrev pub outcome : Option Refusal → ValueType → Outcome
outcome None t = a_call.Gives t
outcome (Some r) t = a_call.Refused r

abbrev pub method_outcome : List ℕ → ValueType → List ValueType → Option MethodEntry → Outcome
method_outcome name t ts None = a_call.Refused (no_method t name)
method_outcome name t ts (Some m) = outcome (refusal_of name ts m.parameters) m.gives

module _ (classes : List ClassMethods) where
  abbrev pub call_outcome : List ℕ → Option ValueType → Option (List ValueType) → Outcome
  call_outcome name (Some t) (Some ts) = method_outcome name t ts (method_on classes t name)
  call_outcome name _ _ = a_call.Unknown

  abbrev pub new_outcome : List ℕ → Option (List ValueType) → Outcome
  new_outcome c (Some ts) = outcome (refusal_of (codes "new") ts (constructor_parameters classes c)) (ty.Class c)
  new_outcome c None = a_call.Unknown

abbrev pub given_by : Outcome → Option ValueType
given_by (a_call.Gives t) = Some t
given_by (a_call.Refused r) = None
given_by a_call.Unknown = None

abbrev pub with_type : Option ValueType → Option (List ValueType) → Option (List ValueType)
with_type (Some t) (Some ts) = Some (t ∷ ts)
with_type _ _ = None

-- the types of some expressions, and then those of others
abbrev pub joined : Option (List ValueType) → Option (List ValueType) → Option (List ValueType)
joined (Some ts) (Some us) = Some (ts ++ us)
joined _ _ = None

abbrev pub with_last : Option (List ValueType) → Option ValueType → Option (List ValueType)
with_last (Some ts) (Some t) = Some (ts ++ t ∷ [])
with_last _ _ = None

module _ (classes : List ClassMethods) (locals : Locals) where
  abbrev mutual
    pub type_of : PlainExpression → Option ValueType
    type_of (literal l) = Some (literal_type l)
    type_of (local n) = type_in locals n
    type_of (call receiver n s e arguments) = given_by (call_outcome classes n (type_of receiver) (types_of arguments))
    type_of (new c s e arguments) = given_by (new_outcome classes c (types_of arguments))

    pub types_of : PlainExpressions → Option (List ValueType)
    types_of no_expressions = Some []
    types_of (more_expressions x xs) = with_type (type_of x) (types_of xs)

  abbrev pub locals_behind : PlainStatement → Locals
  locals_behind (expression x) = locals
  locals_behind (assignment n x) = option_map_or (with_local locals n) (type_of x) locals

abbrev pub type_behind : Option ValueType → Option ValueType → Option ValueType
type_behind (Some t) given = given
type_behind None given = None

-- the type of the last statement, where each has one
abbrev pub last_type : List ClassMethods → Option ValueType → Locals → List PlainStatement → Option ValueType
last_type classes before locals [] = before
last_type classes before locals (s ∷ ss) = last_type classes (type_behind before (type_of classes locals (expression_of s))) (locals_behind classes locals s) ss

module _ (file : ℕ) where
  abbrev pub misfit_fault : ℕ → ValueType → Option ValueType → List Diag
  misfit_fault start wanted None = []
  misfit_fault start wanted (Some given) = if fits given wanted then [] else fault file start start MethodBodyTypeMismatch (type_text given ∷ type_text wanted ∷ []) ∷ []

  abbrev pub faults_of_outcome : ℕ → ℕ → Outcome → List Diag
  faults_of_outcome s e (a_call.Refused r) = fault file s e r.id r.args ∷ []
  faults_of_outcome s e _ = []

  module _ (classes : List ClassMethods) where
    abbrev mutual
      pub faults_of : Locals → PlainExpression → List Diag
      faults_of locals (literal l) = []
      faults_of locals (local n) = []
      faults_of locals (call receiver n s e arguments) =
          faults_of locals receiver ++ faults_of_each locals arguments ++ faults_of_outcome s e (call_outcome classes n (type_of classes locals receiver) (types_of classes locals arguments))
      faults_of locals (new c s e arguments) = faults_of_each locals arguments ++ faults_of_outcome s e (new_outcome classes c (types_of classes locals arguments))

      pub faults_of_each : Locals → PlainExpressions → List Diag
      faults_of_each locals no_expressions = []
      faults_of_each locals (more_expressions x xs) = faults_of locals x ++ faults_of_each locals xs

    -- the faults in a list of statements
    abbrev pub faults_in : Locals → List PlainStatement → List Diag
    faults_in locals [] = []
    faults_in locals (s ∷ ss) = faults_of locals (expression_of s) ++ faults_in (locals_behind classes locals s) ss

    abbrev pub faults_of_method : PlainDefinition → MethodEntry → List Diag
    faults_of_method d m =
        let locals = with_parameters [] d.parameters m.parameters in
        faults_in locals d.body ++ misfit_fault d.start m.gives (last_type classes (Some ty.Nil) locals d.body)

    abbrev pub faults_of_definition : List MethodEntry → PlainDefinition → List Diag
    faults_of_definition methods d = option_map_or (faults_of_method d) (method_in d.name methods) []

    abbrev pub faults_of_definitions : List MethodEntry → List PlainDefinition → List Diag
    faults_of_definitions methods [] = []
    faults_of_definitions methods (d ∷ ds) = faults_of_definition methods d ++ faults_of_definitions methods ds

    abbrev pub faults_of_openings : List PlainOpening → List Diag
    faults_of_openings [] = []
    faults_of_openings (o ∷ os) = faults_of_definitions (methods_in o.name classes) o.definitions ++ faults_of_openings os

    abbrev pub faults_of_program : PlainProgram → List Diag
    faults_of_program p = faults_of_openings p.openings ++ faults_in [] p.statements
