-- What the walk lists are the faults of a program, and no other list is.
use Rattle.std.proofs.Common.{◌≡◌, ℕ, Bool, true, false, if◌then◌else◌, List, [], ◌∷◌, ◌++◌, length, codes, Option, None, Some, refl, sym, ap, ◌∙◌, subst}
use Rattle.std.specs.List.{AllByRecursion}
use Rattle.std.specs.Option.{option_map, option_map_or}
use Rattle.sig_model.specs.declared.diag.Diag.{Diag}
use Rattle.sig_model.specs.declared.diag.DiagId.TheVariants.{MethodBodyTypeMismatch}
use Rattle.ruby_reader.specs.PlainTree.{PlainExpression, PlainExpressions, literal, local, call, new, no_expressions, more_expressions, PlainStatement, PlainDefinition, PlainOpening, PlainProgram}
use Rattle.body_check.specs.declared.ty.ValueType.{ValueType}
use Rattle.body_check.specs.declared.ty.ValueType.TheVariants as ty
use Rattle.body_check.specs.declared.table.MethodEntry.{MethodEntry}
use Rattle.body_check.specs.declared.table.ClassMethods.{ClassMethods}
use Rattle.body_check.specs.declared.calls.Refusal.{Refusal}
use Rattle.body_check.specs.declared.calls.Outcome.{Outcome}
use Rattle.body_check.specs.declared.calls.Outcome.TheVariants as a_call
use Rattle.body_check.specs.Types.{fits, type_text}
use Rattle.body_check.specs.Calls.{method_in, methods_in, method_on, constructor_parameters}
use Rattle.body_check.specs.Typing.{Locals, expression_of, with_parameters, HasType, HaveTypes}
use Rattle.body_check.specs.Faults.{fault, IsFault, call_finds_none, call_refuses, new_refuses, Own, own_fault, own_none, Listed, listed_literal, listed_local, listed_call, listed_new, ListedEach, listed_none, listed_more, ListedIn, in_none, in_more, IsMisfit, body_misfits, OwnMisfit, misfit_own, misfit_none, OfMethod, of_method, OfDefinitions, of_no_definitions, of_definition, OfOpenings, of_no_openings, of_opening, OfProgram}
use Rattle.body_check.specs.Matching.{HasArity, IsDefined, Matches}
use Rattle.body_check.specs.Walk.{refusal_of, outcome, method_outcome, call_outcome, new_outcome, type_of, types_of, locals_behind, last_type, misfit_fault, faults_of_outcome, faults_of, faults_of_each, faults_in, faults_of_method, faults_of_definitions, faults_of_openings, faults_of_program}
use Rattle.body_check.proofs.Judged.{refuses_refused, refused_refuses, has_type, have_types, type_had, types_had, leaves, only_left, gives_last, last_given}

-- at most one
data Few : List Diag → Type 0 where
  few_none : Few []
  few_one : {d : Diag} → Few (d ∷ [])

one_is : {d e : Diag} → d ∷ [] ≡ e ∷ [] → d ≡ e
one_is e = cc

none_one : {d : Diag} → [] ≡ d ∷ [] → ⊥
none_one e = absurd (cc)

few_of_outcome : (file s e : ℕ) (o : Outcome) → Few (faults_of_outcome file s e o)
few_of_outcome file s e (a_call.Gives t) = few_none
few_of_outcome file s e (a_call.Refused r) = few_one
few_of_outcome file s e a_call.Unknown = few_none

module _ (file : ℕ) (classes : List ClassMethods) (locals : Locals) where
  -- what the walk lists of an expression itself
  abbrev pub own_of : PlainExpression → List Diag
  own_of (literal l) = []
  own_of (local n) = []
  own_of (call receiver n s e arguments) = faults_of_outcome file s e (call_outcome classes n (type_of classes locals receiver) (types_of classes locals arguments))
  own_of (new c s e arguments) = faults_of_outcome file s e (new_outcome classes c (types_of classes locals arguments))

  few_own : (x : PlainExpression) → Few (own_of x)
  few_own (literal l) = few_none
  few_own (local n) = few_none
  few_own (call receiver n s e arguments) = few_of_outcome file s e (call_outcome classes n (type_of classes locals receiver) (types_of classes locals arguments))
  few_own (new c s e arguments) = few_of_outcome file s e (new_outcome classes c (types_of classes locals arguments))

  method_known : {receiver : PlainExpression} {arguments : PlainExpressions} {t : ValueType} {ts : List ValueType} (n : List ℕ) (s e : ℕ) (o : Option MethodEntry)
      → HasType classes locals receiver t → HaveTypes classes locals arguments ts → method_on classes t n ≡ o → own_of (call receiver n s e arguments) ≡ faults_of_outcome file s e (method_outcome n t ts o)
  method_known {arguments = arguments} {t = t} {ts = ts} n s e o has have found =
      ap (λ o. faults_of_outcome file s e (call_outcome classes n o (types_of classes locals arguments))) (has_type classes locals has)
      ∙ ap (λ o. faults_of_outcome file s e (call_outcome classes n (Some t) o)) (have_types classes locals have)
      ∙ ap (λ o. faults_of_outcome file s e (method_outcome n t ts o)) found

  -- an expression that is a fault is listed as that fault
  pub fault_owned : {x : PlainExpression} {d : Diag} → IsFault file classes locals x d → own_of x ≡ d ∷ []
  fault_owned (call_finds_none {n = n} {s = s} {e = e} has have none) = method_known n s e None has have none
  fault_owned (call_refuses {n = n} {s = s} {e = e} {ts = ts} {m = m} has have found refuses) =
      method_known n s e (Some m) has have found ∙ ap (λ o. faults_of_outcome file s e (outcome o m.gives)) (refuses_refused n ts m.parameters refuses)
  fault_owned (new_refuses {c = c} {s = s} {e = e} {ts = ts} have refuses) =
      ap (λ o. faults_of_outcome file s e (new_outcome classes c o)) (have_types classes locals have)
      ∙ ap (λ o. faults_of_outcome file s e (outcome o (ty.Class c))) (refuses_refused (codes "new") ts (constructor_parameters classes c) refuses)

  -- an expression that is listed itself is that fault
  pub owned_fault : (x : PlainExpression) (d : Diag) → own_of x ≡ d ∷ [] → IsFault file classes locals x d
  owned_fault (literal l) d is = absurd (none_one is)
  owned_fault (local n) d is = absurd (none_one is)
  owned_fault (call receiver n s e arguments) d is = by_types (type_of classes locals receiver) (types_of classes locals arguments) refl refl is
    where
      by_refusal : (t : ValueType) (ts : List ValueType) (m : MethodEntry) → HasType classes locals receiver t → HaveTypes classes locals arguments ts → method_on classes t n ≡ Some m
          → (o : Option Refusal) → refusal_of n ts m.parameters ≡ o → faults_of_outcome file s e (outcome o m.gives) ≡ d ∷ [] → IsFault file classes locals (call receiver n s e arguments) d
      by_refusal t ts m has have found None none is = absurd (none_one is)
      by_refusal t ts m has have found (Some r) refused is =
          subst (IsFault file classes locals (call receiver n s e arguments)) (one_is is) (call_refuses has have found (refused_refuses n ts m.parameters r refused))

      by_method : (t : ValueType) (ts : List ValueType) → HasType classes locals receiver t → HaveTypes classes locals arguments ts
          → (o : Option MethodEntry) → method_on classes t n ≡ o → faults_of_outcome file s e (method_outcome n t ts o) ≡ d ∷ [] → IsFault file classes locals (call receiver n s e arguments) d
      by_method t ts has have None none is = subst (IsFault file classes locals (call receiver n s e arguments)) (one_is is) (call_finds_none has have none)
      by_method t ts has have (Some m) found is = by_refusal t ts m has have found (refusal_of n ts m.parameters) refl is

      by_types : (o : Option ValueType) (os : Option (List ValueType)) → type_of classes locals receiver ≡ o → types_of classes locals arguments ≡ os
          → faults_of_outcome file s e (call_outcome classes n o os) ≡ d ∷ [] → IsFault file classes locals (call receiver n s e arguments) d
      by_types None os none are is = absurd (none_one is)
      by_types (Some t) None has none is = absurd (none_one is)
      by_types (Some t) (Some ts) has have is = by_method t ts (type_had classes locals receiver t has) (types_had classes locals arguments ts have) (method_on classes t n) refl is
  owned_fault (new c s e arguments) d is = by_types (types_of classes locals arguments) refl is
    where
      by_refusal : (ts : List ValueType) → HaveTypes classes locals arguments ts → (o : Option Refusal) → refusal_of (codes "new") ts (constructor_parameters classes c) ≡ o
          → faults_of_outcome file s e (outcome o (ty.Class c)) ≡ d ∷ [] → IsFault file classes locals (new c s e arguments) d
      by_refusal ts have None none is = absurd (none_one is)
      by_refusal ts have (Some r) refused is = subst (IsFault file classes locals (new c s e arguments)) (one_is is) (new_refuses have (refused_refuses (codes "new") ts (constructor_parameters classes c) r refused))

      by_types : (os : Option (List ValueType)) → types_of classes locals arguments ≡ os → faults_of_outcome file s e (new_outcome classes c os) ≡ d ∷ [] → IsFault file classes locals (new c s e arguments) d
      by_types None none is = absurd (none_one is)
      by_types (Some ts) have is = by_refusal ts (types_had classes locals arguments ts have) (refusal_of (codes "new") ts (constructor_parameters classes c)) refl is

  owns : (x : PlainExpression) → Own file classes locals x (own_of x)
  owns x = by_few (own_of x) (few_own x) refl
    where
      by_few : (list : List Diag) → Few list → own_of x ≡ list → Own file classes locals x list
      by_few _ few_none is = own_none (λ d f. none_one (sym is ∙ fault_owned f))
      by_few _ (few_one {d = d}) is = own_fault (owned_fault x d is)

  only_owned : {x : PlainExpression} {list : List Diag} → Own file classes locals x list → list ≡ own_of x
  only_owned (own_fault f) = sym (fault_owned f)
  only_owned {x = x} (own_none no_fault) = by_few (own_of x) (few_own x) refl
    where
      by_few : (list : List Diag) → Few list → own_of x ≡ list → [] ≡ list
      by_few _ few_none is = refl
      by_few _ (few_one {d = d}) is = absurd (no_fault d (owned_fault x d is))

  mutual
    pub listed : (x : PlainExpression) → Listed file classes locals x (faults_of file classes locals x)
    listed (literal l) = listed_literal
    listed (local n) = listed_local
    listed (call receiver n s e arguments) = listed_call (listed receiver) (listed_each arguments) (owns (call receiver n s e arguments))
    listed (new c s e arguments) = listed_new (listed_each arguments) (owns (new c s e arguments))

    pub listed_each : (xs : PlainExpressions) → ListedEach file classes locals xs (faults_of_each file classes locals xs)
    listed_each no_expressions = listed_none
    listed_each (more_expressions x xs) = listed_more (listed x) (listed_each xs)

  mutual
    pub only_listed : {x : PlainExpression} {list : List Diag} → Listed file classes locals x list → list ≡ faults_of file classes locals x
    only_listed listed_literal = refl
    only_listed listed_local = refl
    only_listed (listed_call {receiver = receiver} {arguments = arguments} {in_arguments = in_arguments} {own = own} l ls o) =
        ap (λ list. list ++ in_arguments ++ own) (only_listed l)
        ∙ ap (λ list. faults_of file classes locals receiver ++ list ++ own) (only_each ls)
        ∙ ap (λ list. faults_of file classes locals receiver ++ faults_of_each file classes locals arguments ++ list) (only_owned o)
    only_listed (listed_new {arguments = arguments} {own = own} ls o) =
        ap (λ list. list ++ own) (only_each ls) ∙ ap (λ list. faults_of_each file classes locals arguments ++ list) (only_owned o)

    pub only_each : {xs : PlainExpressions} {list : List Diag} → ListedEach file classes locals xs list → list ≡ faults_of_each file classes locals xs
    only_each listed_none = refl
    only_each (listed_more {x = x} {behind = behind} l ls) = ap (λ list. list ++ behind) (only_listed l) ∙ ap (λ list. faults_of file classes locals x ++ list) (only_each ls)

module _ (file : ℕ) (classes : List ClassMethods) where
  pub listed_in : (locals : Locals) (ss : List PlainStatement) → ListedIn file classes locals ss (faults_in file classes locals ss)
  listed_in locals [] = in_none
  listed_in locals (s ∷ ss) = in_more (listed file classes locals (expression_of s)) (leaves classes locals s) (listed_in (locals_behind classes locals s) ss)

  pub only_in : {locals : Locals} {ss : List PlainStatement} {list : List Diag} → ListedIn file classes locals ss list → list ≡ faults_in file classes locals ss
  only_in in_none = refl
  only_in (in_more {locals = locals} {s = s} {ss = ss} {list = list} l left more) =
      ap (λ before. before ++ list) (only_listed file classes locals l)
      ∙ ap (λ behind. faults_of file classes locals (expression_of s) ++ behind) (only_in more ∙ ap (λ ls. faults_in file classes ls ss) (only_left classes locals left))

  module _ (d : PlainDefinition) (m : MethodEntry) where
    abbrev pub body_type : Option ValueType
    body_type = last_type classes (Some ty.Nil) (with_parameters [] d.parameters m.parameters) d.body

    abbrev mismatch : ValueType → Diag
    mismatch t = fault file d.start d.start MethodBodyTypeMismatch (type_text t ∷ type_text m.gives ∷ [])

    abbrev misfit_by : Bool → ValueType → List Diag
    misfit_by b t = if b then [] else mismatch t ∷ []

    few_misfit : Few (misfit_fault file d.start m.gives body_type)
    few_misfit = by_type body_type
      where
        by_test : (b : Bool) (t : ValueType) → Few (misfit_by b t)
        by_test true t = few_none
        by_test false t = few_one

        by_type : (o : Option ValueType) → Few (misfit_fault file d.start m.gives o)
        by_type None = few_none
        by_type (Some t) = by_test (fits t m.gives) t

    pub misfit_owned : {f : Diag} → IsMisfit file classes d m f → misfit_fault file d.start m.gives body_type ≡ f ∷ []
    misfit_owned (body_misfits {t = t} has misfits) = ap (misfit_fault file d.start m.gives) (gives_last classes has) ∙ ap (λ b. misfit_by b t) misfits

    pub owned_misfit : (f : Diag) → misfit_fault file d.start m.gives body_type ≡ f ∷ [] → IsMisfit file classes d m f
    owned_misfit f is = by_type body_type refl is
      where
        by_test : (t : ValueType) → body_type ≡ Some t → (b : Bool) → fits t m.gives ≡ b → misfit_by b t ≡ f ∷ [] → IsMisfit file classes d m f
        by_test t has true fit is = absurd (none_one is)
        by_test t has false misfits is = subst (IsMisfit file classes d m) (one_is is) (body_misfits (last_given classes (with_parameters [] d.parameters m.parameters) ty.Nil t d.body has) misfits)

        by_type : (o : Option ValueType) → body_type ≡ o → misfit_fault file d.start m.gives o ≡ f ∷ [] → IsMisfit file classes d m f
        by_type None none is = absurd (none_one is)
        by_type (Some t) has is = by_test t has (fits t m.gives) refl is

    owns_misfit : OwnMisfit file classes d m (misfit_fault file d.start m.gives body_type)
    owns_misfit = by_few (misfit_fault file d.start m.gives body_type) few_misfit refl
      where
        by_few : (list : List Diag) → Few list → misfit_fault file d.start m.gives body_type ≡ list → OwnMisfit file classes d m list
        by_few _ few_none is = misfit_none (λ f misfits. none_one (sym is ∙ misfit_owned misfits))
        by_few _ (few_one {d = f}) is = misfit_own (owned_misfit f is)

    only_misfit : {list : List Diag} → OwnMisfit file classes d m list → list ≡ misfit_fault file d.start m.gives body_type
    only_misfit (misfit_own misfits) = sym (misfit_owned misfits)
    only_misfit (misfit_none fit) = by_few (misfit_fault file d.start m.gives body_type) few_misfit refl
      where
        by_few : (list : List Diag) → Few list → misfit_fault file d.start m.gives body_type ≡ list → [] ≡ list
        by_few _ few_none is = refl
        by_few _ (few_one {d = f}) is = absurd (fit f (owned_misfit f is))

    pub method_listed : OfMethod file classes d m (faults_of_method file classes d m)
    method_listed = of_method (listed_in (with_parameters [] d.parameters m.parameters) d.body) owns_misfit

    pub only_method : {list : List Diag} → OfMethod file classes d m list → list ≡ faults_of_method file classes d m
    only_method (of_method {own = own} l o) =
        ap (λ list. list ++ own) (only_in l) ∙ ap (λ list. faults_in file classes (with_parameters [] d.parameters m.parameters) d.body ++ list) (only_misfit o)

  pub definitions_listed : (methods : List MethodEntry) (ds : List PlainDefinition) → AllByRecursion (HasArity methods) ds → OfDefinitions file classes methods ds (faults_of_definitions file classes methods ds)
  definitions_listed methods [] all = of_no_definitions
  definitions_listed methods (d ∷ ds) all = by_method (method_in d.name methods) refl all.0 (definitions_listed methods ds all.1)
    where
      by_method : (o : Option MethodEntry) → method_in d.name methods ≡ o → option_map (λ (m : MethodEntry). length m.parameters) o ≡ Some (length d.parameters)
          → OfDefinitions file classes methods ds (faults_of_definitions file classes methods ds)
          → OfDefinitions file classes methods (d ∷ ds) (option_map_or (faults_of_method file classes d) o [] ++ faults_of_definitions file classes methods ds)
      by_method None none arity more = absurd (cc)
      by_method (Some m) found arity more = of_definition found (method_listed d m) more

  pub only_definitions : {methods : List MethodEntry} {ds : List PlainDefinition} {list : List Diag} → OfDefinitions file classes methods ds list → list ≡ faults_of_definitions file classes methods ds
  only_definitions of_no_definitions = refl
  only_definitions {methods = methods} (of_definition {d = d} {ds = ds} {m = m} {behind = behind} found l more) =
      ap (λ list. list ++ behind) (only_method d m l)
      ∙ ap (λ o. option_map_or (faults_of_method file classes d) o [] ++ behind) (sym found)
      ∙ ap (λ list. option_map_or (faults_of_method file classes d) (method_in d.name methods) [] ++ list) (only_definitions more)

  pub openings_listed : (os : List PlainOpening) → AllByRecursion (IsDefined classes) os → OfOpenings file classes os (faults_of_openings file classes os)
  openings_listed [] all = of_no_openings
  openings_listed (o ∷ os) all = of_opening (definitions_listed (methods_in o.name classes) o.definitions all.0.arities) (openings_listed os all.1)

  pub only_openings : {os : List PlainOpening} {list : List Diag} → OfOpenings file classes os list → list ≡ faults_of_openings file classes os
  only_openings of_no_openings = refl
  only_openings (of_opening {o = o} {behind = behind} l more) =
      ap (λ list. list ++ behind) (only_definitions l) ∙ ap (λ list. faults_of_definitions file classes (methods_in o.name classes) o.definitions ++ list) (only_openings more)

-- what the walk lists of a program that defines just what its signature declares are its faults
pub of_program : (file : ℕ) (classes : List ClassMethods) (p : PlainProgram) → Matches classes p → OfProgram file classes p (faults_of_program file classes p)
of_program file classes p matches = record {
  in_classes = faults_of_openings file classes p.openings;
  in_main = faults_in file classes [] p.statements;
  classes_listed = openings_listed file classes p.openings matches.defined;
  main_listed = listed_in file classes [] p.statements;
  listed = refl;
}

-- no other list has the faults of a program
pub only_list : (file : ℕ) (classes : List ClassMethods) (p : PlainProgram) (other : List Diag) → OfProgram file classes p other → other ≡ faults_of_program file classes p
only_list file classes p other program =
    program.listed
    ∙ ap (λ list. list ++ program.in_main) (only_openings file classes program.classes_listed)
    ∙ ap (λ list. faults_of_openings file classes p.openings ++ list) (only_in file classes program.main_listed)
