-- When a program defines just what its signature declares.
use Rattle.std.specs.Prelude.{◌≡◌, ℕ, true, List, length, map, Some}
use Rattle.std.specs.List.{IsDistinct, AllByRecursion}
use Rattle.std.specs.Option.{option_map}
use Rattle.names.specs.Places.{same_name, is_among}
use Rattle.ruby_reader.specs.PlainTree.{PlainDefinition, PlainOpening, PlainProgram}
use Rattle.body_check.specs.declared.table.MethodEntry.{MethodEntry}
use Rattle.body_check.specs.declared.table.ClassMethods.{ClassMethods}
use Rattle.body_check.specs.declared.index.Index.{Index}
use Rattle.body_check.specs.Calls.{methods_in, method_in}

-- two lists have the same names, each list each of them once
pub record SameNames (these those : List (List ℕ)) : Type 0 where
  pub once : IsDistinct same_name these
  pub once_there : IsDistinct same_name those
  pub there : AllByRecursion (λ n. is_among n those ≡ true) these
  pub here : AllByRecursion (λ n. is_among n these ≡ true) those

abbrev pub class_names : List ClassMethods → List (List ℕ)
class_names = map (λ c. c.name)

abbrev pub method_names : List MethodEntry → List (List ℕ)
method_names = map (λ m. m.name)

abbrev pub opened_names : List PlainOpening → List (List ℕ)
opened_names = map (λ o. o.name)

abbrev pub defined_names : List PlainDefinition → List (List ℕ)
defined_names = map (λ d. d.name)

-- a definition has as many parameters as its method requires
abbrev pub HasArity : List MethodEntry → PlainDefinition → Type 0
HasArity methods d = option_map (λ (m : MethodEntry). length m.parameters) (method_in d.name methods) ≡ Some (length d.parameters)

-- these definitions are those of just these methods, each with its number of parameters
pub record DefinesJust (methods : List MethodEntry) (definitions : List PlainDefinition) : Type 0 where
  pub names : SameNames (method_names methods) (defined_names definitions)
  pub arities : AllByRecursion (HasArity methods) definitions

-- an opening defines just the methods that its class declares
abbrev pub IsDefined : List ClassMethods → PlainOpening → Type 0
IsDefined classes o = DefinesJust (methods_in o.name classes) o.definitions

-- a class declares each of its methods once
abbrev pub DeclaresOnce : ClassMethods → Type 0
DeclaresOnce c = IsDistinct same_name (method_names c.methods)

-- each class of the signature declares its methods once; a program opens each class once, and defines just its methods, each once
pub record Matches (classes : List ClassMethods) (p : PlainProgram) : Type 0 where
  pub declared : AllByRecursion DeclaresOnce classes
  pub opened : SameNames (class_names classes) (opened_names p.openings)
  pub defined : AllByRecursion (IsDefined classes) p.openings

-- the index has the names of the classes, and of the methods of each
pub record IsIndex (classes : List ClassMethods) (index : Index) : Type 0 where
  pub classes_are : index.classes ≡ class_names classes
  pub methods_are : index.methods ≡ map (λ (c : ClassMethods). method_names c.methods) classes
