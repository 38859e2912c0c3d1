-- What a call finds, and which arguments it takes.
use Rattle.std.specs.Prelude.{◌≡◌, ℕ, ◌<◌, true, false, List, [], ◌∷◌, length, codes, Option, None}
use Rattle.std.specs.List.{find}
use Rattle.std.specs.Option.{option_map_or}
use Rattle.names.specs.Places.{same_name}
use Rattle.sig_model.specs.declared.diag.DiagId.{DiagId}
use Rattle.sig_model.specs.declared.diag.DiagId.TheVariants.{InsufficientPositionalArguments, UnexpectedPositionalArgument, ArgumentTypeMismatch}
use Rattle.body_check.specs.declared.ty.ValueType.{ValueType}
use Rattle.body_check.specs.declared.ty.ValueType.TheVariants as ty
use Rattle.body_check.specs.declared.table.MethodEntry.{MethodEntry}
use Rattle.body_check.specs.declared.table.ClassMethods.{ClassMethods}
use Rattle.body_check.specs.Types.{fits, type_text}

-- the methods of the first class with a name
abbrev pub methods_in : List ℕ → List ClassMethods → List MethodEntry
methods_in name classes = option_map_or (λ c. c.methods) (find (λ c. same_name name c.name) classes) []

-- the first method with a name
abbrev pub method_in : List ℕ → List MethodEntry → Option MethodEntry
method_in name methods = find (λ m. same_name name m.name) methods

-- the method that a call finds on a value of this type: only the classes of the signature have some
abbrev pub method_on : List ClassMethods → ValueType → List ℕ → Option MethodEntry
method_on classes (ty.Class c) name = method_in name (methods_in c classes)
method_on classes type name = None

-- what a new object of a class takes: the parameters of its `initialize`, and nothing where it declares none
abbrev pub constructor_parameters : List ClassMethods → List ℕ → List ValueType
constructor_parameters classes c = option_map_or (λ m. m.parameters) (method_in (codes "initialize") (methods_in c classes)) []

-- arguments of these types, each below the parameter at its place, and as many as there are parameters
pub data Fit : List ValueType → List ValueType → Type 0 where
  fit_none : Fit [] []
  fit_more : {t u : ValueType} {ts us : List ValueType} → fits t u ≡ true → Fit ts us → Fit (t ∷ ts) (u ∷ us)

-- the first argument that is not below its parameter has the type `a`, and its parameter the type `b`
pub data FirstMisfit : List ValueType → List ValueType → ValueType → ValueType → Type 0 where
  misfit_here : {t u : ValueType} {ts us : List ValueType} → fits t u ≡ false → FirstMisfit (t ∷ ts) (u ∷ us) t u
  misfit_later : {t u a b : ValueType} {ts us : List ValueType} → fits t u ≡ true → FirstMisfit ts us a b → FirstMisfit (t ∷ ts) (u ∷ us) a b

-- why a call by this name refuses arguments of these types: the first of the reasons that holds
pub data Refuses (name : List ℕ) (ts us : List ValueType) : DiagId → List (List ℕ) → Type 0 where
  too_few : length ts < length us → Refuses name ts us InsufficientPositionalArguments (name ∷ [])
  too_many : length us < length ts → Refuses name ts us UnexpectedPositionalArgument (name ∷ [])
  misfit : {a b : ValueType} → length ts ≡ length us → FirstMisfit ts us a b → Refuses name ts us ArgumentTypeMismatch (type_text a ∷ type_text b ∷ [])
