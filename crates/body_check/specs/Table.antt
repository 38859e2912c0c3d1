-- What a signature declares of its classes.
use Rattle.std.specs.Prelude.{ℕ, List, [], ◌∷◌}
use Rattle.sig_model.specs.declared.ty.BaseTy.{BaseTy}
use Rattle.sig_model.specs.declared.ty.BaseTy.TheVariants as base_ty
use Rattle.sig_model.specs.PlainTy.{PlainTy, PlainArgs, PlainFun, name, base, no_args, more_args, function}
use Rattle.sig_model.specs.PlainMember.{PlainMethod, PlainMember, method}
use Rattle.sig_model.specs.PlainDecl.{PlainDecl, PlainBody, PlainParts, PlainDecls, decl, class, no_parts, inner, member, no_decls, more_decls}
use Rattle.body_check.specs.declared.ty.ValueType.{ValueType}
use Rattle.body_check.specs.declared.ty.ValueType.TheVariants as ty
use Rattle.body_check.specs.declared.table.MethodEntry.{MethodEntry}
use Rattle.body_check.specs.declared.table.ClassMethods.{ClassMethods}

abbrev pub first_word : List (List ℕ) → List ℕ
first_word [] = []
first_word (word ∷ words) = word

abbrev pub base_type : BaseTy → ValueType
base_type base_ty.Nil = ty.Nil
base_type _ = ty.Void

-- a written type, as far as the profile has it
abbrev pub type_of : PlainTy → ValueType
type_of (name n args) = ty.Class (first_word n.path)
type_of (base b) = base_type b
type_of _ = ty.Void

-- the types of positional parameters
abbrev pub types_of : PlainArgs → List ValueType
types_of no_args = []
types_of (more_args t n more) = type_of t ∷ types_of more

abbrev pub fun_parameters : PlainFun → List ValueType
fun_parameters (function required optional more trailing keys more_keys with result) = types_of required

-- what the first overload requires
abbrev pub parameters_of : List PlainMethod → List ValueType
parameters_of [] = []
parameters_of (m ∷ ms) = fun_parameters m.fun

abbrev pub fun_result : PlainFun → ValueType
fun_result (function required optional more trailing keys more_keys with result) = type_of result

-- what the first overload gives
abbrev pub result_of : List PlainMethod → ValueType
result_of [] = ty.Void
result_of (m ∷ ms) = fun_result m.fun

-- a member, before the methods behind it
abbrev pub method_before : PlainMember → List MethodEntry → List MethodEntry
method_before (method vis single word overloads) behind = record { name = word; parameters = parameters_of overloads; gives = result_of overloads } ∷ behind
method_before _ behind = behind

-- the methods of a class in order
abbrev pub methods_of : PlainParts → List MethodEntry
methods_of no_parts = []
methods_of (inner d parts) = methods_of parts
methods_of (member place notes m parts) = method_before m (methods_of parts)

-- a declaration, before the classes behind it
abbrev pub class_before : PlainBody → List ClassMethods → List ClassMethods
class_before (class n params parent parts) behind = record { name = first_word n.path; methods = methods_of parts } ∷ behind
class_before _ behind = behind

abbrev pub body_of : PlainDecl → PlainBody
body_of (decl place notes body) = body

-- the classes of a signature in order
abbrev pub classes_of : PlainDecls → List ClassMethods
classes_of no_decls = []
classes_of (more_decls d ds) = class_before (body_of d) (classes_of ds)
