-- The shapes of the declarations and members of the core signature, which is the file number 0. None has notes, and no member has a visibility of its own.
use Prim.Native.String.{String}
use Rattle.std.specs.Prelude.{ℕ, true, false, codes, List, [], ◌∷◌, Option, None, Some}
use Rattle.sig_model.specs.declared.place.Place.{Place}
use Rattle.sig_model.specs.declared.decl.Variance.TheVariants as variance
use Rattle.sig_model.specs.declared.decl.Vis.TheVariants as vis
use Rattle.sig_model.specs.declared.decl.MixKind.TheVariants as mixin
use Rattle.sig_model.specs.PlainTy as plain
use Rattle.sig_model.specs.PlainTy.{PlainTy, PlainTys, PlainArgs, PlainBlock, PlainFun, no_args, more_args, no_rest, no_keys, no_block}
use Rattle.sig_model.specs.PlainMember as member
use Rattle.sig_model.specs.PlainMember.{PlainParam, PlainMethod, PlainMember}
use Rattle.sig_model.specs.PlainDecl as decl
use Rattle.sig_model.specs.PlainDecl.{PlainDecl, PlainDecls, PlainParts, append_parts}
use Rattle.sig_model.specs.Built.{bare_name, unnamed, plain_function, no_notes}
use Rattle.core_texts.specs.Types.{called, one}

-- from the byte `start` up to the byte `end`, which is one past the last
abbrev pub span : ℕ → ℕ → Place
span start end = record { file = 0; start = start; end = end }

-- ---- overloads

-- required parameters, optional ones, a block and a result, and nothing else
abbrev pub function_of : PlainArgs → PlainArgs → PlainBlock → PlainTy → PlainFun
function_of required optional given result = plain.function required optional no_rest no_args no_keys no_rest given result

-- `(T, ..) -> U`
abbrev pub takes : PlainTys → PlainTy → PlainMethod
takes ts u = record { params = []; fun = plain_function (unnamed ts) u }

-- `(?T) -> U`
abbrev pub may_take : PlainTy → PlainTy → PlainMethod
may_take t u = record { params = []; fun = function_of no_args (more_args t None no_args) no_block u }

-- `(T, ..) { (S, ..) -> R } -> U`
abbrev pub takes_block : PlainTys → PlainTys → PlainTy → PlainTy → PlainMethod
takes_block ts ss r u = record { params = []; fun = function_of (unnamed ts) no_args (plain.block true (plain_function (unnamed ss) r)) u }

-- `() { (S, ..) -> R } -> U`
abbrev pub yields : PlainTys → PlainTy → PlainTy → PlainMethod
yields ss r u = takes_block plain.no_tys ss r u

-- a type parameter without variance and bound
abbrev pub plain_param : List ℕ → PlainParam
plain_param name = record { name = name; unchecked = false; variance = variance.Fixed; bound = None }

-- `[X] ..`
abbrev pub generic : String → PlainMethod → PlainMethod
generic name m = record { params = plain_param (codes name) ∷ []; fun = m.fun }

-- ---- members

abbrev pub member_at : ℕ → ℕ → PlainMember → PlainParts
member_at start end m = decl.member (span start end) no_notes m decl.no_parts

-- an instance method of one overload
abbrev pub method_at : ℕ → ℕ → List ℕ → PlainMethod → PlainParts
method_at start end name m = member_at start end (member.method None false name (m ∷ []))

abbrev pub def : ℕ → ℕ → String → PlainMethod → PlainParts
def start end name m = method_at start end (codes name) m

-- `@name: T`
abbrev pub variable_at : ℕ → ℕ → List ℕ → PlainTy → PlainParts
variable_at start end name t = member_at start end (member.ivar false name t)

abbrev pub variable : ℕ → ℕ → String → PlainTy → PlainParts
variable start end name t = variable_at start end (codes name) t

-- `include M`
abbrev pub include_at : ℕ → ℕ → PlainTy → PlainParts
include_at start end t = member_at start end (member.mixin mixin.Include t)

-- `private`, alone
abbrev pub private_at : ℕ → ℕ → PlainParts
private_at start end = member_at start end (member.section vis.Private)

-- all these parts, in order
abbrev pub together : List PlainParts → PlainParts
together [] = decl.no_parts
together (p ∷ ps) = append_parts p (together ps)

-- ---- declarations

-- `unchecked out X`
abbrev pub unchecked_out : List ℕ → PlainParam
unchecked_out name = record { name = name; unchecked = true; variance = variance.Out; bound = None }

abbrev pub class_at : ℕ → ℕ → List ℕ → List PlainParam → Option PlainTy → PlainParts → PlainDecl
class_at start end name params parent parts = decl.decl (span start end) no_notes (decl.class (bare_name name) params parent parts)

-- a class without a stated superclass
abbrev pub generic_class : ℕ → ℕ → String → List PlainParam → PlainParts → PlainDecl
generic_class start end name params parts = class_at start end (codes name) params None parts

-- a class without type parameters and without a stated superclass
abbrev pub class : ℕ → ℕ → String → PlainParts → PlainDecl
class start end name parts = class_at start end (codes name) [] None parts

-- `class C < P`
abbrev pub class_below : ℕ → ℕ → String → String → PlainParts → PlainDecl
class_below start end name parent parts = class_at start end (codes name) [] (Some (called parent)) parts

-- `class C < P` and `end`
abbrev pub empty_below : ℕ → ℕ → String → String → PlainDecl
empty_below start end name parent = class_below start end name parent decl.no_parts

-- `class C` and `end`
abbrev pub empty : ℕ → ℕ → String → PlainDecl
empty start end name = class start end name decl.no_parts

-- `module M : S`
abbrev pub module_at : ℕ → ℕ → List ℕ → PlainTy → PlainParts → PlainDecl
module_at start end name t parts = decl.decl (span start end) no_notes (decl.module (bare_name name) [] (one t) parts)

-- the same, where the self type is the class of the name `base`
abbrev pub module_for : ℕ → ℕ → String → String → PlainParts → PlainDecl
module_for start end name base parts = module_at start end (codes name) (called base) parts

-- `type a = T`
abbrev pub alias_at : ℕ → ℕ → List ℕ → PlainTy → PlainDecl
alias_at start end name t = decl.decl (span start end) no_notes (decl.alias (bare_name name) [] t)

abbrev pub alias : ℕ → ℕ → String → PlainTy → PlainDecl
alias start end name t = alias_at start end (codes name) t

-- all these declarations, in order
abbrev pub listed : List PlainDecl → PlainDecls
listed [] = decl.no_decls
listed (d ∷ ds) = decl.more_decls d (listed ds)
