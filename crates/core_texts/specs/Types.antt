-- The types that the core signature writes.
use Prim.Native.String.{String}
use Rattle.std.specs.Prelude.{codes}
use Rattle.sig_model.specs.declared.ty.BaseTy.TheVariants as word
use Rattle.sig_model.specs.PlainTy as plain
use Rattle.sig_model.specs.PlainTy.{PlainTy, PlainTys, no_tys, more_tys}
use Rattle.sig_model.specs.Built.{bare_name, named}

-- ---- lists of types

abbrev pub none : PlainTys
none = no_tys

abbrev pub one : PlainTy → PlainTys
one t = more_tys t none

abbrev pub two : PlainTy → PlainTy → PlainTys
two t u = more_tys t (one u)

-- ---- forms of types

-- the class, the alias or the type parameter of this name
abbrev pub called : String → PlainTy
called name = named (codes name)

-- `T?`
abbrev pub optional : PlainTy → PlainTy
optional t = plain.opt t

-- `Array[T]`
abbrev pub array_of : PlainTy → PlainTy
array_of t = plain.name (bare_name (codes "Array")) (one t)

-- `[T, U]`
abbrev pub pair_of : PlainTy → PlainTy → PlainTy
pair_of t u = plain.tuple (two t u)

-- ---- words of the language

abbrev pub void : PlainTy
void = plain.base word.Void

abbrev pub top : PlainTy
top = plain.base word.Top

abbrev pub bool : PlainTy
bool = plain.base word.Bool

abbrev pub nil : PlainTy
nil = plain.base word.Nil

abbrev pub self_type : PlainTy
self_type = plain.base word.SelfTy

-- ---- names

abbrev pub integer : PlainTy
integer = called "Integer"

abbrev pub string : PlainTy
string = called "String"

abbrev pub symbol : PlainTy
symbol = called "Symbol"

abbrev pub boolish : PlainTy
boolish = called "boolish"

-- the type parameters
abbrev pub a : PlainTy
a = called "A"

abbrev pub e : PlainTy
e = called "E"

abbrev pub k : PlainTy
k = called "K"

abbrev pub u : PlainTy
u = called "U"

abbrev pub v : PlainTy
v = called "V"

-- `String | Integer | Symbol | bool | nil`
abbrev pub printable : PlainTy
printable = plain.union (more_tys string (more_tys integer (more_tys symbol (two bool nil))))
