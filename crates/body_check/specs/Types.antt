-- The types of the profile.
use Rattle.std.specs.Prelude.{ℕ, Bool, true, false, List, ◌++◌, codes}
use Rattle.names.specs.Places.{same_name}
use Rattle.ruby_reader.specs.declared.tree.Literal.{Literal}
use Rattle.ruby_reader.specs.declared.tree.Literal.TheVariants as literal
use Rattle.body_check.specs.declared.ty.ValueType.{ValueType}
use Rattle.body_check.specs.declared.ty.ValueType.TheVariants as ty

-- the type of a literal
abbrev pub literal_type : Literal → ValueType
literal_type (literal.Int n) = ty.Class (codes "Integer")
literal_type (literal.Str text) = ty.Class (codes "String")
literal_type (literal.Sym name) = ty.Class (codes "Symbol")
literal_type literal.Nil = ty.Nil

-- a type is below another where they are equal, or the other is `void`
abbrev pub fits : ValueType → ValueType → Bool
fits given ty.Void = true
fits ty.Nil ty.Nil = true
fits (ty.Class a) (ty.Class b) = same_name a b
fits given wanted = false

-- the text of a type: a class by its rooted name
abbrev pub type_text : ValueType → List ℕ
type_text ty.Nil = codes "nil"
type_text ty.Void = codes "top"
type_text (ty.Class name) = codes "::" ++ name
