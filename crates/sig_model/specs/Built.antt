-- The plain twins of the plainest types and declarations.
use Rattle.std.specs.Prelude.{ℕ, false, List, [], ◌∷◌, None}
use Rattle.sig_model.specs.declared.place.Place.{Place}
use Rattle.sig_model.specs.declared.ty.TypeName.{TypeName}
use Rattle.sig_model.specs.declared.decl.Notes.{Notes}
use Rattle.sig_model.specs.PlainTy as ty
use Rattle.sig_model.specs.PlainTy.{PlainTy, PlainTys, PlainArgs, PlainFun, no_tys, more_tys, no_args, more_args, no_rest, no_keys, no_block}
use Rattle.sig_model.specs.PlainMember.{PlainMember, method}
use Rattle.sig_model.specs.PlainDecl.{PlainDecl, PlainParts, decl, class}

-- a name of one word, which isn't rooted
abbrev pub bare_name : List ℕ → TypeName
bare_name word = record { rooted = false; path = word ∷ [] }

-- the type of this name, without arguments
abbrev pub named : List ℕ → PlainTy
named word = ty.name (bare_name word) no_tys

-- positional parameters of these types, without names
abbrev pub unnamed : PlainTys → PlainArgs
unnamed no_tys = no_args
unnamed (more_tys t ts) = more_args t None (unnamed ts)

-- required parameters and a result, and nothing else
abbrev pub plain_function : PlainArgs → PlainTy → PlainFun
plain_function args result = ty.function args no_args no_rest no_args no_keys no_rest no_block result

-- an instance method of one overload, without type parameters, and public by default
abbrev pub method_of : List ℕ → PlainArgs → PlainTy → PlainMember
method_of word args result = method None false word (record { params = []; fun = plain_function args result } ∷ [])

abbrev pub no_notes : Notes
no_notes = record { comments = []; annotations = [] }

-- a class without parameters, superclass and notes
abbrev pub class_of : Place → List ℕ → PlainParts → PlainDecl
class_of place word parts = decl place no_notes (class (bare_name word) [] None parts)
