-- Which texts are signatures of the profile, and what they declare.
use Rattle.std.specs.Prelude.{◌≡◌, ℕ, Bool, true, false, ◌||◌, List, [], ◌∷◌, map, codes, Option, None, Some, MatchBool}
use Rattle.std.specs.List.{IsDistinct, AllByRecursion}
use Rattle.names.specs.Places.{same_name, is_among}
use Rattle.profile_words.specs.Words.{core_names, is_reserved, value_classes, core_classes}
use Rattle.sig_model.specs.declared.decl.Decl.{Decl}
use Rattle.sig_model.specs.declared.ty.BaseTy.{BaseTy}
use Rattle.sig_model.specs.declared.ty.BaseTy.TheVariants as base_ty
use Rattle.sig_model.specs.PlainTy.{PlainTy, PlainArgs, PlainFun, base, name, no_tys, no_args, more_args, function}
use Rattle.sig_model.specs.PlainMember.{PlainMember, method}
use Rattle.sig_model.specs.PlainDecl.{PlainDecls, PlainParts, no_decls, more_decls, decl, class, no_parts, inner, member, plain_decls}
use Rattle.rbs_parser.specs.Texts.{IsFile}
use Rattle.signature_profile.specs.Shape.{are_classes}
use Rattle.signature_profile.specs.Parentheses.{IsParenthesized}

abbrev pub result_of : PlainFun → PlainTy
result_of (function required optional more trailing keys key_more blk result) = result

-- a member, before the methods behind it
abbrev pub method_before : PlainMember → List (List ℕ × PlainFun) → List (List ℕ × PlainFun)
method_before (method vis single word (overload ∷ overloads)) behind = (word, overload.fun) ∷ behind
method_before _ behind = behind

-- the methods of a class in order: the name and the type (of the first overload) of each; other parts declare none
abbrev pub methods_of : PlainParts → List (List ℕ × PlainFun)
methods_of no_parts = []
methods_of (inner d parts) = methods_of parts
methods_of (member place notes m parts) = method_before m (methods_of parts)

-- a class by the path of its name, before the classes behind it
abbrev pub class_before : List (List ℕ) → PlainParts → List (List ℕ × PlainParts) → List (List ℕ × PlainParts)
class_before (word ∷ []) parts behind = (word, parts) ∷ behind
class_before _ parts behind = behind

-- the classes of a file in order: the name (the path's only word) and the parts of each; other declarations are none
abbrev pub classes_of : PlainDecls → List (List ℕ × PlainParts)
classes_of no_decls = []
classes_of (more_decls (decl place notes (class n params parent parts)) decls) = class_before n.path parts (classes_of decls)
classes_of (more_decls d decls) = classes_of decls

abbrev pub class_names : PlainDecls → List (List ℕ)
class_names ds = map (λ c. c.0) (classes_of ds)

-- A method may have this name with this result: `initialize` with `void`, and any other name that nothing keeps from it.
abbrev pub IsMethodName : List ℕ → PlainTy → Type 0
IsMethodName word result =
    MatchBool (same_name word (codes "initialize")) (result ≡ base base_ty.Void) ((is_among word core_names ≡ false) × (is_reserved word ≡ false))

-- a class that a type may name: one of the core signature, or of the file
abbrev pub IsKnown : List (List ℕ) → Bool → List (List ℕ) → Type 0
IsKnown classes false (word ∷ []) = (is_among word value_classes || is_among word classes) ≡ true
IsKnown classes _ _ = ⊥

-- the words of the language that a result may be
abbrev pub IsResultWord : BaseTy → Type 0
IsResultWord base_ty.Nil = Unit {0}
IsResultWord base_ty.Void = Unit {0}
IsResultWord _ = ⊥

-- A result is `nil` or `void`, one of Integer, String and Symbol, or a class of the file.
abbrev pub IsDeclared : List (List ℕ) → PlainTy → Type 0
IsDeclared classes (base word) = IsResultWord word
IsDeclared classes (name n no_tys) = IsKnown classes n.rooted n.path
IsDeclared classes _ = ⊥

-- A parameter is of a type that a result may have, but not of `void`.
abbrev pub IsParameter : List (List ℕ) → PlainTy → Type 0
IsParameter classes ty = IsDeclared classes ty × (ty ≡ base base_ty.Void → ⊥)

abbrev pub AreParameters : List (List ℕ) → PlainArgs → Type 0
AreParameters classes no_args = Unit {0}
AreParameters classes (more_args ty word args) = IsParameter classes ty × AreParameters classes args

-- the types of a method: each of its required parameters, and its result
abbrev pub HasDeclared : List (List ℕ) → PlainFun → Type 0
HasDeclared classes (function required optional more trailing keys key_more blk result) = AreParameters classes required × IsDeclared classes result

-- each method of a class may have its name, its parameters and its result, and no name stands twice
pub record HasWellNamed (classes : List (List ℕ)) (methods : List (List ℕ × PlainFun)) : Type 0 where
  pub once : IsDistinct same_name (map (λ m. m.0) methods)
  pub each : AllByRecursion (λ m. IsMethodName m.0 (result_of m.1) × HasDeclared classes m.1) methods

-- each name is declared, and none twice
pub record IsWellNamed (ds : PlainDecls) : Type 0 where
  pub classes_once : IsDistinct same_name (class_names ds)
  pub classes_own : AllByRecursion (λ n. is_among n core_classes ≡ false) (class_names ds)
  pub methods : AllByRecursion (λ c. HasWellNamed (class_names ds) (methods_of c.1)) (classes_of ds)

-- The bytes are a signature file of the profile that spells these declarations: of the whole language's files, one of plain classes.
pub record IsSignature (file : ℕ) (ds : PlainDecls) (bytes : List ℕ) : Type 0 where
  pub read : IsFile file ds bytes
  pub shaped : are_classes ds ≡ true
  pub parenthesized : IsParenthesized file bytes
  pub well_named : IsWellNamed ds

-- What `read_classes` answers: the declarations that the bytes spell, and no others, or nothing where they spell none.
abbrev pub Answers : ℕ → List ℕ → Option (List Decl) → Type 0
Answers file bytes (Some decls) = IsSignature file (plain_decls decls) bytes × ((ds : PlainDecls) → IsSignature file ds bytes → ds ≡ plain_decls decls)
Answers file bytes None = (ds : PlainDecls) → IsSignature file ds bytes → ⊥
