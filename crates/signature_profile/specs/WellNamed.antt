-- Names that are read one by one.
use Rattle.std.specs.Prelude.{◌≡◌, ◌↔◌, ℕ, Bool, true, false, List, [], ◌∷◌, ◌++◌}
use Rattle.std.specs.List.{AllByRecursion}
use Rattle.names.specs.Places.{is_among}
use Rattle.sig_model.specs.PlainTy.{PlainFun}
use Rattle.sig_model.specs.PlainDecl.{PlainDecl, PlainDecls, PlainParts, more_decls}
use Rattle.profile_words.specs.Words.{core_classes}
use Rattle.signature_profile.specs.Profile.{IsMethodName, HasDeclared, HasWellNamed, result_of, classes_of, class_names, methods_of}

-- The names of these things, behind those that were seen: none of them is among the ones before it, and each may stand.
abbrev pub Left : {A : Type 0} → (A → List ℕ) → (A → Type 0) → List (List ℕ) → List A → Type 0
Left key May seen [] = Unit {0}
Left key May seen (x ∷ xs) = (is_among (key x) seen ≡ false) × May x × Left key May (seen ++ key x ∷ []) xs

-- the methods that are left of a class
abbrev pub MethodsLeft : List (List ℕ) → List (List ℕ) → List (List ℕ × PlainFun) → Type 0
MethodsLeft classes seen ms = Left (λ m. m.0) (λ m. IsMethodName m.0 (result_of m.1) × HasDeclared classes m.1) seen ms

-- the classes that are left of a file
abbrev pub ClassesLeft : List (List ℕ) → List (List ℕ × PlainParts) → Type 0
ClassesLeft seen cs = Left (λ c. c.0) (λ c. is_among c.0 core_classes ≡ false) seen cs

-- each class that is left has well named methods
abbrev pub MethodsOfClasses : List (List ℕ) → List (List ℕ × PlainParts) → Type 0
MethodsOfClasses classes cs = AllByRecursion (λ c. HasWellNamed classes (methods_of c.1)) cs

-- Whether a member may stand behind the methods that were seen; it leaves these.
abbrev pub AdmitsPart : List (List ℕ) → List (List ℕ) → List (List ℕ) → (PlainParts → PlainParts) → Bool → Type 0
AdmitsPart classes seen now part true = (behind : PlainParts) → MethodsLeft classes seen (methods_of (part behind)) ↔ MethodsLeft classes now (methods_of behind)
AdmitsPart classes seen now part false = (behind : PlainParts) → MethodsLeft classes seen (methods_of (part behind)) → ⊥

-- Whether a declaration may stand behind the classes that were seen; it leaves these.
abbrev pub AdmitsDecl : List (List ℕ) → List (List ℕ) → PlainDecl → Bool → Type 0
AdmitsDecl seen now d true = (behind : PlainDecls)
    → (ClassesLeft seen (classes_of (more_decls d behind)) ↔ ClassesLeft now (classes_of behind)) × (seen ++ class_names (more_decls d behind) ≡ now ++ class_names behind)
AdmitsDecl seen now d false = (behind : PlainDecls) → ClassesLeft seen (classes_of (more_decls d behind)) → ⊥

-- Whether the methods of a declaration are well named.
abbrev pub AdmitsMethods : List (List ℕ) → PlainDecl → Bool → Type 0
AdmitsMethods classes d true = (behind : PlainDecls) → MethodsOfClasses classes (classes_of (more_decls d behind)) ↔ MethodsOfClasses classes (classes_of behind)
AdmitsMethods classes d false = (behind : PlainDecls) → MethodsOfClasses classes (classes_of (more_decls d behind)) → ⊥
