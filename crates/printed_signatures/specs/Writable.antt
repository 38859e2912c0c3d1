-- Which declarations can be written: their words are words of the language, and their parts are those that the grammar has.
use Rattle.std.specs.Prelude.{◌≡◌, ℕ, ℤ, pos, negsuc, ◌^◌, ◌<◌, Bool, true, false, not, ◌&&◌, ◌⊎◌, List, [], ◌∷◌, Option, Some, None}
use Rattle.sig_model.specs.declared.ty.TypeName.{TypeName}
use Rattle.sig_model.specs.declared.decl.Notes.{Notes}
use Rattle.sig_model.specs.declared.decl.MixKind.TheVariants as mixin
use Rattle.sig_model.specs.PlainTy as plain
use Rattle.sig_model.specs.PlainTy.{PlainTy, PlainTys, PlainKeys, PlainArgs, PlainRest, PlainFun, PlainBlock}
use Rattle.sig_model.specs.PlainMember.{PlainParam, PlainMethod, PlainMember, method, attr, mixin as mixed, alias, ivar, section}
use Rattle.sig_model.specs.PlainDecl as decl
use Rattle.sig_model.specs.PlainDecl.{PlainDecl, PlainBody, PlainParts, PlainDecls}
use Rattle.rbs_lexer.specs.Pieces.{Repeated, IsCharacter, is_in_line, is_note_character}
use Rattle.rbs_lexer.specs.Names.{IsUpper, IsLower, IsInterfaceName, IsMethodName}
use Rattle.names.specs.Places.{same_name}
use Rattle.rbs_terminals.specs.Keywords.{keyword_of}
use Rattle.rbs_types.specs.Grammar.{Use, of_type, of_class, of_interface, of_alias, of_class_or_interface, ends_capital, ends_interface, ends_small}
use Rattle.rbs_types.specs.Plains.{is_new, no_arg, no_rest_yet}

-- ---- names

-- the last word of a name that is used so
abbrev pub EndsName : Use → List ℕ → Type 0
EndsName u w = ((ends_capital u ≡ true) × IsUpper w) ⊎ (((ends_interface u ≡ true) × IsInterfaceName w) ⊎ ((ends_small u ≡ true) × IsLower w × (keyword_of w ≡ None)))

abbrev pub IsPath : Use → List (List ℕ) → Type 0
IsPath u [] = ⊥
IsPath u (w ∷ []) = EndsName u w
IsPath u (w ∷ v ∷ ws) = IsUpper w × IsPath u (v ∷ ws)

abbrev pub IsName : Use → TypeName → Type 0
IsName u n = IsPath u n.path

-- ---- types

abbrev pub any_character : ℕ → Bool
any_character c = true

-- UTF-8
abbrev pub IsUtf8 : List ℕ → Type 0
IsUtf8 w = Repeated (IsCharacter any_character) w

-- from -2^63 to 2^63-1
abbrev pub Is64 : ℤ → Type 0
Is64 (pos n) = n < 2 ^ 63
Is64 (negsuc n) = n < 2 ^ 63

-- there are at least two
abbrev pub several : PlainTys → Bool
several plain.no_tys = false
several (plain.more_tys t plain.no_tys) = false
several (plain.more_tys t (plain.more_tys u ts)) = true

-- the name of a parameter, where there is one
abbrev pub IsParameterName : Option (List ℕ) → Type 0
IsParameterName None = Unit {0}
IsParameterName (Some w) = IsLower w

abbrev pub has_no_block : PlainFun → Bool
has_no_block (plain.function required optional more trailing keys key_more plain.no_block t) = true
has_no_block (plain.function required optional more trailing keys key_more (plain.block needed f) t) = false

abbrev mutual
  pub IsType : PlainTy → Type 0
  IsType (plain.name n ts) = IsName of_type n × AreTypes ts
  IsType (plain.single n) = IsName of_class n
  IsType (plain.opt t) = IsType t
  IsType (plain.union ts) = (several ts ≡ true) × AreTypes ts
  IsType (plain.inter ts) = (several ts ≡ true) × AreTypes ts
  IsType (plain.tuple ts) = AreTypes ts
  IsType (plain.rec ks) = AreKeys ks
  IsType (plain.fun f) = IsFunction f
  IsType (plain.int n) = Is64 n
  IsType (plain.str w) = IsUtf8 w
  IsType (plain.sym w) = IsMethodName w
  IsType (plain.base b) = Unit {0}

  pub AreTypes : PlainTys → Type 0
  AreTypes plain.no_tys = Unit {0}
  AreTypes (plain.more_tys t ts) = IsType t × AreTypes ts

  -- the keys differ from each other
  pub AreKeys : PlainKeys → Type 0
  AreKeys plain.no_keys = Unit {0}
  AreKeys (plain.more_keys w needed t ks) = IsLower w × (is_new w ks ≡ true) × IsType t × AreKeys ks

  -- trailing parameters stand only behind an optional one or a rest
  pub IsFunction : PlainFun → Type 0
  IsFunction (plain.function required optional more trailing keys key_more blk t) =
      AreArguments required × AreArguments optional × IsRest more × AreArguments trailing × ((no_arg trailing ≡ true) ⊎ ((no_arg optional && no_rest_yet more) ≡ false)) × AreKeys keys × IsRest key_more × IsBlock blk × IsType t

  pub AreArguments : PlainArgs → Type 0
  AreArguments plain.no_args = Unit {0}
  AreArguments (plain.more_args t n more) = IsType t × IsParameterName n × AreArguments more

  pub IsRest : PlainRest → Type 0
  IsRest plain.no_rest = Unit {0}
  IsRest (plain.rest t n) = IsType t × IsParameterName n

  -- a block has no block of its own
  pub IsBlock : PlainBlock → Type 0
  IsBlock plain.no_block = Unit {0}
  IsBlock (plain.block needed f) = IsFunction f × (has_no_block f ≡ true)

-- ---- members

-- a name that may have arguments
abbrev pub IsApplied : Use → PlainTy → Type 0
IsApplied u (plain.name n ts) = IsName u n × AreTypes ts
IsApplied u _ = ⊥

abbrev pub IsBoundType : PlainTy → Type 0
IsBoundType (plain.single n) = IsName of_class n
IsBoundType t = IsApplied of_class_or_interface t

abbrev pub IsBound : Option PlainTy → Type 0
IsBound None = Unit {0}
IsBound (Some t) = IsBoundType t

-- no parameter has this name
abbrev pub is_new_name : List ℕ → List PlainParam → Bool
is_new_name w [] = true
is_new_name w (p ∷ ps) = not (same_name w p.name) && is_new_name w ps

-- the type parameters differ in their names
abbrev pub AreParameters : List PlainParam → Type 0
AreParameters [] = Unit {0}
AreParameters (p ∷ ps) = IsUpper p.name × IsBound p.bound × (is_new_name p.name ps ≡ true) × AreParameters ps

abbrev pub AreOverloads : List PlainMethod → Type 0
AreOverloads [] = Unit {0}
AreOverloads (m ∷ ms) = AreParameters m.params × IsFunction m.fun × AreOverloads ms

abbrev pub IsOverloaded : List PlainMethod → Type 0
IsOverloaded [] = ⊥
IsOverloaded (m ∷ ms) = AreOverloads (m ∷ ms)

-- a member of a class or a module
abbrev pub IsMember : PlainMember → Type 0
IsMember (method v single w ms) = IsMethodName w × IsOverloaded ms
IsMember (attr v k w t) = IsLower w × IsType t
IsMember (mixed k t) = IsApplied of_class t
IsMember (alias new old) = IsMethodName new × IsMethodName old
IsMember (ivar single w t) = IsLower w × IsType t
IsMember (section v) = Unit {0}

-- a member of an interface
abbrev pub IsInterfaceMember : PlainMember → Type 0
IsInterfaceMember (method None false w ms) = IsMethodName w × IsOverloaded ms
IsInterfaceMember (mixed mixin.Include t) = IsApplied of_interface t
IsInterfaceMember _ = ⊥

-- ---- declarations

abbrev pub AreAnnotations : List (List ℕ) → Type 0
AreAnnotations [] = Unit {0}
AreAnnotations (w ∷ ws) = Repeated (IsCharacter is_note_character) w × AreAnnotations ws

abbrev pub AreComments : List (List ℕ) → Type 0
AreComments [] = Unit {0}
AreComments (w ∷ ws) = Repeated (IsCharacter is_in_line) w × AreComments ws

abbrev pub AreNotes : Notes → Type 0
AreNotes n = AreComments n.comments × AreAnnotations n.annotations

abbrev pub IsParent : Option PlainTy → Type 0
IsParent None = Unit {0}
IsParent (Some t) = IsApplied of_class t

abbrev pub AreSelves : PlainTys → Type 0
AreSelves plain.no_tys = Unit {0}
AreSelves (plain.more_tys t ts) = IsApplied of_class_or_interface t × AreSelves ts

abbrev mutual
  pub IsBody : PlainBody → Type 0
  IsBody (decl.class n ps t parts) = IsName of_class n × AreParameters ps × IsParent t × AreParts parts
  IsBody (decl.module n ps ts parts) = IsName of_class n × AreParameters ps × AreSelves ts × AreParts parts
  IsBody (decl.iface n ps parts) = IsName of_interface n × AreParameters ps × AreInterfaceParts parts
  IsBody (decl.alias n ps t) = IsName of_alias n × AreParameters ps × IsType t
  IsBody (decl.const n t) = IsName of_class n × IsType t

  pub IsDeclaration : PlainDecl → Type 0
  IsDeclaration (decl.decl place notes body) = AreNotes notes × IsBody body

  pub AreParts : PlainParts → Type 0
  AreParts decl.no_parts = Unit {0}
  AreParts (decl.inner d parts) = IsDeclaration d × AreParts parts
  AreParts (decl.member place notes m parts) = AreNotes notes × IsMember m × AreParts parts

  pub AreInterfaceParts : PlainParts → Type 0
  AreInterfaceParts decl.no_parts = Unit {0}
  AreInterfaceParts (decl.inner d parts) = ⊥
  AreInterfaceParts (decl.member place notes m parts) = AreNotes notes × IsInterfaceMember m × AreInterfaceParts parts

-- declarations that can be written
abbrev pub AreWritable : PlainDecls → Type 0
AreWritable decl.no_decls = Unit {0}
AreWritable (decl.more_decls d ds) = IsDeclaration d × AreWritable ds
