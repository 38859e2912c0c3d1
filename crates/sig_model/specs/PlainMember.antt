-- Type parameters, overloads and members as plain data, and the plain twin of each.
use Rattle.std.specs.Prelude.{ℕ, Bool, List, [], ◌∷◌, Option, None, Some}
use Rattle.sig_model.specs.declared.ty.Ty.{Ty}
use Rattle.sig_model.specs.declared.decl.Variance.{Variance}
use Rattle.sig_model.specs.declared.decl.Vis.{Vis}
use Rattle.sig_model.specs.declared.decl.AttrKind.{AttrKind}
use Rattle.sig_model.specs.declared.decl.MixKind.{MixKind}
use Rattle.sig_model.specs.declared.decl.TyParam.{TyParam}
use Rattle.sig_model.specs.declared.decl.MethodTy.{MethodTy}
use Rattle.sig_model.specs.declared.decl.Member.{Member}
use Rattle.sig_model.specs.declared.decl.Member.TheVariants as a_member
use Rattle.sig_model.specs.PlainTy.{PlainTy, PlainFun, plain_ty, plain_fun}

-- a type parameter
pub record PlainParam : Type 0 where
  pub name : List ℕ
  pub unchecked : Bool
  pub variance : Variance
  pub bound : Option PlainTy

-- one overload of a method
pub record PlainMethod : Type 0 where
  pub params : List PlainParam
  pub fun : PlainFun

-- a member: a flag says that `self.` stands before its name
pub data PlainMember : Type 0 where
  method : Option Vis → Bool → List ℕ → List PlainMethod → PlainMember
  attr : Option Vis → AttrKind → List ℕ → PlainTy → PlainMember
  mixin : MixKind → PlainTy → PlainMember
  alias : List ℕ → List ℕ → PlainMember
  ivar : Bool → List ℕ → PlainTy → PlainMember
  section : Vis → PlainMember

abbrev pub plain_option : Option Ty → Option PlainTy
plain_option None = None
plain_option (Some t) = Some (plain_ty t)

abbrev pub plain_param : TyParam → PlainParam
plain_param p = record { name = p.name; unchecked = p.unchecked; variance = p.variance; bound = plain_option p.bound }

abbrev pub plain_params : List TyParam → List PlainParam
plain_params [] = []
plain_params (p ∷ ps) = plain_param p ∷ plain_params ps

abbrev pub plain_method : MethodTy → PlainMethod
plain_method m = record { params = plain_params m.params; fun = plain_fun m.fun }

abbrev pub plain_methods : List MethodTy → List PlainMethod
plain_methods [] = []
plain_methods (m ∷ ms) = plain_method m ∷ plain_methods ms

abbrev pub plain_member : Member → PlainMember
plain_member (a_member.Method v s n ms) = method v s n (plain_methods ms)
plain_member (a_member.Attr v k n t) = attr v k n (plain_ty t)
plain_member (a_member.Mixin k t) = mixin k (plain_ty t)
plain_member (a_member.Alias n o) = alias n o
plain_member (a_member.Ivar s n t) = ivar s n (plain_ty t)
plain_member (a_member.Section v) = section v
