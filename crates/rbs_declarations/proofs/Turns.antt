-- Steps that hand a token on, as it is not the one that may stand here.
use Rattle.std.proofs.Common.{ℕ, ◌≡◌, refl, List, Bool, true, false, IsTrue, ◌↔◌, None, Some, Result}
use Rattle.rbs_terminals.specs.declared.token.Mark.TheVariants as mark
use Rattle.rbs_terminals.specs.declared.token.Keyword.TheVariants as keyword
use Rattle.rbs_terminals.specs.declared.token.Kind.{Kind}
use Rattle.rbs_terminals.specs.declared.token.Kind.TheVariants as kind
use Rattle.sig_model.specs.declared.ty.TypeName.{TypeName}
use Rattle.sig_model.specs.PlainTy as plain
use Rattle.sig_model.specs.PlainMember.{PlainParam}
use Rattle.sig_model.specs.PlainDecl.{PlainDecls}
use Rattle.rbs_types.specs.Grammar.{of_class_or_interface}
use Rattle.rbs_declarations.specs.declared.refused.Stuck.{Stuck}
use Rattle.rbs_declarations.specs.declared.state.Owner.{Owner}
use Rattle.rbs_declarations.specs.declared.state.Param.{Param}
use Rattle.rbs_declarations.specs.declared.state.Frame.{Frame}
use Rattle.rbs_declarations.specs.declared.state.State.{State}
use Rattle.rbs_declarations.specs.Machine.{after_unchecked, param_begins, and_param, after_param, after_param_name, after_bound_name, bound_goes, bound_first, first_on}
use Rattle.rbs_declarations.specs.Does.{Does}

-- a test that failed refutes what it tests
pub refuted : {A : Type 0} {b : Bool} → (IsTrue b ↔ A) → b ≡ false → A → ⊥
refuted {b = b} e f a = let t : IsTrue b = e.1 a in cc

-- a test that held confirms what it tests
pub confirmed : {A : Type 0} {b : Bool} → (IsTrue b ↔ A) → b ≡ true → A
confirmed e f = e.0 f

module _ (file : ℕ) (o : Owner) (done : List PlainParam) (ds : PlainDecls) (fs : List Frame) where
  pub param_goes_on : (k : Kind) (r : Result State Stuck) → (k ≡ kind.Keyword keyword.Unchecked → ⊥) → Does (after_unchecked file o done false ds fs k) r → Does (param_begins file o done ds fs k) r
  param_goes_on (kind.Keyword keyword.Unchecked) r n d = absurd (n refl)
  param_goes_on k r n d = d

  pub param_name_goes_on : (p : Param) (k : Kind) (r : Result State Stuck) → (k ≡ kind.Mark mark.Less → ⊥) → Does (after_param file o (and_param done p None) ds fs k) r → Does (after_param_name file o done p ds fs k) r
  param_name_goes_on p (kind.Mark mark.Less) r n d = absurd (n refl)
  param_name_goes_on p k r n d = d

  pub bound_name_goes_on : (p : Param) (m : TypeName) (k : Kind) (r : Result State Stuck) → (k ≡ kind.Mark mark.OpenSquare → ⊥) → Does (after_param file o (and_param done p (Some (plain.name m plain.no_tys))) ds fs k) r
      → Does (after_bound_name file o done p m ds fs k) r
  bound_name_goes_on p m (kind.Mark mark.OpenSquare) r n d = absurd (n refl)
  bound_name_goes_on p m k r n d = d

  pub bound_goes_on : (p : Param) (n : TypeName) (k : Kind) (r : Result State Stuck) → (k ≡ kind.Keyword keyword.Singleton → ⊥) → Does (bound_goes file o done p (first_on of_class_or_interface n k) ds fs k) r
      → Does (bound_first file o done p n ds fs k) r
  bound_goes_on p n (kind.Keyword keyword.Singleton) r e d = absurd (e refl)
  bound_goes_on p n k r e d = d
