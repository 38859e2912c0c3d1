-- Steps inside of types and behind them, and of the members that a token that is handed on ends.
use Rattle.std.proofs.Common.{ℕ, ◌≡◌, refl, sym, subst, ◌∙◌, List, [], Bool, true, false, Option, None, Some, Result}
use Rattle.rbs_terminals.specs.declared.token.Spot.{Spot}
use Rattle.rbs_terminals.specs.declared.token.Mark.TheVariants as mark
use Rattle.rbs_terminals.specs.declared.token.Keyword.{Keyword}
use Rattle.rbs_terminals.specs.declared.token.Keyword.TheVariants as keyword
use Rattle.rbs_terminals.specs.declared.token.Kind.{Kind}
use Rattle.rbs_terminals.specs.declared.token.Kind.TheVariants as kind
use Rattle.sig_model.specs.declared.ty.TypeName.{TypeName}
use Rattle.sig_model.specs.declared.decl.MixKind.{MixKind}
use Rattle.sig_model.specs.declared.decl.Vis.{Vis}
use Rattle.sig_model.specs.PlainTy.{PlainTy}
use Rattle.sig_model.specs.PlainMember.{PlainMethod, PlainParam}
use Rattle.sig_model.specs.PlainDecl.{PlainDecls}
use Rattle.rbs_types.specs.declared.state.State.{State as TypeState}
use Rattle.rbs_types.specs.Ends.{ends_before}
use Rattle.rbs_types.specs.Machine.{final}
use Rattle.rbs_declarations.specs.declared.refused.Stuck.{Stuck}
use Rattle.rbs_declarations.specs.declared.state.Begun.{Begun}
use Rattle.rbs_declarations.specs.declared.state.Signature.{Signature}
use Rattle.rbs_declarations.specs.declared.state.Purpose.{Purpose}
use Rattle.rbs_declarations.specs.declared.state.Frame.{Frame}
use Rattle.rbs_declarations.specs.declared.state.State.{State}
use Rattle.rbs_declarations.specs.Machine.{typed, typed_on, after_final, function_begins, after_overload, and_overload, next_overload, with_method, after_function, then_part, with_mixin, after_mixin_name, visible_attribute, visible_member}
use Rattle.rbs_declarations.specs.Words.{attribute_of}
use Rattle.rbs_declarations.specs.Does.{Does}

module _ (file : ℕ) (ds : PlainDecls) (fs : List Frame) where
  -- a token that a whole type doesn't take stands behind the type
  pub goes_behind : (p : Purpose) (i : TypeState) (o : Option TypeState) (k : Kind) (s : Spot) (r : Result State Stuck) (b : Bool) → b ≡ ends_before (final i) o → b ≡ true
      → Does (after_final file p (final i) ds fs k s) r → Does (typed_on file p i o ds fs k s) r
  goes_behind p i None k s r b e f d = d
  goes_behind p i (Some m) k s r b e f d = absurd (taken (final i) m (sym f ∙ e))
    where
      taken : (t : Option PlainTy) (m : TypeState) → true ≡ ends_before t (Some m) → ⊥
      taken None m e = cc
      taken (Some t) m e = cc

  pub goes_inside : (p : Purpose) (i : TypeState) (o : Option TypeState) (k : Kind) (s : Spot) (r : Result State Stuck) (b : Bool) → b ≡ ends_before (final i) o → b ≡ false
      → Does (typed file p ds fs o) r → Does (typed_on file p i o ds fs k s) r
  goes_inside p i (Some m) k s r b e f d = d
  goes_inside p i None k s r b e f d = subst (λ (t : Option PlainTy). Does (after_final file p t ds fs k s) r) (sym (not_whole (final i) (sym f ∙ e))) d
    where
      not_whole : (t : Option PlainTy) → false ≡ ends_before t None → t ≡ None
      not_whole None e = refl
      not_whole (Some t) e = absurd (cc)

  pub overload_goes_on : (sig : Signature) (done : List PlainMethod) (k : Kind) (s : Spot) (r : Result State Stuck) → (k ≡ kind.Mark mark.OpenSquare → ⊥)
      → Does (function_begins file sig done [] ds fs k s) r → Does (after_overload file sig done ds fs k s) r
  overload_goes_on sig done (kind.Mark mark.OpenSquare) s r e d = absurd (e refl)
  overload_goes_on sig done k s r e d = d

  module _ (sig : Signature) (done : List PlainMethod) (ps : List PlainParam) (t : PlainTy) (ms : Option (List PlainMethod)) where
    pub overloads_go_on : (k : Kind) (s : Spot) (r : Result State Stuck) → ms ≡ and_overload done ps t → k ≡ kind.Mark mark.Bar
        → Does (next_overload file sig ms ds fs) r → Does (after_function file sig done ps t ds fs k s) r
    overloads_go_on k s r e q d =
        subst (λ (j : Kind). Does (after_function file sig done ps t ds fs j s) r) (sym q) (subst (λ (o : Option (List PlainMethod)). Does (next_overload file sig o ds fs) r) e d)

    pub overloads_end : (k : Kind) (s : Spot) (r : Result State Stuck) → ms ≡ and_overload done ps t → (k ≡ kind.Mark mark.Bar → ⊥)
        → Does (then_part file (with_method file sig ms s.before ds fs) k s) r → Does (after_function file sig done ps t ds fs k s) r
    overloads_end (kind.Mark mark.Bar) s r e n d = absurd (n refl)
    overloads_end k s r e n d = subst (λ (o : Option (List PlainMethod)). Does (then_part file (with_method file sig o s.before ds fs) k s) r) e d

  pub mixin_goes_on : (begun : Begun) (m : MixKind) (n : TypeName) (k : Kind) (s : Spot) (r : Result State Stuck) → (k ≡ kind.Mark mark.OpenSquare → ⊥)
      → Does (then_part file (Some (with_mixin file begun m n s.before ds fs)) k s) r → Does (after_mixin_name file begun m n ds fs k s) r
  mixin_goes_on begun m n (kind.Mark mark.OpenSquare) s r e d = absurd (e refl)
  mixin_goes_on begun m n k s r e d = d

  pub visible_goes_on : (begun : Begun) (v : Vis) (k : Keyword) (r : Result State Stuck) → (k ≡ keyword.Def → ⊥) → Does (visible_attribute file begun v ds fs (attribute_of k)) r → Does (visible_member file begun v ds fs (kind.Keyword k)) r
  visible_goes_on begun v keyword.Def r e d = absurd (e refl)
  visible_goes_on begun v k r e d = d
