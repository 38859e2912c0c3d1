-- Each valid state can be finished: at the height that it needs, by tokens that open nothing but what is forced.
use Rattle.std.proofs.Common.{ℕ, ◌≤◌, ◌≡◌, refl, List, [], ◌∷◌, Some, arith}
use Rattle.rbs_terminals.specs.declared.token.Token.{Token}
use Rattle.sig_model.specs.declared.decl.MixKind.{MixKind}
use Rattle.sig_model.specs.PlainDecl.{PlainDecls}
use Rattle.rbs_types.specs.declared.state.State.{State as TypeState}
use Rattle.rbs_types.specs.Limits.{IsSmall}
use Rattle.viable_prefixes.specs.Runs.{reads, Each, OpenAtMost}
use Rattle.rbs_declarations.specs.declared.state.Frame.{Frame}
use Rattle.rbs_declarations.specs.declared.state.Purpose.{Purpose}
use Rattle.rbs_declarations.specs.declared.state.Purpose.TheVariants as purpose
use Rattle.rbs_declarations.specs.declared.state.Focus.{Focus}
use Rattle.rbs_declarations.specs.declared.state.Focus.TheVariants as focus
use Rattle.rbs_declarations.specs.declared.state.State.{State}
use Rattle.rbs_declarations.specs.Machine.{state_of, site_of, next, final}
use Rattle.rbs_declarations.specs.Heights.{decls_height}
use Rattle.rbs_declarations.specs.Needs.{need, reach}
use Rattle.rbs_declarations.proofs.Behind.{behind, open_at}
use Rattle.rbs_declarations.proofs.Valid.{InClass, TakesMixin, Leads, Fits, Valid}
use Rattle.rbs_declarations.proofs.Closes.{Closes, at_end, frames_end}
use Rattle.rbs_declarations.proofs.ClosingTypes.{inside, in_alias, in_constant, in_attribute, in_variable, in_overload, in_parent, in_self, in_mixin}
use Rattle.rbs_declarations.proofs.ClosingHeadings.{finish_name, finish_named, finish_param, finish_unchecked, finish_varied, finish_param_name, finish_bound, finish_bound_named, finish_bound_singleton, finish_bound_class, finish_bounded, finish_parameterized, finish_parent, finish_self, finish_self_named, finish_overload, in_bound}
use Rattle.rbs_declarations.proofs.ClosingMembers.{finish_noted, finish_visible, finish_def, finish_def_self, finish_method_start, finish_method_word, finish_method_operator, finish_method_name, finish_attribute, finish_attribute_name, finish_mixin, finish_mixin_named, finish_alias, finish_new_word, finish_new_equals, finish_new_equals_equals, finish_new_operator, finish_new_name, finish_old_word, finish_old_operator, finish_old_name, finish_self_word, finish_self_dot, finish_variable}

-- In the file of this number.
module _ (file : ℕ) where
  finish_parts : (ds : PlainDecls) (fs : List Frame) → Closes file (state_of focus.Parts ds fs)
  finish_parts ds [] = at_end file (state_of focus.Parts ds []) (λ e. ds) (λ e. refl) (λ e. omega arith)
  finish_parts ds (f ∷ fs) = frames_end file fs f ds (state_of focus.Parts ds (f ∷ fs)) refl (omega arith) (omega arith)

  -- what stands among the parts of a class or a module has one around it
  among_parts : (f : Focus) (ds : PlainDecls) (fs : List Frame) → InClass (site_of fs) → ((g : Frame) (gs : List Frame) → Closes file (state_of f ds (g ∷ gs))) → Closes file (state_of f ds fs)
  among_parts f ds [] h e = absurd h
  among_parts f ds (g ∷ gs) h e = e g gs

  -- and so has a mixin
  mixin_among : (f : Focus) (m : MixKind) (ds : PlainDecls) (fs : List Frame) → TakesMixin (site_of fs) m → ((g : Frame) (gs : List Frame) → Closes file (state_of f ds (g ∷ gs))) → Closes file (state_of f ds fs)
  mixin_among f m ds [] h e = absurd h
  mixin_among f m ds (g ∷ gs) h e = e g gs

  finish_inside : (p : Purpose) (i : TypeState) (ds : PlainDecls) (fs : List Frame) → Leads p i → Closes file (inside p i ds fs)
  finish_inside (purpose.Alias begun n ps) i ds fs led = in_alias file begun n ps i ds fs
  finish_inside (purpose.Constant begun n) i ds fs led = in_constant file begun n i ds fs
  finish_inside (purpose.Attribute begun v a w) i ds fs led = in_attribute file begun v a w i ds fs
  finish_inside (purpose.Variable begun single w) i ds fs led = in_variable file begun single w i ds fs
  finish_inside (purpose.Overload sig done ps) i ds fs led = in_overload file sig done ps i ds fs led
  finish_inside (purpose.Parent begun n ps) i ds fs led = in_parent file begun n ps i ds fs
  finish_inside (purpose.SelfType begun n ps us) i ds fs led = in_self file begun n ps us i ds fs
  finish_inside (purpose.Mixin begun m) i ds fs led = in_mixin file begun m i ds fs
  finish_inside (purpose.Bound o done p) i ds fs led = in_bound file o done p i ds fs

  finish_at : (f : Focus) (ds : PlainDecls) (fs : List Frame) → Fits (site_of fs) f → Closes file (state_of f ds fs)
  finish_at focus.Parts ds fs v = finish_parts ds fs
  finish_at (focus.Noted begun) ds fs v = finish_noted file begun ds fs
  finish_at (focus.Visible begun x e) ds fs v = among_parts (focus.Visible begun x e) ds fs v (λ g gs. finish_visible file begun x e ds g gs)
  finish_at (focus.Name begun x naming) ds fs v = finish_name file begun x naming.name naming.step ds fs
  finish_at (focus.Named begun x n) ds fs v = finish_named file begun x n ds fs
  finish_at (focus.Param o done) ds fs v = finish_param file o done ds fs
  finish_at (focus.Unchecked o done) ds fs v = finish_unchecked file o done ds fs
  finish_at (focus.Varied o done unchecked x) ds fs v = finish_varied file o done unchecked x ds fs
  finish_at (focus.ParamName o done p) ds fs v = finish_param_name file o done p ds fs
  finish_at (focus.Bound o done p naming) ds fs v = finish_bound file o done p naming.name naming.step ds fs
  finish_at (focus.BoundNamed o done p m) ds fs v = finish_bound_named file o done p m ds fs
  finish_at (focus.BoundSingleton o done p) ds fs v = finish_bound_singleton file o done p ds fs
  finish_at (focus.BoundClass o done p naming) ds fs v = finish_bound_class file o done p naming.name naming.step ds fs
  finish_at (focus.Bounded o ps) ds fs v = finish_bounded file o ps ds fs
  finish_at (focus.Parameterized o ps) ds fs v = finish_parameterized file o ps ds fs
  finish_at (focus.Parent begun n ps naming) ds fs v = finish_parent file begun n ps naming.name naming.step ds fs
  finish_at (focus.SelfType begun n ps us naming) ds fs v = finish_self file begun n ps us naming.name naming.step ds fs
  finish_at (focus.SelfNamed begun n ps us m) ds fs v = finish_self_named file begun n ps us m ds fs
  finish_at (focus.Def begun x) ds fs v = finish_def file begun x ds fs
  finish_at (focus.DefSelf begun x) ds fs v = finish_def_self file begun x ds fs
  finish_at (focus.MethodStart begun x single) ds fs v = finish_method_start file begun x single ds fs
  finish_at (focus.MethodWord sig) ds fs v = finish_method_word file sig ds fs
  finish_at (focus.MethodOperator begun x single o) ds fs v = finish_method_operator file begun x single o ds fs
  finish_at (focus.MethodName sig) ds fs v = finish_method_name file sig ds fs
  finish_at (focus.Overload sig done) ds fs v = finish_overload file sig done ds fs
  finish_at (focus.Attribute begun x a) ds fs v = finish_attribute file begun x a ds fs
  finish_at (focus.AttributeName begun x a w) ds fs v = finish_attribute_name file begun x a w ds fs
  finish_at (focus.Mixin begun m naming) ds fs v = mixin_among (focus.Mixin begun m naming) m ds fs v (λ g gs. finish_mixin file begun m naming.name naming.step ds g gs)
  finish_at (focus.MixinNamed begun m n) ds fs v = mixin_among (focus.MixinNamed begun m n) m ds fs v (λ g gs. finish_mixin_named file begun m n ds g gs)
  finish_at (focus.Alias begun) ds fs v = among_parts (focus.Alias begun) ds fs v (λ g gs. finish_alias file begun ds g gs)
  finish_at (focus.NewWord begun w) ds fs v = among_parts (focus.NewWord begun w) ds fs v (λ g gs. finish_new_word file begun w ds g gs)
  finish_at (focus.NewEquals begun w) ds fs v = among_parts (focus.NewEquals begun w) ds fs v (λ g gs. finish_new_equals file begun w ds g gs)
  finish_at (focus.NewEqualsEquals begun w) ds fs v = among_parts (focus.NewEqualsEquals begun w) ds fs v (λ g gs. finish_new_equals_equals file begun w ds g gs)
  finish_at (focus.NewOperator begun o) ds fs v = among_parts (focus.NewOperator begun o) ds fs v (λ g gs. finish_new_operator file begun o ds g gs)
  finish_at (focus.NewName begun new) ds fs v = among_parts (focus.NewName begun new) ds fs v (λ g gs. finish_new_name file begun new ds g gs)
  finish_at (focus.OldWord begun new w capital) ds fs v = among_parts (focus.OldWord begun new w capital) ds fs v (λ g gs. finish_old_word file begun new w capital ds g gs)
  finish_at (focus.OldOperator begun new o) ds fs v = among_parts (focus.OldOperator begun new o) ds fs v (λ g gs. finish_old_operator file begun new o ds g gs)
  finish_at (focus.OldName begun new old) ds fs v = among_parts (focus.OldName begun new old) ds fs v (λ g gs. finish_old_name file begun new old ds g gs)
  finish_at (focus.SelfWord begun) ds fs v = finish_self_word file begun ds fs
  finish_at (focus.SelfDot begun) ds fs v = finish_self_dot file begun ds fs
  finish_at (focus.Variable begun single w) ds fs v = finish_variable file begun single w ds fs
  finish_at (focus.Typed p i) ds fs v = finish_inside p i ds fs v.1

  -- Some tokens finish the text, wherever its last one ends.
  pub finish : (s : State) → Valid s
      → (w : List Token) × (ds : ℕ → PlainDecls) × ((e : ℕ) → reads (next file) (final file e) s w ≡ Some (ds e)) × (need s ≤ 200 → (e : ℕ) → decls_height (ds e) ≤ 200)
      × (reach s ≤ 400 → OpenAtMost (behind file) (open_at file) 400 (Some s) w) × Each IsSmall w
  finish s v =
      let c = finish_at s.focus s.decls s.frames v in
      (c.w, c.ds, c.alone, λ low e. omega (arith, c.tall e), λ few. c.within 400 few, c.small)
