-- What the machine takes has a derivation: each token goes from a place of the file to the next.
use Rattle.std.specs.Prelude.{ℕ, ◌≡◌, refl, true, List, [], ◌∷◌, Option, Some, None, option_and_then}
use Rattle.std.proofs.Common.{subst}
use Rattle.rbs_terminals.specs.declared.token.Token.{Token}
use Rattle.rbs_terminals.specs.declared.token.Spot.{Spot}
use Rattle.rbs_terminals.specs.declared.token.Keyword.TheVariants as keyword
use Rattle.rbs_terminals.specs.declared.token.Kind.{Kind}
use Rattle.rbs_terminals.specs.Kinds.{lower_of}
use Rattle.sig_model.specs.PlainDecl as decl
use Rattle.sig_model.specs.PlainDecl.{PlainDecls}
use Rattle.rbs_types.specs.Symbols.{token, word}
use Rattle.rbs_types.specs.Grammar.{of_class, of_class_or_interface}
use Rattle.rbs_declarations.specs.declared.state.Frame.{Frame}
use Rattle.rbs_declarations.specs.declared.state.Focus.{Focus}
use Rattle.rbs_declarations.specs.declared.state.Focus.TheVariants as focus
use Rattle.rbs_declarations.specs.declared.state.State.{State}
use Rattle.rbs_declarations.specs.Words.{method_word, extended_at}
use Rattle.rbs_declarations.specs.Grammar.{unchecked, File, end_of_file}
use Rattle.rbs_declarations.specs.Machine.{state_of, start_of_file, naming_on, use_of, mixin_use, site_of, settled, whole_file, step, next, final}
use Rattle.viable_prefixes.specs.Runs.{reads}
use Rattle.rbs_declarations.proofs.Places.{WholeNameAt, NamedAt, ParentAt, SelfAt, SingleAt, MixedAt, BehindDecl, BehindMember, PartsAt, StateAt, StepAt, EndAt}
use Rattle.rbs_declarations.proofs.NamePlaces.{naming_at}
use Rattle.rbs_declarations.proofs.PartPlaces as parts
use Rattle.rbs_declarations.proofs.HeadingPlaces as headings
use Rattle.rbs_declarations.proofs.TypePlaces as typing
use Rattle.rbs_declarations.proofs.MemberPlaces as members
use Rattle.rbs_declarations.proofs.AliasPlaces as aliases

module _ (file last : ℕ) (text : List Token) where
  step_at : (f : Focus) (ds : PlainDecls) (fs : List Frame) (k : Kind) (s : Spot) (ts : List Token) → StateAt file last text (state_of f ds fs) (token k s ∷ ts) → StepAt file last text (step file f ds fs k s) ts
  step_at focus.Parts ds fs k s ts h = parts.part_at file last text ds fs k s ts h
  step_at (focus.Noted begun) ds fs k s ts h = parts.begins_at file last text begun.notes ds fs k s ts h
  step_at (focus.Visible begun v e) ds fs k s ts h = members.vis_at file last text begun v e ds fs k s ts h
  step_at (focus.Name begun x naming) ds fs k s ts h =
      headings.name_at file last text begun x (naming_on (use_of x) naming k s) ds fs k s ts
      (naming_at (use_of x) (NamedAt file last (BehindDecl file last text ds fs) (BehindMember file last text ds fs) begun x) naming.name naming.step k s ts h)
  step_at (focus.Named begun x n) ds fs k s ts h = headings.named_at file last text begun x n ds fs k s ts h
  step_at (focus.Param o done) ds fs k s ts h = headings.param_begins_at file last text o done ds fs k s ts h
  step_at (focus.Unchecked o done) ds fs k s ts h = headings.unchecked_at file last text o done true ds fs (word keyword.Unchecked h.0 ∷ token k s ∷ ts) k s ts h.1 (unchecked h.0)
  step_at (focus.Varied o done b v) ds fs k s ts h = headings.param_name_at file last text o done b v ds fs h.0 h.1 k s ts h.2 h.3 h.4
  step_at (focus.ParamName o done p) ds fs k s ts h = headings.bound_or_further file last text o done p ds fs k s ts h
  step_at (focus.Bound o done p naming) ds fs k s ts h = headings.in_bound_at file last text o done p naming.name naming.step ds fs k s ts h
  step_at (focus.BoundNamed o done p n) ds fs k s ts h = headings.bound_name_at file last text o done p n ds fs k s ts h
  step_at (focus.BoundSingleton o done p) ds fs k s ts h = headings.bound_singleton_at file last text o done p ds fs k s h.0 h.1 ts h.2
  step_at (focus.BoundClass o done p naming) ds fs k s ts h =
      headings.bound_class_at file last text o done p (naming_on of_class naming k s) ds fs k s ts
      (naming_at of_class (SingleAt file last (BehindDecl file last text ds fs) (BehindMember file last text ds fs) o done p) naming.name naming.step k s ts h)
  step_at (focus.Bounded o ps) ds fs k s ts h = headings.param_at file last text o ps h.0 h.1 ds fs k s ts h.2 h.3
  step_at (focus.Parameterized o ps) ds fs k s ts h = typing.parameterized_at file last text o ps ds fs k s ts h
  step_at (focus.Parent begun n ps naming) ds fs k s ts h =
      headings.parent_at file last text begun n ps (naming_on of_class naming k s) ds fs k s ts
      (naming_at of_class (WholeNameAt of_class (ParentAt file last (BehindDecl file last text ds fs) (BehindMember file last text ds fs) begun n ps)) naming.name naming.step k s ts h)
  step_at (focus.SelfType begun n ps us naming) ds fs k s ts h =
      headings.selves_at file last text begun n ps us (naming_on of_class_or_interface naming k s) ds fs k s ts
      (naming_at of_class_or_interface (WholeNameAt of_class_or_interface (SelfAt file last (BehindDecl file last text ds fs) (BehindMember file last text ds fs) begun n ps us)) naming.name naming.step k s ts h)
  step_at (focus.SelfNamed begun n ps us v) ds fs k s ts h = headings.self_name_at file last text begun n ps us v ds fs k s ts h
  step_at (focus.Def begun v) ds fs k s ts h = members.in_def file last text begun v ds fs k s ts h
  step_at (focus.DefSelf begun v) ds fs k s ts h = members.in_def_self file last text begun v ds fs k s h.0 ts h.1
  step_at (focus.MethodStart begun v single) ds fs k s ts h = members.method_start_at file last text begun v single ds fs k s ts h
  step_at (focus.MethodWord sig) ds fs k s ts h = members.method_word_at file last text sig ds fs h.0 h.1 k s ts h.2 h.3
  step_at (focus.MethodOperator begun v single o) ds fs k s ts h = members.method_operator_at file last text begun v single o h.0 ds fs (extended_at o k s) k s ts refl h.1 h.2
  step_at (focus.MethodName sig) ds fs k s ts h = members.method_name_at file last text sig h.0 ds fs k s ts h.1 h.2
  step_at (focus.Overload sig done) ds fs k s ts h = typing.overload_at file last text sig done ds fs k s ts h
  step_at (focus.Attribute begun v a) ds fs k s ts h = members.attribute_at file last text begun v a ds fs (lower_of k) h.0 h.1 k s ts h.2 refl h.3
  step_at (focus.AttributeName begun v a x) ds fs k s ts h = members.attribute_name_at file last text begun v a x ds fs h.0 h.1 h.2 h.3 k s ts h.4 h.5 h.6
  step_at (focus.Mixin begun m naming) ds fs k s ts h =
      members.mixin_at file last text begun m (naming_on (mixin_use (site_of fs)) naming k s) ds fs k s ts
      (naming_at (mixin_use (site_of fs)) (WholeNameAt (mixin_use (site_of fs)) (MixedAt file last (BehindDecl file last text ds fs) (BehindMember file last text ds fs) begun m)) naming.name naming.step k s ts h)
  step_at (focus.MixinNamed begun m n) ds fs k s ts h = members.mixin_name_at file last text begun m n ds fs (mixin_use (site_of fs)) k s ts h
  step_at (focus.Alias begun) ds fs k s ts h = aliases.new_name_begins file last text begun ds fs (method_word k) k s ts refl h
  step_at (focus.NewWord begun x) ds fs k s ts h = aliases.new_word_at file last text begun x ds fs h.0 h.1 k s ts h.2 h.3
  step_at (focus.NewEquals begun x) ds fs k s ts h = aliases.new_equals_at file last text begun x ds fs h.0 h.1 h.2 k s ts h.3 h.4 h.5
  step_at (focus.NewEqualsEquals begun x) ds fs k s ts h = aliases.new_equals_equals_at file last text begun x ds fs h.0 h.1 h.2 h.3 k s ts h.4 h.5 h.6 h.7
  step_at (focus.NewOperator begun o) ds fs k s ts h = aliases.new_operator_at file last text begun o h.0 ds fs (extended_at o k s) k s ts refl h.1 h.2
  step_at (focus.NewName begun new) ds fs k s ts h = aliases.new_whole file last text begun new ds fs k s ts h
  step_at (focus.OldWord begun new x capital) ds fs k s ts h = aliases.old_word_at file last text begun new x capital ds fs h.0 h.1 k s ts h.2 h.3 h.4
  step_at (focus.OldOperator begun new o) ds fs k s ts h = aliases.old_operator_at file last text begun new o h.0 ds fs (extended_at o k s) k s ts refl h.1 h.2
  step_at (focus.OldName begun new old) ds fs k s ts h = aliases.old_whole file last text begun new old ds fs k s ts h
  step_at (focus.SelfWord begun) ds fs k s ts h = members.self_word_at file last text begun ds fs h.0 k s ts h.1
  step_at (focus.SelfDot begun) ds fs k s ts h = members.self_dot_at file last text begun ds fs h.0 h.1 k s ts h.2
  step_at (focus.Variable begun single x) ds fs k s ts h = members.variable_name_at file last text begun single x ds fs h.0 h.1 k s ts h.2 h.3
  step_at (focus.Typed p i) ds fs k s ts h = typing.type_at file last text p i ds fs k s ts h

  -- ---- the end of the text

  parts_end : (ds : PlainDecls) (fs : List Frame) → PartsAt file last text ds fs [] → EndAt file last text (whole_file file (Some (state_of focus.Parts ds fs)))
  parts_end ds [] h = h ds end_of_file
  parts_end ds (f ∷ fs) h = tt

  end_at : (f : Focus) (ds : PlainDecls) (fs : List Frame) → StateAt file last text (state_of f ds fs) [] → EndAt file last text (whole_file file (settled file f last ds fs))
  end_at focus.Parts ds fs h = parts_end ds fs h
  end_at (focus.Typed p i) ds fs h = typing.type_ends file last text p i ds fs h
  end_at _ ds fs h = tt

  reads_at : (ts : List Token) (m : State) (ds : PlainDecls) → StateAt file last text m ts → reads (next file) (final file last) m ts ≡ Some ds → File file last decl.no_decls ds text
  unfolding reads
  reads_at [] m ds h e = subst (λ o. EndAt file last text o) e (end_at m.focus m.decls m.frames h)
  reads_at (c ∷ ts) m ds h e = go (next file m c) (step_at m.focus m.decls m.frames c.kind c.spot ts h) e (λ n. reads_at ts n ds)
    where
      go : (o : Option State) → StepAt file last text o ts → option_and_then (λ n. reads (next file) (final file last) n ts) o ≡ Some ds
          → ((n : State) → StateAt file last text n ts → reads (next file) (final file last) n ts ≡ Some ds → File file last decl.no_decls ds text) → File file last decl.no_decls ds text
      go None h e read = absurd (cc)
      go (Some n) h e read = read n h e

-- tokens that are read as declarations spell them
pub sound : (file e : ℕ) (ds : PlainDecls) (ts : List Token) → reads (next file) (final file e) start_of_file ts ≡ Some ds → File file e decl.no_decls ds ts
sound file e ds ts is = reads_at file e ts ts start_of_file ds (λ all d. d) is
