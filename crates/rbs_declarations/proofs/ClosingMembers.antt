-- Members are finished, from the word that begins one on.
use Rattle.std.proofs.Common.{ℕ, ◌≡◌, refl, ◌∙◌, ap, Bool, true, false, if◌then◌else◌, List, [], ◌∷◌, Option, Some, None, arith}
use Rattle.rbs_terminals.specs.declared.token.Mark.TheVariants as mark
use Rattle.rbs_terminals.specs.declared.token.Keyword.TheVariants as keyword
use Rattle.rbs_terminals.specs.declared.token.Kind.TheVariants as kind
use Rattle.sig_model.specs.declared.ty.TypeName.{TypeName}
use Rattle.sig_model.specs.declared.decl.Vis.{Vis}
use Rattle.sig_model.specs.declared.decl.AttrKind.{AttrKind}
use Rattle.sig_model.specs.declared.decl.MixKind.{MixKind}
use Rattle.sig_model.specs.declared.decl.MixKind.TheVariants as mixing
use Rattle.sig_model.specs.PlainTy as plain
use Rattle.sig_model.specs.PlainMember.{mixin, alias, section}
use Rattle.sig_model.specs.PlainDecl.{PlainDecls}
use Rattle.rbs_types.specs.Symbols.{token, sign, word}
use Rattle.rbs_types.specs.Parts.{grown, no_name}
use Rattle.rbs_types.specs.Grammar.{of_class, of_interface}
use Rattle.rbs_types.specs.Machine.{start}
use Rattle.rbs_types.proofs.Closing.{here}
use Rattle.rbs_declarations.specs.declared.operators.Operator.{Operator}
use Rattle.rbs_declarations.specs.declared.operators.Operator.TheVariants as operator
use Rattle.rbs_declarations.specs.declared.state.Begun.{Begun}
use Rattle.rbs_declarations.specs.declared.state.Step.{Step}
use Rattle.rbs_declarations.specs.declared.state.Step.TheVariants as step_at
use Rattle.rbs_declarations.specs.declared.state.Sort.TheVariants as sort
use Rattle.rbs_declarations.specs.declared.state.Frame.{Frame}
use Rattle.rbs_declarations.specs.declared.state.Signature.{Signature}
use Rattle.rbs_declarations.specs.declared.state.Focus.TheVariants as focus
use Rattle.rbs_declarations.specs.Operators.{operator_text, is_operator}
use Rattle.rbs_declarations.specs.Words.{extended_at}
use Rattle.rbs_declarations.specs.Machine.{state_of, naming_of, naming_on, Site, in_file, in_class, in_interface, site_in, site_of, mixin_use, begun_at, keyword_begins, constant_begins, then_part, signed, text_of_self, double_equals, with_equals, after_method_name, operator_ended, mixin_goes, with_alias, after_new}
use Rattle.rbs_declarations.proofs.Closes.{Closes, first, member_ends, capital, underscored, small_word}
use Rattle.rbs_declarations.proofs.ClosingTypes.{in_attribute, in_variable}
use Rattle.rbs_declarations.proofs.ClosingHeadings.{finish_name, finish_overload}

colon_behind : (o : Operator) → extended_at o (kind.Mark mark.Colon) here ≡ None
colon_behind operator.Plus = refl
colon_behind _ = refl

-- In the file of this number.
module _ (file : ℕ) where
  -- ---- methods

  pub finish_method_name : (sig : Signature) (ds : PlainDecls) (fs : List Frame) → Closes file (state_of (focus.MethodName sig) ds fs)
  finish_method_name sig ds fs = first file (sign mark.Colon here) (record { goes = refl; tall = omega arith; far = omega arith; small = tt }) (finish_overload file sig [] ds fs)

  pub finish_method_word : (sig : Signature) (ds : PlainDecls) (fs : List Frame) → Closes file (state_of (focus.MethodWord sig) ds fs)
  finish_method_word sig ds fs = first file (sign mark.Colon here) (record { goes = refl; tall = omega arith; far = omega arith; small = tt }) (finish_overload file sig [] ds fs)

  method_operator_ends : (begun : Begun) (v : Option Vis) (single : Bool) (o : Operator) (ds : PlainDecls) (fs : List Frame) → is_operator o ≡ true → Closes file (state_of (focus.MethodOperator begun v single o) ds fs)
  method_operator_ends begun v single o ds fs e =
      let sig : Signature = signed file begun v single (operator_text o) in
      first file (sign mark.Colon here)
      (record {
        goes = ap (λ x. operator_ended file begun v single o ds fs (kind.Mark mark.Colon) x) (colon_behind o) ∙ ap (λ b. if b then after_method_name file sig ds fs (kind.Mark mark.Colon) else None) e;
        tall = omega arith;
        far = omega arith;
        small = tt;
      })
      (finish_overload file sig [] ds fs)

  pub finish_method_operator : (begun : Begun) (v : Option Vis) (single : Bool) (o : Operator) (ds : PlainDecls) (fs : List Frame) → Closes file (state_of (focus.MethodOperator begun v single o) ds fs)
  finish_method_operator begun v single operator.Assign ds fs =
      first file (sign mark.Equals here) (record { goes = refl; tall = omega arith; far = omega arith; small = tt }) (method_operator_ends begun v single operator.Equal ds fs refl)
  finish_method_operator begun v single operator.Open ds fs =
      first file (sign mark.CloseSquare here) (record { goes = refl; tall = omega arith; far = omega arith; small = tt }) (method_operator_ends begun v single operator.Index ds fs refl)
  finish_method_operator begun v single o ds fs = method_operator_ends begun v single o ds fs refl

  pub finish_method_start : (begun : Begun) (v : Option Vis) (single : Bool) (ds : PlainDecls) (fs : List Frame) → Closes file (state_of (focus.MethodStart begun v single) ds fs)
  finish_method_start begun v single ds fs =
      first file small_word (record { goes = refl; tall = omega arith; far = omega arith; small = tt }) (finish_method_word (signed file begun v single (97 ∷ [])) ds fs)

  pub finish_def : (begun : Begun) (v : Option Vis) (ds : PlainDecls) (fs : List Frame) → Closes file (state_of (focus.Def begun v) ds fs)
  finish_def begun v ds fs = first file small_word (record { goes = refl; tall = omega arith; far = omega arith; small = tt }) (finish_method_word (signed file begun v false (97 ∷ [])) ds fs)

  -- `self` as the name of the method
  pub finish_def_self : (begun : Begun) (v : Option Vis) (ds : PlainDecls) (fs : List Frame) → Closes file (state_of (focus.DefSelf begun v) ds fs)
  finish_def_self begun v ds fs = first file (sign mark.Colon here) (record { goes = refl; tall = omega arith; far = omega arith; small = tt }) (finish_overload file (signed file begun v false text_of_self) [] ds fs)

  -- ---- attributes, instance variables and sections

  pub finish_attribute_name : (begun : Begun) (v : Option Vis) (a : AttrKind) (w : List ℕ) (ds : PlainDecls) (fs : List Frame) → Closes file (state_of (focus.AttributeName begun v a w) ds fs)
  finish_attribute_name begun v a w ds fs = first file (sign mark.Colon here) (record { goes = refl; tall = omega arith; far = omega arith; small = tt }) (in_attribute file begun v a w start ds fs)

  pub finish_attribute : (begun : Begun) (v : Option Vis) (a : AttrKind) (ds : PlainDecls) (fs : List Frame) → Closes file (state_of (focus.Attribute begun v a) ds fs)
  finish_attribute begun v a ds fs = first file small_word (record { goes = refl; tall = omega arith; far = omega arith; small = tt }) (finish_attribute_name begun v a (97 ∷ []) ds fs)

  pub finish_variable : (begun : Begun) (single : Bool) (w : List ℕ) (ds : PlainDecls) (fs : List Frame) → Closes file (state_of (focus.Variable begun single w) ds fs)
  finish_variable begun single w ds fs = first file (sign mark.Colon here) (record { goes = refl; tall = omega arith; far = omega arith; small = tt }) (in_variable file begun single w start ds fs)

  pub finish_self_dot : (begun : Begun) (ds : PlainDecls) (fs : List Frame) → Closes file (state_of (focus.SelfDot begun) ds fs)
  finish_self_dot begun ds fs = first file (token (kind.Variable (97 ∷ [])) here) (record { goes = refl; tall = omega arith; far = omega arith; small = tt }) (finish_variable begun true (97 ∷ []) ds fs)

  pub finish_self_word : (begun : Begun) (ds : PlainDecls) (fs : List Frame) → Closes file (state_of (focus.SelfWord begun) ds fs)
  finish_self_word begun ds fs = first file (sign mark.Dot here) (record { goes = refl; tall = omega arith; far = omega arith; small = tt }) (finish_self_dot begun ds fs)

  pub finish_visible : (begun : Begun) (v : Vis) (e : ℕ) (ds : PlainDecls) (g : Frame) (fs : List Frame) → Closes file (state_of (focus.Visible begun v e) ds (g ∷ fs))
  finish_visible begun v e ds g fs = member_ends file (focus.Visible begun v e) begun e (section v) ds g fs refl (omega arith)

  -- ---- mixins

  pub finish_mixin_named : (begun : Begun) (m : MixKind) (n : TypeName) (ds : PlainDecls) (g : Frame) (fs : List Frame) → Closes file (state_of (focus.MixinNamed begun m n) ds (g ∷ fs))
  finish_mixin_named begun m n ds g fs = member_ends file (focus.MixinNamed begun m n) begun 0 (mixin m (plain.name n plain.no_tys)) ds g fs refl (omega arith)

  class_mixin : (begun : Begun) (m : MixKind) (n : TypeName) (ds : PlainDecls) (g : Frame) (fs : List Frame) → mixin_use (site_in g.heading) ≡ of_class
      → Closes file (state_of (focus.Mixin begun m (naming_of n step_at.Upper)) ds (g ∷ fs))
  class_mixin begun m n ds g fs e =
      member_ends file (focus.Mixin begun m (naming_of n step_at.Upper)) begun 0 (mixin m (plain.name n plain.no_tys)) ds g fs
      (ap (λ u. mixin_goes file begun m (naming_on u (naming_of n step_at.Upper) (kind.Keyword keyword.End) here) ds (g ∷ fs) (kind.Keyword keyword.End) here) e) (omega arith)

  interface_mixin : (begun : Begun) (m : MixKind) (n : TypeName) (ds : PlainDecls) (g : Frame) (fs : List Frame) → mixin_use (site_in g.heading) ≡ of_interface
      → Closes file (state_of (focus.Mixin begun m (naming_of n step_at.Scope)) ds (g ∷ fs))
  interface_mixin begun m n ds g fs e =
      first file underscored
      (record {
        goes = ap (λ u. mixin_goes file begun m (naming_on u (naming_of n step_at.Scope) (kind.Interface (95 ∷ 65 ∷ [])) here) ds (g ∷ fs) (kind.Interface (95 ∷ 65 ∷ [])) here) e;
        tall = omega arith;
        far = omega arith;
        small = tt;
      })
      (finish_mixin_named begun m (grown n (95 ∷ 65 ∷ [])) ds g fs)

  mixin_in_class : (begun : Begun) (m : MixKind) (n : TypeName) (s : Step) (ds : PlainDecls) (g : Frame) (fs : List Frame) → mixin_use (site_in g.heading) ≡ of_class
      → Closes file (state_of (focus.Mixin begun m (naming_of n s)) ds (g ∷ fs))
  mixin_in_class begun m n step_at.Upper ds g fs e = class_mixin begun m n ds g fs e
  mixin_in_class begun m n step_at.Scope ds g fs e = first file capital (record { goes = refl; tall = omega arith; far = omega arith; small = tt }) (class_mixin begun m (grown n (65 ∷ [])) ds g fs e)
  mixin_in_class begun m n step_at.Start ds g fs e = first file capital (record { goes = refl; tall = omega arith; far = omega arith; small = tt }) (class_mixin begun m (grown n (65 ∷ [])) ds g fs e)

  mixin_in_interface : (begun : Begun) (m : MixKind) (n : TypeName) (s : Step) (ds : PlainDecls) (g : Frame) (fs : List Frame) → mixin_use (site_in g.heading) ≡ of_interface
      → Closes file (state_of (focus.Mixin begun m (naming_of n s)) ds (g ∷ fs))
  mixin_in_interface begun m n step_at.Upper ds g fs e = first file (sign mark.Scope here) (record { goes = refl; tall = omega arith; far = omega arith; small = tt }) (interface_mixin begun m n ds g fs e)
  mixin_in_interface begun m n step_at.Scope ds g fs e = interface_mixin begun m n ds g fs e
  mixin_in_interface begun m n step_at.Start ds g fs e =
      first file underscored
      (record {
        goes = ap (λ u. mixin_goes file begun m (naming_on u (naming_of n step_at.Start) (kind.Interface (95 ∷ 65 ∷ [])) here) ds (g ∷ fs) (kind.Interface (95 ∷ 65 ∷ [])) here) e;
        tall = omega arith;
        far = omega arith;
        small = tt;
      })
      (finish_mixin_named begun m (grown n (95 ∷ 65 ∷ [])) ds g fs)

  pub finish_mixin : (begun : Begun) (m : MixKind) (n : TypeName) (s : Step) (ds : PlainDecls) (g : Frame) (fs : List Frame) → Closes file (state_of (focus.Mixin begun m (naming_of n s)) ds (g ∷ fs))
  finish_mixin begun m n s ds g fs = by_site (site_in g.heading) refl
    where
      by_site : (w : Site) → site_in g.heading ≡ w → Closes file (state_of (focus.Mixin begun m (naming_of n s)) ds (g ∷ fs))
      by_site in_interface e = mixin_in_interface begun m n s ds g fs (ap mixin_use e)
      by_site in_class e = mixin_in_class begun m n s ds g fs (ap mixin_use e)
      by_site in_file e = mixin_in_class begun m n s ds g fs (ap mixin_use e)

  -- ---- aliases of methods

  pub finish_old_word : (begun : Begun) (new w : List ℕ) (capital : Bool) (ds : PlainDecls) (g : Frame) (fs : List Frame) → Closes file (state_of (focus.OldWord begun new w capital) ds (g ∷ fs))
  finish_old_word begun new w true ds g fs = member_ends file (focus.OldWord begun new w true) begun 0 (alias new w) ds g fs refl (omega arith)
  finish_old_word begun new w false ds g fs = member_ends file (focus.OldWord begun new w false) begun 0 (alias new w) ds g fs refl (omega arith)

  pub finish_old_name : (begun : Begun) (new old : List ℕ) (ds : PlainDecls) (g : Frame) (fs : List Frame) → Closes file (state_of (focus.OldName begun new old) ds (g ∷ fs))
  finish_old_name begun new old ds g fs = member_ends file (focus.OldName begun new old) begun 0 (alias new old) ds g fs refl (omega arith)

  old_operator_ends : (begun : Begun) (new : List ℕ) (o : Operator) (ds : PlainDecls) (g : Frame) (fs : List Frame) → is_operator o ≡ true → Closes file (state_of (focus.OldOperator begun new o) ds (g ∷ fs))
  old_operator_ends begun new o ds g fs e =
      member_ends file (focus.OldOperator begun new o) begun 0 (alias new (operator_text o)) ds g fs
      (ap (λ b. if b then then_part file (Some (with_alias file begun new (operator_text o) 0 ds (g ∷ fs))) (kind.Keyword keyword.End) here else None) e) (omega arith)

  pub finish_old_operator : (begun : Begun) (new : List ℕ) (o : Operator) (ds : PlainDecls) (g : Frame) (fs : List Frame) → Closes file (state_of (focus.OldOperator begun new o) ds (g ∷ fs))
  finish_old_operator begun new operator.Assign ds g fs =
      first file (sign mark.Equals here) (record { goes = refl; tall = omega arith; far = omega arith; small = tt }) (old_operator_ends begun new operator.Equal ds g fs refl)
  finish_old_operator begun new operator.Open ds g fs =
      first file (sign mark.CloseSquare here) (record { goes = refl; tall = omega arith; far = omega arith; small = tt }) (old_operator_ends begun new operator.Index ds g fs refl)
  finish_old_operator begun new o ds g fs = old_operator_ends begun new o ds g fs refl

  pub finish_new_name : (begun : Begun) (new : List ℕ) (ds : PlainDecls) (g : Frame) (fs : List Frame) → Closes file (state_of (focus.NewName begun new) ds (g ∷ fs))
  finish_new_name begun new ds g fs = first file small_word (record { goes = refl; tall = omega arith; far = omega arith; small = tt }) (finish_old_word begun new (97 ∷ []) false ds g fs)

  new_operator_ends : (begun : Begun) (o : Operator) (ds : PlainDecls) (g : Frame) (fs : List Frame) → is_operator o ≡ true → Closes file (state_of (focus.NewOperator begun o) ds (g ∷ fs))
  new_operator_ends begun o ds g fs e =
      first file small_word
      (record { goes = ap (λ b. if b then after_new file begun (operator_text o) ds (g ∷ fs) (kind.Lower (97 ∷ [])) else None) e; tall = omega arith; far = omega arith; small = tt })
      (finish_old_word begun (operator_text o) (97 ∷ []) false ds g fs)

  pub finish_new_operator : (begun : Begun) (o : Operator) (ds : PlainDecls) (g : Frame) (fs : List Frame) → Closes file (state_of (focus.NewOperator begun o) ds (g ∷ fs))
  finish_new_operator begun operator.Assign ds g fs =
      first file (sign mark.Equals here) (record { goes = refl; tall = omega arith; far = omega arith; small = tt }) (new_operator_ends begun operator.Equal ds g fs refl)
  finish_new_operator begun operator.Open ds g fs =
      first file (sign mark.CloseSquare here) (record { goes = refl; tall = omega arith; far = omega arith; small = tt }) (new_operator_ends begun operator.Index ds g fs refl)
  finish_new_operator begun o ds g fs = new_operator_ends begun o ds g fs refl

  pub finish_new_word : (begun : Begun) (w : List ℕ) (ds : PlainDecls) (g : Frame) (fs : List Frame) → Closes file (state_of (focus.NewWord begun w) ds (g ∷ fs))
  finish_new_word begun w ds g fs = first file small_word (record { goes = refl; tall = omega arith; far = omega arith; small = tt }) (finish_old_word begun w (97 ∷ []) false ds g fs)

  pub finish_new_equals : (begun : Begun) (w : List ℕ) (ds : PlainDecls) (g : Frame) (fs : List Frame) → Closes file (state_of (focus.NewEquals begun w) ds (g ∷ fs))
  finish_new_equals begun w ds g fs = first file small_word (record { goes = refl; tall = omega arith; far = omega arith; small = tt }) (finish_old_word begun (with_equals w) (97 ∷ []) false ds g fs)

  pub finish_new_equals_equals : (begun : Begun) (w : List ℕ) (ds : PlainDecls) (g : Frame) (fs : List Frame) → Closes file (state_of (focus.NewEqualsEquals begun w) ds (g ∷ fs))
  finish_new_equals_equals begun w ds g fs = member_ends file (focus.NewEqualsEquals begun w) begun 0 (alias w double_equals) ds g fs refl (omega arith)

  pub finish_alias : (begun : Begun) (ds : PlainDecls) (g : Frame) (fs : List Frame) → Closes file (state_of (focus.Alias begun) ds (g ∷ fs))
  finish_alias begun ds g fs = first file small_word (record { goes = refl; tall = omega arith; far = omega arith; small = tt }) (finish_new_word begun (97 ∷ []) ds g fs)

  -- ---- annotations: behind them stands a constant, or in an interface an `include`

  noted_constant : (begun : Begun) (ds : PlainDecls) (fs : List Frame) (w : Site) → site_of fs ≡ w
      → constant_begins file w (begun_at file begun.notes here) (grown no_name (65 ∷ [])) step_at.Upper ds fs ≡ constant_begins file in_file (begun_at file begun.notes here) (grown no_name (65 ∷ [])) step_at.Upper ds fs
      → Closes file (state_of (focus.Noted begun) ds fs)
  noted_constant begun ds fs w e same =
      first file capital
      (record { goes = ap (λ x. constant_begins file x (begun_at file begun.notes here) (grown no_name (65 ∷ [])) step_at.Upper ds fs) e ∙ same; tall = omega arith; far = omega arith; small = tt })
      (finish_name file (begun_at file begun.notes here) sort.Constant (grown no_name (65 ∷ [])) step_at.Upper ds fs)

  noted_mixin : (begun : Begun) (ds : PlainDecls) (g : Frame) (fs : List Frame) → site_in g.heading ≡ in_interface → Closes file (state_of (focus.Noted begun) ds (g ∷ fs))
  noted_mixin begun ds g fs e =
      first file (word keyword.Include here)
      (record { goes = ap (λ w. keyword_begins file w (begun_at file begun.notes here) ds (g ∷ fs) keyword.Include here) e; tall = omega arith; far = omega arith; small = tt })
      (finish_mixin (begun_at file begun.notes here) mixing.Include no_name step_at.Start ds g fs)

  pub finish_noted : (begun : Begun) (ds : PlainDecls) (fs : List Frame) → Closes file (state_of (focus.Noted begun) ds fs)
  finish_noted begun ds [] = noted_constant begun ds [] in_file refl refl
  finish_noted begun ds (g ∷ fs) = by_site (site_in g.heading) refl
    where
      by_site : (w : Site) → site_in g.heading ≡ w → Closes file (state_of (focus.Noted begun) ds (g ∷ fs))
      by_site in_interface e = noted_mixin begun ds g fs e
      by_site in_class e = noted_constant begun ds (g ∷ fs) in_class e refl
      by_site in_file e = noted_constant begun ds (g ∷ fs) in_file e refl
