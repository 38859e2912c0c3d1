-- Members, and the names of methods.
use Rattle.std.specs.Prelude.{ℕ, ◌≡◌, refl, Bool, true, false, ◌&&◌, if◌then◌else◌, List, ◌∷◌, Option, Some, None}
use Rattle.std.proofs.Math.Bool.{and-false}
use Rattle.rbs_terminals.specs.declared.token.Token.{Token}
use Rattle.rbs_terminals.specs.declared.token.Spot.{Spot}
use Rattle.rbs_terminals.specs.declared.token.Mark.TheVariants as mark
use Rattle.rbs_terminals.specs.declared.token.Keyword.{Keyword}
use Rattle.rbs_terminals.specs.declared.token.Keyword.TheVariants as keyword
use Rattle.rbs_terminals.specs.declared.token.Kind.{Kind}
use Rattle.rbs_terminals.specs.declared.token.Kind.TheVariants as kind
use Rattle.rbs_terminals.specs.Kinds.{lower_of}
use Rattle.sig_model.specs.declared.place.Place.{Place}
use Rattle.sig_model.specs.declared.ty.TypeName.{TypeName}
use Rattle.sig_model.specs.declared.decl.Notes.{Notes}
use Rattle.sig_model.specs.declared.decl.Vis.{Vis}
use Rattle.sig_model.specs.declared.decl.AttrKind.{AttrKind}
use Rattle.sig_model.specs.declared.decl.MixKind.{MixKind}
use Rattle.sig_model.specs.PlainTy as plain
use Rattle.sig_model.specs.PlainTy.{PlainTy}
use Rattle.sig_model.specs.PlainMember.{PlainMember, attr, mixin as mixed, ivar, section}
use Rattle.sig_model.specs.PlainDecl.{PlainDecl, PlainDecls}
use Rattle.rbs_types.specs.Symbols.{token, sign, word, on_line}
use Rattle.rbs_types.specs.Grammar.{Use, a_type, arguments_of}
use Rattle.rbs_types.proofs.Sound.{at_start}
use Rattle.rbs_declarations.specs.declared.operators.Operator.{Operator}
use Rattle.rbs_declarations.specs.declared.state.Begun.{Begun}
use Rattle.rbs_declarations.specs.declared.state.Frame.{Frame}
use Rattle.rbs_declarations.specs.declared.state.Signature.{Signature}
use Rattle.rbs_declarations.specs.declared.state.State.{State}
use Rattle.rbs_declarations.specs.Operators.{operator_text, is_operator}
use Rattle.rbs_declarations.specs.Words.{attribute_of, method_word, is_capital, extended_at, takes_vis, end_at}
use Rattle.rbs_declarations.specs.Grammar.{MethodName, bare_word, Single, of_instances, of_itself, attribute, variable}
use Rattle.rbs_declarations.specs.Machine.{Progress, further, whole, before, stuck, mixin_use, site_of, text_of_self, place_from, signed, after_method_name, ending_at, method_ending, after_method_word, operator_ended, operator_begins, operator_at, method_begins, method_start, after_def, after_def_self, attribute_named, after_attribute_name, after_mixin_name, mixin_goes, visible_attribute, visible_member, after_vis, with_section, then_part, after_self_word, after_self_dot, after_variable}
use Rattle.rbs_declarations.proofs.Places.{ProgressAt, WholeNameAt, OperatorAt, MemberAt, MethodAt, DefAt, VisAt, VisibleAt, MixedAt, BehindDecl, BehindMember, StepAt}
use Rattle.rbs_declarations.proofs.NamePlaces.{in_name, bare_name, name_applied, ended_word, operator_begins_at, operator_goes_on, operator_ends}
use Rattle.rbs_declarations.proofs.PartPlaces.{def_at, then_membered}

module _ (file last : ℕ) (text : List Token) where
  abbrev Declared : PlainDecls → List Frame → PlainDecl → List Token → Type 0
  Declared = BehindDecl file last text

  abbrev Membered : PlainDecls → List Frame → Place → Notes → PlainMember → List Token → Type 0
  Membered = BehindMember file last text

  abbrev Next : Option State → List Token → Type 0
  Next = StepAt file last text

  abbrev MemberIn : PlainDecls → List Frame → Begun → List Token → Type 0
  MemberIn ds fs = MemberAt file last (Declared ds fs) (Membered ds fs)

  abbrev MethodIn : PlainDecls → List Frame → Begun → Option Vis → Bool → List Token → Type 0
  MethodIn ds fs = MethodAt file last (Declared ds fs) (Membered ds fs)

  abbrev DefIn : PlainDecls → List Frame → Begun → Option Vis → List Token → Type 0
  DefIn ds fs = DefAt file last (Declared ds fs) (Membered ds fs)

  abbrev VisIn : PlainDecls → List Frame → Begun → Option Vis → List Token → Type 0
  VisIn ds fs = VisAt file last (Declared ds fs) (Membered ds fs)

  -- ---- methods

  -- the name of a method is whole
  pub method_name_at : (sig : Signature) (m : List Token) (ds : PlainDecls) (fs : List Frame) (k : Kind) (s : Spot) (ts : List Token) → MethodIn ds fs sig.begun sig.vis sig.single m → MethodName sig.name m (token k s ∷ ts)
      → Next (after_method_name file sig ds fs k) ts
  method_name_at sig m ds fs (kind.Mark mark.Colon) s ts h d = h sig.name s ts d
  method_name_at sig m ds fs _ s ts h d = tt

  -- a colon behind a word, which is the name
  bare_word_at : (sig : Signature) (ds : PlainDecls) (fs : List Frame) (k : Kind) (s : Spot) (k' : Kind) (s' : Spot) (ts : List Token) → method_word k ≡ Some sig.name
      → MethodIn ds fs sig.begun sig.vis sig.single (token k s ∷ token k' s' ∷ ts) → Next (after_method_name file sig ds fs k') ts
  bare_word_at sig ds fs k s (kind.Mark mark.Colon) s' ts w h = h sig.name s' ts (bare_word k sig.name s w (and-false (is_capital k)))
  bare_word_at sig ds fs k s _ s' ts w h = tt

  method_word_ending : (sig : Signature) (ds : PlainDecls) (fs : List Frame) (o : Option (List ℕ)) (k : Kind) (s : Spot) (k' : Kind) (s' : Spot) (ts : List Token) → ending_at file k' s' ≡ o → method_word k ≡ Some sig.name
      → MethodIn ds fs sig.begun sig.vis sig.single (token k s ∷ token k' s' ∷ ts) → Next (method_ending file sig ds fs k' o) ts
  method_word_ending sig ds fs (Some e) k s k' s' ts e' w h = (token k s ∷ token k' s' ∷ ts, h, ended_word file k sig.name e s k' s' ts w e')
  method_word_ending sig ds fs None k s k' s' ts e' w h = bare_word_at sig ds fs k s k' s' ts w h

  pub method_word_at : (sig : Signature) (ds : PlainDecls) (fs : List Frame) (k : Kind) (s : Spot) (k' : Kind) (s' : Spot) (ts : List Token) → method_word k ≡ Some sig.name
      → MethodIn ds fs sig.begun sig.vis sig.single (token k s ∷ token k' s' ∷ ts) → Next (after_method_word file sig ds fs k' s') ts
  method_word_at sig ds fs k s k' s' ts w h = method_word_ending sig ds fs (ending_at file k' s') k s k' s' ts refl w h

  method_operator_end : (begun : Begun) (v : Option Vis) (single : Bool) (o : Operator) (m : List Token) (ds : PlainDecls) (fs : List Frame) (k : Kind) (s : Spot) (ts : List Token) (b : Bool) → is_operator o ≡ b
      → extended_at o k s ≡ None → MethodIn ds fs begun v single m → OperatorAt o m (token k s ∷ ts) → Next (if b then after_method_name file (signed file begun v single (operator_text o)) ds fs k else None) ts
  method_operator_end begun v single o m ds fs k s ts true e e' h g =
      method_name_at (signed file begun v single (operator_text o)) m ds fs k s ts h (operator_ends o m (token k s ∷ ts) e e' g)
  method_operator_end begun v single o m ds fs k s ts false e e' h g = tt

  pub method_operator_at : (begun : Begun) (v : Option Vis) (single : Bool) (o : Operator) (m : List Token) (ds : PlainDecls) (fs : List Frame) (x : Option Operator) (k : Kind) (s : Spot) (ts : List Token)
      → extended_at o k s ≡ x → MethodIn ds fs begun v single m → OperatorAt o m (token k s ∷ ts) → Next (operator_ended file begun v single o ds fs k x) ts
  method_operator_at begun v single o m ds fs (Some o') k s ts e h g = (m, h, operator_goes_on o o' m k s ts e g)
  method_operator_at begun v single o m ds fs None k s ts e h g = method_operator_end begun v single o m ds fs k s ts (is_operator o) refl e h g

  operator_or_none : (begun : Begun) (v : Option Vis) (single : Bool) (ds : PlainDecls) (fs : List Frame) (x : Option Operator) (k : Kind) (s : Spot) (ts : List Token) → operator_at file k ≡ x
      → MethodIn ds fs begun v single (token k s ∷ ts) → Next (operator_begins file begun v single ds fs x) ts
  operator_or_none begun v single ds fs (Some o) k s ts e h = (token k s ∷ ts, h, operator_begins_at file o k s ts e)
  operator_or_none begun v single ds fs None k s ts e h = tt

  word_or_operator : (begun : Begun) (v : Option Vis) (single : Bool) (ds : PlainDecls) (fs : List Frame) (x : Option (List ℕ)) (k : Kind) (s : Spot) (ts : List Token) → method_word k ≡ x
      → MethodIn ds fs begun v single (token k s ∷ ts) → Next (method_begins file begun v single ds fs k x) ts
  word_or_operator begun v single ds fs (Some x) k s ts e h = (k, s, e, h)
  word_or_operator begun v single ds fs None k s ts e h = operator_or_none begun v single ds fs (operator_at file k) k s ts refl h

  pub method_start_at : (begun : Begun) (v : Option Vis) (single : Bool) (ds : PlainDecls) (fs : List Frame) (k : Kind) (s : Spot) (ts : List Token) → MethodIn ds fs begun v single (token k s ∷ ts)
      → Next (method_start file begun v single ds fs k) ts
  method_start_at begun v single ds fs k s ts h = word_or_operator begun v single ds fs (method_word k) k s ts refl h

  pub in_def : (begun : Begun) (v : Option Vis) (ds : PlainDecls) (fs : List Frame) (k : Kind) (s : Spot) (ts : List Token) → DefIn ds fs begun v (token k s ∷ ts) → Next (after_def file begun v ds fs k) ts
  in_def begun v ds fs (kind.Keyword keyword.SelfWord) s ts h = (s, h)
  in_def begun v ds fs k s ts h = method_start_at begun v false ds fs k s ts (h false (token k s ∷ ts) of_instances)

  pub in_def_self : (begun : Begun) (v : Option Vis) (ds : PlainDecls) (fs : List Frame) (k : Kind) (s s' : Spot) (ts : List Token) → DefIn ds fs begun v (word keyword.SelfWord s' ∷ token k s ∷ ts)
      → Next (after_def_self file begun v ds fs k s) ts
  in_def_self begun v ds fs (kind.Mark mark.Dot) s s' ts h = h true ts (of_itself s' s)
  in_def_self begun v ds fs k s s' ts h =
      method_word_at (signed file begun v false (text_of_self)) ds fs (kind.Keyword keyword.SelfWord) s' k s ts refl (h false (word keyword.SelfWord s' ∷ token k s ∷ ts) of_instances)

  -- ---- attributes and variables

  pub attribute_at : (begun : Begun) (v : Option Vis) (a : AttrKind) (ds : PlainDecls) (fs : List Frame) (x : Option (List ℕ)) (k : Keyword) (s : Spot) (k' : Kind) (s' : Spot) (ts : List Token) → attribute_of k ≡ Some a
      → lower_of k' ≡ x → VisIn ds fs begun v (word k s ∷ token k' s' ∷ ts) → Next (attribute_named file begun v a ds fs x) ts
  attribute_at begun v a ds fs (Some x) k s k' s' ts e e' h = (k, s, k', s', e, e', h)
  attribute_at begun v a ds fs None k s k' s' ts e e' h = tt

  pub attribute_name_at : (begun : Begun) (v : Option Vis) (a : AttrKind) (x : List ℕ) (ds : PlainDecls) (fs : List Frame) (k : Keyword) (s : Spot) (k' : Kind) (s' : Spot) (k'' : Kind) (s'' : Spot) (ts : List Token)
      → attribute_of k ≡ Some a → lower_of k' ≡ Some x → VisIn ds fs begun v (word k s ∷ token k' s' ∷ token k'' s'' ∷ ts) → Next (after_attribute_name file begun v a x ds fs k'') ts
  attribute_name_at begun v a x ds fs k s k' s' (kind.Mark mark.Colon) s'' ts e e' h =
      (a_type, ts, at_start a_type ts, λ t rest d. h.1 (attr v a x t) (end_at last rest) rest (attribute k a k' x s s' s'' h.2 e e' d))
  attribute_name_at begun v a x ds fs k s k' s' _ s'' ts e e' h = tt

  pub variable_name_at : (begun : Begun) (single : Bool) (x : List ℕ) (ds : PlainDecls) (fs : List Frame) (m : List Token) (s : Spot) (k : Kind) (s' : Spot) (ts : List Token) → MemberIn ds fs begun m
      → Single single m (token (kind.Variable x) s ∷ token k s' ∷ ts) → Next (after_variable file begun single x ds fs k) ts
  variable_name_at begun single x ds fs m s (kind.Mark mark.Colon) s' ts h a = (a_type, ts, at_start a_type ts, λ t rest d. h (ivar single x t) (end_at last rest) rest (variable x s s' a d))
  variable_name_at begun single x ds fs m s _ s' ts h a = tt

  pub self_word_at : (begun : Begun) (ds : PlainDecls) (fs : List Frame) (s : Spot) (k : Kind) (s' : Spot) (ts : List Token) → MemberIn ds fs begun (word keyword.SelfWord s ∷ token k s' ∷ ts)
      → Next (after_self_word file begun ds fs k) ts
  self_word_at begun ds fs s (kind.Mark mark.Dot) s' ts h = (s, s', h)
  self_word_at begun ds fs s _ s' ts h = tt

  pub self_dot_at : (begun : Begun) (ds : PlainDecls) (fs : List Frame) (s s' : Spot) (k : Kind) (s'' : Spot) (ts : List Token) → MemberIn ds fs begun (word keyword.SelfWord s ∷ sign mark.Dot s' ∷ token k s'' ∷ ts)
      → Next (after_self_dot file begun ds fs k) ts
  self_dot_at begun ds fs s s' (kind.Variable x) s'' ts h = (word keyword.SelfWord s ∷ sign mark.Dot s' ∷ token (kind.Variable x) s'' ∷ ts, s'', h, of_itself s s')
  self_dot_at begun ds fs s s' _ s'' ts h = tt

  -- ---- mixins

  abbrev MixedIn : PlainDecls → List Frame → Begun → MixKind → PlainTy → List Token → Type 0
  MixedIn ds fs = MixedAt file last (Declared ds fs) (Membered ds fs)

  pub mixin_name_at : (begun : Begun) (m : MixKind) (n : TypeName) (ds : PlainDecls) (fs : List Frame) (u : Use) (k : Kind) (s : Spot) (ts : List Token) → WholeNameAt u (MixedIn ds fs begun m) n (token k s ∷ ts)
      → Next (after_mixin_name file begun m n ds fs k s) ts
  mixin_name_at begun m n ds fs u (kind.Mark mark.OpenSquare) s ts h = (arguments_of n, ts, at_start (arguments_of n) ts, name_applied u (MixedIn ds fs begun m) n s ts h)
  mixin_name_at begun m n ds fs u k s ts h =
      then_membered file last text ds fs (place_from file begun s.before) begun.notes (mixed m (plain.name n plain.no_tys)) k s ts (bare_name u (MixedIn ds fs begun m) n (token k s ∷ ts) h)

  pub mixin_at : (begun : Begun) (m : MixKind) (g : Progress) (ds : PlainDecls) (fs : List Frame) (k : Kind) (s : Spot) (ts : List Token)
      → ProgressAt (mixin_use (site_of fs)) (WholeNameAt (mixin_use (site_of fs)) (MixedIn ds fs begun m)) g k s ts → Next (mixin_goes file begun m g ds fs k s) ts
  mixin_at begun m (further naming) ds fs k s ts h = in_name (mixin_use (site_of fs)) (WholeNameAt (mixin_use (site_of fs)) (MixedIn ds fs begun m)) naming.name naming.step ts h
  mixin_at begun m (whole n) ds fs k s ts h = h
  mixin_at begun m (before n) ds fs k s ts h = mixin_name_at begun m n ds fs (mixin_use (site_of fs)) k s ts h
  mixin_at begun m stuck ds fs k s ts h = tt

  -- ---- behind a visibility

  attribute_or_none : (begun : Begun) (v : Vis) (ds : PlainDecls) (fs : List Frame) (x : Option AttrKind) (k : Keyword) (s : Spot) (ts : List Token) → attribute_of k ≡ x → VisIn ds fs begun (Some v) (word k s ∷ ts)
      → Next (visible_attribute file begun v ds fs x) ts
  attribute_or_none begun v ds fs (Some a) k s ts e h = (k, s, e, h)
  attribute_or_none begun v ds fs None k s ts e h = tt

  visible_member_at : (begun : Begun) (v : Vis) (ds : PlainDecls) (fs : List Frame) (k : Kind) (s : Spot) (ts : List Token) → VisIn ds fs begun (Some v) (token k s ∷ ts) → Next (visible_member file begun v ds fs k) ts
  visible_member_at begun v ds fs (kind.Keyword keyword.Def) s ts h = def_at file last (Declared ds fs) (Membered ds fs) begun (Some v) s ts h
  visible_member_at begun v ds fs (kind.Keyword k) s ts h = attribute_or_none begun v ds fs (attribute_of k) k s ts refl h
  visible_member_at begun v ds fs _ s ts h = tt

  member_or_section : (begun : Begun) (v : Vis) (e : ℕ) (ds : PlainDecls) (fs : List Frame) (k : Kind) (s : Spot) (ts : List Token) (b : Bool) → (on_line s && takes_vis k) ≡ b
      → VisibleAt file last (Declared ds fs) (Membered ds fs) begun v e (token k s ∷ ts) → Next (if b then visible_member file begun v ds fs k else then_part file (Some (with_section file begun v e ds fs)) k s) ts
  member_or_section begun v e ds fs k s ts true b h = visible_member_at begun v ds fs k s ts (h.1 b)
  member_or_section begun v e ds fs k s ts false b h = then_membered file last text ds fs (place_from file begun e) begun.notes (section v) k s ts (h.0 b)

  pub vis_at : (begun : Begun) (v : Vis) (e : ℕ) (ds : PlainDecls) (fs : List Frame) (k : Kind) (s : Spot) (ts : List Token) → VisibleAt file last (Declared ds fs) (Membered ds fs) begun v e (token k s ∷ ts)
      → Next (after_vis file begun v e ds fs k s) ts
  vis_at begun v e ds fs k s ts h = member_or_section begun v e ds fs k s ts (on_line s && takes_vis k) refl h
