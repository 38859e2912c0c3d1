-- A state inside of a type is finished: the type is, and then what stands around it.
use Rattle.std.proofs.Common.{subst, max, ℕ, ◌+◌, ◌≤◌, ◌≡◌, refl, sym, ◌∙◌, ap, Bool, List, [], ◌∷◌, ◌++◌, Option, Some, length, option_and_then, arith}
use Rattle.rbs_terminals.specs.declared.token.Token.{Token}
use Rattle.rbs_terminals.specs.declared.token.Keyword.TheVariants as keyword
use Rattle.rbs_terminals.specs.declared.token.Kind.TheVariants as kind
use Rattle.sig_model.specs.declared.ty.TypeName.{TypeName}
use Rattle.sig_model.specs.declared.decl.Vis.{Vis}
use Rattle.sig_model.specs.declared.decl.AttrKind.{AttrKind}
use Rattle.sig_model.specs.declared.decl.MixKind.{MixKind}
use Rattle.sig_model.specs.PlainTy as plain
use Rattle.sig_model.specs.PlainTy.{PlainTy, PlainTys, PlainFun}
use Rattle.sig_model.specs.PlainMember.{PlainParam, PlainMethod, PlainMember, method, attr, mixin, ivar}
use Rattle.sig_model.specs.PlainDecl as decl
use Rattle.sig_model.specs.PlainDecl.{PlainDecl, PlainBody, PlainDecls}
use Rattle.rbs_types.specs.declared.state.State.{State as TypeState}
use Rattle.rbs_types.specs.Symbols.{word}
use Rattle.rbs_types.specs.Plains.{and_ty}
use Rattle.rbs_types.specs.Grammar.{a_function}
use Rattle.rbs_types.specs.Depth as depths
use Rattle.rbs_types.specs.Depth.{Depth}
use Rattle.rbs_types.specs.Needs as type_needs
use Rattle.rbs_types.specs.Limits.{IsSmall}
use Rattle.rbs_types.proofs.Closing.{here}
use Rattle.rbs_types.proofs.Depths.{depth_next}
use Rattle.rbs_types.proofs.Heights.{tallest_and}
use Rattle.rbs_types.proofs.Finishes.{FollowsAll}
use Rattle.viable_prefixes.specs.Runs.{reads, Each, OpenAtMost}
use Rattle.rbs_declarations.specs.declared.state.Begun.{Begun}
use Rattle.rbs_declarations.specs.declared.state.Heading.TheVariants as heading
use Rattle.rbs_declarations.specs.declared.state.Frame.{Frame}
use Rattle.rbs_declarations.specs.declared.state.Signature.{Signature}
use Rattle.rbs_declarations.specs.declared.state.Purpose.{Purpose}
use Rattle.rbs_declarations.specs.declared.state.Purpose.TheVariants as purpose
use Rattle.rbs_declarations.specs.declared.state.Focus.TheVariants as focus
use Rattle.rbs_declarations.specs.declared.state.State.{State}
use Rattle.rbs_declarations.specs.Grammar.{and_decl}
use Rattle.rbs_declarations.specs.Machine.{state_of, with_inner, place_from, settled_type, after_whole, after_final, typed_on, next, type_ended, whole_file, final, declared, membered, then_part}
use Rattle.rbs_declarations.specs.Heights.{member_height, body_height, decls_height}
use Rattle.rbs_declarations.specs.Needs.{frames_height, purpose_height, phrase_height, focus_height, purpose_open, reach}
use Rattle.rbs_declarations.proofs.Behind.{behind, open_at}
use Rattle.rbs_declarations.proofs.Valid.{Led}
use Rattle.rbs_declarations.proofs.Heights.{methods_and, inner_and, decls_and}
use Rattle.rbs_declarations.proofs.Closes.{Closes, at_end, frames_end, heading_ends, member_ends}
use Rattle.rbs_declarations.proofs.WholeTypes.{Leading, Whole, Completed, completed, is_function}

each_append : {T : Type 0} (P : T → Type 0) (xs ys : List T) → Each P xs → Each P ys → Each P (xs ++ ys)
each_append P [] ys h k = k
each_append P (x ∷ xs) ys h k = (h.0, each_append P xs ys h.1 k)

-- inside of a type that is read for this purpose
abbrev pub inside : Purpose → TypeState → PlainDecls → List Frame → State
inside p i ds fs = state_of (focus.Typed p i) ds fs

-- In the file of this number.
module _ (file : ℕ) where
  -- ---- up to where the type is whole

  -- the tokens of the type are read by the reader of types
  reads_on : (p : Purpose) (ds : PlainDecls) (fs : List Frame) (w : List Token) (i m : TypeState) → Leading i w m → (e : ℕ) (rest : List Token)
      → reads (next file) (final file e) (inside p i ds fs) (w ++ rest) ≡ reads (next file) (final file e) (inside p m ds fs) rest
  unfolding reads
  reads_on p ds fs [] i m g e rest = ap (λ x. reads (next file) (final file e) (inside p x ds fs) rest) g
  reads_on p ds fs (c ∷ w) i m g e rest =
      ap (λ o. option_and_then (λ x. reads (next file) (final file e) x (w ++ rest)) (typed_on file p i o ds fs c.kind c.spot)) g.1 ∙ reads_on p ds fs w g.0 m g.3 e rest

  -- and they open what they open there, on top of what is open around the type
  open_on : (p : Purpose) (ds : PlainDecls) (fs : List Frame) (few limit : ℕ) (w : List Token) (i m : TypeState) (rest : List Token) → Leading i w m
      → length fs + (purpose_open p + few) ≤ limit → depths.OpenAtMost few (type_needs.depth i) w → OpenAtMost (behind file) (open_at file) limit (Some (inside p m ds fs)) rest
      → OpenAtMost (behind file) (open_at file) limit (Some (inside p i ds fs)) (w ++ rest)
  open_on p ds fs few limit [] i m rest g h o k = subst (λ x. OpenAtMost (behind file) (open_at file) limit (Some (inside p x ds fs)) rest) (sym g) k
  open_on p ds fs few limit (c ∷ w) i m rest g h o k =
      let is : depths.behind (type_needs.depth i) c ≡ type_needs.depth g.0 = sym (depth_next i c g.0 g.1) in
      let sure : (type_needs.depth g.0).sure ≤ few = subst (λ d. d.sure ≤ few) is o.0 in
      let later : depths.OpenAtMost few (type_needs.depth g.0) w = subst (λ d. depths.OpenAtMost few d w) is o.1 in
      let open_here : open_at file (Some (inside p g.0 ds fs)) ≤ limit = omega arith in
      subst (λ n. (open_at file n ≤ limit) × OpenAtMost (behind file) (open_at file) limit n (w ++ rest)) (sym (ap (λ n. typed_on file p i n ds fs c.kind c.spot) g.1))
      (open_here, open_on p ds fs few limit w g.0 m rest g.3 h later k)

  -- The type is finished, and then what stands around it.
  pub closes_on : (p : Purpose) (i : TypeState) (ds : PlainDecls) (fs : List Frame) (c : Completed i) → Closes file (inside p c.m ds fs) → Closes file (inside p i ds fs)
  closes_on p i ds fs c f = record {
    w = c.w ++ f.w;
    ds = f.ds;
    alone = λ e. reads_on p ds fs c.w i c.m c.run e f.w ∙ f.alone e;
    tall = λ e. subst (λ n. decls_height (f.ds e) ≤ max (max (decls_height ds) (max (frames_height fs) (max (purpose_height p) (phrase_height p n)))) 1) c.tall (f.tall e);
    within = λ limit h.
        let far : reach (inside p c.m ds fs) ≤ limit = omega (arith, c.whole.shut, h) in
        open_on p ds fs (type_needs.reach i) limit c.w i c.m f.w c.run h c.within (f.within limit far);
    small = each_append IsSmall c.w f.w c.small f.small;
  }

  -- ---- where the type is whole

  -- what may stand behind a type goes behind it
  pub goes_behind : (p : Purpose) (m : TypeState) (t : PlainTy) (ds : PlainDecls) (fs : List Frame) → Whole m t → (c : Token) → FollowsAll (c ∷ []) → next file (inside p m ds fs) c ≡ after_whole file p t ds fs c.kind c.spot
  goes_behind p m t ds fs h c f = ap (λ o. typed_on file p m o ds fs c.kind c.spot) (h.refuses c f) ∙ ap (λ o. after_final file p o ds fs c.kind c.spot) h.final_is

  ends_behind : (p : Purpose) (m : TypeState) (t : PlainTy) (ds : PlainDecls) (fs : List Frame) → Whole m t → (e : ℕ) → final file e (inside p m ds fs) ≡ whole_file file (settled_type file p t e ds fs)
  ends_behind p m t ds fs h e = ap (λ o. whole_file file (type_ended file p o e ds fs)) h.final_is

  end_goes : (p : Purpose) (m : TypeState) (t : PlainTy) (ds : PlainDecls) (fs : List Frame) → Whole m t → next file (inside p m ds fs) (word keyword.End here) ≡ after_whole file p t ds fs (word keyword.End here).kind here
  end_goes p m t ds fs h = goes_behind p m t ds fs h (word keyword.End here) (tt, refl)

  -- the type ends a declaration
  declares : (p : Purpose) (begun : Begun) (b : PlainBody) (m : TypeState) (t : PlainTy) (ds : PlainDecls) (fs : List Frame) → Whole m t → body_height b ≤ max (purpose_height p) (phrase_height p (type_needs.need m))
      → after_whole file p t ds fs (kind.Keyword keyword.End) here ≡ then_part file (Some (declared file begun 0 b ds fs)) (kind.Keyword keyword.End) here
      → ((e : ℕ) → settled_type file p t e ds fs ≡ Some (declared file begun e b ds fs)) → Closes file (inside p m ds fs)
  declares p begun b m t ds [] h tall goes ends =
      let all : ℕ → PlainDecls = λ e. and_decl ds (decl.decl (place_from file begun e) begun.notes b) in
      at_end file (inside p m ds []) all (λ e. ends_behind p m t ds [] h e ∙ ap (whole_file file) (ends e)) (λ e. omega (arith, decls_and ds (decl.decl (place_from file begun e) begun.notes b), tall))
  declares p begun b m t ds (f ∷ fs) h tall goes ends =
      let d : PlainDecl = decl.decl (place_from file begun 0) begun.notes b in
      frames_end file fs (with_inner f d) ds (inside p m ds (f ∷ fs)) (end_goes p m t ds (f ∷ fs) h ∙ goes) (omega (arith, inner_and f.parts d, tall)) (omega arith)

  -- the type ends a member
  ends_member : (p : Purpose) (begun : Begun) (x : PlainMember) (m : TypeState) (t : PlainTy) (ds : PlainDecls) (fs : List Frame) → Whole m t → member_height x ≤ max (focus_height (focus.Typed p m)) 1
      → after_whole file p t ds fs (kind.Keyword keyword.End) here ≡ then_part file (Some (membered file begun 0 x ds fs)) (kind.Keyword keyword.End) here
      → ((e : ℕ) → settled_type file p t e ds fs ≡ Some (membered file begun e x ds fs)) → Closes file (inside p m ds fs)
  ends_member p begun x m t ds [] h tall goes ends =
      at_end file (inside p m ds []) (λ e. ds) (λ e. ends_behind p m t ds [] h e ∙ ap (whole_file file) (ends e)) (λ e. omega arith)
  ends_member p begun x m t ds (f ∷ fs) h tall goes ends = member_ends file (focus.Typed p m) begun 0 x ds f fs (end_goes p m t ds (f ∷ fs) h ∙ goes) tall

  -- ---- by what the type is for

  pub in_alias : (begun : Begun) (n : TypeName) (ps : List PlainParam) (i : TypeState) (ds : PlainDecls) (fs : List Frame) → Closes file (inside (purpose.Alias begun n ps) i ds fs)
  in_alias begun n ps i ds fs =
      let c = completed i in
      closes_on (purpose.Alias begun n ps) i ds fs c (declares (purpose.Alias begun n ps) begun (decl.alias n ps c.t) c.m c.t ds fs c.whole (omega (arith, c.whole.tall)) refl (λ e. refl))

  pub in_constant : (begun : Begun) (n : TypeName) (i : TypeState) (ds : PlainDecls) (fs : List Frame) → Closes file (inside (purpose.Constant begun n) i ds fs)
  in_constant begun n i ds fs =
      let c = completed i in
      closes_on (purpose.Constant begun n) i ds fs c (declares (purpose.Constant begun n) begun (decl.const n c.t) c.m c.t ds fs c.whole (omega (arith, c.whole.tall)) refl (λ e. refl))

  pub in_attribute : (begun : Begun) (v : Option Vis) (a : AttrKind) (w : List ℕ) (i : TypeState) (ds : PlainDecls) (fs : List Frame) → Closes file (inside (purpose.Attribute begun v a w) i ds fs)
  in_attribute begun v a w i ds fs =
      let c = completed i in
      closes_on (purpose.Attribute begun v a w) i ds fs c (ends_member (purpose.Attribute begun v a w) begun (attr v a w c.t) c.m c.t ds fs c.whole (omega (arith, c.whole.tall)) refl (λ e. refl))

  pub in_variable : (begun : Begun) (single : Bool) (w : List ℕ) (i : TypeState) (ds : PlainDecls) (fs : List Frame) → Closes file (inside (purpose.Variable begun single w) i ds fs)
  in_variable begun single w i ds fs =
      let c = completed i in
      closes_on (purpose.Variable begun single w) i ds fs c (ends_member (purpose.Variable begun single w) begun (ivar single w c.t) c.m c.t ds fs c.whole (omega (arith, c.whole.tall)) refl (λ e. refl))

  pub in_mixin : (begun : Begun) (k : MixKind) (i : TypeState) (ds : PlainDecls) (fs : List Frame) → Closes file (inside (purpose.Mixin begun k) i ds fs)
  in_mixin begun k i ds fs =
      let c = completed i in
      closes_on (purpose.Mixin begun k) i ds fs c (ends_member (purpose.Mixin begun k) begun (mixin k c.t) c.m c.t ds fs c.whole (omega (arith, c.whole.tall)) refl (λ e. refl))

  pub in_parent : (begun : Begun) (n : TypeName) (ps : List PlainParam) (i : TypeState) (ds : PlainDecls) (fs : List Frame) → Closes file (inside (purpose.Parent begun n ps) i ds fs)
  in_parent begun n ps i ds fs =
      let c = completed i in
      let p : Purpose = purpose.Parent begun n ps in
      closes_on p i ds fs c (heading_ends file (focus.Typed p c.m) begun (heading.Class n ps (Some c.t)) ds fs (end_goes p c.m c.t ds fs c.whole) (omega (arith, c.whole.tall)) (omega arith))

  pub in_self : (begun : Begun) (n : TypeName) (ps : List PlainParam) (us : PlainTys) (i : TypeState) (ds : PlainDecls) (fs : List Frame) → Closes file (inside (purpose.SelfType begun n ps us) i ds fs)
  in_self begun n ps us i ds fs =
      let c = completed i in
      let p : Purpose = purpose.SelfType begun n ps us in
      closes_on p i ds fs c
      (heading_ends file (focus.Typed p c.m) begun (heading.Module n ps (and_ty us c.t)) ds fs (end_goes p c.m c.t ds fs c.whole) (omega (arith, c.whole.tall, tallest_and us c.t)) (omega arith))

  -- the function of an overload
  overload_ends : (sig : Signature) (done : List PlainMethod) (ps : List PlainParam) (m : TypeState) (t : PlainTy) (f : PlainFun) (ds : PlainDecls) (fs : List Frame) → Whole m t → t ≡ plain.fun f
      → Closes file (inside (purpose.Overload sig done ps) m ds fs)
  overload_ends sig done ps m t f ds fs h is =
      let p : Purpose = purpose.Overload sig done ps in
      let one : PlainMethod = record { params = ps; fun = f } in
      let whole : Whole m (plain.fun f) = subst (Whole m) is h in
      ends_member p sig.begun (method sig.vis sig.single sig.name (done ++ one ∷ [])) m (plain.fun f) ds fs whole (omega (arith, whole.tall, methods_and done one)) refl (λ e. refl)

  pub in_overload : (sig : Signature) (done : List PlainMethod) (ps : List PlainParam) (i : TypeState) (ds : PlainDecls) (fs : List Frame) → Led a_function i
      → Closes file (inside (purpose.Overload sig done ps) i ds fs)
  in_overload sig done ps i ds fs led =
      let c = completed i in
      let (f, is) = is_function i c.w c.t led c.alone in
      closes_on (purpose.Overload sig done ps) i ds fs c (overload_ends sig done ps c.m c.t f ds fs c.whole is)
