-- What the reader makes of a member behind its annotations.
use Rattle.std.proofs.Common.{ℕ, ◌+◌, ◌≡◌, refl, ◌∙◌, ap, Bool, true, false, if◌then◌else◌, List, [], ◌∷◌, Option, Some, None}
use Rattle.rbs_terminals.specs.declared.token.Token.{Token}
use Rattle.rbs_terminals.specs.declared.token.Spot.{Spot}
use Rattle.rbs_terminals.specs.declared.token.Mark.TheVariants as mark
use Rattle.rbs_terminals.specs.declared.token.Keyword.{Keyword}
use Rattle.rbs_terminals.specs.declared.token.Keyword.TheVariants as keyword
use Rattle.rbs_terminals.specs.declared.token.Kind.TheVariants as kind
use Rattle.sig_model.specs.declared.decl.Notes.{Notes}
use Rattle.sig_model.specs.declared.decl.Vis.{Vis}
use Rattle.sig_model.specs.declared.decl.AttrKind.{AttrKind}
use Rattle.sig_model.specs.declared.decl.MixKind.{MixKind}
use Rattle.sig_model.specs.declared.decl.MixKind.TheVariants as mixing
use Rattle.sig_model.specs.PlainTy.{PlainTy}
use Rattle.sig_model.specs.PlainMember.{PlainMember, mixin, alias, section}
use Rattle.sig_model.specs.PlainDecl.{PlainDecls}
use Rattle.rbs_types.specs.Symbols.{token, sign, word}
use Rattle.rbs_types.specs.Grammar.{Use}
use Rattle.rbs_types.specs.Machine.{start}
use Rattle.rbs_declarations.specs.declared.state.Begun.{Begun}
use Rattle.rbs_declarations.specs.declared.state.Frame.{Frame}
use Rattle.rbs_declarations.specs.declared.state.Purpose.TheVariants as purpose
use Rattle.rbs_declarations.specs.declared.state.Focus.{Focus}
use Rattle.rbs_declarations.specs.declared.state.Focus.TheVariants as focus
use Rattle.rbs_declarations.specs.Words.{vis_of, attribute_of, mixin_of, vis_belongs, start_at, end_at}
use Rattle.rbs_declarations.specs.Grammar.{Applied, Visible, unsaid, said, Single, of_instances, of_itself, Method, method_of, Member, a_method, attribute, a_mixin, an_alias, variable, a_section, InterfaceMember, interface_method, interface_mixin}
use Rattle.rbs_declarations.specs.Machine.{state_of, at, no_naming, in_class, in_interface, site_in, mixin_use, mixin_begins, attribute_begins, vis_begins, member_keyword, keyword_begins, variable_begins, begun_at, then_part, signed, attribute_named, with_section, visible_attribute, visible_member}
use Rattle.rbs_declarations.specs.Needs.{opened}
use Rattle.rbs_declarations.specs.Openness.{applied_open, method_open, member_open, interface_member_open}
use Rattle.rbs_declarations.proofs.OnTheWay.{Read, at_least, flat, Calm, Rises}
use Rattle.rbs_declarations.proofs.Borders.{Stops, stops_unbracketed}
use Rattle.rbs_declarations.proofs.Onward.{level, reading, here, goes_on, moved, behind, membered_on, attribute_read, variable_read}
use Rattle.rbs_declarations.proofs.Names.{mixin_place, mixin_takes, applied_read}
use Rattle.rbs_declarations.proofs.MethodNames.{method_name_read, def_read}
use Rattle.rbs_declarations.proofs.MethodAliases.{alias_read}
use Rattle.rbs_declarations.proofs.Overloads.{overloads_read}

-- begun at the first of these tokens, with these notes
abbrev pub begun_with : Notes → List Token → Begun
begun_with n ts = record { start = start_at ts; notes = n }

-- In the file of this number, whose last token ends at the byte `last`; among the parts of this frame, behind these notes.
module _ (file last : ℕ) (ds : PlainDecls) (f : Frame) (fs : List Frame) (x : ℕ) (n : Notes) where
  abbrev noted : List Token → Read
  noted ts = here file last (focus.Noted (record { start = x; notes = n })) ds (f ∷ fs) ts

  -- what is open among the parts
  abbrev around : ℕ
  around = level 0 (f ∷ fs)

  -- ---- the first keyword

  member_begun : (k : Keyword) (s : Spot) (ts : List Token) (g : Focus) → site_in f.heading ≡ in_class → member_keyword file (begun_at file n s) ds (f ∷ fs) k s ≡ at g ds (f ∷ fs)
      → Calm (opened (state_of g ds (f ∷ fs))) (noted (word k s ∷ ts)) (here file last g ds (f ∷ fs) ts)
  member_begun k s ts g e h =
      moved file last (focus.Noted (record { start = x; notes = n })) ds (f ∷ fs) (word k s) ts g (ap (λ w. keyword_begins file w (begun_at file n s) ds (f ∷ fs) k s) e ∙ h)

  vis_keyword : (begun : Begun) (k : Keyword) (s : Spot) (v : Vis) → vis_of k ≡ Some v → member_keyword file begun ds (f ∷ fs) k s ≡ at (focus.Visible begun v s.end) ds (f ∷ fs)
  vis_keyword begun keyword.Def s v e = absurd (cc)
  vis_keyword begun keyword.Alias s v e = absurd (cc)
  vis_keyword begun keyword.SelfWord s v e = absurd (cc)
  vis_keyword begun k s v e = ap (vis_begins file begun ds (f ∷ fs) k s) e

  attribute_keyword : (begun : Begun) (k : Keyword) (s : Spot) (a : AttrKind) → attribute_of k ≡ Some a → member_keyword file begun ds (f ∷ fs) k s ≡ at (focus.Attribute begun None a) ds (f ∷ fs)
  attribute_keyword begun keyword.Def s a e = absurd (cc)
  attribute_keyword begun keyword.Alias s a e = absurd (cc)
  attribute_keyword begun keyword.SelfWord s a e = absurd (cc)
  attribute_keyword begun keyword.Private s a e = absurd (cc)
  attribute_keyword begun keyword.Public s a e = absurd (cc)
  attribute_keyword begun k s a e = ap (attribute_begins file begun ds (f ∷ fs) k) e

  mixin_keyword : (begun : Begun) (k : Keyword) (s : Spot) (m : MixKind) → mixin_of k ≡ Some m → member_keyword file begun ds (f ∷ fs) k s ≡ at (focus.Mixin begun m no_naming) ds (f ∷ fs)
  mixin_keyword begun keyword.Include s m e = ap (mixin_begins file begun ds (f ∷ fs) keyword.Include) e
  mixin_keyword begun keyword.Extend s m e = ap (mixin_begins file begun ds (f ∷ fs) keyword.Extend) e
  mixin_keyword begun keyword.Prepend s m e = ap (mixin_begins file begun ds (f ∷ fs) keyword.Prepend) e
  mixin_keyword begun _ s m e = absurd (cc)

  -- ---- behind a visibility

  visible_kind : (begun : Begun) (v : Vis) (k : Keyword) (a : AttrKind) → attribute_of k ≡ Some a → visible_member file begun v ds (f ∷ fs) (kind.Keyword k) ≡ at (focus.Attribute begun (Some v) a) ds (f ∷ fs)
  visible_kind begun v keyword.Def a e = absurd (cc)
  visible_kind begun v k a e = ap (visible_attribute file begun v ds (f ∷ fs)) e

  -- a member of its own line takes it
  visible_read : (begun : Begun) (v : Vis) (end : ℕ) (k : Keyword) (s : Spot) (ts : List Token) (g : Focus) → vis_belongs (word k s ∷ ts) ≡ true → visible_member file begun v ds (f ∷ fs) (kind.Keyword k) ≡ at g ds (f ∷ fs)
      → Calm (opened (state_of g ds (f ∷ fs))) (here file last (focus.Visible begun v end) ds (f ∷ fs) (word k s ∷ ts)) (here file last g ds (f ∷ fs) ts)
  visible_read begun v end k s ts g b h =
      moved file last (focus.Visible begun v end) ds (f ∷ fs) (word k s) ts g
      (ap (λ b. if b then visible_member file begun v ds (f ∷ fs) (kind.Keyword k) else then_part file (Some (with_section file begun v end ds (f ∷ fs))) (kind.Keyword k) s) b ∙ h)

  section_read : (begun : Begun) (v : Vis) (end : ℕ) (ts : List Token) → vis_belongs ts ≡ false → here file last (focus.Visible begun v end) ds (f ∷ fs) ts ≡ membered_on file last begun end (section v) ds (f ∷ fs) ts
  unfolding reading
  section_read begun v end [] b = refl
  section_read begun v end (c ∷ ts) b =
      ap (λ b. goes_on file last (if b then visible_member file begun v ds (f ∷ fs) c.kind else then_part file (Some (with_section file begun v end ds (f ∷ fs))) c.kind c.spot) ts) b

  -- ---- members

  method_read : {v : Option Vis} {m : PlainMember} {e : ℕ} {ts mid rest : List Token} → site_in f.heading ≡ in_class → Visible v ts mid → (d : Method last v m e mid rest) → Stops rest
      → Rises around (method_open d) (noted ts) (membered_on file last (begun_with n ts) e m ds (f ∷ fs) rest)
  method_read i unsaid (method_of {single = single} {n = w} s s' {ts = ts} d names l) h =
      member_begun keyword.Def s ts (focus.Def (begun_at file n s) None) i refl
      ∙ def_read file last ds (f ∷ fs) (begun_at file n s) None d names
      ∙ overloads_read file last ds f fs (signed file (begun_at file n s) None single w) l h
  method_read i (said k v s e b) (method_of {single = single} {n = w} s' s'' {ts = ts} d names l) h =
      member_begun k s (word keyword.Def s' ∷ ts) (focus.Visible (begun_at file n s) v s.end) i (vis_keyword (begun_at file n s) k s v e)
      ∙ visible_read (begun_at file n s) v s.end keyword.Def s' ts (focus.Def (begun_at file n s) (Some v)) b refl
      ∙ def_read file last ds (f ∷ fs) (begun_at file n s) (Some v) d names
      ∙ overloads_read file last ds f fs (signed file (begun_at file n s) (Some v) single w) l h

  attribute_begun : {v : Option Vis} {ts rest : List Token} (k : Keyword) (a : AttrKind) (s : Spot) → site_in f.heading ≡ in_class → Visible v ts (word k s ∷ rest) → attribute_of k ≡ Some a
      → Calm around (noted ts) (here file last (focus.Attribute (begun_with n ts) v a) ds (f ∷ fs) rest)
  attribute_begun {rest = rest} k a s i unsaid e = member_begun k s rest (focus.Attribute (begun_at file n s) None a) i (attribute_keyword (begun_at file n s) k s a e)
  attribute_begun {rest = rest} k a s i (said k' v s' e' b) e =
      member_begun k' s' (word k s ∷ rest) (focus.Visible (begun_at file n s') v s'.end) i (vis_keyword (begun_at file n s') k' s' v e')
      ∙ visible_read (begun_at file n s') v s'.end k s rest (focus.Attribute (begun_at file n s') (Some v) a) b (visible_kind (begun_at file n s') v k a e)

  mixed : (begun : Begun) (m : MixKind) (t : PlainTy) (rest : List Token) → behind file last (purpose.Mixin begun m) ds (f ∷ fs) t rest ≡ membered_on file last begun (end_at last rest) (mixin m t) ds (f ∷ fs) rest
  unfolding reading
  mixed begun m t [] = refl
  mixed begun m t (c ∷ rest) = refl

  mixin_read : {u : Use} {t : PlainTy} {ts rest : List Token} (begun : Begun) (m : MixKind) → mixin_use (site_in f.heading) ≡ u → (d : Applied u t ts rest) → Stops rest
      → Rises around (applied_open d) (here file last (focus.Mixin begun m no_naming) ds (f ∷ fs) ts) (membered_on file last begun (end_at last rest) (mixin m t) ds (f ∷ fs) rest)
  mixin_read {u = u} {t = t} {rest = rest} begun m e d h =
      applied_read file last (mixin_place file last begun m ds (f ∷ fs) u e) (purpose.Mixin begun m) (mixin_takes file last begun m ds f fs u e) d (stops_unbracketed rest h)
      ∙ ap (at_least (around + applied_open d)) (mixed begun m t rest)

  variable_begun : {single : Bool} {ts rest : List Token} (w : List ℕ) (s : Spot) → site_in f.heading ≡ in_class → Single single ts (token (kind.Variable w) s ∷ rest)
      → Calm around (noted ts) (here file last (focus.Variable (begun_with n ts) single w) ds (f ∷ fs) rest)
  variable_begun {rest = rest} w s i of_instances =
      moved file last (focus.Noted (record { start = x; notes = n })) ds (f ∷ fs) (token (kind.Variable w) s) rest (focus.Variable (begun_at file n s) false w)
      (ap (λ x. variable_begins file x (begun_at file n s) w ds (f ∷ fs)) i)
  variable_begun {rest = rest} w s i (of_itself s' s'') =
      member_begun keyword.SelfWord s' (sign mark.Dot s'' ∷ token (kind.Variable w) s ∷ rest) (focus.SelfWord (begun_at file n s')) i refl
      ∙ moved file last (focus.SelfWord (begun_at file n s')) ds (f ∷ fs) (sign mark.Dot s'') (token (kind.Variable w) s ∷ rest) (focus.SelfDot (begun_at file n s')) refl
      ∙ moved file last (focus.SelfDot (begun_at file n s')) ds (f ∷ fs) (token (kind.Variable w) s) rest (focus.Variable (begun_at file n s') true w) refl

  pub member_read : {m : PlainMember} {e : ℕ} {ts rest : List Token} → site_in f.heading ≡ in_class → (d : Member last m e ts rest) → Stops rest
      → Rises around (member_open d) (noted ts) (membered_on file last (begun_with n ts) e m ds (f ∷ fs) rest)
  member_read i (a_method v d) h = method_read i v d h
  member_read {ts = ts} i (attribute {v = v} k a k' w s s' s'' {mid = mid} d e l t) h =
      attribute_begun k a s i d e
      ∙ moved file last (focus.Attribute (begun_with n ts) v a) ds (f ∷ fs) (token k' s') (sign mark.Colon s'' ∷ mid) (focus.AttributeName (begun_with n ts) v a w) (ap (attribute_named file (begun_with n ts) v a ds (f ∷ fs)) l)
      ∙ moved file last (focus.AttributeName (begun_with n ts) v a w) ds (f ∷ fs) (sign mark.Colon s'') mid (focus.Typed (purpose.Attribute (begun_with n ts) v a w) start) refl
      ∙ attribute_read file last (begun_with n ts) v a w ds f fs t h
  member_read i (a_mixin {t = t} k m s {ts = ts} {rest = rest} e d) h =
      member_begun k s ts (focus.Mixin (begun_at file n s) m no_naming) i (mixin_keyword (begun_at file n s) k s m e) ∙ mixin_read (begun_at file n s) m (ap mixin_use i) d h
  member_read {rest = rest} i (an_alias {new = new} {old = old} s {ts = ts} d e) h =
      flat (membered_on file last (begun_at file n s) (end_at last rest) (alias new old) ds (f ∷ fs) rest) around
      (member_begun keyword.Alias s ts (focus.Alias (begun_at file n s)) i refl ∙ alias_read file last ds f fs (begun_at file n s) d e h)
  member_read {ts = ts} i (variable {single = single} w s s' {mid = mid} d t) h =
      variable_begun w s i d
      ∙ moved file last (focus.Variable (begun_with n ts) single w) ds (f ∷ fs) (sign mark.Colon s') mid (focus.Typed (purpose.Variable (begun_with n ts) single w) start) refl
      ∙ variable_read file last (begun_with n ts) single w ds f fs t h
  member_read i (a_section k v s {rest = rest} e b) h =
      flat (membered_on file last (begun_at file n s) s.end (section v) ds (f ∷ fs) rest) around
      (member_begun k s rest (focus.Visible (begun_at file n s) v s.end) i (vis_keyword (begun_at file n s) k s v e) ∙ ap (at_least around) (section_read (begun_at file n s) v s.end rest b))

  -- ---- members of an interface

  pub interface_member_read : {m : PlainMember} {e : ℕ} {ts rest : List Token} → site_in f.heading ≡ in_interface → (d : InterfaceMember last m e ts rest) → Stops rest
      → Rises around (interface_member_open d) (noted ts) (membered_on file last (begun_with n ts) e m ds (f ∷ fs) rest)
  interface_member_read i (interface_method {n = w} s s' {ts = ts} names l) h =
      moved file last (focus.Noted (record { start = x; notes = n })) ds (f ∷ fs) (word keyword.Def s) ts (focus.MethodStart (begun_at file n s) None false)
      (ap (λ w. keyword_begins file w (begun_at file n s) ds (f ∷ fs) keyword.Def s) i)
      ∙ method_name_read file last ds (f ∷ fs) (begun_at file n s) None false names
      ∙ overloads_read file last ds f fs (signed file (begun_at file n s) None false w) l h
  interface_member_read i (interface_mixin {t = t} s {ts = ts} {rest = rest} d) h =
      moved file last (focus.Noted (record { start = x; notes = n })) ds (f ∷ fs) (word keyword.Include s) ts (focus.Mixin (begun_at file n s) mixing.Include no_naming)
      (ap (λ w. keyword_begins file w (begun_at file n s) ds (f ∷ fs) keyword.Include s) i)
      ∙ mixin_read (begun_at file n s) mixing.Include (ap mixin_use i) d h
