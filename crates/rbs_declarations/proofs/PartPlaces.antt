-- Where a declaration or a part begins, or the innermost declaration ends.
use Rattle.std.specs.Prelude.{ℕ, ◌≡◌, refl, false, List, [], ◌∷◌, Option, Some, None}
use Rattle.std.proofs.Common.{sym, subst}
use Rattle.rbs_terminals.specs.declared.token.Token.{Token}
use Rattle.rbs_terminals.specs.declared.token.Spot.{Spot}
use Rattle.rbs_terminals.specs.declared.token.Mark.TheVariants as mark
use Rattle.rbs_terminals.specs.declared.token.Keyword.{Keyword}
use Rattle.rbs_terminals.specs.declared.token.Keyword.TheVariants as keyword
use Rattle.rbs_terminals.specs.declared.token.Kind.{Kind}
use Rattle.rbs_terminals.specs.declared.token.Kind.TheVariants as kind
use Rattle.sig_model.specs.declared.place.Place.{Place}
use Rattle.sig_model.specs.declared.decl.Notes.{Notes}
use Rattle.sig_model.specs.declared.decl.Vis.{Vis}
use Rattle.sig_model.specs.declared.decl.AttrKind.{AttrKind}
use Rattle.sig_model.specs.declared.decl.MixKind.{MixKind}
use Rattle.sig_model.specs.declared.decl.MixKind.TheVariants as mixing
use Rattle.sig_model.specs.PlainMember.{PlainMember, method, mixin as mixed, alias as renamed, section}
use Rattle.sig_model.specs.PlainDecl as decl
use Rattle.sig_model.specs.PlainDecl.{PlainDecl, PlainBody, PlainParts, PlainDecls}
use Rattle.rbs_types.specs.Symbols.{token, sign, word}
use Rattle.rbs_types.specs.Parts.{grown, no_name, root}
use Rattle.rbs_types.specs.Grammar.{of_class, relative, rooted}
use Rattle.rbs_declarations.specs.declared.state.Begun.{Begun}
use Rattle.rbs_declarations.specs.declared.state.Step.TheVariants as step_at
use Rattle.rbs_declarations.specs.declared.state.Sort.TheVariants as sort
use Rattle.rbs_declarations.specs.declared.state.Heading.{Heading}
use Rattle.rbs_declarations.specs.declared.state.Heading.TheVariants as heading
use Rattle.rbs_declarations.specs.declared.state.Frame.{Frame}
use Rattle.rbs_declarations.specs.declared.state.Focus.TheVariants as focus
use Rattle.rbs_declarations.specs.declared.state.State.{State}
use Rattle.rbs_declarations.specs.Words.{vis_of, attribute_of, mixin_of, end_at}
use Rattle.rbs_declarations.specs.Grammar.{of_instances, unsaid, said, method_of, a_method, a_mixin, an_alias, a_section, interface_method, interface_mixin, no_annotations, annotation, and_inner, and_member, and_decl, declaration, a_class, a_module, an_interface, no_part, inner_part, member_part, no_interface_part, interface_part, further}
use Rattle.rbs_declarations.specs.Machine.{at, no_naming, with_decl, with_inner, with_part, with_member, Site, in_file, in_class, in_interface, site_in, site_of, mixin_use, body_of, place_from, declaration_keyword, mixin_begins, attribute_begins, vis_begins, member_keyword, interface_keyword, keyword_begins, constant_begins, variable_begins, begun_at, annotated, begins, ended_frame, no_notes_at, part_begins, then_part}
use Rattle.rbs_declarations.proofs.Places.{NamingAt, AppliedAt, PartsOf, FrameAt, BodyAt, MemberAt, InterfaceMemberAt, NotedBodyAt, NotedMemberAt, SiteAt, NamedAt, DefAt, VisAt, MixedAt, BehindDecl, BehindMember, PartsAt, StateAt, StepAt}
use Rattle.rbs_declarations.proofs.NamePlaces.{word_at, name_begins}

module _ (file last : ℕ) where
  -- no further part
  no_parts_of : (h : Heading) (ps : PlainParts) (rest : List Token) → PartsOf file last h ps ps rest rest
  no_parts_of (heading.Class n qs t) ps rest = no_part
  no_parts_of (heading.Module n qs us) ps rest = no_part
  no_parts_of (heading.Interface n qs) ps rest = no_interface_part

  -- a part of this declaration may begin
  frame_site : (D : PlainDecl → List Token → Type 0) (f : Frame) (h : Heading) (parts : PlainParts) (k : Kind) (s : Spot) (ts : List Token) → FrameAt file last D f.begun h parts (token k s ∷ ts)
      → SiteAt file last (λ d rest. FrameAt file last D f.begun h (and_inner parts d) rest) (λ p n x rest. FrameAt file last D f.begun h (and_member parts p n x) rest) (site_in h) (no_notes_at file s) (token k s ∷ ts)
  frame_site D f (heading.Class n qs t) parts k s ts h = (λ texts b e mid rest a d all s' end ps. h all s' end (inner_part (declaration a d) ps), λ texts x e mid rest a d all s' end ps. h all s' end (member_part a d ps))
  frame_site D f (heading.Module n qs us) parts k s ts h = (λ texts b e mid rest a d all s' end ps. h all s' end (inner_part (declaration a d) ps), λ texts x e mid rest a d all s' end ps. h all s' end (member_part a d ps))
  frame_site D f (heading.Interface n qs) parts k s ts h = λ texts x e mid rest a d all s' end ps. h all s' end (interface_part a d ps)

  -- ---- what begins, where `D` is known behind a declaration and `M` behind a member

  module _ (D : PlainDecl → List Token → Type 0) (M : Place → Notes → PlainMember → List Token → Type 0) where
    -- an annotation is added to the notes
    annotated_site : (w : Site) (n : Notes) (x : List ℕ) (s : Spot) (ts : List Token) → SiteAt file last D M w n (token (kind.Annotation x) s ∷ ts) → SiteAt file last D M w (annotated file n x) ts
    annotated_site in_file n x s ts h = λ texts b e mid rest a d. h texts b e mid rest (annotation x s a) d
    annotated_site in_class n x s ts h = (λ texts b e mid rest a d. h.0 texts b e mid rest (annotation x s a) d, λ texts y e mid rest a d. h.1 texts y e mid rest (annotation x s a) d)
    annotated_site in_interface n x s ts h = λ texts y e mid rest a d. h texts y e mid rest (annotation x s a) d

    body_begins : (n : Notes) (k : Kind) (s : Spot) (ts : List Token) → NotedBodyAt file last D M n (token k s ∷ ts) → BodyAt file last D M (begun_at file n s) (token k s ∷ ts)
    body_begins n k s ts h = λ b e rest d. h n.annotations b e (token k s ∷ ts) rest no_annotations d

    member_begins : (n : Notes) (k : Kind) (s : Spot) (ts : List Token) → NotedMemberAt file last D M n (token k s ∷ ts) → MemberAt file last D M (begun_at file n s) (token k s ∷ ts)
    member_begins n k s ts h = λ x e rest d. h n.annotations x e (token k s ∷ ts) rest no_annotations d

    pub def_at : (begun : Begun) (v : Option Vis) (s : Spot) (ts : List Token) → VisAt file last D M begun v (word keyword.Def s ∷ ts) → DefAt file last D M begun v ts
    def_at begun v s ts h = λ single mid a n s' mid' b ms rest c. h.1 (method v single n ms) (end_at last rest) rest (a_method h.2 (method_of s s' a b c))

    class_begins : (begun : Begun) (s : Spot) (ts : List Token) → BodyAt file last D M begun (word keyword.Class s ∷ ts) → NamingAt of_class (NamedAt file last D M begun sort.Class) no_name step_at.Start ts
    class_begins begun s ts h = (refl, λ n mid a ps mid' b t mid'' c all s' rest d. h (decl.class n ps t all) s'.end rest (a_class s s' a b c d))

    module_begins : (begun : Begun) (s : Spot) (ts : List Token) → BodyAt file last D M begun (word keyword.Module s ∷ ts) → NamingAt of_class (NamedAt file last D M begun sort.Module) no_name step_at.Start ts
    module_begins begun s ts h = (refl, λ n mid a ps mid' b us mid'' c all s' rest d. h (decl.module n ps us all) s'.end rest (a_module s s' a b c d))

    upper_constant : (begun : Begun) (x : List ℕ) (s : Spot) (ts : List Token) → BodyAt file last D M begun (token (kind.Upper x) s ∷ ts)
        → NamingAt of_class (NamedAt file last D M begun sort.Constant) (grown no_name x) step_at.Upper ts
    upper_constant begun x s ts h = word_at of_class (NamedAt file last D M begun sort.Constant) no_name (kind.Upper x) s ts (λ v rest d. (token (kind.Upper x) s ∷ ts, h, relative d))

    scope_constant : (begun : Begun) (s : Spot) (ts : List Token) → BodyAt file last D M begun (sign mark.Scope s ∷ ts) → NamingAt of_class (NamedAt file last D M begun sort.Constant) root step_at.Scope ts
    scope_constant begun s ts h = λ v rest d. (sign mark.Scope s ∷ ts, h, rooted s d)

  -- ---- steps

  module _ (text : List Token) where
    abbrev Declared : PlainDecls → List Frame → PlainDecl → List Token → Type 0
    Declared = BehindDecl file last text

    abbrev Membered : PlainDecls → List Frame → Place → Notes → PlainMember → List Token → Type 0
    Membered = BehindMember file last text

    abbrev Next : Option State → List Token → Type 0
    Next = StepAt file last text

    -- a declaration is whole
    declared_at : (ds : PlainDecls) (fs : List Frame) (d : PlainDecl) (ts : List Token) → Declared ds fs d ts → StateAt file last text (with_decl ds fs d) ts
    declared_at ds [] d ts h = h
    declared_at ds (f ∷ fs) d ts h = h

    declaration_begins : (begun : Begun) (ds : PlainDecls) (fs : List Frame) (k : Keyword) (s : Spot) (ts : List Token) → BodyAt file last (Declared ds fs) (Membered ds fs) begun (word k s ∷ ts)
        → Next (declaration_keyword file begun ds fs k) ts
    declaration_begins begun ds fs keyword.Class s ts h = class_begins (Declared ds fs) (Membered ds fs) begun s ts h
    declaration_begins begun ds fs keyword.Module s ts h = module_begins (Declared ds fs) (Membered ds fs) begun s ts h
    declaration_begins begun ds fs keyword.Interface s ts h = (refl, λ n mid a ps mid' b all s' rest c. h (decl.iface n ps all) s'.end rest (an_interface s s' a b c))
    declaration_begins begun ds fs keyword.Type s ts h = (refl, λ n mid a ps mid' b. (s, ts, mid, h, a, b))
    declaration_begins begun ds fs _ s ts h = tt

    -- a mixin, where the site is known
    mixin_named : (begun : Begun) (m : MixKind) (ds : PlainDecls) (fs : List Frame) (w : Site) (ts : List Token) → site_of fs ≡ w → AppliedAt (mixin_use w) (MixedAt file last (Declared ds fs) (Membered ds fs) begun m) ts
        → Next (at (focus.Mixin begun m no_naming) ds fs) ts
    mixin_named begun m ds fs w ts e h =
        name_begins (mixin_use (site_of fs)) (MixedAt file last (Declared ds fs) (Membered ds fs) begun m) ts
        (subst (λ x. AppliedAt (mixin_use x) (MixedAt file last (Declared ds fs) (Membered ds fs) begun m) ts) (sym e) h)

    mixin_or_declaration : (begun : Begun) (ds : PlainDecls) (fs : List Frame) (k : Keyword) (o : Option MixKind) (s : Spot) (ts : List Token) → site_of fs ≡ in_class → mixin_of k ≡ o
        → BodyAt file last (Declared ds fs) (Membered ds fs) begun (word k s ∷ ts) → MemberAt file last (Declared ds fs) (Membered ds fs) begun (word k s ∷ ts) → Next (mixin_begins file begun ds fs k o) ts
    mixin_or_declaration begun ds fs k (Some m) s ts site e h g = mixin_named begun m ds fs in_class ts site (λ t rest a. g (mixed m t) (end_at last rest) rest (a_mixin k m s e a))
    mixin_or_declaration begun ds fs k None s ts site e h g = declaration_begins begun ds fs k s ts h

    attribute_or_further : (begun : Begun) (ds : PlainDecls) (fs : List Frame) (k : Keyword) (o : Option AttrKind) (s : Spot) (ts : List Token) → site_of fs ≡ in_class → attribute_of k ≡ o
        → BodyAt file last (Declared ds fs) (Membered ds fs) begun (word k s ∷ ts) → MemberAt file last (Declared ds fs) (Membered ds fs) begun (word k s ∷ ts) → Next (attribute_begins file begun ds fs k o) ts
    attribute_or_further begun ds fs k (Some a) s ts site e h g = (k, s, e, (word k s ∷ ts, g, unsaid))
    attribute_or_further begun ds fs k None s ts site e h g = mixin_or_declaration begun ds fs k (mixin_of k) s ts site refl h g

    vis_or_further : (begun : Begun) (ds : PlainDecls) (fs : List Frame) (k : Keyword) (o : Option Vis) (s : Spot) (ts : List Token) → site_of fs ≡ in_class → vis_of k ≡ o
        → BodyAt file last (Declared ds fs) (Membered ds fs) begun (word k s ∷ ts) → MemberAt file last (Declared ds fs) (Membered ds fs) begun (word k s ∷ ts) → Next (vis_begins file begun ds fs k s o) ts
    vis_or_further begun ds fs k (Some v) s ts site e h g = (λ b. g (section v) s.end ts (a_section k v s e b), λ b. (word k s ∷ ts, g, said k v s e b))
    vis_or_further begun ds fs k None s ts site e h g = attribute_or_further begun ds fs k (attribute_of k) s ts site refl h g

    class_keyword : (begun : Begun) (ds : PlainDecls) (fs : List Frame) (k : Keyword) (s : Spot) (ts : List Token) → site_of fs ≡ in_class
        → BodyAt file last (Declared ds fs) (Membered ds fs) begun (word k s ∷ ts) → MemberAt file last (Declared ds fs) (Membered ds fs) begun (word k s ∷ ts) → Next (member_keyword file begun ds fs k s) ts
    class_keyword begun ds fs keyword.Def s ts site h g = def_at (Declared ds fs) (Membered ds fs) begun None s ts (word keyword.Def s ∷ ts, g, unsaid)
    class_keyword begun ds fs keyword.Alias s ts site h g = λ new mid a old rest b. g (renamed new old) (end_at last rest) rest (an_alias s a b)
    class_keyword begun ds fs keyword.SelfWord s ts site h g = (s, g)
    class_keyword begun ds fs k s ts site h g = vis_or_further begun ds fs k (vis_of k) s ts site refl h g

    in_interface_keyword : (begun : Begun) (ds : PlainDecls) (fs : List Frame) (k : Keyword) (s : Spot) (ts : List Token) → site_of fs ≡ in_interface
        → InterfaceMemberAt file last (Declared ds fs) (Membered ds fs) begun (word k s ∷ ts) → Next (interface_keyword file begun ds fs k) ts
    in_interface_keyword begun ds fs keyword.Def s ts site h = λ n s' mid a ms rest b. h (method None false n ms) (end_at last rest) rest (interface_method s s' a b)
    in_interface_keyword begun ds fs keyword.Include s ts site h = mixin_named begun mixing.Include ds fs in_interface ts site (λ t rest a. h (mixed mixing.Include t) (end_at last rest) rest (interface_mixin s a))
    in_interface_keyword begun ds fs _ s ts site h = tt

    keyword_at : (w : Site) (n : Notes) (ds : PlainDecls) (fs : List Frame) (k : Keyword) (s : Spot) (ts : List Token) → site_of fs ≡ w → SiteAt file last (Declared ds fs) (Membered ds fs) w n (word k s ∷ ts)
        → Next (keyword_begins file w (begun_at file n s) ds fs k s) ts
    keyword_at in_file n ds fs k s ts site h = declaration_begins (begun_at file n s) ds fs k s ts (body_begins (Declared ds fs) (Membered ds fs) n (kind.Keyword k) s ts h)
    keyword_at in_class n ds fs k s ts site h =
        class_keyword (begun_at file n s) ds fs k s ts site (body_begins (Declared ds fs) (Membered ds fs) n (kind.Keyword k) s ts h.0) (member_begins (Declared ds fs) (Membered ds fs) n (kind.Keyword k) s ts h.1)
    keyword_at in_interface n ds fs k s ts site h =
        in_interface_keyword (begun_at file n s) ds fs k s ts site (λ x e rest d. h n.annotations x e (word k s ∷ ts) rest no_annotations d)

    upper_at : (w : Site) (n : Notes) (ds : PlainDecls) (fs : List Frame) (x : List ℕ) (s : Spot) (ts : List Token) → SiteAt file last (Declared ds fs) (Membered ds fs) w n (token (kind.Upper x) s ∷ ts)
        → Next (constant_begins file w (begun_at file n s) (grown no_name x) step_at.Upper ds fs) ts
    upper_at in_file n ds fs x s ts h = upper_constant (Declared ds fs) (Membered ds fs) (begun_at file n s) x s ts (body_begins (Declared ds fs) (Membered ds fs) n (kind.Upper x) s ts h)
    upper_at in_class n ds fs x s ts h = upper_constant (Declared ds fs) (Membered ds fs) (begun_at file n s) x s ts (body_begins (Declared ds fs) (Membered ds fs) n (kind.Upper x) s ts h.0)
    upper_at in_interface n ds fs x s ts h = tt

    scope_at : (w : Site) (n : Notes) (ds : PlainDecls) (fs : List Frame) (s : Spot) (ts : List Token) → SiteAt file last (Declared ds fs) (Membered ds fs) w n (sign mark.Scope s ∷ ts)
        → Next (constant_begins file w (begun_at file n s) root step_at.Scope ds fs) ts
    scope_at in_file n ds fs s ts h = scope_constant (Declared ds fs) (Membered ds fs) (begun_at file n s) s ts (body_begins (Declared ds fs) (Membered ds fs) n (kind.Mark mark.Scope) s ts h)
    scope_at in_class n ds fs s ts h = scope_constant (Declared ds fs) (Membered ds fs) (begun_at file n s) s ts (body_begins (Declared ds fs) (Membered ds fs) n (kind.Mark mark.Scope) s ts h.0)
    scope_at in_interface n ds fs s ts h = tt

    variable_at : (w : Site) (n : Notes) (ds : PlainDecls) (fs : List Frame) (x : List ℕ) (s : Spot) (ts : List Token) → SiteAt file last (Declared ds fs) (Membered ds fs) w n (token (kind.Variable x) s ∷ ts)
        → Next (variable_begins file w (begun_at file n s) x ds fs) ts
    variable_at in_file n ds fs x s ts h = tt
    variable_at in_class n ds fs x s ts h = (token (kind.Variable x) s ∷ ts, s, member_begins (Declared ds fs) (Membered ds fs) n (kind.Variable x) s ts h.1, of_instances)
    variable_at in_interface n ds fs x s ts h = tt

    pub begins_at : (n : Notes) (ds : PlainDecls) (fs : List Frame) (k : Kind) (s : Spot) (ts : List Token) → SiteAt file last (Declared ds fs) (Membered ds fs) (site_of fs) n (token k s ∷ ts) → Next (begins file n ds fs k s) ts
    begins_at n ds fs (kind.Annotation x) s ts h = annotated_site (Declared ds fs) (Membered ds fs) (site_of fs) n x s ts h
    begins_at n ds fs (kind.Keyword k) s ts h = keyword_at (site_of fs) n ds fs k s ts refl h
    begins_at n ds fs (kind.Upper x) s ts h = upper_at (site_of fs) n ds fs x s ts h
    begins_at n ds fs (kind.Mark mark.Scope) s ts h = scope_at (site_of fs) n ds fs s ts h
    begins_at n ds fs (kind.Variable x) s ts h = variable_at (site_of fs) n ds fs x s ts h
    begins_at n ds fs _ s ts h = tt

    ended_at : (ds : PlainDecls) (fs : List Frame) (s : Spot) (ts : List Token) → PartsAt file last text ds fs (word keyword.End s ∷ ts) → Next (ended_frame file ds fs s) ts
    ended_at ds [] s ts h = tt
    ended_at ds (f ∷ fs) s ts h = declared_at ds fs (decl.decl (place_from file f.begun s.end) f.begun.notes (body_of f.heading f.parts)) ts (h f.parts s ts (no_parts_of f.heading f.parts (word keyword.End s ∷ ts)))

    -- a part, or a declaration of the file, may begin
    parts_site : (ds : PlainDecls) (fs : List Frame) (k : Kind) (s : Spot) (ts : List Token) → PartsAt file last text ds fs (token k s ∷ ts)
        → SiteAt file last (Declared ds fs) (Membered ds fs) (site_of fs) (no_notes_at file s) (token k s ∷ ts)
    parts_site ds [] k s ts h = λ texts b e mid rest a d all c. h all (further (declaration a d) c)
    parts_site ds (f ∷ fs) k s ts h = frame_site (Declared ds fs) f f.heading f.parts k s ts h

    pub part_at : (ds : PlainDecls) (fs : List Frame) (k : Kind) (s : Spot) (ts : List Token) → PartsAt file last text ds fs (token k s ∷ ts) → Next (part_begins file ds fs k s) ts
    part_at ds fs (kind.Keyword keyword.End) s ts h = ended_at ds fs s ts h
    part_at ds fs k s ts h = begins_at (no_notes_at file s) ds fs k s ts (parts_site ds fs k s ts h)

    -- what is whole is in its place, and then comes a part
    pub then_declared : (ds : PlainDecls) (fs : List Frame) (d : PlainDecl) (k : Kind) (s : Spot) (ts : List Token) → Declared ds fs d (token k s ∷ ts) → Next (then_part file (Some (with_decl ds fs d)) k s) ts
    then_declared ds [] d k s ts h = part_at (and_decl ds d) [] k s ts h
    then_declared ds (f ∷ fs) d k s ts h = part_at ds (with_inner f d ∷ fs) k s ts h

    pub then_membered : (ds : PlainDecls) (fs : List Frame) (p : Place) (n : Notes) (x : PlainMember) (k : Kind) (s : Spot) (ts : List Token) → Membered ds fs p n x (token k s ∷ ts)
        → Next (then_part file (Some (with_member ds fs p n x)) k s) ts
    then_membered ds [] p n x k s ts h = absurd h
    then_membered ds (f ∷ fs) p n x k s ts h = part_at ds (with_part f p n x ∷ fs) k s ts h
