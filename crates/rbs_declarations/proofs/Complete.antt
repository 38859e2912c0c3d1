-- What a derivation spells, the reader takes, and it has the same declarations; as many are open at once on the way as the derivation says.
use Rattle.std.proofs.Common.{ℕ, max, ◌+◌, ◌≡◌, refl, ◌∙◌, ap, sym, subst, List, [], ◌∷◌, ◌++◌, Option, Some, None, option_and_then, arith}
use Rattle.rbs_terminals.specs.declared.token.Token.{Token}
use Rattle.rbs_terminals.specs.declared.token.Spot.{Spot}
use Rattle.rbs_terminals.specs.declared.token.Mark.TheVariants as mark
use Rattle.rbs_terminals.specs.declared.token.Keyword.{Keyword}
use Rattle.rbs_terminals.specs.declared.token.Keyword.TheVariants as keyword
use Rattle.rbs_terminals.specs.declared.token.Kind.{Kind}
use Rattle.rbs_terminals.specs.declared.token.Kind.TheVariants as kind
use Rattle.sig_model.specs.declared.ty.TypeName.{TypeName}
use Rattle.sig_model.specs.declared.decl.Notes.{Notes}
use Rattle.sig_model.specs.PlainDecl as decl
use Rattle.sig_model.specs.PlainDecl.{PlainDecl, PlainBody, PlainParts, PlainDecls}
use Rattle.rbs_types.specs.Symbols.{token, sign, word}
use Rattle.rbs_types.specs.Parts.{grown, no_name, root}
use Rattle.rbs_types.specs.Grammar.{of_class, capital, interface, small, outer, Name, relative, rooted}
use Rattle.viable_prefixes.specs.Runs.{reads}
use Rattle.rbs_types.specs.Machine.{start}
use Rattle.rbs_declarations.specs.declared.state.Begun.{Begun}
use Rattle.rbs_declarations.specs.declared.state.Step.{Step}
use Rattle.rbs_declarations.specs.declared.state.Step.TheVariants as step_at
use Rattle.rbs_declarations.specs.declared.state.Sort.TheVariants as sort
use Rattle.rbs_declarations.specs.declared.state.Heading.{Heading}
use Rattle.rbs_declarations.specs.declared.state.Heading.TheVariants as heading
use Rattle.rbs_declarations.specs.declared.state.Frame.{Frame}
use Rattle.rbs_declarations.specs.declared.state.Owner.TheVariants as owner
use Rattle.rbs_declarations.specs.declared.state.Purpose.TheVariants as purpose
use Rattle.rbs_declarations.specs.declared.state.Focus.TheVariants as focus
use Rattle.rbs_declarations.specs.declared.state.State.{State}
use Rattle.rbs_declarations.specs.Words.{comments_at, end_at}
use Rattle.rbs_declarations.specs.Grammar.{and_inner, and_member, and_decl, from, notes_at, Annotations, no_annotations, annotation, Declaration, declaration, Body, a_class, a_module, an_interface, a_type, a_constant, Parts, no_part, inner_part, member_part, InterfaceParts, no_interface_part, interface_part, File, end_of_file, further}
use Rattle.rbs_declarations.specs.Machine.{at, start_of_file, naming_of, no_naming, with_decl, body_of, place_from, declared, Site, in_file, in_class, in_interface, site_in, site_of, declaration_keyword, keyword_begins, constant_begins, begun_at, begins, no_notes_at, part_begins, next, final}
use Rattle.rbs_declarations.specs.Needs.{opened}
use Rattle.rbs_declarations.specs.Openness.{types_open, params_open, parent_open, selves_open, member_open, interface_member_open, declaration_open, body_open, parts_open, interface_parts_open, file_open}
use Rattle.rbs_declarations.proofs.OnTheWay.{Read, ended, at_least, least_spells, least_most, counted, over, twice, flat, onward, Calm, Rises}
use Rattle.rbs_declarations.proofs.Borders.{starts, Starts, Stops, annotations_start, body_starts, member_starts, interface_member_starts, parts_stop, interface_parts_stop, file_stops, stops_unbracketed, parent_unbracketed, selves_unbracketed}
use Rattle.rbs_declarations.proofs.Onward.{level, reading, here, goes_on, took, moved, declared_on, alias_read, constant_read}
use Rattle.rbs_declarations.proofs.Members.{begun_with, member_read, interface_member_read}
use Rattle.rbs_declarations.proofs.DeclarationHeadings.{declared_name_read, parameters_read, class_read, module_read, interface_read}

-- a declaration may stand there
abbrev takes_declarations : Site → Type 0
takes_declarations in_interface = ⊥
takes_declarations _ = Unit {0}

-- it begins a declaration
abbrev declares : Keyword → Type 0
declares keyword.Class = Unit {0}
declares keyword.Module = Unit {0}
declares keyword.Interface = Unit {0}
declares keyword.Type = Unit {0}
declares _ = ⊥

-- In the file of this number, whose last token ends at the byte `last`.
module _ (file last : ℕ) where
  -- ---- notes

  begins_noted : (ds : PlainDecls) (fs : List Frame) (k : Kind) (s : Spot) → starts k → part_begins file ds fs k s ≡ begins file (no_notes_at file s) ds fs k s
  begins_noted ds fs (kind.Keyword keyword.End) s h = absurd h
  begins_noted ds fs _ s h = refl

  -- where no annotation is read yet
  unnoted_read : (ds : PlainDecls) (fs : List Frame) (x : ℕ) (ts : List Token) → Starts ts → here file last focus.Parts ds fs ts ≡ here file last (focus.Noted (record { start = x; notes = notes_at ts [] })) ds fs ts
  unfolding reading
  unnoted_read ds fs x [] h = absurd h
  unnoted_read ds fs x (c ∷ ts) h = ap (λ o. goes_on file last o ts) (begins_noted ds fs c.kind c.spot h)

  -- where the last annotation began makes no difference
  noted_anywhere : (ds : PlainDecls) (fs : List Frame) (n : Notes) (x y : ℕ) (ts : List Token) → here file last (focus.Noted (record { start = x; notes = n })) ds fs ts ≡ here file last (focus.Noted (record { start = y; notes = n })) ds fs ts
  unfolding reading
  noted_anywhere ds fs n x y [] = refl
  noted_anywhere ds fs n x y (c ∷ ts) = refl

  annotations_read : {before all : List (List ℕ)} {ts rest : List Token} (ds : PlainDecls) (fs : List Frame) (cs : List (List ℕ)) (x y : ℕ) → Annotations before all ts rest
      → Calm (level 0 fs) (here file last (focus.Noted (record { start = x; notes = record { comments = cs; annotations = before } })) ds fs ts)
      (here file last (focus.Noted (record { start = y; notes = record { comments = cs; annotations = all } })) ds fs rest)
  annotations_read {before = before} {rest = rest} ds fs cs x y no_annotations = ap (at_least (level 0 fs)) (noted_anywhere ds fs (record { comments = cs; annotations = before }) x y rest)
  annotations_read {before = before} ds fs cs x y (annotation w s {ts = ts} d) =
      moved file last (focus.Noted (record { start = x; notes = record { comments = cs; annotations = before } })) ds fs (token (kind.Annotation w) s) ts
      (focus.Noted (record { start = s.start; notes = record { comments = cs; annotations = before ++ w ∷ [] } })) refl
      ∙ annotations_read ds fs cs s.start y d

  notes_read : {texts : List (List ℕ)} {ts mid : List Token} (ds : PlainDecls) (fs : List Frame) → Annotations [] texts ts mid → Starts mid
      → Calm (level 0 fs) (here file last focus.Parts ds fs ts) (here file last (focus.Noted (record { start = 0; notes = notes_at ts texts })) ds fs mid)
  notes_read {ts = ts} ds fs a h = ap (at_least (level 0 fs)) (unnoted_read ds fs 0 ts (annotations_start a h)) ∙ annotations_read ds fs (comments_at ts) 0 0 a

  -- ---- what begins a declaration

  keyword_declares : (w : Site) (begun : Begun) (ds : PlainDecls) (fs : List Frame) (k : Keyword) (s : Spot) → takes_declarations w → declares k → keyword_begins file w begun ds fs k s ≡ declaration_keyword file begun ds fs k
  keyword_declares in_interface begun ds fs k s h d = absurd h
  keyword_declares in_file begun ds fs k s h d = refl
  keyword_declares in_class begun ds fs keyword.Class s h d = refl
  keyword_declares in_class begun ds fs keyword.Module s h d = refl
  keyword_declares in_class begun ds fs keyword.Interface s h d = refl
  keyword_declares in_class begun ds fs keyword.Type s h d = refl
  keyword_declares in_class begun ds fs _ s h d = absurd d

  keyword_read : (ds : PlainDecls) (fs : List Frame) (x : ℕ) (n : Notes) (k : Keyword) (s : Spot) (ts : List Token) → takes_declarations (site_of fs) → declares k
      → here file last (focus.Noted (record { start = x; notes = n })) ds fs (word k s ∷ ts) ≡ goes_on file last (declaration_keyword file (begun_at file n s) ds fs k) ts
  keyword_read ds fs x n k s ts h d =
      took file last (focus.Noted (record { start = x; notes = n })) ds fs (word k s) ts (declaration_keyword file (begun_at file n s) ds fs k) (keyword_declares (site_of fs) (begun_at file n s) ds fs k s h d)

  constant_declares : (w : Site) (begun : Begun) (n : TypeName) (x : Step) (ds : PlainDecls) (fs : List Frame) → takes_declarations w
      → constant_begins file w begun n x ds fs ≡ at (focus.Name begun sort.Constant (naming_of n x)) ds fs
  constant_declares in_interface begun n x ds fs h = absurd h
  constant_declares _ begun n x ds fs h = refl

  constant_begun : {m : TypeName} {ts rest : List Token} (ds : PlainDecls) (fs : List Frame) (x : ℕ) (n : Notes) → takes_declarations (site_of fs) → Name of_class m ts rest
      → here file last (focus.Noted (record { start = x; notes = n })) ds fs ts ≡ here file last (focus.Name (begun_with n ts) sort.Constant no_naming) ds fs ts
  unfolding reading
  constant_begun ds fs x n h (relative (capital w s {rest = rest} e f)) = ap (λ o. goes_on file last o rest) (constant_declares (site_of fs) (begun_at file n s) (grown no_name w) step_at.Upper ds fs h)
  constant_begun ds fs x n h (relative (interface w s e)) = absurd (cc)
  constant_begun ds fs x n h (relative (small w s e)) = absurd (cc)
  constant_begun ds fs x n h (relative (outer w s s' {ts = ts} e d)) =
      ap (λ o. goes_on file last o (sign mark.Scope s' ∷ ts)) (constant_declares (site_of fs) (begun_at file n s) (grown no_name w) step_at.Upper ds fs h)
  constant_begun ds fs x n h (rooted s {ts = ts} d) = ap (λ o. goes_on file last o ts) (constant_declares (site_of fs) (begun_at file n s) root step_at.Scope ds fs h)

  -- ---- declarations and parts

  abbrev frame_with : Begun → Heading → PlainParts → Frame
  frame_with begun h parts = record { begun = begun; heading = h; parts = parts }

  -- an `end` shuts what the declaration's word opened
  declared_open : (ds : PlainDecls) (fs : List Frame) (d : PlainDecl) → opened (with_decl ds fs d) ≡ level 0 fs
  declared_open ds [] d = refl
  declared_open ds (f ∷ fs) d = refl

  shut : (begun : Begun) (w : Heading) (parts : PlainParts) (ds : PlainDecls) (fs : List Frame) (s : Spot) (rest : List Token) (k : ℕ) (a : Read)
      → Rises (level 1 fs) k a (here file last focus.Parts ds (frame_with begun w parts ∷ fs) (word keyword.End s ∷ rest))
      → at_least (level 0 fs) (at_least (level 1 fs) a) ≡ at_least (level 0 fs + (1 + k)) (declared_on file last begun s.end (body_of w parts) ds fs rest)
  shut begun w parts ds fs s rest k a h =
      let behind : State = declared file begun s.end (body_of w parts) ds fs in
      let open_behind : opened behind ≡ level 0 fs = declared_open ds fs (decl.decl (place_from file begun s.end) begun.notes (body_of w parts)) in
      let higher : max (level 0 fs) (level 1 fs + k) ≡ level 0 fs + (1 + k) = omega arith in
      let low : max (level 0 fs + (1 + k)) (level 0 fs) ≡ level 0 fs + (1 + k) = omega arith in
      let lower : max (level 0 fs + (1 + k)) (opened behind) ≡ level 0 fs + (1 + k) = ap (max (level 0 fs + (1 + k))) open_behind ∙ low in
      ap (at_least (level 0 fs)) h
      ∙ over (level 0 fs) (level 1 fs + k) (level 0 fs + (1 + k)) (here file last focus.Parts ds (frame_with begun w parts ∷ fs) (word keyword.End s ∷ rest)) higher
      ∙ ap (at_least (level 0 fs + (1 + k))) (took file last focus.Parts ds (frame_with begun w parts ∷ fs) (word keyword.End s) rest (Some behind) refl)
      ∙ over (level 0 fs + (1 + k)) (opened behind) (level 0 fs + (1 + k)) (declared_on file last begun s.end (body_of w parts) ds fs rest) lower

  -- behind a heading stand parts
  then_parts : {x : Read} (b c : Read) (fs : List Frame) (f : Frame) (j k : ℕ) → x ≡ at_least (level 1 fs + j) b → Rises (level 0 (f ∷ fs)) k b c → x ≡ at_least (level 1 fs + max j k) c
  then_parts b c fs f j k g h =
      let inside : level 1 fs ≡ level 0 (f ∷ fs) = omega arith in
      let back : level 0 (f ∷ fs) + k ≡ level 1 fs + k = omega arith in
      onward b c (level 1 fs) j k g (counted b inside ∙ h ∙ counted c back)

  mutual
    declaration_read : {d : PlainDecl} {ts rest : List Token} (ds : PlainDecls) (fs : List Frame) → takes_declarations (site_of fs) → (x : Declaration file last d ts rest) → Stops rest
        → Rises (level 0 fs) (declaration_open x) (here file last focus.Parts ds fs ts) (reading file last (with_decl ds fs d) rest)
    declaration_read {ts = ts} ds fs i (declaration {texts = texts} a b) h = notes_read ds fs a (body_starts b) ∙ body_read ds fs 0 (notes_at ts texts) i b h

    body_read : {b : PlainBody} {e : ℕ} {ts rest : List Token} (ds : PlainDecls) (fs : List Frame) (x : ℕ) (n : Notes) → takes_declarations (site_of fs) → (y : Body file last b e ts rest) → Stops rest
        → Rises (level 0 fs) (body_open y) (here file last (focus.Noted (record { start = x; notes = n })) ds fs ts) (declared_on file last (begun_with n ts) e b ds fs rest)
    body_read ds fs x n i (a_class {n = m} {ps = ps} {t = t} {parts = all} s s' {ts = ts} {mid' = mid} {mid'' = mid'} {rest = rest} d p u parts) h =
        let begun : Begun = begun_at file n s in
        let empty : Frame = frame_with begun (heading.Class m ps t) decl.no_parts in
        let full : Frame = frame_with begun (heading.Class m ps t) all in
        ap (at_least (level 0 fs)) (keyword_read ds fs x n keyword.Class s ts i tt)
        ∙ shut begun (heading.Class m ps t) all ds fs s' rest (max (max (params_open p) (parent_open u)) (parts_open parts)) (here file last (focus.Name begun sort.Class no_naming) ds fs ts)
        (then_parts (here file last focus.Parts ds (empty ∷ fs) mid') (here file last focus.Parts ds (full ∷ fs) (word keyword.End s' ∷ rest)) fs full (max (params_open p) (parent_open u)) (parts_open parts)
        (onward (here file last (focus.Parameterized (owner.Heading begun sort.Class m) ps) ds fs mid) (here file last focus.Parts ds (empty ∷ fs) mid') (level 1 fs) (params_open p) (parent_open u)
        (declared_name_read file last ds fs begun sort.Class d ∙ parameters_read file last ds fs begun sort.Class m refl p (parent_unbracketed u (parts_stop parts tt)))
        (class_read file last ds fs begun m ps u (parts_stop parts tt)))
        (parts_read begun (heading.Class m ps t) ds fs refl parts tt))
    body_read ds fs x n i (a_module {n = m} {ps = ps} {us = us} {parts = all} s s' {ts = ts} {mid' = mid} {mid'' = mid'} {rest = rest} d p u parts) h =
        let begun : Begun = begun_at file n s in
        let empty : Frame = frame_with begun (heading.Module m ps us) decl.no_parts in
        let full : Frame = frame_with begun (heading.Module m ps us) all in
        ap (at_least (level 0 fs)) (keyword_read ds fs x n keyword.Module s ts i tt)
        ∙ shut begun (heading.Module m ps us) all ds fs s' rest (max (max (params_open p) (selves_open u)) (parts_open parts)) (here file last (focus.Name begun sort.Module no_naming) ds fs ts)
        (then_parts (here file last focus.Parts ds (empty ∷ fs) mid') (here file last focus.Parts ds (full ∷ fs) (word keyword.End s' ∷ rest)) fs full (max (params_open p) (selves_open u)) (parts_open parts)
        (onward (here file last (focus.Parameterized (owner.Heading begun sort.Module m) ps) ds fs mid) (here file last focus.Parts ds (empty ∷ fs) mid') (level 1 fs) (params_open p) (selves_open u)
        (declared_name_read file last ds fs begun sort.Module d ∙ parameters_read file last ds fs begun sort.Module m refl p (selves_unbracketed u (parts_stop parts tt)))
        (module_read file last ds fs begun m ps u (parts_stop parts tt)))
        (parts_read begun (heading.Module m ps us) ds fs refl parts tt))
    body_read ds fs x n i (an_interface {n = m} {ps = ps} {parts = all} s s' {ts = ts} {mid' = mid} {rest = rest} d p parts) h =
        let begun : Begun = begun_at file n s in
        let empty : Frame = frame_with begun (heading.Interface m ps) decl.no_parts in
        let full : Frame = frame_with begun (heading.Interface m ps) all in
        let before : ℕ = level 1 fs + params_open p in
        ap (at_least (level 0 fs)) (keyword_read ds fs x n keyword.Interface s ts i tt)
        ∙ shut begun (heading.Interface m ps) all ds fs s' rest (max (params_open p) (interface_parts_open parts)) (here file last (focus.Name begun sort.Interface no_naming) ds fs ts)
        (then_parts (here file last focus.Parts ds (empty ∷ fs) mid) (here file last focus.Parts ds (full ∷ fs) (word keyword.End s' ∷ rest)) fs full (params_open p) (interface_parts_open parts)
        (declared_name_read file last ds fs begun sort.Interface d
        ∙ parameters_read file last ds fs begun sort.Interface m refl p (stops_unbracketed mid (interface_parts_stop parts tt))
        ∙ ap (at_least before) (interface_read file last ds fs begun m ps mid))
        (interface_parts_read begun (heading.Interface m ps) ds fs refl parts tt))
    body_read ds fs x n i (a_type {n = m} {ps = ps} {t = t} s s' {ts = ts} {mid' = mid} {rest = rest} d p u) h =
        let begun : Begun = begun_at file n s in
        ap (at_least (level 0 fs)) (keyword_read ds fs x n keyword.Type s ts i tt)
        ∙ twice (level 0 fs) (here file last (focus.Name begun sort.Alias no_naming) ds fs ts)
        ∙ onward (here file last (focus.Parameterized (owner.Heading begun sort.Alias m) ps) ds fs (sign mark.Equals s' ∷ mid)) (declared_on file last begun (end_at last rest) (decl.alias m ps t) ds fs rest)
        (level 0 fs) (params_open p) (types_open 0 mid rest)
        (declared_name_read file last ds fs begun sort.Alias d ∙ parameters_read file last ds fs begun sort.Alias m refl p tt)
        (moved file last (focus.Parameterized (owner.Heading begun sort.Alias m) ps) ds fs (sign mark.Equals s') mid (focus.Typed (purpose.Alias begun m ps) start) refl ∙ alias_read file last begun m ps ds fs u h)
    body_read ds fs x n i (a_constant {n = m} s {ts = ts} {mid = mid} d t) h =
        ap (at_least (level 0 fs)) (constant_begun ds fs x n i d)
        ∙ declared_name_read file last ds fs (begun_with n ts) sort.Constant d
        ∙ moved file last (focus.Named (begun_with n ts) sort.Constant m) ds fs (sign mark.Colon s) mid (focus.Typed (purpose.Constant (begun_with n ts) m) start) refl
        ∙ constant_read file last (begun_with n ts) m ds fs t h

    -- the parts of a class or a module
    parts_read : {before all : PlainParts} {ts rest : List Token} (begun : Begun) (w : Heading) (ds : PlainDecls) (fs : List Frame) → site_in w ≡ in_class → (x : Parts file last before all ts rest) → Stops rest
        → Rises (level 0 (frame_with begun w all ∷ fs)) (parts_open x) (here file last focus.Parts ds (frame_with begun w before ∷ fs) ts) (here file last focus.Parts ds (frame_with begun w all ∷ fs) rest)
    parts_read {before = before} {rest = rest} begun w ds fs i no_part h = flat (here file last focus.Parts ds (frame_with begun w before ∷ fs) rest) (level 0 (frame_with begun w before ∷ fs)) refl
    parts_read {rest = rest} begun w ds fs i (inner_part {before = before} {all = all} {d = d} {mid = mid} x l) h =
        onward (here file last focus.Parts ds (frame_with begun w (and_inner before d) ∷ fs) mid) (here file last focus.Parts ds (frame_with begun w all ∷ fs) rest)
        (level 0 (frame_with begun w before ∷ fs)) (declaration_open x) (parts_open l)
        (declaration_read ds (frame_with begun w before ∷ fs) (subst takes_declarations (sym i) tt) x (parts_stop l h))
        (parts_read begun w ds fs i l h)
    parts_read {rest = rest} begun w ds fs i (member_part {before = before} {all = all} {texts = texts} {m = m} {e = e} {ts = ts} {mid = mid} {mid' = mid'} a x l) h =
        onward (here file last focus.Parts ds (frame_with begun w (and_member before (from file mid e) (notes_at ts texts) m) ∷ fs) mid') (here file last focus.Parts ds (frame_with begun w all ∷ fs) rest)
        (level 0 (frame_with begun w before ∷ fs)) (member_open x) (parts_open l)
        (notes_read ds (frame_with begun w before ∷ fs) a (member_starts x) ∙ member_read file last ds (frame_with begun w before) fs 0 (notes_at ts texts) i x (parts_stop l h))
        (parts_read begun w ds fs i l h)

    interface_parts_read : {before all : PlainParts} {ts rest : List Token} (begun : Begun) (w : Heading) (ds : PlainDecls) (fs : List Frame) → site_in w ≡ in_interface → (x : InterfaceParts file last before all ts rest) → Stops rest
        → Rises (level 0 (frame_with begun w all ∷ fs)) (interface_parts_open x) (here file last focus.Parts ds (frame_with begun w before ∷ fs) ts) (here file last focus.Parts ds (frame_with begun w all ∷ fs) rest)
    interface_parts_read {before = before} {rest = rest} begun w ds fs i no_interface_part h = flat (here file last focus.Parts ds (frame_with begun w before ∷ fs) rest) (level 0 (frame_with begun w before ∷ fs)) refl
    interface_parts_read {rest = rest} begun w ds fs i (interface_part {before = before} {all = all} {texts = texts} {m = m} {e = e} {ts = ts} {mid = mid} {mid' = mid'} a x l) h =
        onward (here file last focus.Parts ds (frame_with begun w (and_member before (from file mid e) (notes_at ts texts) m) ∷ fs) mid') (here file last focus.Parts ds (frame_with begun w all ∷ fs) rest)
        (level 0 (frame_with begun w before ∷ fs)) (interface_member_open x) (interface_parts_open l)
        (notes_read ds (frame_with begun w before ∷ fs) a (interface_member_starts x) ∙ interface_member_read file last ds (frame_with begun w before) fs 0 (notes_at ts texts) i x (interface_parts_stop l h))
        (interface_parts_read begun w ds fs i l h)

  file_read : {before all : PlainDecls} {ts : List Token} → (x : File file last before all ts) → Rises 0 (file_open x) (here file last focus.Parts before [] ts) (ended (Some all))
  unfolding reading
  file_read (end_of_file {ds = ds}) = refl
  file_read (further {before = before} {all = all} {d = d} {mid = mid} x l) =
      onward (here file last focus.Parts (and_decl before d) [] mid) (ended (Some all)) 0 (declaration_open x) (file_open l) (declaration_read before [] tt x (file_stops l)) (file_read l)

  -- the declarations are those that the machine reads
  spelled_is : (m : State) (ts : List Token) → (reading file last m ts).spelled ≡ reads (next file) (final file last) m ts
  unfolding reading reads
  spelled_is m [] = refl
  spelled_is m (c ∷ ts) = go (next file m c) (λ e. spelled_is e ts)
    where
      go : (o : Option State) → ((e : State) → (reading file last e ts).spelled ≡ reads (next file) (final file last) e ts) → (goes_on file last o ts).spelled ≡ option_and_then (λ e. reads (next file) (final file last) e ts) o
      go None h = refl
      go (Some e) h = least_spells (opened e) (reading file last e ts) ∙ h e

pub complete : (file e : ℕ) (ds : PlainDecls) (ts : List Token) → File file e decl.no_decls ds ts → reads (next file) (final file e) start_of_file ts ≡ Some ds
complete file e ds ts d =
    sym (spelled_is file e start_of_file ts)
    ∙ sym (least_spells 0 (reading file e start_of_file ts))
    ∙ ap (λ (r : Read). r.spelled) (file_read file e d)
    ∙ least_spells (0 + file_open d) (ended (Some ds))

-- the most that are open at once while the reader takes a file are as many as its derivation says
pub most_is : (file e : ℕ) (ds : PlainDecls) (ts : List Token) → (d : File file e decl.no_decls ds ts) → (reading file e start_of_file ts).most ≡ file_open d
most_is file e ds ts d =
    let low : (at_least 0 (reading file e start_of_file ts)).most ≡ max 0 (reading file e start_of_file ts).most = least_most 0 (reading file e start_of_file ts) in
    let high : (at_least (0 + file_open d) (ended (Some ds))).most ≡ max (0 + file_open d) 0 = least_most (0 + file_open d) (ended (Some ds)) in
    let same : max 0 (reading file e start_of_file ts).most ≡ max (0 + file_open d) 0 = sym low ∙ ap (λ (r : Read). r.most) (file_read file e d) ∙ high in
    omega arith
