-- Printed declarations are read back, places aside.
use Rattle.std.proofs.Common.{◌≤◌, arith, ℕ, suc, ◌≡◌, refl, sym, ◌∙◌, ap, subst, Bool, true, false, List, [], ◌∷◌, ◌++◌, append_assoc, append-nil, Option, Some, None, inl, inr}
use Rattle.rbs_lexer.specs.Names.{IsUpper}
use Rattle.rbs_terminals.specs.declared.token.Token.{Token}
use Rattle.rbs_terminals.specs.declared.token.Spot.{Spot}
use Rattle.rbs_terminals.specs.declared.token.Gap.{Gap}
use Rattle.rbs_terminals.specs.declared.token.Gap.TheVariants as gap
use Rattle.rbs_terminals.specs.declared.token.Mark.TheVariants as mark
use Rattle.rbs_terminals.specs.declared.token.Keyword.TheVariants as keyword
use Rattle.rbs_terminals.specs.Kinds.{kind_at}
use Rattle.sig_model.specs.declared.place.Place.{Place}
use Rattle.sig_model.specs.declared.ty.TypeName.{TypeName}
use Rattle.sig_model.specs.declared.decl.Notes.{Notes}
use Rattle.sig_model.specs.PlainTy as plain
use Rattle.sig_model.specs.PlainTy.{PlainTy, PlainTys, append_tys}
use Rattle.sig_model.specs.PlainTyLaws.{append_tys-assoc}
use Rattle.sig_model.specs.PlainMember.{PlainParam, PlainMember}
use Rattle.sig_model.specs.PlainDecl as decl
use Rattle.sig_model.specs.PlainDecl.{PlainDecl, PlainBody, PlainParts, PlainDecls, append_parts, append_decls}
use Rattle.sig_model.specs.PlainDeclLaws.{append_parts-none, append_parts-assoc, append_decls-none, append_decls-assoc}
use Rattle.rbs_types.specs.Symbols.{sign, word, scope_at, scope_follows, is_question}
use Rattle.rbs_types.specs.Plains.{and_ty}
use Rattle.rbs_types.specs.Grammar.{Use, of_class, of_interface, of_alias, of_class_or_interface, Name}
use Rattle.rbs_declarations.specs.Words.{end_at}
use Rattle.rbs_declarations.specs.Grammar as grammar
use Rattle.rbs_declarations.specs.Grammar.{Applied, Params, Parent, SelfTypes, Selves, Annotations, notes_at, from, and_inner, and_member, and_decl}
use Rattle.rbs_printer.specs.Types.{whole}
use Rattle.printed_tokens.specs.Pieces.{Piece, blank, tok}
use Rattle.printed_tokens.specs.Layout as lay
use Rattle.printed_tokens.specs.Layout.{word_token, joined, comma, name_pieces, path_pieces, type_pieces, types_at, parameters_pieces, parent_pieces, selves_pieces, heading, inner_lines, decl_lines, parts_lines, all_lines, noted, end_line, member_pieces}
use Rattle.printed_tokens.specs.Fits.{Fits, FitsLines}
use Rattle.printed_signatures.specs.Writable.{EndsName, IsPath, IsName, AreParameters, IsParent, AreSelves, IsBody, IsDeclaration, AreParts, AreInterfaceParts, AreWritable}
use Rattle.printed_signatures.specs.Unplaced.{nowhere, unplaced_body, unplaced_decl, unplaced_parts, unplaced}
use Rattle.printed_signatures.proofs.Split.{gap_behind, split, first_mark, first_keyword, mark_between, onward}
use Rattle.printed_signatures.proofs.WordKinds.{upper_word}
use Rattle.printed_signatures.proofs.NamesRead.{name_read}
use Rattle.printed_signatures.proofs.ListsRead.{comma_separates, parted}
use Rattle.printed_signatures.proofs.TypesRead.{type_back}
use Rattle.printed_signatures.proofs.ParamsRead.{applied_name_read, params_read}
use Rattle.printed_signatures.proofs.Lines.{lines_split, NewLine, Begins, AllBegin, all_begin_append, new_line, new_line_quiet, noted_read, annotated_begins}
use Rattle.rbs_declarations.specs.Openness.{params_open, declaration_open, body_open, parts_open, interface_parts_open, file_open}
use Rattle.printed_signatures.specs.Nesting.{nesting, params_nesting, body_nesting, decl_nesting, parts_nesting, decls_nesting}
use Rattle.printed_signatures.proofs.TypesLevel.{level_type}
use Rattle.printed_signatures.proofs.FitsOpen.{level_open}
use Rattle.printed_signatures.proofs.MembersBounded.{params_bounded, parent_bounded, selves_bounded}
use Rattle.printed_signatures.proofs.MembersRead.{member_read, interface_member_read, member_begins}

-- ---- where no `::` follows

-- the pieces don't begin with a `::`
abbrev NoScope : List Piece → Type 0
NoScope [] = Unit {0}
NoScope (blank ∷ ps) = NoScope ps
NoScope (tok k w ∷ ps) = (s : Spot) → scope_at (kind_at k w) s ≡ false

no_scope : (g : Gap) (ps : List Piece) (ts rest : List Token) → NoScope ps → Fits g ps ts rest → scope_follows rest ≡ false → scope_follows ts ≡ false
no_scope g [] ts rest n e q = ap scope_follows e ∙ q
no_scope g (blank ∷ ps) ts rest n f q = no_scope gap.Blank ps ts rest n f q
no_scope g (tok k w ∷ ps) [] rest n f q = absurd f
no_scope g (tok k w ∷ ps) (c ∷ ts) rest n f q = ap (λ k. scope_at k c.spot) f.0 ∙ n c.spot

-- parameters and what stands behind them
params_no_scope : (ps : List PlainParam) (qs : List Piece) → NoScope qs → NoScope (parameters_pieces ps ++ qs)
params_no_scope [] qs n = n
params_no_scope (p ∷ ps) qs n = λ s. refl

parent_no_scope : (t : Option PlainTy) → NoScope (parent_pieces t)
parent_no_scope None = tt
parent_no_scope (Some t) = λ s. refl

selves_no_scope : (ts : PlainTys) → NoScope (selves_pieces ts)
selves_no_scope plain.no_tys = tt
selves_no_scope (plain.more_tys t ts) = λ s. refl

-- the name and the parameters of a declaration, and what stands behind them
named_read : (u : Use) (n : TypeName) (ps : List PlainParam) (qs : List Piece) → IsName u n → AreParameters ps → NoScope qs → (ts rest : List Token) → Fits gap.Blank (name_pieces n ++ parameters_pieces ps ++ qs) ts rest → scope_follows rest ≡ false
    → (mid : List Token) × (mid' : List Token) × (at : Gap) × Name u n ts mid × (p : Params ps mid mid') × (params_open p ≤ params_nesting ps) × Fits at qs mid' rest
named_read u n ps qs h k free ts rest f q =
    let (mid, a, b) = split gap.Blank (name_pieces n) (parameters_pieces ps ++ qs) ts rest (subst (λ ps. Fits gap.Blank ps ts rest) (append_assoc (name_pieces n) (parameters_pieces ps) qs) f) in
    let (mid', c, d) = split (gap_behind gap.Blank (name_pieces n)) (parameters_pieces ps) qs mid rest b in
    let quiet = no_scope (gap_behind gap.Blank (name_pieces n)) (parameters_pieces ps ++ qs) mid rest (params_no_scope ps qs free) b q in
    let p = params_read ps k (gap_behind gap.Blank (name_pieces n)) mid mid' c in
    (mid, mid', gap_behind (gap_behind gap.Blank (name_pieces n)) (parameters_pieces ps), name_read u n h gap.Blank ts mid a quiet, p, params_bounded ps k (gap_behind gap.Blank (name_pieces n)) mid mid' c p, d)

-- ---- the parent and the self types

parent_read : (t : Option PlainTy) → IsParent t → (g : Gap) (ts rest : List Token) → Fits g (parent_pieces t) ts rest → scope_follows rest ≡ false → Parent t ts rest
parent_read None h g ts rest e q = subst (λ rest. Parent None ts rest) e grammar.no_parent
parent_read (Some t) h g ts rest f q =
    let (s, more, at, j, b) = first_mark gap.Blank mark.Less (blank ∷ type_pieces t) ts rest f in
    subst (λ ts. Parent (Some t) ts rest) (sym at) (grammar.parent s (applied_name_read of_class t h gap.Blank more rest b q))

self_types_read : (before : PlainTys) (t : PlainTy) (us : PlainTys) → AreSelves (plain.more_tys t us) → (g : Gap) (ts rest : List Token) → Fits g (joined comma (type_pieces t ∷ types_at whole us)) ts rest → scope_follows rest ≡ false
    → SelfTypes before (append_tys before (plain.more_tys t us)) ts rest
self_types_read before t plain.no_tys h g ts rest f q = grammar.last_self (applied_name_read of_class_or_interface t h.0 g ts rest f q)
self_types_read before t (plain.more_tys u us) h g ts rest f q =
    let (s, more, a, b) = parted comma mark.Comma comma_separates (type_pieces t) (type_pieces u) (types_at whole us) g ts rest f in
    subst (λ all. SelfTypes before all ts rest) (append_tys-assoc before (plain.more_tys t plain.no_tys) (plain.more_tys u us))
    (grammar.more_selves s (applied_name_read of_class_or_interface t h.0 g ts (sign mark.Comma s ∷ more) a refl)
    (self_types_read (and_ty before t) u us h.1 (gap_behind g (type_pieces t ++ comma)) more rest b q))

selves_read : (us : PlainTys) → AreSelves us → (g : Gap) (ts rest : List Token) → Fits g (selves_pieces us) ts rest → scope_follows rest ≡ false → Selves us ts rest
selves_read plain.no_tys h g ts rest e q = subst (λ rest. Selves plain.no_tys ts rest) e grammar.no_selves
selves_read (plain.more_tys t us) h g ts rest f q =
    let (s, more, at, j, b) = first_mark g mark.Colon (blank ∷ joined comma (type_pieces t ∷ types_at whole us)) ts rest f in
    subst (λ ts. Selves (plain.more_tys t us) ts rest) (sym at) (grammar.selves s (self_types_read plain.no_tys t us h gap.Blank more rest b q))

-- ---- no declaration begins with a question mark

upper_begins : (w : List ℕ) → IsUpper w → is_question (kind_at (word_token w) w) ≡ false
upper_begins w h = ap is_question (upper_word w h)

class_begins : (w : List ℕ) → EndsName of_class w → is_question (kind_at (word_token w) w) ≡ false
class_begins w (inl h) = upper_begins w h.1
class_begins w (inr (inl h)) = absurd (cc)
class_begins w (inr (inr h)) = absurd (cc)

class_path_begins : (path : List (List ℕ)) (qs : List Piece) → IsPath of_class path → Begins (path_pieces path ++ qs)
class_path_begins [] qs h = absurd h
class_path_begins (w ∷ []) qs h = class_begins w h
class_path_begins (w ∷ v ∷ ws) qs h = upper_begins w h.0

class_name_begins : (r : Bool) (path : List (List ℕ)) (qs : List Piece) → IsPath of_class path → Begins (name_pieces (record { rooted = r; path = path }) ++ qs)
class_name_begins true path qs h = refl
class_name_begins false path qs h = class_path_begins path qs h

heading_begins : (b : PlainBody) → IsBody b → Begins (heading b)
heading_begins (decl.class n ps t parts) h = refl
heading_begins (decl.module n ps ts parts) h = refl
heading_begins (decl.iface n ps parts) h = refl
heading_begins (decl.alias n ps t) h = refl
heading_begins (decl.const n t) h = class_name_begins n.rooted n.path (lay.sign mark.Colon ∷ blank ∷ type_pieces t) h.0

mutual
  inner_begins : (depth : ℕ) (b : PlainBody) → IsBody b → AllBegin (inner_lines depth b)
  inner_begins depth (decl.class n ps t parts) h = all_begin_append (parts_lines (suc depth) parts) (end_line depth ∷ []) (parts_begin (suc depth) parts h.3) (refl, tt)
  inner_begins depth (decl.module n ps ts parts) h = all_begin_append (parts_lines (suc depth) parts) (end_line depth ∷ []) (parts_begin (suc depth) parts h.3) (refl, tt)
  inner_begins depth (decl.iface n ps parts) h = all_begin_append (parts_lines (suc depth) parts) (end_line depth ∷ []) (interface_parts_begin (suc depth) parts h.2) (refl, tt)
  inner_begins depth (decl.alias n ps t) h = tt
  inner_begins depth (decl.const n t) h = tt

  decl_begins : (depth : ℕ) (d : PlainDecl) → IsDeclaration d → AllBegin (decl_lines depth d)
  decl_begins depth (decl.decl place notes body) h =
      all_begin_append (noted depth notes (heading body)) (inner_lines depth body) (annotated_begins depth notes.comments notes.annotations (heading body) (heading_begins body h.1)) (inner_begins depth body h.1)

  parts_begin : (depth : ℕ) (parts : PlainParts) → AreParts parts → AllBegin (parts_lines depth parts)
  parts_begin depth decl.no_parts h = tt
  parts_begin depth (decl.inner d parts) h = all_begin_append (decl_lines depth d) (parts_lines depth parts) (decl_begins depth d h.0) (parts_begin depth parts h.1)
  parts_begin depth (decl.member place notes m parts) h =
      all_begin_append (noted depth notes (member_pieces m)) (parts_lines depth parts) (annotated_begins depth notes.comments notes.annotations (member_pieces m) (member_begins m)) (parts_begin depth parts h.2)

  interface_parts_begin : (depth : ℕ) (parts : PlainParts) → AreInterfaceParts parts → AllBegin (parts_lines depth parts)
  interface_parts_begin depth decl.no_parts h = tt
  interface_parts_begin depth (decl.inner d parts) h = absurd h
  interface_parts_begin depth (decl.member place notes m parts) h =
      all_begin_append (noted depth notes (member_pieces m)) (parts_lines depth parts) (annotated_begins depth notes.comments notes.annotations (member_pieces m) (member_begins m)) (interface_parts_begin depth parts h.2)

all_begins : (ds : PlainDecls) → AreWritable ds → AllBegin (all_lines ds)
all_begins decl.no_decls h = tt
all_begins (decl.more_decls d ds) h = all_begin_append (decl_lines 0 d) (all_lines ds) (decl_begins 0 d h.0) (all_begins ds h.1)

-- ---- parts and declarations without places

unplaced_parts_append : (ps qs : PlainParts) → unplaced_parts (append_parts ps qs) ≡ append_parts (unplaced_parts ps) (unplaced_parts qs)
unplaced_parts_append decl.no_parts qs = refl
unplaced_parts_append (decl.inner d ps) qs = ap (decl.inner (unplaced_decl d)) (unplaced_parts_append ps qs)
unplaced_parts_append (decl.member place notes m ps) qs = ap (decl.member nowhere notes m) (unplaced_parts_append ps qs)

unplaced_append : (ds es : PlainDecls) → unplaced (append_decls ds es) ≡ append_decls (unplaced ds) (unplaced es)
unplaced_append decl.no_decls es = refl
unplaced_append (decl.more_decls d ds) es = ap (decl.more_decls (unplaced_decl d)) (unplaced_append ds es)

-- one part is read, and then the others
part_on : (before one all parts : PlainParts) (more : PlainParts) → unplaced_parts one ≡ more → unplaced_parts all ≡ append_parts (unplaced_parts (append_parts before one)) (unplaced_parts parts)
    → unplaced_parts all ≡ append_parts (unplaced_parts before) (append_parts more (unplaced_parts parts))
part_on before one all parts more e h =
    h ∙ ap (λ x. append_parts x (unplaced_parts parts)) (unplaced_parts_append before one) ∙ append_parts-assoc (unplaced_parts before) (unplaced_parts one) (unplaced_parts parts)
    ∙ ap (λ x. append_parts (unplaced_parts before) (append_parts x (unplaced_parts parts))) e

-- ---- everything

-- the last line of what has parts
end_read : (depth : ℕ) (ts rest : List Token) → FitsLines (end_line depth ∷ []) ts rest → (s : Spot) × (ts ≡ word keyword.End s ∷ rest) × (s.gap ≡ gap.Line)
end_read depth ts rest f = let (s, more, at, j, e) = first_keyword gap.Line keyword.End [] ts f.0 f.1.0 in (s, onward at (e ∙ f.2), j)

module _ (file last : ℕ) where
  -- read back, places aside
  abbrev BodyRead : ℕ → PlainBody → Type 0
  BodyRead depth b = (ts mid rest : List Token) → Fits gap.Line (heading b) ts mid → FitsLines (inner_lines depth b) mid rest → NewLine rest
      → (b' : PlainBody) × (e : ℕ) × (d : grammar.Body file last b' e ts rest) × (body_open d ≤ body_nesting b) × (unplaced_body b' ≡ unplaced_body b)

  abbrev DeclRead : ℕ → PlainDecl → Type 0
  DeclRead depth d = (ts rest : List Token) → FitsLines (decl_lines depth d) ts rest → NewLine rest → (d' : PlainDecl) × (x : grammar.Declaration file last d' ts rest) × (declaration_open x ≤ decl_nesting d) × (unplaced_decl d' ≡ unplaced_decl d)

  abbrev PartsRead : ℕ → PlainParts → Type 0
  PartsRead depth parts = (before : PlainParts) (ts rest : List Token) → FitsLines (parts_lines depth parts) ts rest → NewLine rest
      → (all : PlainParts) × (x : grammar.Parts file last before all ts rest) × (parts_open x ≤ parts_nesting parts) × (unplaced_parts all ≡ append_parts (unplaced_parts before) (unplaced_parts parts))

  abbrev InterfacePartsRead : ℕ → PlainParts → Type 0
  InterfacePartsRead depth parts = (before : PlainParts) (ts rest : List Token) → FitsLines (parts_lines depth parts) ts rest → NewLine rest
      → (all : PlainParts) × (x : grammar.InterfaceParts file last before all ts rest) × (interface_parts_open x ≤ parts_nesting parts) × (unplaced_parts all ≡ append_parts (unplaced_parts before) (unplaced_parts parts))

  -- the same at equal places
  body_at : (b : PlainBody) (e k : ℕ) (ts us rest : List Token) → ts ≡ us → (d : grammar.Body file last b e ts rest) → body_open d ≤ k → (d : grammar.Body file last b e us rest) × (body_open d ≤ k)
  body_at b e k ts us rest is d l = subst (λ ts. (d : grammar.Body file last b e ts rest) × (body_open d ≤ k)) is (d, l)

  body_to : (b : PlainBody) (e k : ℕ) (ts mid rest : List Token) → mid ≡ rest → (d : grammar.Body file last b e ts mid) → body_open d ≤ k → (d : grammar.Body file last b e ts rest) × (body_open d ≤ k)
  body_to b e k ts mid rest is d l = subst (λ rest. (d : grammar.Body file last b e ts rest) × (body_open d ≤ k)) is (d, l)

  params_at : (ps : List PlainParam) (k : ℕ) (ts mid rest : List Token) → mid ≡ rest → (d : Params ps ts mid) → params_open d ≤ k → (d : Params ps ts rest) × (params_open d ≤ k)
  params_at ps k ts mid rest is d l = subst (λ rest. (d : Params ps ts rest) × (params_open d ≤ k)) is (d, l)

  -- the parts of a declaration, with its last line
  ended_read : (depth : ℕ) (parts : PlainParts) → PartsRead (suc depth) parts → (ts rest : List Token) → FitsLines (parts_lines (suc depth) parts ++ end_line depth ∷ []) ts rest
      → (s : Spot) × (all : PlainParts) × (x : grammar.Parts file last decl.no_parts all ts (word keyword.End s ∷ rest)) × (parts_open x ≤ parts_nesting parts) × (unplaced_parts all ≡ unplaced_parts parts)
  ended_read depth parts r ts rest f =
      let (mid, a, b) = lines_split (parts_lines (suc depth) parts) (end_line depth ∷ []) ts rest f in
      let (s, at, j) = end_read depth mid rest b in
      let (all, d, l, e) = r decl.no_parts ts (word keyword.End s ∷ rest) (subst (FitsLines (parts_lines (suc depth) parts) ts) at a) (j, refl) in
      (s, all, d, l, e)

  ended_interface_read : (depth : ℕ) (parts : PlainParts) → InterfacePartsRead (suc depth) parts → (ts rest : List Token) → FitsLines (parts_lines (suc depth) parts ++ end_line depth ∷ []) ts rest
      → (s : Spot) × (all : PlainParts) × (x : grammar.InterfaceParts file last decl.no_parts all ts (word keyword.End s ∷ rest)) × (interface_parts_open x ≤ parts_nesting parts) × (unplaced_parts all ≡ unplaced_parts parts)
  ended_interface_read depth parts r ts rest f =
      let (mid, a, b) = lines_split (parts_lines (suc depth) parts) (end_line depth ∷ []) ts rest f in
      let (s, at, j) = end_read depth mid rest b in
      let (all, d, l, e) = r decl.no_parts ts (word keyword.End s ∷ rest) (subst (FitsLines (parts_lines (suc depth) parts) ts) at a) (j, refl) in
      (s, all, d, l, e)

  class_read : (depth : ℕ) (n : TypeName) (ps : List PlainParam) (t : Option PlainTy) (parts : PlainParts) → IsBody (decl.class n ps t parts) → PartsRead (suc depth) parts → BodyRead depth (decl.class n ps t parts)
  class_read depth n ps t parts h r ts mid rest f ls new =
      let q = new_line_quiet mid (new_line (inner_lines depth (decl.class n ps t parts)) (inner_begins depth (decl.class n ps t parts) h) mid rest ls new) in
      let (s, more, at, j, b) = first_keyword gap.Line keyword.Class (blank ∷ (name_pieces n ++ parameters_pieces ps ++ parent_pieces t)) ts mid f in
      let (m, m', g, c, d, k, e) = named_read of_class n ps (parent_pieces t) h.0 h.1 (parent_no_scope t) more mid b q.0 in
      let (s', all, x, l, y) = ended_read depth parts r mid rest ls in
      let p = parent_read t h.2 g m' mid e q.0 in
      let (body, most) = body_at (decl.class n ps t all) s'.end (body_nesting (decl.class n ps t parts)) (word keyword.Class s ∷ more) ts rest (sym at) (grammar.a_class s s' c d p x) (omega (arith, k, parent_bounded t h.2 g m' mid e p, l)) in
      (decl.class n ps t all, s'.end, body, most, ap (decl.class n ps t) y)

  module_read : (depth : ℕ) (n : TypeName) (ps : List PlainParam) (us : PlainTys) (parts : PlainParts) → IsBody (decl.module n ps us parts) → PartsRead (suc depth) parts → BodyRead depth (decl.module n ps us parts)
  module_read depth n ps us parts h r ts mid rest f ls new =
      let q = new_line_quiet mid (new_line (inner_lines depth (decl.module n ps us parts)) (inner_begins depth (decl.module n ps us parts) h) mid rest ls new) in
      let (s, more, at, j, b) = first_keyword gap.Line keyword.Module (blank ∷ (name_pieces n ++ parameters_pieces ps ++ selves_pieces us)) ts mid f in
      let (m, m', g, c, d, k, e) = named_read of_class n ps (selves_pieces us) h.0 h.1 (selves_no_scope us) more mid b q.0 in
      let (s', all, x, l, y) = ended_read depth parts r mid rest ls in
      let p = selves_read us h.2 g m' mid e q.0 in
      let (body, most) = body_at (decl.module n ps us all) s'.end (body_nesting (decl.module n ps us parts)) (word keyword.Module s ∷ more) ts rest (sym at) (grammar.a_module s s' c d p x) (omega (arith, k, selves_bounded us h.2 g m' mid e p, l)) in
      (decl.module n ps us all, s'.end, body, most, ap (decl.module n ps us) y)

  iface_read : (depth : ℕ) (n : TypeName) (ps : List PlainParam) (parts : PlainParts) → IsBody (decl.iface n ps parts) → InterfacePartsRead (suc depth) parts → BodyRead depth (decl.iface n ps parts)
  iface_read depth n ps parts h r ts mid rest f ls new =
      let q = new_line_quiet mid (new_line (inner_lines depth (decl.iface n ps parts)) (inner_begins depth (decl.iface n ps parts) h) mid rest ls new) in
      let (s, more, at, j, b) = first_keyword gap.Line keyword.Interface (blank ∷ (name_pieces n ++ parameters_pieces ps)) ts mid f in
      let (m, m', g, c, d, k, e) = named_read of_interface n ps [] h.0 h.1 tt more mid (subst (λ ps. Fits gap.Blank ps more mid) (sym (append-nil (name_pieces n ++ parameters_pieces ps))) b) q.0 in
      let (s', all, x, l, y) = ended_interface_read depth parts r mid rest ls in
      let (p, k') = params_at ps (params_nesting ps) m m' mid e d k in
      let (body, most) = body_at (decl.iface n ps all) s'.end (body_nesting (decl.iface n ps parts)) (word keyword.Interface s ∷ more) ts rest (sym at) (grammar.an_interface s s' c p x) (omega (arith, k', l)) in
      (decl.iface n ps all, s'.end, body, most, ap (decl.iface n ps) y)

  alias_read : (depth : ℕ) (n : TypeName) (ps : List PlainParam) (t : PlainTy) → IsBody (decl.alias n ps t) → BodyRead depth (decl.alias n ps t)
  alias_read depth n ps t h ts mid rest f ls new =
      let q = new_line_quiet mid (subst NewLine (sym ls) new) in
      let (s, more, at, j, b) = first_keyword gap.Line keyword.Type (blank ∷ (name_pieces n ++ parameters_pieces ps ++ blank ∷ lay.sign mark.Equals ∷ blank ∷ type_pieces t)) ts mid f in
      let (m, m', g, c, d, k, e) = named_read of_alias n ps (blank ∷ lay.sign mark.Equals ∷ blank ∷ type_pieces t) h.0 h.1 (λ s. refl) more mid b q.0 in
      let (s', more', at', j', x) = first_mark gap.Blank mark.Equals (blank ∷ type_pieces t) m' mid e in
      let (p, k') = params_at ps (params_nesting ps) m m' (sign mark.Equals s' ∷ more') at' d k in
      let body : grammar.Body file last (decl.alias n ps t) (end_at last mid) (word keyword.Type s ∷ more) mid = grammar.a_type s s' c p (type_back t h.2 gap.Blank more' mid x q.0 q.1) in
      let (body', most) = body_at (decl.alias n ps t) (end_at last mid) (body_nesting (decl.alias n ps t)) (word keyword.Type s ∷ more) ts mid (sym at) body (omega (arith, k', level_open 0 (nesting t) gap.Blank (type_pieces t) more' mid (level_type t h.2) x)) in
      let (there, most') = body_to (decl.alias n ps t) (end_at last mid) (body_nesting (decl.alias n ps t)) ts mid rest ls body' most in
      (decl.alias n ps t, end_at last mid, there, most', refl)

  const_read : (depth : ℕ) (n : TypeName) (t : PlainTy) → IsBody (decl.const n t) → BodyRead depth (decl.const n t)
  const_read depth n t h ts mid rest f ls new =
      let q = new_line_quiet mid (subst NewLine (sym ls) new) in
      let (s, more, a, j, b) = mark_between gap.Line (name_pieces n) mark.Colon (blank ∷ type_pieces t) ts mid f in
      let body : grammar.Body file last (decl.const n t) (end_at last mid) ts mid = grammar.a_constant s (name_read of_class n h.0 gap.Line ts (sign mark.Colon s ∷ more) a refl) (type_back t h.1 gap.Blank more mid b q.0 q.1) in
      let (there, most) = body_to (decl.const n t) (end_at last mid) (nesting t) ts mid rest ls body (omega (arith, level_open 0 (nesting t) gap.Blank (type_pieces t) more mid (level_type t h.1) b)) in
      (decl.const n t, end_at last mid, there, most, refl)

  noted_decl_read : (depth : ℕ) (place : Place) (notes : Notes) (b : PlainBody) → BodyRead depth b → DeclRead depth (decl.decl place notes b)
  noted_decl_read depth place notes b r ts rest f new =
      let (mid, a, ls) = lines_split (noted depth notes (heading b)) (inner_lines depth b) ts rest f in
      let (from_here, texts, line, same) = noted_read depth notes (heading b) ts mid a in
      let (b', e, body, l, is) = r from_here mid rest line ls new in
      (decl.decl (from file from_here e) (notes_at ts notes.annotations) b', grammar.declaration texts body, l, λ i. decl.decl nowhere (same i) (is i))

  none_read : (depth : ℕ) → PartsRead depth decl.no_parts
  none_read depth before ts rest e new =
      let (x, l) = subst (λ rest. (x : grammar.Parts file last before before ts rest) × (parts_open x ≤ 0)) e (grammar.no_part, omega arith) in (before, x, l, sym (append_parts-none (unplaced_parts before)))

  no_interface_read : (depth : ℕ) → InterfacePartsRead depth decl.no_parts
  no_interface_read depth before ts rest e new =
      let (x, l) = subst (λ rest. (x : grammar.InterfaceParts file last before before ts rest) × (interface_parts_open x ≤ 0)) e (grammar.no_interface_part, omega arith) in (before, x, l, sym (append_parts-none (unplaced_parts before)))

  inner_read : (depth : ℕ) (d : PlainDecl) (parts : PlainParts) → AreParts (decl.inner d parts) → DeclRead depth d → PartsRead depth parts → PartsRead depth (decl.inner d parts)
  inner_read depth d parts h here behind before ts rest f new =
      let (mid, a, b) = lines_split (decl_lines depth d) (parts_lines depth parts) ts rest f in
      let (d', x, k, e) = here ts mid a (new_line (parts_lines depth parts) (parts_begin depth parts h.1) mid rest b new) in
      let (all, y, l, e') = behind (and_inner before d') mid rest b new in
      (all, grammar.inner_part x y, omega (arith, k, l), part_on before (decl.inner d' decl.no_parts) all parts (decl.inner (unplaced_decl d) decl.no_parts) (ap (λ d. decl.inner d decl.no_parts) e) e')

  member_parts_read : (depth : ℕ) (place : Place) (notes : Notes) (m : PlainMember) (parts : PlainParts) → AreParts (decl.member place notes m parts) → PartsRead depth parts → PartsRead depth (decl.member place notes m parts)
  member_parts_read depth place notes m parts h behind before ts rest f new =
      let (mid, a, b) = lines_split (noted depth notes (member_pieces m)) (parts_lines depth parts) ts rest f in
      let (from_here, texts, line, same) = noted_read depth notes (member_pieces m) ts mid a in
      let (e, x, k) = member_read last m h.1 from_here mid line (new_line (parts_lines depth parts) (parts_begin depth parts h.2) mid rest b new) in
      let (all, y, l, is) = behind (and_member before (from file from_here e) (notes_at ts notes.annotations) m) mid rest b new in (
        all,
        grammar.member_part texts x y,
        omega (arith, k, l),
        part_on before (decl.member (from file from_here e) (notes_at ts notes.annotations) m decl.no_parts) all parts (decl.member nowhere notes m decl.no_parts) (ap (λ n. decl.member nowhere n m decl.no_parts) same) is,
      )

  interface_member_parts_read : (depth : ℕ) (place : Place) (notes : Notes) (m : PlainMember) (parts : PlainParts) → AreInterfaceParts (decl.member place notes m parts) → InterfacePartsRead depth parts
      → InterfacePartsRead depth (decl.member place notes m parts)
  interface_member_parts_read depth place notes m parts h behind before ts rest f new =
      let (mid, a, b) = lines_split (noted depth notes (member_pieces m)) (parts_lines depth parts) ts rest f in
      let (from_here, texts, line, same) = noted_read depth notes (member_pieces m) ts mid a in
      let (e, x, k) = interface_member_read last m h.1 from_here mid line (new_line (parts_lines depth parts) (interface_parts_begin depth parts h.2) mid rest b new) in
      let (all, y, l, is) = behind (and_member before (from file from_here e) (notes_at ts notes.annotations) m) mid rest b new in (
        all,
        grammar.interface_part texts x y,
        omega (arith, k, l),
        part_on before (decl.member (from file from_here e) (notes_at ts notes.annotations) m decl.no_parts) all parts (decl.member nowhere notes m decl.no_parts) (ap (λ n. decl.member nowhere n m decl.no_parts) same) is,
      )

  mutual
    body_read : (depth : ℕ) (b : PlainBody) → IsBody b → BodyRead depth b
    body_read depth (decl.class n ps t parts) h = class_read depth n ps t parts h (parts_read (suc depth) parts h.3)
    body_read depth (decl.module n ps us parts) h = module_read depth n ps us parts h (parts_read (suc depth) parts h.3)
    body_read depth (decl.iface n ps parts) h = iface_read depth n ps parts h (interface_parts_read (suc depth) parts h.2)
    body_read depth (decl.alias n ps t) h = alias_read depth n ps t h
    body_read depth (decl.const n t) h = const_read depth n t h

    decl_read : (depth : ℕ) (d : PlainDecl) → IsDeclaration d → DeclRead depth d
    decl_read depth (decl.decl place notes b) h = noted_decl_read depth place notes b (body_read depth b h.1)

    parts_read : (depth : ℕ) (parts : PlainParts) → AreParts parts → PartsRead depth parts
    parts_read depth decl.no_parts h = none_read depth
    parts_read depth (decl.inner d parts) h = inner_read depth d parts h (decl_read depth d h.0) (parts_read depth parts h.1)
    parts_read depth (decl.member place notes m parts) h = member_parts_read depth place notes m parts h (parts_read depth parts h.2)

    interface_parts_read : (depth : ℕ) (parts : PlainParts) → AreInterfaceParts parts → InterfacePartsRead depth parts
    interface_parts_read depth decl.no_parts h = no_interface_read depth
    interface_parts_read depth (decl.inner d parts) h = absurd h
    interface_parts_read depth (decl.member place notes m parts) h = interface_member_parts_read depth place notes m parts h (interface_parts_read depth parts h.2)

  -- behind the declarations `before`
  file_read : (ds : PlainDecls) → AreWritable ds → (before : PlainDecls) (ts : List Token) → FitsLines (all_lines ds) ts [] → (all : PlainDecls) × (x : grammar.File file last before all ts) × (file_open x ≤ decls_nesting ds) × (unplaced all ≡ append_decls (unplaced before) (unplaced ds))
  file_read decl.no_decls h before ts e =
      let (x, l) = subst (λ ts. (x : grammar.File file last before before ts) × (file_open x ≤ 0)) (sym e) (grammar.end_of_file, omega arith) in (before, x, l, sym (append_decls-none (unplaced before)))
  file_read (decl.more_decls d ds) h before ts f =
      let (mid, a, b) = lines_split (decl_lines 0 d) (all_lines ds) ts [] f in
      let (d', x, k, e) = decl_read 0 d h.0 ts mid a (new_line (all_lines ds) (all_begins ds h.1) mid [] b tt) in
      let (all, y, l, e') = file_read ds h.1 (and_decl before d') mid b in (
        all,
        grammar.further x y,
        omega (arith, k, l),
        e' ∙ ap (λ x. append_decls x (unplaced ds)) (unplaced_append before (decl.more_decls d' decl.no_decls)) ∙ append_decls-assoc (unplaced before) (decl.more_decls (unplaced_decl d') decl.no_decls) (unplaced ds)
            ∙ ap (λ d. append_decls (unplaced before) (decl.more_decls d (unplaced ds))) e,
      )

  -- The terminals of the printed form are those of a file of the same declarations, places aside.
  pub declarations_back : (ds : PlainDecls) → AreWritable ds → (ts : List Token) → FitsLines (all_lines ds) ts [] → (es : PlainDecls) × (x : grammar.File file last decl.no_decls es ts) × (file_open x ≤ decls_nesting ds) × (unplaced es ≡ unplaced ds)
  declarations_back ds h ts f = file_read ds h decl.no_decls ts f
