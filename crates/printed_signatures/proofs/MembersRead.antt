-- Printed members are read back.
use Rattle.std.proofs.Common.{ℕ, ◌≤◌, ◌≡◌, refl, sym, subst, Bool, true, false, List, [], ◌∷◌, ◌++◌, append_assoc, map, Option, Some, None}
use Rattle.rbs_lexer.specs.declared.token.TokenKind.TheVariants as token_kind
use Rattle.rbs_lexer.specs.Names.{IsMethodName, IsLower}
use Rattle.rbs_terminals.specs.declared.token.Token.{Token}
use Rattle.rbs_terminals.specs.declared.token.Spot.{Spot}
use Rattle.rbs_terminals.specs.declared.token.Gap.{Gap}
use Rattle.rbs_terminals.specs.declared.token.Gap.TheVariants as gap
use Rattle.rbs_terminals.specs.declared.token.Mark.TheVariants as mark
use Rattle.rbs_terminals.specs.declared.token.Keyword.{Keyword}
use Rattle.rbs_terminals.specs.declared.token.Keyword.TheVariants as keyword
use Rattle.rbs_terminals.specs.declared.token.Kind.TheVariants as kind
use Rattle.rbs_terminals.specs.Kinds.{kind_at}
use Rattle.sig_model.specs.declared.decl.Vis.{Vis}
use Rattle.sig_model.specs.declared.decl.Vis.TheVariants as vis
use Rattle.sig_model.specs.declared.decl.AttrKind.{AttrKind}
use Rattle.sig_model.specs.declared.decl.AttrKind.TheVariants as attribute
use Rattle.sig_model.specs.declared.decl.MixKind.{MixKind}
use Rattle.sig_model.specs.declared.decl.MixKind.TheVariants as mixin
use Rattle.sig_model.specs.PlainTy.{PlainTy}
use Rattle.sig_model.specs.PlainMember as member
use Rattle.sig_model.specs.PlainMember.{PlainMethod, PlainMember}
use Rattle.rbs_types.specs.Symbols.{sign, word, on_line, is_question}
use Rattle.rbs_types.specs.Grammar.{of_class, of_interface}
use Rattle.rbs_declarations.specs.Words.{vis_of, attribute_of, mixin_of, takes_vis, vis_belongs, end_at}
use Rattle.rbs_declarations.specs.Grammar as grammar
use Rattle.rbs_declarations.specs.Grammar.{MethodName, Visible, Single, Overloads, Method, Member, InterfaceMember}
use Rattle.rbs_declarations.specs.Openness.{overloads_open, member_open, interface_member_open}
use Rattle.rbs_printer.specs.Texts.{vis_text, attribute_text, mixin_text}
use Rattle.printed_tokens.specs.Pieces.{Piece, blank, tok}
use Rattle.printed_tokens.specs.Layout as lay
use Rattle.printed_tokens.specs.Layout.{word_token, joined, type_pieces, method_pieces, overload_pieces, vis_before, self_before, member_pieces}
use Rattle.printed_tokens.specs.Fits.{Fits}
use Rattle.printed_signatures.specs.Writable.{IsType, IsApplied, IsOverloaded, IsMember, IsInterfaceMember}
use Rattle.printed_signatures.specs.Nesting.{overloads_nesting, member_nesting}
use Rattle.printed_signatures.proofs.Split.{split, first, first_mark, first_keyword, mark_between, onward}
use Rattle.printed_signatures.proofs.WordKinds.{lower_word}
use Rattle.printed_signatures.proofs.Sites.{Quiet}
use Rattle.printed_signatures.proofs.ListsRead.{key_begins}
use Rattle.printed_signatures.proofs.TypesRead.{type_back}
use Rattle.printed_signatures.proofs.ParamsRead.{applied_name_read, overloads_read}
use Rattle.printed_signatures.proofs.MethodNamesRead.{colon_ends, method_name_read, name_ends}
use Rattle.printed_signatures.proofs.MembersBounded.{overloads_bounded, attribute_bounded, mixin_bounded, variable_bounded, interface_mixin_bounded, alias_bounded, section_bounded}
use Rattle.printed_signatures.proofs.Lines.{NewLine, Begins, new_line_quiet, new_line_ends, new_line_vis}

-- ---- words that are keywords

vis_keyword : (v : Vis) → (k : Keyword) × (kind_at token_kind.Ident (vis_text v) ≡ kind.Keyword k) × (vis_of k ≡ Some v)
vis_keyword vis.Public = (keyword.Public, refl, refl)
vis_keyword vis.Private = (keyword.Private, refl, refl)

attribute_keyword : (a : AttrKind) → (k : Keyword) × (kind_at token_kind.Ident (attribute_text a) ≡ kind.Keyword k) × (attribute_of k ≡ Some a) × (takes_vis (kind.Keyword k) ≡ true)
attribute_keyword attribute.Reader = (keyword.AttrReader, refl, refl, refl)
attribute_keyword attribute.Writer = (keyword.AttrWriter, refl, refl, refl)
attribute_keyword attribute.Accessor = (keyword.AttrAccessor, refl, refl, refl)

mixin_keyword : (m : MixKind) → (k : Keyword) × (kind_at token_kind.Ident (mixin_text m) ≡ kind.Keyword k) × (mixin_of k ≡ Some m)
mixin_keyword mixin.Include = (keyword.Include, refl, refl)
mixin_keyword mixin.Extend = (keyword.Extend, refl, refl)
mixin_keyword mixin.Prepend = (keyword.Prepend, refl, refl)

-- ---- what stands before a member

blank_on_line : (s : Spot) → s.gap ≡ gap.Blank → on_line s ≡ true
blank_on_line s e = rw e

belongs : (k : Keyword) (s : Spot) (ts : List Token) → takes_vis (kind.Keyword k) ≡ true → s.gap ≡ gap.Blank → vis_belongs (word k s ∷ ts) ≡ true
belongs k s ts t e = rw (blank_on_line s e) t

-- a visibility, or none, and the keyword that it belongs to
visible_read : (v : Option Vis) (w : List ℕ) (k : Keyword) → kind_at token_kind.Ident w ≡ kind.Keyword k → takes_vis (kind.Keyword k) ≡ true → (qs : List Piece) (g : Gap) (ts rest : List Token)
    → Fits g (vis_before v ++ tok token_kind.Ident w ∷ qs) ts rest → (s : Spot) × (more : List Token) × Visible v ts (word k s ∷ more) × Fits gap.Joined qs more rest
visible_read None w k e t qs g ts rest f =
    let (s, more, at, j, b) = first g token_kind.Ident w (kind.Keyword k) e qs ts rest f in (s, more, subst (λ us. Visible None ts us) at grammar.unsaid, b)
visible_read (Some v) w k e t qs g ts rest f =
    let (k', e', is) = vis_keyword v in
    let (s, more, at, j, b) = first g token_kind.Ident (vis_text v) (kind.Keyword k') e' (blank ∷ tok token_kind.Ident w ∷ qs) ts rest f in
    let (s', more', at', j', c) = first gap.Blank token_kind.Ident w (kind.Keyword k) e qs more rest b in
    (s', more', subst (λ ts. Visible (Some v) ts (word k s' ∷ more')) (sym (onward at at')) (grammar.said k' v s is (belongs k s' more' t j')), c)

single_self : (single : Bool) (qs : List Piece) (g : Gap) (ts rest : List Token) → Fits g (self_before single ++ qs) ts rest → (at : Gap) × (mid : List Token) × Single single ts mid × Fits at qs mid rest
single_self false qs g ts rest f = (g, ts, grammar.of_instances, f)
single_self true qs g ts rest f =
    let (s, more, at, j, b) = first_keyword g keyword.SelfWord (lay.sign mark.Dot ∷ qs) ts rest f in
    let (s', mid, at', j', c) = first_mark gap.Joined mark.Dot qs more rest b in
    (gap.Joined, mid, subst (λ ts. Single true ts mid) (sym (onward at at')) (grammar.of_itself s s'), c)

-- ---- methods

overloaded_read : (ms : List PlainMethod) → IsOverloaded ms → (g : Gap) (ts rest : List Token) → Fits g (joined (blank ∷ lay.sign mark.Bar ∷ blank ∷ []) (map overload_pieces ms)) ts rest → Quiet rest → Overloads [] ms ts rest
overloaded_read [] h g ts rest f q = absurd h
overloaded_read (m ∷ ms) h g ts rest f q = overloads_read [] m ms h g ts rest f q

-- a method's name, and its overloads
named_read : (w : List ℕ) (ms : List PlainMethod) → IsMethodName w → IsOverloaded ms → (g : Gap) (ts rest : List Token)
    → Fits g (method_pieces w ++ lay.sign mark.Colon ∷ blank ∷ joined (blank ∷ lay.sign mark.Bar ∷ blank ∷ []) (map overload_pieces ms)) ts rest → Quiet rest
    → (s : Spot) × (mid : List Token) × MethodName w ts (sign mark.Colon s ∷ mid) × (d : Overloads [] ms mid rest) × (overloads_open d ≤ overloads_nesting ms)
named_read w ms h k g ts rest f q =
    let (s, mid, a, j, b) = mark_between g (method_pieces w) mark.Colon (blank ∷ joined (blank ∷ lay.sign mark.Bar ∷ blank ∷ []) (map overload_pieces ms)) ts rest f in
    let overloads = overloaded_read ms k gap.Blank mid rest b q in
    (s, mid, method_name_read w h g ts (sign mark.Colon s ∷ mid) a (colon_ends s mid), overloads, overloads_bounded ms k gap.Blank mid rest b overloads)

regrouped : (a b c d : List Piece) (p q : Piece) → a ++ (p ∷ (q ∷ (b ++ (c ++ d)))) ≡ a ++ (p ∷ q ∷ b) ++ c ++ d
regrouped a b c d p q = simp append_assoc

module _ (last : ℕ) where
  method_read : (v : Option Vis) (single : Bool) (w : List ℕ) (ms : List PlainMethod) → IsMethodName w → IsOverloaded ms → (ts rest : List Token) → Fits gap.Line (member_pieces (member.method v single w ms)) ts rest → NewLine rest
      → (e : ℕ) × (d : Member last (member.method v single w ms) e ts rest) × (member_open d ≤ overloads_nesting ms)
  method_read v single w ms h k ts rest f n =
      let behind = lay.sign mark.Colon ∷ blank ∷ joined (blank ∷ lay.sign mark.Bar ∷ blank ∷ []) (map overload_pieces ms) in
      let f' = subst (λ ps. Fits gap.Line ps ts rest) (sym (regrouped (vis_before v) (self_before single) (method_pieces w) behind (lay.keyword keyword.Def) blank)) f in
      let (s, more, a, b) = visible_read v _ keyword.Def refl refl (blank ∷ (self_before single ++ (method_pieces w ++ behind))) gap.Line ts rest f' in
      let (at, mid, c, d) = single_self single (method_pieces w ++ behind) gap.Blank more rest b in
      let (s', mid', x, y, l) = named_read w ms h k at mid rest d (new_line_quiet rest n) in
      (end_at last rest, grammar.a_method a (grammar.method_of s s' c x y), l)

  attribute_read : (v : Option Vis) (k : AttrKind) (w : List ℕ) (t : PlainTy) → IsLower w → IsType t → (ts rest : List Token) → Fits gap.Line (member_pieces (member.attr v k w t)) ts rest → NewLine rest
      → (e : ℕ) × Member last (member.attr v k w t) e ts rest
  attribute_read v k w t l h ts rest f n =
      let (k', e, is, takes) = attribute_keyword k in
      let x = kind_at (word_token w) w in
      let q = new_line_quiet rest n in
      let (s, more, a, b) = visible_read v (attribute_text k) k' e takes (blank ∷ lay.word w ∷ lay.sign mark.Colon ∷ blank ∷ type_pieces t) gap.Line ts rest f in
      let (s', s'', mid, at, d) = key_begins w l gap.Blank (type_pieces t) more rest b in
      let a' = subst (λ us. Visible v ts (word k' s ∷ us)) at a in
      (end_at last rest, grammar.attribute k' k x w s s' s'' a' is (lower_word w l) (type_back t h gap.Blank mid rest d q.0 q.1))

  mixin_read : (k : MixKind) (t : PlainTy) → IsApplied of_class t → (ts rest : List Token) → Fits gap.Line (member_pieces (member.mixin k t)) ts rest → NewLine rest → (e : ℕ) × Member last (member.mixin k t) e ts rest
  mixin_read k t h ts rest f n =
      let (k', e, is) = mixin_keyword k in
      let q = new_line_quiet rest n in
      let (s, more, at, j, b) = first gap.Line token_kind.Ident (mixin_text k) (kind.Keyword k') e (blank ∷ type_pieces t) ts rest f in
      (end_at last rest, subst (λ ts. Member last (member.mixin k t) (end_at last rest) ts rest) (sym at) (grammar.a_mixin k' k s is (applied_name_read of_class t h gap.Blank more rest b q.0)))

  alias_read : (new old : List ℕ) → IsMethodName new → IsMethodName old → (ts rest : List Token) → Fits gap.Line (member_pieces (member.alias new old)) ts rest → NewLine rest → (e : ℕ) × Member last (member.alias new old) e ts rest
  alias_read new old h k ts rest f n =
      let (s, more, at, j, b) = first_keyword gap.Line keyword.Alias (blank ∷ method_pieces new ++ blank ∷ method_pieces old) ts rest f in
      let (mid, c, d) = split gap.Blank (method_pieces new) (blank ∷ method_pieces old) more rest b in
      let there = method_name_read old k gap.Blank mid rest d (new_line_ends rest n) in
      (end_at last rest, subst (λ ts. Member last (member.alias new old) (end_at last rest) ts rest) (sym at) (grammar.an_alias s (method_name_read new h gap.Blank more mid c (name_ends old k mid rest d)) there))

  variable_read : (single : Bool) (w : List ℕ) (t : PlainTy) → IsType t → (ts rest : List Token) → Fits gap.Line (member_pieces (member.ivar single w t)) ts rest → NewLine rest → (e : ℕ) × Member last (member.ivar single w t) e ts rest
  variable_read single w t h ts rest f n =
      let q = new_line_quiet rest n in
      let (at, mid, a, b) = single_self single (tok token_kind.Ivar (64 ∷ w) ∷ lay.sign mark.Colon ∷ blank ∷ type_pieces t) gap.Line ts rest f in
      let (s, more, is, j, c) = first at token_kind.Ivar (64 ∷ w) (kind.Variable w) refl (lay.sign mark.Colon ∷ blank ∷ type_pieces t) mid rest b in
      let (s', more', is', j', d) = first_mark gap.Joined mark.Colon (blank ∷ type_pieces t) more rest c in
      (end_at last rest, grammar.variable w s s' (subst (Single single ts) (onward is is') a) (type_back t h gap.Blank more' rest d q.0 q.1))

  section_read : (v : Vis) (ts rest : List Token) → Fits gap.Line (member_pieces (member.section v)) ts rest → NewLine rest → (e : ℕ) × Member last (member.section v) e ts rest
  section_read v ts rest f n =
      let (k, e, is) = vis_keyword v in
      let (s, more, at, j, end) = first gap.Line token_kind.Ident (vis_text v) (kind.Keyword k) e [] ts rest f in
      (s.end, subst (λ ts. Member last (member.section v) s.end ts rest) (sym (onward at end)) (grammar.a_section k v s is (new_line_vis rest n)))

  -- which opens no more than it needs
  pub member_read : (m : PlainMember) → IsMember m → (ts rest : List Token) → Fits gap.Line (member_pieces m) ts rest → NewLine rest → (e : ℕ) × (d : Member last m e ts rest) × (member_open d ≤ member_nesting m)
  member_read (member.method v single w ms) h ts rest f n = method_read v single w ms h.0 h.1 ts rest f n
  member_read (member.attr v k w t) h ts rest f n = let (e, d) = attribute_read v k w t h.0 h.1 ts rest f n in (e, d, attribute_bounded ts rest v k w t h.1 f d)
  member_read (member.mixin k t) h ts rest f n = let (e, d) = mixin_read k t h ts rest f n in (e, d, mixin_bounded ts rest k t h f d)
  member_read (member.alias new old) h ts rest f n = let (e, d) = alias_read new old h.0 h.1 ts rest f n in (e, d, alias_bounded d)
  member_read (member.ivar single w t) h ts rest f n = let (e, d) = variable_read single w t h.1 ts rest f n in (e, d, variable_bounded ts rest single w t h.1 f d)
  member_read (member.section v) h ts rest f n = let (e, d) = section_read v ts rest f n in (e, d, section_bounded d)

  -- ---- interfaces

  interface_method_read : (w : List ℕ) (ms : List PlainMethod) → IsMethodName w → IsOverloaded ms → (ts rest : List Token) → Fits gap.Line (member_pieces (member.method None false w ms)) ts rest → NewLine rest
      → (e : ℕ) × (d : InterfaceMember last (member.method None false w ms) e ts rest) × (interface_member_open d ≤ overloads_nesting ms)
  interface_method_read w ms h k ts rest f n =
      let (s, more, at, j, b) = first_keyword gap.Line keyword.Def (blank ∷ method_pieces w ++ lay.sign mark.Colon ∷ blank ∷ joined (blank ∷ lay.sign mark.Bar ∷ blank ∷ []) (map overload_pieces ms)) ts rest f in
      let (s', mid, x, y, l) = named_read w ms h k gap.Blank more rest b (new_line_quiet rest n) in
      let (d, k) = subst (λ ts. (d : InterfaceMember last (member.method None false w ms) (end_at last rest) ts rest) × (interface_member_open d ≤ overloads_nesting ms)) (sym at) (grammar.interface_method s s' x y, l) in
      (end_at last rest, d, k)

  interface_mixin_read : (t : PlainTy) → IsApplied of_interface t → (ts rest : List Token) → Fits gap.Line (member_pieces (member.mixin mixin.Include t)) ts rest → NewLine rest
      → (e : ℕ) × InterfaceMember last (member.mixin mixin.Include t) e ts rest
  interface_mixin_read t h ts rest f n =
      let q = new_line_quiet rest n in
      let (s, more, at, j, b) = first_keyword gap.Line keyword.Include (blank ∷ type_pieces t) ts rest f in
      (end_at last rest, subst (λ ts. InterfaceMember last (member.mixin mixin.Include t) (end_at last rest) ts rest) (sym at) (grammar.interface_mixin s (applied_name_read of_interface t h gap.Blank more rest b q.0)))

  pub interface_member_read : (m : PlainMember) → IsInterfaceMember m → (ts rest : List Token) → Fits gap.Line (member_pieces m) ts rest → NewLine rest
      → (e : ℕ) × (d : InterfaceMember last m e ts rest) × (interface_member_open d ≤ member_nesting m)
  interface_member_read (member.method None false w ms) h ts rest f n = interface_method_read w ms h.0 h.1 ts rest f n
  interface_member_read (member.mixin mixin.Include t) h ts rest f n = let (e, d) = interface_mixin_read t h ts rest f n in (e, d, interface_mixin_bounded ts rest t h f d)
  interface_member_read _ h ts rest f n = absurd h

-- ---- no member begins with a question mark

vis_begins : (v : Vis) → is_question (kind_at token_kind.Ident (vis_text v)) ≡ false
vis_begins vis.Public = refl
vis_begins vis.Private = refl

pub member_begins : (m : PlainMember) → Begins (member_pieces m)
member_begins (member.method None single w ms) = refl
member_begins (member.method (Some v) single w ms) = vis_begins v
member_begins (member.attr None attribute.Reader w t) = refl
member_begins (member.attr None attribute.Writer w t) = refl
member_begins (member.attr None attribute.Accessor w t) = refl
member_begins (member.attr (Some v) k w t) = vis_begins v
member_begins (member.mixin mixin.Include t) = refl
member_begins (member.mixin mixin.Extend t) = refl
member_begins (member.mixin mixin.Prepend t) = refl
member_begins (member.alias new old) = refl
member_begins (member.ivar false w t) = refl
member_begins (member.ivar true w t) = refl
member_begins (member.section v) = vis_begins v
