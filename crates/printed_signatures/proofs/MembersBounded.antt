-- Where the terminals are those of printed pieces, a phrase of declarations opens no more than it needs.
use Rattle.std.proofs.Common.{max, ℕ, ◌+◌, ◌≤◌, ◌≡◌, refl, Bool, true, false, List, [], ◌∷◌, map, arith}
use Rattle.std.specs.Prelude.{Option, Some, None}
use Rattle.rbs_terminals.specs.declared.token.Token.{Token}
use Rattle.rbs_terminals.specs.declared.token.Gap.{Gap}
use Rattle.rbs_terminals.specs.declared.token.Gap.TheVariants as gap
use Rattle.rbs_terminals.specs.declared.token.Mark.TheVariants as mark
use Rattle.sig_model.specs.declared.decl.Vis.{Vis}
use Rattle.sig_model.specs.declared.decl.AttrKind.{AttrKind}
use Rattle.sig_model.specs.declared.decl.MixKind.{MixKind}
use Rattle.sig_model.specs.declared.decl.MixKind.TheVariants as a_mixin
use Rattle.sig_model.specs.PlainTy.{PlainTy, PlainTys}
use Rattle.sig_model.specs.PlainMember.{PlainParam, PlainMethod, PlainMember, attr, mixin, alias, ivar, section}
use Rattle.rbs_types.specs.Grammar.{of_class, of_interface}
use Rattle.rbs_printer.specs.Types.{whole}
use Rattle.rbs_declarations.specs.Grammar.{Params, Overloads, Member, a_method, an_alias, a_section, InterfaceMember, Parent, Selves}
use Rattle.rbs_declarations.specs.Openness.{params_open, overloads_open, member_open, interface_member_open, parent_open, selves_open}
use Rattle.printed_tokens.specs.Pieces.{Piece, blank}
use Rattle.printed_tokens.specs.Layout.{sign, joined, type_pieces, parameters_pieces, overload_pieces, member_pieces, parent_pieces, selves_pieces}
use Rattle.printed_tokens.specs.Fits.{Fits}
use Rattle.printed_signatures.specs.Writable.{IsType, IsApplied, AreParameters, AreOverloads, IsOverloaded, IsParent, AreSelves}
use Rattle.printed_signatures.specs.Nesting.{nesting, nestings, option_nesting, params_nesting, overloads_nesting}
use Rattle.printed_signatures.proofs.PiecesOpen.{Level}
use Rattle.printed_signatures.proofs.TokensOpen.{Opens}
use Rattle.printed_signatures.proofs.DeclarationsNeed.{opened}
use Rattle.printed_signatures.proofs.DeclarationsOpen.{opens_params, opens_overloads, opens_member, opens_interface_member, opens_parent, opens_selves}
use Rattle.printed_signatures.proofs.FitsOpen.{level_open}
use Rattle.printed_signatures.proofs.MembersLevel.{level_parameters_of, level_overloads, level_attribute, level_mixin, level_variable, level_parent, level_selves}

-- what the tokens open at least, and the pieces at most
between : (j k : ℕ) (g : Gap) (ps : List Piece) (ts rest : List Token) → Opens j ts rest → Level ps k → Fits g ps ts rest → j ≤ k
between j k g ps ts rest o l f = omega (arith, opened 0 j ts rest o, level_open 0 k g ps ts rest l f)

pub params_bounded : (ps : List PlainParam) → AreParameters ps → (g : Gap) (ts rest : List Token) → Fits g (parameters_pieces ps) ts rest → (d : Params ps ts rest) → params_open d ≤ params_nesting ps
params_bounded ps h g ts rest f d = between (params_open d) (params_nesting ps) g (parameters_pieces ps) ts rest (opens_params d) (level_parameters_of ps h) f

pub parent_bounded : (t : Option PlainTy) → IsParent t → (g : Gap) (ts rest : List Token) → Fits g (parent_pieces t) ts rest → (d : Parent t ts rest) → parent_open d ≤ option_nesting t
parent_bounded t h g ts rest f d = between (parent_open d) (option_nesting t) g (parent_pieces t) ts rest (opens_parent d) (level_parent t h) f

pub selves_bounded : (us : PlainTys) → AreSelves us → (g : Gap) (ts rest : List Token) → Fits g (selves_pieces us) ts rest → (d : Selves us ts rest) → selves_open d ≤ nestings whole us
selves_bounded us h g ts rest f d = between (selves_open d) (nestings whole us) g (selves_pieces us) ts rest (opens_selves d) (level_selves us h) f

pub overloads_bounded : (ms : List PlainMethod) → IsOverloaded ms → (g : Gap) (ts rest : List Token) → Fits g (joined (blank ∷ sign mark.Bar ∷ blank ∷ []) (map overload_pieces ms)) ts rest → (d : Overloads [] ms ts rest)
    → overloads_open d ≤ overloads_nesting ms
overloads_bounded [] h g ts rest f d = absurd h
overloads_bounded (m ∷ ms) h g ts rest f d =
    between (overloads_open d) (overloads_nesting (m ∷ ms)) g (joined (blank ∷ sign mark.Bar ∷ blank ∷ []) (map overload_pieces (m ∷ ms))) ts rest (opens_overloads d) (level_overloads (m ∷ ms) h) f

module _ {last e : ℕ} (ts rest : List Token) where
  pub attribute_bounded : (v : Option Vis) (k : AttrKind) (w : List ℕ) (t : PlainTy) → IsType t → Fits gap.Line (member_pieces (attr v k w t)) ts rest → (d : Member last (attr v k w t) e ts rest) → member_open d ≤ nesting t
  attribute_bounded v k w t h f d = between (member_open d) (nesting t) gap.Line (member_pieces (attr v k w t)) ts rest (opens_member d refl) (level_attribute v k w t h) f

  pub mixin_bounded : (k : MixKind) (t : PlainTy) → IsApplied of_class t → Fits gap.Line (member_pieces (mixin k t)) ts rest → (d : Member last (mixin k t) e ts rest) → member_open d ≤ nesting t
  mixin_bounded k t h f d = between (member_open d) (nesting t) gap.Line (member_pieces (mixin k t)) ts rest (opens_member d refl) (level_mixin of_class k t h) f

  pub variable_bounded : (single : Bool) (w : List ℕ) (t : PlainTy) → IsType t → Fits gap.Line (member_pieces (ivar single w t)) ts rest → (d : Member last (ivar single w t) e ts rest) → member_open d ≤ nesting t
  variable_bounded single w t h f d = between (member_open d) (nesting t) gap.Line (member_pieces (ivar single w t)) ts rest (opens_member d refl) (level_variable single w t h) f

  pub interface_mixin_bounded : (t : PlainTy) → IsApplied of_interface t → Fits gap.Line (member_pieces (mixin a_mixin.Include t)) ts rest → (d : InterfaceMember last (mixin a_mixin.Include t) e ts rest) → interface_member_open d ≤ nesting t
  interface_mixin_bounded t h f d = between (interface_member_open d) (nesting t) gap.Line (member_pieces (mixin a_mixin.Include t)) ts rest (opens_interface_member d refl) (level_mixin of_interface a_mixin.Include t h) f

pub alias_bounded : {last e : ℕ} {new old : List ℕ} {ts rest : List Token} → (d : Member last (alias new old) e ts rest) → member_open d ≤ 0
alias_bounded (an_alias s d f) = omega arith
alias_bounded (a_method v d) = elim d [ ]

pub section_bounded : {last e : ℕ} {v : Vis} {ts rest : List Token} → (d : Member last (section v) e ts rest) → member_open d ≤ 0
section_bounded (a_section k v s f g) = omega arith
section_bounded (a_method v d) = elim d [ ]
