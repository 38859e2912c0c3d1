-- Printed headings and members open no more than they need.
use Rattle.std.proofs.Common.{max, ℕ, ◌+◌, ◌≤◌, ◌≡◌, refl, Bool, true, false, List, [], ◌∷◌, ◌++◌, map, arith}
use Rattle.std.specs.Prelude.{Option, Some, None}
use Rattle.sig_model.specs.declared.decl.Variance.{Variance}
use Rattle.sig_model.specs.declared.decl.Variance.TheVariants as variance
use Rattle.sig_model.specs.declared.decl.Vis.{Vis}
use Rattle.sig_model.specs.declared.decl.Vis.TheVariants as vis
use Rattle.sig_model.specs.declared.decl.AttrKind.{AttrKind}
use Rattle.sig_model.specs.declared.decl.AttrKind.TheVariants as attribute
use Rattle.sig_model.specs.declared.decl.MixKind.{MixKind}
use Rattle.sig_model.specs.declared.decl.MixKind.TheVariants as a_mixin
use Rattle.sig_model.specs.PlainTy as plain
use Rattle.sig_model.specs.PlainTy.{PlainTy, PlainTys}
use Rattle.sig_model.specs.PlainMember.{PlainParam, PlainMethod}
use Rattle.rbs_lexer.specs.declared.token.TokenKind.TheVariants as token
use Rattle.rbs_terminals.specs.declared.token.Keyword.TheVariants as a_keyword
use Rattle.rbs_terminals.specs.declared.token.Mark.TheVariants as mark
use Rattle.rbs_types.specs.Grammar.{Use, of_class, of_class_or_interface}
use Rattle.rbs_printer.specs.Texts.{vis_text, attribute_text, mixin_text}
use Rattle.rbs_printer.specs.Types.{whole, needs_parentheses}
use Rattle.printed_tokens.specs.Pieces.{Piece, blank, tok}
use Rattle.printed_tokens.specs.Layout.{placed, word, sign, keyword, joined, where_set, comma, name_pieces, type_pieces, types_at, arguments_pieces, function_pieces, bound_pieces, variance_pieces, parameter_pieces, parameters_pieces, overload_parameters, overload_pieces, vis_before, self_before, parent_pieces, selves_pieces}
use Rattle.printed_signatures.specs.Writable.{IsType, AreTypes, IsApplied, IsBoundType, IsBound, AreParameters, AreOverloads, IsParent, AreSelves}
use Rattle.printed_signatures.specs.Nesting.{around, nesting, nestings, function_nesting, option_nesting, bounds_nesting, params_nesting, overloads_nesting}
use Rattle.printed_signatures.proofs.PiecesOpen.{Level, level_none, level_blank, level_token, level_append, level_more, Levels, level_joined}
use Rattle.printed_signatures.proofs.TypesLevel.{level_word, level_keyword, level_name, level_comma, level_bar, levels_more, square, level_type, levels_types, level_function}

-- ---- names with arguments, and type parameters

pub level_applied : (u : Use) (t : PlainTy) → IsApplied u t → Level (type_pieces t) (nesting t)
level_applied u (plain.name n plain.no_tys) h = level_append (level_name n) level_none
level_applied u (plain.name n (plain.more_tys t ts)) h =
    let k = max (nesting t) (nestings whole ts) in
    level_append (level_name n)
    (square (level_joined comma (type_pieces t ∷ types_at whole ts) k level_comma (level_more (nesting t) k (omega arith) (level_type t h.1.0), levels_more (types_at whole ts) (nestings whole ts) k (omega arith) (levels_types whole ts h.1.1))))
level_applied u _ h = absurd h

level_bound_type : (t : PlainTy) → IsBoundType t → Level (type_pieces t) (nesting t)
level_bound_type (plain.single n) h = level_type (plain.single n) h
level_bound_type t h = level_applied of_class_or_interface t h

level_bound : (o : Option PlainTy) → IsBound o → Level (bound_pieces o) (option_nesting o)
level_bound None h = level_none
level_bound (Some t) h = level_blank (level_token token.Mark _ refl (level_blank (level_bound_type t h)))

level_variance : (v : Variance) {k : ℕ} → Level (variance_pieces v) k
level_variance variance.Fixed = level_none
level_variance variance.Out = level_keyword a_keyword.Out (level_blank level_none)
level_variance variance.In = level_keyword a_keyword.In (level_blank level_none)

level_unchecked : (b : Bool) {k : ℕ} → Level (where_set b (keyword a_keyword.Unchecked ∷ blank ∷ [])) k
level_unchecked true = level_keyword a_keyword.Unchecked (level_blank level_none)
level_unchecked false = level_none

levels_parameters : (ps : List PlainParam) → AreParameters ps → Levels (map parameter_pieces ps) (bounds_nesting ps)
levels_parameters [] h = tt
levels_parameters (p ∷ ps) h =
    let k = max (option_nesting p.bound) (bounds_nesting ps) in (
      level_append (level_append (level_unchecked p.unchecked) (level_variance p.variance)) (level_word p.name (level_more (option_nesting p.bound) k (omega arith) (level_bound p.bound h.1))),
      levels_more (map parameter_pieces ps) (bounds_nesting ps) k (omega arith) (levels_parameters ps h.3),
    )

pub level_parameters_of : (ps : List PlainParam) → AreParameters ps → Level (parameters_pieces ps) (params_nesting ps)
level_parameters_of [] h = level_none
level_parameters_of (p ∷ ps) h = square (level_joined comma (map parameter_pieces (p ∷ ps)) (bounds_nesting (p ∷ ps)) level_comma (levels_parameters (p ∷ ps) h))

-- ---- overloads

level_overload_parameters : (ps : List PlainParam) → AreParameters ps → Level (overload_parameters ps) (params_nesting ps)
level_overload_parameters [] h = level_none
level_overload_parameters (p ∷ ps) h = level_append (level_parameters_of (p ∷ ps) h) (level_blank level_none)

levels_overloads : (ms : List PlainMethod) → AreOverloads ms → Levels (map overload_pieces ms) (overloads_nesting ms)
levels_overloads [] h = tt
levels_overloads (m ∷ ms) h =
    let k = max (max (params_nesting m.params) (function_nesting m.fun)) (overloads_nesting ms) in (
      level_append (level_more (params_nesting m.params) k (omega arith) (level_overload_parameters m.params h.0)) (level_more (function_nesting m.fun) k (omega arith) (level_function m.fun h.1)),
      levels_more (map overload_pieces ms) (overloads_nesting ms) k (omega arith) (levels_overloads ms h.2),
    )

pub level_overloads : (ms : List PlainMethod) → AreOverloads ms → Level (joined (blank ∷ sign mark.Bar ∷ blank ∷ []) (map overload_pieces ms)) (overloads_nesting ms)
level_overloads ms h = level_joined (blank ∷ sign mark.Bar ∷ blank ∷ []) (map overload_pieces ms) (overloads_nesting ms) (level_bar mark.Bar refl) (levels_overloads ms h)

-- ---- members that have no name of a method

level_vis : (v : Option Vis) {k : ℕ} → Level (vis_before v) k
level_vis None = level_none
level_vis (Some vis.Public) = level_token token.Ident _ refl (level_blank level_none)
level_vis (Some vis.Private) = level_token token.Ident _ refl (level_blank level_none)

level_attribute_word : (k : AttrKind) {ps : List Piece} {m : ℕ} → Level ps m → Level (tok token.Ident (attribute_text k) ∷ ps) m
level_attribute_word attribute.Reader h = level_token token.Ident _ refl h
level_attribute_word attribute.Writer h = level_token token.Ident _ refl h
level_attribute_word attribute.Accessor h = level_token token.Ident _ refl h

pub level_attribute : (v : Option Vis) (k : AttrKind) (w : List ℕ) (t : PlainTy) → IsType t
    → Level (vis_before v ++ tok token.Ident (attribute_text k) ∷ blank ∷ word w ∷ sign mark.Colon ∷ blank ∷ type_pieces t) (nesting t)
level_attribute v k w t h = level_append (level_vis v) (level_attribute_word k (level_blank (level_word w (level_token token.Mark _ refl (level_blank (level_type t h))))))

pub level_mixin : (u : Use) (k : MixKind) (t : PlainTy) → IsApplied u t → Level (tok token.Ident (mixin_text k) ∷ blank ∷ type_pieces t) (nesting t)
level_mixin u a_mixin.Include t h = level_token token.Ident _ refl (level_blank (level_applied u t h))
level_mixin u a_mixin.Extend t h = level_token token.Ident _ refl (level_blank (level_applied u t h))
level_mixin u a_mixin.Prepend t h = level_token token.Ident _ refl (level_blank (level_applied u t h))

level_self : (b : Bool) {k : ℕ} → Level (self_before b) k
level_self true = level_keyword a_keyword.SelfWord (level_token token.Mark _ refl level_none)
level_self false = level_none

pub level_variable : (single : Bool) (w : List ℕ) (t : PlainTy) → IsType t → Level (self_before single ++ tok token.Ivar (64 ∷ w) ∷ sign mark.Colon ∷ blank ∷ type_pieces t) (nesting t)
level_variable single w t h = level_append (level_self single) (level_token token.Ivar _ refl (level_token token.Mark _ refl (level_blank (level_type t h))))

-- ---- headings

pub level_parent : (o : Option PlainTy) → IsParent o → Level (parent_pieces o) (option_nesting o)
level_parent None h = level_none
level_parent (Some t) h = level_blank (level_token token.Mark _ refl (level_blank (level_applied of_class t h)))

levels_selves : (ts : PlainTys) → AreSelves ts → Levels (types_at whole ts) (nestings whole ts)
levels_selves plain.no_tys h = tt
levels_selves (plain.more_tys t ts) h =
    let k = max (around (needs_parentheses whole t) (nesting t)) (nestings whole ts) in
    (level_more (around (needs_parentheses whole t) (nesting t)) k (omega arith) (self_row t h.0), levels_more (types_at whole ts) (nestings whole ts) k (omega arith) (levels_selves ts h.1))
  where
    self_row : (t : PlainTy) → IsApplied of_class_or_interface t → Level (placed whole t (type_pieces t)) (around (needs_parentheses whole t) (nesting t))
    self_row (plain.name n us) h = level_applied of_class_or_interface (plain.name n us) h
    self_row _ h = absurd h

pub level_selves : (ts : PlainTys) → AreSelves ts → Level (selves_pieces ts) (nestings whole ts)
level_selves plain.no_tys h = level_none
level_selves (plain.more_tys t ts) h = level_token token.Mark _ refl (level_blank (level_joined comma (types_at whole (plain.more_tys t ts)) (nestings whole (plain.more_tys t ts)) level_comma (levels_selves (plain.more_tys t ts) h)))
