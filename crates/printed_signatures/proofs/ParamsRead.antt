-- Printed type parameters and overloads are read back.
use Rattle.std.proofs.Common.{ℕ, ◌≡◌, refl, sym, ◌∙◌, subst, Bool, true, false, List, [], ◌∷◌, ◌++◌, append_assoc, append-nil, map, Option, Some, None}
use Rattle.std.specs.Prelude.{not}
use Rattle.names.specs.Places.{same_name}
use Rattle.rbs_lexer.specs.Names.{IsUpper}
use Rattle.rbs_lexer.proofs.Bytes.{and_true}
use Rattle.rbs_terminals.specs.declared.token.Token.{Token}
use Rattle.rbs_terminals.specs.declared.token.Spot.{Spot}
use Rattle.rbs_terminals.specs.declared.token.Gap.{Gap}
use Rattle.rbs_terminals.specs.declared.token.Gap.TheVariants as gap
use Rattle.rbs_terminals.specs.declared.token.Mark.TheVariants as mark
use Rattle.rbs_terminals.specs.declared.token.Keyword.TheVariants as keyword
use Rattle.rbs_terminals.specs.declared.token.Kind.TheVariants as kind
use Rattle.sig_model.specs.declared.decl.Variance.{Variance}
use Rattle.sig_model.specs.declared.decl.Variance.TheVariants as variance
use Rattle.sig_model.specs.PlainTy as plain
use Rattle.sig_model.specs.PlainTy.{PlainTy, PlainTys, PlainFun}
use Rattle.sig_model.specs.PlainMember.{PlainParam, PlainMethod}
use Rattle.rbs_types.specs.Symbols.{sign, scope_follows}
use Rattle.rbs_types.specs.Grammar.{Use, of_class_or_interface, Function}
use Rattle.rbs_declarations.specs.Grammar as grammar
use Rattle.rbs_declarations.specs.Grammar.{Applied, Unchecked, Varied, Bound, Param, ParamList, Params, Overloads, is_new_param}
use Rattle.printed_tokens.specs.Pieces.{Piece, blank}
use Rattle.printed_tokens.specs.Layout as lay
use Rattle.printed_tokens.specs.Layout.{word_token, joined, comma, where_set, name_pieces, type_pieces, bound_pieces, variance_pieces, parameter_pieces, parameters_pieces, overload_parameters, overload_pieces, function_pieces}
use Rattle.printed_tokens.specs.Fits.{Fits}
use Rattle.printed_signatures.specs.Writable.{IsApplied, IsBoundType, IsBound, is_new_name, AreParameters, AreOverloads, IsFunction}
use Rattle.printed_signatures.proofs.Split.{gap_behind, split, unpadded, first, first_mark, first_keyword, last_mark}
use Rattle.printed_signatures.proofs.WordKinds.{upper_word}
use Rattle.printed_signatures.proofs.NamesRead.{name_read}
use Rattle.printed_signatures.proofs.Sites.{Quiet}
use Rattle.printed_signatures.proofs.ListsRead.{comma_separates, mark_separates, parted, both, differ}
use Rattle.printed_signatures.proofs.TypesRead.{applied_read, single_read, read_type, read_types, function_back}

-- ---- names with arguments

pub applied_name_read : (u : Use) (t : PlainTy) → IsApplied u t → (g : Gap) (ts rest : List Token) → Fits g (type_pieces t) ts rest → scope_follows rest ≡ false → Applied u t ts rest
applied_name_read u (plain.name n plain.no_tys) h g ts rest f q = grammar.unapplied (name_read u n h.0 g ts rest (unpadded g (name_pieces n) ts rest f) q)
applied_name_read u (plain.name n (plain.more_tys t us)) h g ts rest f q =
    let (s, s', mid, a, b) = applied_read u n t us h.0 (read_type t h.1.0) (read_types us h.1.1) g ts rest f in grammar.applied s s' a b
applied_name_read u _ h g ts rest f q = absurd h

-- ---- one parameter

unchecked_read : (u : Bool) (qs : List Piece) (g : Gap) (ts rest : List Token) → Fits g (where_set u (lay.keyword keyword.Unchecked ∷ blank ∷ []) ++ qs) ts rest → (at : Gap) × (mid : List Token) × Unchecked u ts mid × Fits at qs mid rest
unchecked_read false qs g ts rest f = (g, ts, grammar.checked, f)
unchecked_read true qs g ts rest f =
    let (s, mid, at, j, b) = first_keyword g keyword.Unchecked (blank ∷ qs) ts rest f in (gap.Blank, mid, subst (λ ts. Unchecked true ts mid) (sym at) (grammar.unchecked s), b)

varied_read : (v : Variance) (qs : List Piece) (g : Gap) (ts rest : List Token) → Fits g (variance_pieces v ++ qs) ts rest → (at : Gap) × (mid : List Token) × Varied v ts mid × Fits at qs mid rest
varied_read variance.Fixed qs g ts rest f = (g, ts, grammar.fixed, f)
varied_read variance.Out qs g ts rest f =
    let (s, mid, at, j, b) = first_keyword g keyword.Out (blank ∷ qs) ts rest f in (gap.Blank, mid, subst (λ ts. Varied variance.Out ts mid) (sym at) (grammar.varied keyword.Out variance.Out s refl), b)
varied_read variance.In qs g ts rest f =
    let (s, mid, at, j, b) = first_keyword g keyword.In (blank ∷ qs) ts rest f in (gap.Blank, mid, subst (λ ts. Varied variance.In ts mid) (sym at) (grammar.varied keyword.In variance.In s refl), b)

bound_type_read : (t : PlainTy) → IsBoundType t → (s : Spot) (ts rest : List Token) → Fits gap.Blank (type_pieces t) ts rest → scope_follows rest ≡ false → Bound (Some t) (sign mark.Less s ∷ ts) rest
bound_type_read (plain.single n) h s ts rest f q =
    let (s', s'', s''', mid, at, a) = single_read n h gap.Blank ts rest f in
    subst (λ ts. Bound (Some (plain.single n)) (sign mark.Less s ∷ ts) rest) (sym at) (grammar.bound_single s s' s'' s''' a)
bound_type_read t h s ts rest f q = grammar.bound s (applied_name_read of_class_or_interface t h gap.Blank ts rest f q)

bound_read : (b : Option PlainTy) → IsBound b → (g : Gap) (ts rest : List Token) → Fits g (bound_pieces b) ts rest → scope_follows rest ≡ false → Bound b ts rest
bound_read None h g ts rest e q = subst (λ rest. Bound None ts rest) e grammar.unbound
bound_read (Some t) h g ts rest f q =
    let (s, mid, at, j, b) = first_mark gap.Blank mark.Less (blank ∷ type_pieces t) ts rest f in
    subst (λ ts. Bound (Some t) ts rest) (sym at) (bound_type_read t h s mid rest b q)

param_read : (p : PlainParam) → IsUpper p.name → IsBound p.bound → (g : Gap) (ts rest : List Token) → Fits g (parameter_pieces p) ts rest → scope_follows rest ≡ false → Param p ts rest
param_read p u h g ts rest f q =
    let unmarked = where_set p.unchecked (lay.keyword keyword.Unchecked ∷ blank ∷ []) in
    let (mid, a, b) = split g (unmarked ++ variance_pieces p.variance) (lay.word p.name ∷ bound_pieces p.bound) ts rest f in
    let (at, mid', c, d) = unchecked_read p.unchecked (variance_pieces p.variance) g ts mid a in
    let (at', mid'', e, same) = varied_read p.variance [] at mid' mid (padded at (variance_pieces p.variance) mid' mid d) in
    let (s, more, is, j, k) = first (gap_behind g (unmarked ++ variance_pieces p.variance)) (word_token p.name) p.name (kind.Upper p.name) (upper_word p.name u) (bound_pieces p.bound) mid rest b in
    grammar.param p.name s c (subst (λ ts. Varied p.variance mid' ts) (same ∙ is) e) (bound_read p.bound h gap.Joined more rest k q)
  where
    padded : (g : Gap) (ps : List Piece) (ts rest : List Token) → Fits g ps ts rest → Fits g (ps ++ []) ts rest
    padded g ps ts rest f = subst (λ ps. Fits g ps ts rest) (sym (append-nil ps)) f

-- ---- all parameters

abbrev NamesNew : List PlainParam → List PlainParam → Type 0
NamesNew before [] = Unit {0}
NamesNew before (p ∷ ps) = (is_new_param p.name before ≡ true) × NamesNew before ps

names_new : (ps : List PlainParam) → NamesNew [] ps
names_new [] = tt
names_new (p ∷ ps) = (refl, names_new ps)

name_new_behind : (v : List ℕ) (before : List PlainParam) (p : PlainParam) → is_new_param v before ≡ true → not (same_name v p.name) ≡ true → is_new_param v (before ++ p ∷ []) ≡ true
name_new_behind v [] p e f = both (not (same_name v p.name)) true f refl
name_new_behind v (q ∷ before) p e f =
    let parts = and_true (not (same_name v q.name)) (is_new_param v before) e in both (not (same_name v q.name)) (is_new_param v (before ++ p ∷ [])) parts.0 (name_new_behind v before p parts.1 f)

names_new_behind : (before : List PlainParam) (p : PlainParam) (ps : List PlainParam) → NamesNew before ps → is_new_name p.name ps ≡ true → NamesNew (before ++ p ∷ []) ps
names_new_behind before p [] h e = tt
names_new_behind before p (q ∷ ps) h e =
    let parts = and_true (not (same_name p.name q.name)) (is_new_name p.name ps) e in (name_new_behind q.name before p h.0 (differ p.name q.name parts.0), names_new_behind before p ps h.1 parts.1)

param_list_read : (before : List PlainParam) (p : PlainParam) (ps : List PlainParam) → AreParameters (p ∷ ps) → NamesNew before (p ∷ ps) → (g : Gap) (ts rest : List Token) → Fits g (joined comma (map parameter_pieces (p ∷ ps))) ts rest
    → scope_follows rest ≡ false → ParamList before (before ++ p ∷ ps) ts rest
param_list_read before p [] h new g ts rest f q = grammar.last_param new.0 (param_read p h.0 h.1 g ts rest f q)
param_list_read before p (p' ∷ ps) h new g ts rest f q =
    let (s, more, a, b) = parted comma mark.Comma comma_separates (parameter_pieces p) (parameter_pieces p') (map parameter_pieces ps) g ts rest f in
    subst (λ all. ParamList before all ts rest) (append_assoc before (p ∷ []) (p' ∷ ps))
    (grammar.more_params s new.0 (param_read p h.0 h.1 g ts (sign mark.Comma s ∷ more) a refl)
    (param_list_read (before ++ p ∷ []) p' ps h.3 (names_new_behind before p (p' ∷ ps) new.1 h.2) (gap_behind g (parameter_pieces p ++ comma)) more rest b q))

pub params_read : (ps : List PlainParam) → AreParameters ps → (g : Gap) (ts rest : List Token) → Fits g (parameters_pieces ps) ts rest → Params ps ts rest
params_read [] h g ts rest e = subst (λ rest. Params [] ts rest) e grammar.no_params
params_read (p ∷ ps) h g ts rest f =
    let inside = joined comma (map parameter_pieces (p ∷ ps)) in
    let (s, more, at, j, b) = first_mark g mark.OpenSquare (inside ++ lay.sign mark.CloseSquare ∷ []) ts rest f in
    let (s', a, j') = last_mark gap.Joined inside mark.CloseSquare more rest b in
    subst (λ ts. Params (p ∷ ps) ts rest) (sym at) (grammar.params s s' (param_list_read [] p ps h (names_new (p ∷ ps)) gap.Joined more (sign mark.CloseSquare s' ∷ rest) a refl))

-- ---- overloads

overload_params_read : (ps : List PlainParam) → AreParameters ps → (g : Gap) (ts rest : List Token) → Fits g (overload_parameters ps) ts rest → Params ps ts rest
overload_params_read [] h g ts rest e = subst (λ rest. Params [] ts rest) e grammar.no_params
overload_params_read (p ∷ ps) h g ts rest f =
    let (mid, a, e) = split g (parameters_pieces (p ∷ ps)) (blank ∷ []) ts rest f in subst (λ rest. Params (p ∷ ps) ts rest) e (params_read (p ∷ ps) h g ts mid a)

overload_read : (m : PlainMethod) → AreParameters m.params → IsFunction m.fun → (g : Gap) (ts rest : List Token) → Fits g (overload_pieces m) ts rest → Quiet rest → (mid : List Token) × Params m.params ts mid × Function m.fun mid rest
overload_read m h k g ts rest f q =
    let (mid, a, b) = split g (overload_parameters m.params) (function_pieces m.fun) ts rest f in
    (mid, overload_params_read m.params h g ts mid a, function_back m.fun k (gap_behind g (overload_parameters m.params)) mid rest b q.0 q.1)

pub overloads_read : (before : List PlainMethod) (m : PlainMethod) (ms : List PlainMethod) → AreOverloads (m ∷ ms) → (g : Gap) (ts rest : List Token)
    → Fits g (joined (blank ∷ lay.sign mark.Bar ∷ blank ∷ []) (map overload_pieces (m ∷ ms))) ts rest → Quiet rest → Overloads before (before ++ m ∷ ms) ts rest
overloads_read before m [] h g ts rest f q = let (mid, a, b) = overload_read m h.0 h.1 g ts rest f q in grammar.last_overload a b
overloads_read before m (m' ∷ ms) h g ts rest f q =
    let by = blank ∷ lay.sign mark.Bar ∷ blank ∷ [] in
    let (s, more, c, d) = parted by mark.Bar (mark_separates mark.Bar) (overload_pieces m) (overload_pieces m') (map overload_pieces ms) g ts rest f in
    let (mid, a, b) = overload_read m h.0 h.1 g ts (sign mark.Bar s ∷ more) c (refl, refl) in
    subst (λ all. Overloads before all ts rest) (append_assoc before (m ∷ []) (m' ∷ ms))
    (grammar.more_overloads s a b (overloads_read (before ++ m ∷ []) m' ms h.2 (gap_behind g (overload_pieces m ++ by)) more rest d q))
