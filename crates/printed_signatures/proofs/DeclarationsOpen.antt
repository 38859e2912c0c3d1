-- What a phrase of declarations opens is what its tokens do.
use Rattle.std.proofs.Common.{max, ℕ, ◌+◌, ◌-◌, ◌≤◌, ◌≡◌, refl, sym, ◌∙◌, ap, subst, Bool, true, false, List, [], ◌∷◌, ◌++◌, append_assoc, length, take, arith, length-append}
use Rattle.std.specs.Prelude.{Option, Some, None}
use Rattle.rbs_terminals.specs.declared.token.Token.{Token}
use Rattle.rbs_terminals.specs.declared.token.Spot.{Spot}
use Rattle.rbs_terminals.specs.declared.token.Mark.TheVariants as mark
use Rattle.rbs_terminals.specs.declared.token.Keyword.TheVariants as keyword
use Rattle.rbs_terminals.specs.declared.token.Kind.{Kind}
use Rattle.rbs_terminals.specs.declared.token.Kind.TheVariants as kind
use Rattle.rbs_terminals.specs.Kinds.{lower_of}
use Rattle.sig_model.specs.declared.decl.Variance.{Variance}
use Rattle.sig_model.specs.declared.decl.Vis.{Vis}
use Rattle.sig_model.specs.PlainTy.{PlainTy, PlainTys}
use Rattle.sig_model.specs.PlainMember.{PlainParam, PlainMethod, PlainMember, method, alias}
use Rattle.rbs_types.specs.Depth.{Depth, surely, behind}
use Rattle.rbs_types.specs.Symbols.{sign}
use Rattle.rbs_types.specs.Grammar.{Use}
use Rattle.rbs_declarations.specs.Grammar.{Applied, unapplied, applied, Unchecked, checked, unchecked, Varied, fixed, varied, Bound, unbound, bound, bound_single, Param, param, ParamList, last_param, more_params, Params, no_params, params, Overloads, last_overload, more_overloads, Visible, unsaid, said, Single, of_instances, of_itself, Method, method_of, Member, a_method, attribute, a_mixin, an_alias, variable, a_section, InterfaceMember, interface_method, interface_mixin, Parent, no_parent, parent, SelfTypes, last_self, more_selves, Selves, no_selves, selves}
use Rattle.rbs_declarations.specs.Openness.{most_open, types_open, applied_open, bound_open, param_open, param_list_open, params_open, overloads_open, member_open, interface_member_open, parent_open, self_types_open, selves_open}
use Rattle.printed_signatures.proofs.PiecesOpen.{is_level}
use Rattle.printed_signatures.proofs.TokensOpen.{Opens, opens_none, fewer, opens_append, opens_token, begins_token, then_token, begins_parentheses, most_append}
use Rattle.printed_signatures.proofs.TypesNeed.{opens_of, lower_level, squares, name_begins, type_needs, types_need, function_needs}
use Rattle.printed_signatures.proofs.DeclarationsNeed.{front_of}

-- the tokens of a phrase open what they open
pub exact : {k : ℕ} {ts rest : List Token} → Opens k ts rest → Opens (types_open 0 ts rest) ts rest
exact {ts = ts} {rest = rest} h =
    let same : take (length ts - length rest) ts ≡ h.front = ap (λ ts. take (length ts - length rest) ts) h.whole ∙ front_of h.front rest in
    record { front = h.front; whole = h.whole; past = h.past; most = λ n. omega (arith, h.same n, ap (most_open (surely 0)) same); same = h.same }

-- ---- names with arguments, and type parameters

-- the closing bracket opens nothing
closed : (k : ℕ) (mid : List Token) (s : Spot) (rest : List Token) → Opens k mid (sign mark.CloseSquare s ∷ rest) → types_open 1 mid rest ≤ 1 + types_open 0 mid (sign mark.CloseSquare s ∷ rest)
closed k mid s rest h =
    let longer : mid ≡ (h.front ++ sign mark.CloseSquare s ∷ []) ++ rest = h.whole ∙ sym (append_assoc h.front (sign mark.CloseSquare s ∷ []) rest) in
    let with : take (length mid - length rest) mid ≡ h.front ++ sign mark.CloseSquare s ∷ [] = ap (λ ts. take (length ts - length rest) ts) longer ∙ front_of (h.front ++ sign mark.CloseSquare s ∷ []) rest in
    let without : take (length mid - length (sign mark.CloseSquare s ∷ rest)) mid ≡ h.front = ap (λ ts. take (length ts - length (sign mark.CloseSquare s ∷ rest)) ts) h.whole ∙ front_of h.front (sign mark.CloseSquare s ∷ rest) in
    let low = subst (λ d. most_open (surely 1) (h.front ++ sign mark.CloseSquare s ∷ []) ≤ max (most_open (surely 1) h.front) (most_open d (sign mark.CloseSquare s ∷ []))) (h.past 1) (most_append (surely 1) h.front (sign mark.CloseSquare s ∷ [])) in
    omega (arith, low, h.same 1, ap (most_open (surely 1)) with, ap (most_open (surely 0)) without)

opens_applied : {u : Use} {t : PlainTy} {ts rest : List Token} (d : Applied u t ts rest) → Opens (applied_open d) ts rest
opens_applied (unapplied n) = opens_of (name_begins n)
opens_applied (applied s s' {mid = mid} {rest = rest} n ds) =
    let (k, h, l) = types_need ds refl refl in
    fewer (types_open 1 mid rest) (omega (arith, closed k mid s' rest h)) (opens_append (opens_of (name_begins n)) (opens_of (squares s s' (exact h))))

opens_bound : {b : Option PlainTy} {ts rest : List Token} (d : Bound b ts rest) → Opens (bound_open d) ts rest
opens_bound {rest = rest} unbound = opens_none rest
opens_bound (bound s t) = opens_of (begins_token (kind.Mark mark.Less) s refl (opens_applied t))
opens_bound (bound_single s s' s'' s''' n) =
    opens_of (begins_token (kind.Mark mark.Less) s refl (opens_of (begins_token (kind.Keyword keyword.Singleton) s' refl (opens_of (begins_parentheses s'' s''' (name_begins n))))))

behind_unchecked : {b : Bool} {k : ℕ} {ts mid rest : List Token} → Unchecked b ts mid → Opens k mid rest → Opens k ts rest
behind_unchecked checked h = h
behind_unchecked (unchecked s) h = opens_of (begins_token (kind.Keyword keyword.Unchecked) s refl h)

behind_varied : {v : Variance} {k : ℕ} {ts mid rest : List Token} → Varied v ts mid → Opens k mid rest → Opens k ts rest
behind_varied fixed h = h
behind_varied (varied k v s e) h = opens_of (begins_token (kind.Keyword k) s refl h)

opens_param : {p : PlainParam} {ts rest : List Token} (d : Param p ts rest) → Opens (param_open d) ts rest
opens_param (param w s u v b) = behind_unchecked u (behind_varied v (opens_of (begins_token (kind.Upper w) s refl (opens_bound b))))

opens_param_list : {before all : List PlainParam} {ts rest : List Token} (d : ParamList before all ts rest) → Opens (param_list_open d) ts rest
opens_param_list (last_param e p) = opens_param p
opens_param_list (more_params s e p ps) = opens_append (then_token (kind.Mark mark.Comma) s refl (opens_param p)) (opens_param_list ps)

pub opens_params : {ps : List PlainParam} {ts rest : List Token} (d : Params ps ts rest) → Opens (params_open d) ts rest
opens_params {rest = rest} no_params = opens_none rest
opens_params (params s s' ps) = opens_of (squares s s' (opens_param_list ps))

-- ---- members

pub opens_overloads : {before all : List PlainMethod} {ts rest : List Token} (d : Overloads before all ts rest) → Opens (overloads_open d) ts rest
opens_overloads (last_overload ps f) = opens_append (opens_params ps) (exact (function_needs f))
opens_overloads (more_overloads s {mid = mid} {mid' = mid'} ps f ms) =
    opens_append (opens_append (opens_params ps) (then_token (kind.Mark mark.Bar) s refl (exact (function_needs f)))) (opens_overloads ms)

behind_visible : {v : Option Vis} {k : ℕ} {ts mid rest : List Token} → Visible v ts mid → Opens k mid rest → Opens k ts rest
behind_visible unsaid h = h
behind_visible (said k v s e f) h = opens_of (begins_token (kind.Keyword k) s refl h)

behind_single : {b : Bool} {k : ℕ} {ts mid rest : List Token} → Single b ts mid → Opens k mid rest → Opens k ts rest
behind_single of_instances h = h
behind_single (of_itself s s') h = opens_of (begins_token (kind.Keyword keyword.SelfWord) s refl (opens_of (begins_token (kind.Mark mark.Dot) s' refl h)))

-- the names of methods may have brackets, which aren't counted
abbrev pub is_named : PlainMember → Bool
is_named (method v single w ms) = true
is_named (alias new old) = true
is_named _ = false

module _ {last : ℕ} where
  pub opens_member : {m : PlainMember} {e : ℕ} {ts rest : List Token} (d : Member last m e ts rest) → is_named m ≡ false → Opens (member_open d) ts rest
  opens_member (a_method v (method_of s s' i n o)) e = absurd cc
  opens_member (attribute k a k' w s s' s'' v f g t) e =
      behind_visible v (opens_of (begins_token (kind.Keyword k) s refl (opens_of (begins_token k' s' (lower_level k' w g) (opens_of (begins_token (kind.Mark mark.Colon) s'' refl (exact (opens_of (type_needs t)))))))))
  opens_member (a_mixin k m s f t) e = opens_of (begins_token (kind.Keyword k) s refl (opens_applied t))
  opens_member (an_alias s new old) e = absurd cc
  opens_member (variable w s s' i t) e = behind_single i (opens_of (begins_token (kind.Variable w) s refl (opens_of (begins_token (kind.Mark mark.Colon) s' refl (exact (opens_of (type_needs t)))))))
  opens_member {rest = rest} (a_section k v s f g) e = opens_token (kind.Keyword k) s refl

  pub opens_interface_member : {m : PlainMember} {e : ℕ} {ts rest : List Token} (d : InterfaceMember last m e ts rest) → is_named m ≡ false → Opens (interface_member_open d) ts rest
  opens_interface_member (interface_method s s' n o) e = absurd cc
  opens_interface_member (interface_mixin s t) e = opens_of (begins_token (kind.Keyword keyword.Include) s refl (opens_applied t))

-- ---- headings

pub opens_parent : {t : Option PlainTy} {ts rest : List Token} (d : Parent t ts rest) → Opens (parent_open d) ts rest
opens_parent {rest = rest} no_parent = opens_none rest
opens_parent (parent s t) = opens_of (begins_token (kind.Mark mark.Less) s refl (opens_applied t))

opens_self_types : {before all : PlainTys} {ts rest : List Token} (d : SelfTypes before all ts rest) → Opens (self_types_open d) ts rest
opens_self_types (last_self t) = opens_applied t
opens_self_types (more_selves s t us) = opens_append (then_token (kind.Mark mark.Comma) s refl (opens_applied t)) (opens_self_types us)

pub opens_selves : {us : PlainTys} {ts rest : List Token} (d : Selves us ts rest) → Opens (selves_open d) ts rest
opens_selves {rest = rest} no_selves = opens_none rest
opens_selves (selves s us) = opens_of (begins_token (kind.Mark mark.Colon) s refl (opens_self_types us))
