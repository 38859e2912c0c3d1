-- How many parentheses, brackets, braces and words closed by `end` are open at once in a file, by its derivation. Those of types are counted token by token (`Depth`), so that an empty pair of parentheses isn't counted.
-- The names of members open nothing, as the brackets of `def []:`.
use Rattle.std.specs.Prelude.{ℕ, ◌+◌, ◌-◌, max, List, [], ◌∷◌, Option, take, length}
use Rattle.rbs_terminals.specs.declared.token.Token.{Token}
use Rattle.rbs_terminals.specs.declared.token.Mark.TheVariants as mark
use Rattle.sig_model.specs.declared.decl.Vis.{Vis}
use Rattle.sig_model.specs.PlainTy.{PlainTy, PlainTys}
use Rattle.sig_model.specs.PlainMember.{PlainParam, PlainMethod, PlainMember}
use Rattle.sig_model.specs.PlainDecl.{PlainDecl, PlainBody, PlainParts, PlainDecls}
use Rattle.rbs_types.specs.Symbols.{sign}
use Rattle.rbs_types.specs.Grammar.{Use}
use Rattle.rbs_types.specs.Depth.{Depth, surely, behind}
use Rattle.rbs_declarations.specs.Grammar.{Applied, unapplied, applied, Bound, unbound, bound, bound_single, Param, param, ParamList, last_param, more_params, Params, no_params, params, Overloads, last_overload, more_overloads, Method, method_of, Member, a_method, attribute, a_mixin, an_alias, variable, a_section, InterfaceMember, interface_method, interface_mixin, Parent, no_parent, parent, SelfTypes, last_self, more_selves, Selves, no_selves, selves, Declaration, declaration, Body, a_class, a_module, an_interface, a_type, a_constant, Parts, no_part, inner_part, member_part, InterfaceParts, no_interface_part, interface_part, File, end_of_file, further}

-- ---- types, by their tokens

-- the most that are open at a place and behind the tokens that follow it
abbrev pub most_open : Depth → List Token → ℕ
most_open d [] = d.sure
most_open d (c ∷ ts) = max d.sure (most_open (behind d c) ts)

-- the most that are open in types whose tokens are those from the first list up to the second, where `n` are open before them
abbrev pub types_open : ℕ → List Token → List Token → ℕ
types_open n ts rest = most_open (surely n) (take (length ts - length rest) ts)

-- the arguments' bracket is open before them
abbrev pub applied_open : {u : Use} {t : PlainTy} {ts rest : List Token} → Applied u t ts rest → ℕ
applied_open (unapplied n) = 0
applied_open (applied s s' {mid = mid} {rest = rest} n us) = types_open 1 mid rest

-- ---- type parameters, which open a bracket, as a bound by `singleton` opens a parenthesis

abbrev pub bound_open : {b : Option PlainTy} {ts rest : List Token} → Bound b ts rest → ℕ
bound_open unbound = 0
bound_open (bound s t) = applied_open t
bound_open (bound_single s s' s'' s''' n) = 1

abbrev pub param_open : {p : PlainParam} {ts rest : List Token} → Param p ts rest → ℕ
param_open (param w s u v b) = bound_open b

abbrev pub param_list_open : {before all : List PlainParam} {ts rest : List Token} → ParamList before all ts rest → ℕ
param_list_open (last_param e p) = param_open p
param_list_open (more_params s e p ps) = max (param_open p) (param_list_open ps)

abbrev pub params_open : {ps : List PlainParam} {ts rest : List Token} → Params ps ts rest → ℕ
params_open no_params = 0
params_open (params s s' ps) = 1 + param_list_open ps

-- ---- members

abbrev pub overloads_open : {before all : List PlainMethod} {ts rest : List Token} → Overloads before all ts rest → ℕ
overloads_open (last_overload {mid = mid} {rest = rest} ps f) = max (params_open ps) (types_open 0 mid rest)
overloads_open (more_overloads s {mid = mid} {mid' = mid'} ps f ms) = max (max (params_open ps) (types_open 0 mid (sign mark.Bar s ∷ mid'))) (overloads_open ms)

abbrev pub method_open : {last : ℕ} {v : Option Vis} {m : PlainMember} {e : ℕ} {ts rest : List Token} → Method last v m e ts rest → ℕ
method_open (method_of s s' single n ms) = overloads_open ms

abbrev pub member_open : {last : ℕ} {m : PlainMember} {e : ℕ} {ts rest : List Token} → Member last m e ts rest → ℕ
member_open (a_method v m) = method_open m
member_open (attribute k a k' w s s' s'' {mid = mid} {rest = rest} v e h t) = types_open 0 mid rest
member_open (a_mixin k m s e t) = applied_open t
member_open (an_alias s new old) = 0
member_open (variable w s s' {mid = mid} {rest = rest} single t) = types_open 0 mid rest
member_open (a_section k v s e h) = 0

abbrev pub interface_member_open : {last : ℕ} {m : PlainMember} {e : ℕ} {ts rest : List Token} → InterfaceMember last m e ts rest → ℕ
interface_member_open (interface_method s s' n ms) = overloads_open ms
interface_member_open (interface_mixin s t) = applied_open t

-- ---- declarations: a class, a module and an interface are open up to their `end`

abbrev pub parent_open : {t : Option PlainTy} {ts rest : List Token} → Parent t ts rest → ℕ
parent_open no_parent = 0
parent_open (parent s t) = applied_open t

abbrev pub self_types_open : {before all : PlainTys} {ts rest : List Token} → SelfTypes before all ts rest → ℕ
self_types_open (last_self t) = applied_open t
self_types_open (more_selves s t us) = max (applied_open t) (self_types_open us)

abbrev pub selves_open : {us : PlainTys} {ts rest : List Token} → Selves us ts rest → ℕ
selves_open no_selves = 0
selves_open (selves s us) = self_types_open us

module _ {file last : ℕ} where
  abbrev mutual
    pub declaration_open : {d : PlainDecl} {ts rest : List Token} → Declaration file last d ts rest → ℕ
    declaration_open (declaration a b) = body_open b

    pub body_open : {b : PlainBody} {e : ℕ} {ts rest : List Token} → Body file last b e ts rest → ℕ
    body_open (a_class s s' n ps t parts) = 1 + max (max (params_open ps) (parent_open t)) (parts_open parts)
    body_open (a_module s s' n ps us parts) = 1 + max (max (params_open ps) (selves_open us)) (parts_open parts)
    body_open (an_interface s s' n ps parts) = 1 + max (params_open ps) (interface_parts_open parts)
    body_open (a_type s s' {mid' = mid} {rest = rest} n ps t) = max (params_open ps) (types_open 0 mid rest)
    body_open (a_constant s {mid = mid} {rest = rest} n t) = types_open 0 mid rest

    pub parts_open : {before all : PlainParts} {ts rest : List Token} → Parts file last before all ts rest → ℕ
    parts_open no_part = 0
    parts_open (inner_part d ps) = max (declaration_open d) (parts_open ps)
    parts_open (member_part a m ps) = max (member_open m) (parts_open ps)

    pub interface_parts_open : {before all : PlainParts} {ts rest : List Token} → InterfaceParts file last before all ts rest → ℕ
    interface_parts_open no_interface_part = 0
    interface_parts_open (interface_part a m ps) = max (interface_member_open m) (interface_parts_open ps)

  -- the most that are open at once in the file
  abbrev pub file_open : {before all : PlainDecls} {ts : List Token} → File file last before all ts → ℕ
  file_open end_of_file = 0
  file_open (further d ds) = max (declaration_open d) (file_open ds)
