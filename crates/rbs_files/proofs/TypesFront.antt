-- The terminals that spell a phrase of types stand before what is behind it.
use Rattle.std.proofs.Common.{ℕ, ◌≡◌, refl, sym, ◌∙◌, ap, List, [], ◌∷◌, ◌++◌, append_assoc}
use Rattle.std.specs.Prelude.{Option}
use Rattle.rbs_terminals.specs.declared.token.Token.{Token}
use Rattle.rbs_terminals.specs.declared.token.Mark.{Mark}
use Rattle.sig_model.specs.declared.ty.TypeName.{TypeName}
use Rattle.sig_model.specs.PlainTy.{PlainTy, PlainTys, PlainKeys, PlainFun, PlainBlock}
use Rattle.rbs_types.specs.declared.state.Parameters as the_parameters
use Rattle.rbs_types.specs.declared.state.Listed as the_listed
use Rattle.rbs_types.specs.Grammar.{Use, Words, capital, interface, small, outer, Name, relative, rooted, Sort, Spells, lone_inter, union, lone_opt, inter_of, lone_simple, opt_of, lone_result, opt_result, paren, base, integer, past_integer, text, symbol, name, applied, single, unit, tuple, no_record, record_of, proc, Lists, one, more, Key, needed_key, optional_key, Keys, last_key, more_keys, Function, function, Listed, unlisted, empty, listed, Blocked, no_block, needed_block, optional_block, Braced, braced, Parameters, last, key_rest, further, Parameter, positional, optional, rest_of, needed_keyword, optional_keyword, Argument, unnamed, named}

pub record Fronted (ts rest : List Token) : Type 0 where
  pub front : List Token
  pub split : ts ≡ front ++ rest

nothing : (rest : List Token) → Fronted rest rest
nothing rest = record { front = []; split = refl }

-- with a terminal before them
after : (c : Token) {ts rest : List Token} → Fronted ts rest → Fronted (c ∷ ts) rest
after c h = record { front = c ∷ h.front; split = ap (λ ts. c ∷ ts) h.split }

lone : (c : Token) (rest : List Token) → Fronted (c ∷ rest) rest
lone c rest = after c (nothing rest)

-- with others behind them
both : {ts mid rest : List Token} → Fronted ts mid → Fronted mid rest → Fronted ts rest
both {rest = rest} h i = record {
  front = h.front ++ i.front;
  split = h.split ∙ ap (λ ts. h.front ++ ts) i.split ∙ sym (append_assoc h.front i.front rest);
}

-- with a terminal behind them
pub before : {c : Token} {ts rest : List Token} → Fronted ts (c ∷ rest) → Fronted ts rest
before {c = c} {rest = rest} h = both h (lone c rest)

words_front : {u : Use} {n m : TypeName} {ts rest : List Token} → Words u n m ts rest → Fronted ts rest
words_front {rest = rest} (capital w s e f) = lone _ rest
words_front {rest = rest} (interface w s e) = lone _ rest
words_front {rest = rest} (small w s e) = lone _ rest
words_front (outer w s s' e d) = after _ (after _ (words_front d))

name_front : {u : Use} {n : TypeName} {ts rest : List Token} → Name u n ts rest → Fronted ts rest
name_front (relative d) = words_front d
name_front (rooted s d) = after _ (words_front d)

mutual
  pub type_front : {x : Sort} {t : PlainTy} {ts rest : List Token} → Spells x t ts rest → Fronted ts rest
  type_front (lone_inter d) = type_front d
  type_front (union s d ds) = both (before (type_front d)) (types_front ds)
  type_front (lone_opt d) = type_front d
  type_front (inter_of s d ds) = both (before (type_front d)) (types_front ds)
  type_front (lone_simple d) = type_front d
  type_front (opt_of s d) = before (type_front d)
  type_front (lone_result d e) = type_front d
  type_front (opt_result s d) = before (type_front d)
  type_front (paren s s' d) = after _ (before (type_front d))
  type_front {rest = rest} (base k b s e) = lone _ rest
  type_front {rest = rest} (integer n s) = lone _ rest
  type_front {rest = rest} (past_integer s) = lone _ rest
  type_front {rest = rest} (text w s) = lone _ rest
  type_front {rest = rest} (symbol w s) = lone _ rest
  type_front (name d) = name_front d
  type_front (applied s s' d ds) = both (before (name_front d)) (before (types_front ds))
  type_front (single s s' s'' d) = after _ (after _ (before (name_front d)))
  type_front {rest = rest} (unit s s') = after _ (lone _ rest)
  type_front (tuple s s' ds) = after _ (before (types_front ds))
  type_front {rest = rest} (no_record s s') = after _ (lone _ rest)
  type_front (record_of s s' ds) = after _ (before (keys_front ds))
  type_front (proc s d) = after _ (function_front d)

  pub types_front : {x : Sort} {by : Mark} {done all : PlainTys} {ts rest : List Token} → Lists x by done all ts rest → Fronted ts rest
  types_front (one d) = type_front d
  types_front (more s d ds) = both (before (type_front d)) (types_front ds)

  key_front : {done ks : PlainKeys} {ts rest : List Token} → Key done ks ts rest → Fronted ts rest
  key_front (needed_key k w s s' e n d) = after _ (after _ (type_front d))
  key_front (optional_key k w s s' s'' e n d) = after _ (after _ (after _ (type_front d)))

  keys_front : {done ks : PlainKeys} {ts rest : List Token} → Keys done ks ts rest → Fronted ts rest
  keys_front (last_key d) = key_front d
  keys_front (more_keys s d ds) = both (before (key_front d)) (keys_front ds)

  pub function_front : {f : PlainFun} {ts rest : List Token} → Function f ts rest → Fronted ts rest
  function_front (function s d e r) = both (listed_front d) (both (before (block_front e)) (type_front r))

  listed_front : {l : the_listed.Listed} {ts rest : List Token} → Listed l ts rest → Fronted ts rest
  listed_front {rest = rest} unlisted = nothing rest
  listed_front {rest = rest} (empty s s') = after _ (lone _ rest)
  listed_front (listed s s' d) = after _ (before (parameters_front d))

  block_front : {b : PlainBlock} {ts rest : List Token} → Blocked b ts rest → Fronted ts rest
  block_front {rest = rest} no_block = nothing rest
  block_front (needed_block s d) = after _ (braced_front d)
  block_front (optional_block s s' d) = after _ (after _ (braced_front d))

  braced_front : {f : PlainFun} {ts rest : List Token} → Braced f ts rest → Fronted ts rest
  braced_front (braced s s' d r) = both (before (listed_front d)) (before (type_front r))

  parameters_front : {p : the_parameters.Parameters} {l : the_listed.Listed} {ts rest : List Token} → Parameters p l ts rest → Fronted ts rest
  parameters_front (last d) = parameter_front d
  parameters_front (key_rest s d) = after _ (argument_front d)
  parameters_front (further s d ds) = both (before (parameter_front d)) (parameters_front ds)

  parameter_front : {p q : the_parameters.Parameters} {ts rest : List Token} → Parameter p q ts rest → Fronted ts rest
  parameter_front (positional e d) = argument_front d
  parameter_front (optional s e d) = after _ (argument_front d)
  parameter_front (rest_of s e d) = after _ (argument_front d)
  parameter_front (needed_keyword k w s s' e n d) = after _ (after _ (type_front d))
  parameter_front (optional_keyword k w s s' s'' e n d) = after _ (after _ (after _ (type_front d)))

  argument_front : {t : PlainTy} {n : Option (List ℕ)} {ts rest : List Token} → Argument t n ts rest → Fronted ts rest
  argument_front (unnamed d) = type_front d
  argument_front (named k w s e d) = before (type_front d)
