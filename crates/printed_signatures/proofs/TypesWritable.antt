-- A type that terminals spell can be written.
use Rattle.std.specs.Prelude.{◌≡◌, refl, ℕ, Bool, true, false, ◌⊎◌, List, [], ◌∷◌, Option, Some, None}
use Rattle.std.proofs.Common.{sym, subst, ap, ◌∙◌, inl, inr}
use Rattle.rbs_lexer.specs.Names.{IsLower}
use Rattle.rbs_terminals.specs.declared.token.Token.{Token}
use Rattle.rbs_terminals.specs.declared.token.Spot.{Spot}
use Rattle.rbs_terminals.specs.declared.token.Kind.{Kind}
use Rattle.rbs_terminals.specs.declared.token.Kind.TheVariants as kind
use Rattle.rbs_terminals.specs.declared.token.Keyword.{Keyword}
use Rattle.rbs_terminals.specs.declared.token.Keyword.TheVariants as keyword
use Rattle.rbs_terminals.specs.declared.token.Mark.{Mark}
use Rattle.rbs_terminals.specs.Keywords.{keyword_text}
use Rattle.rbs_terminals.specs.Kinds.{lower_of}
use Rattle.sig_model.specs.declared.ty.TypeName.{TypeName}
use Rattle.sig_model.specs.PlainTy as plain
use Rattle.sig_model.specs.PlainTy.{PlainTy, PlainTys, PlainKeys, PlainFun, PlainBlock}
use Rattle.rbs_types.specs.declared.state.Parameters as the_parameters
use Rattle.rbs_types.specs.declared.state.Listed as the_listed
use Rattle.rbs_types.specs.Plains.{and_ty, no_ty}
use Rattle.rbs_types.specs.Parts.{no_name, root, no_parameters, nothing_listed, grown}
use Rattle.rbs_types.specs.Grammar.{Use, Words, capital, interface, small, outer, Name, relative, rooted, Sort, Spells, lone_inter, union, lone_opt, inter_of, lone_simple, opt_of, lone_result, opt_result, paren, base, integer, past_integer, text, symbol, name, applied, single, unit, tuple, no_record, record_of, proc, Lists, one, more, Key, needed_key, optional_key, Keys, last_key, more_keys, Function, function, Listed, unlisted, empty, listed, Blocked, no_block, needed_block, optional_block, Braced, braced, Parameters, last, key_rest, further, Parameter, positional, optional, rest_of, needed_keyword, optional_keyword, Argument, unnamed, named}
use Rattle.viable_prefixes.specs.Runs.{Each}
use Rattle.printed_signatures.specs.Writable.{EndsName, IsPath, IsName, IsType, AreTypes, AreKeys, AreArguments, IsRest, IsParameterName, IsBlock, IsFunction, several, has_no_block}
use Rattle.printed_signatures.specs.Lexical.{IsLexical, IsLexicalKind}
use Rattle.printed_signatures.proofs.KeywordWords.{keyword_is_lower}
use Rattle.printed_signatures.proofs.ListsWritable.{AreCapital, path_ends, capital_more, types_and, several_and, some_and, keys_and, AreParametersSoFar, none_yet, with_positional, with_optional, with_rest, with_keyword, AreListed, function_written}

-- all of these terminals are as bytes give them
abbrev pub AreLexical : List Token → Type 0
AreLexical ts = Each IsLexical ts

-- a word where a keyword may be a name
pub lower_written : (k : Kind) (w : List ℕ) → lower_of k ≡ Some w → IsLexicalKind k → IsLower w
lower_written (kind.Lower v) w e h = let same : v ≡ w = cc in subst IsLower same h.0
lower_written (kind.Keyword k) w e h = let same : keyword_text k ≡ w = cc in subst IsLower same (keyword_is_lower k)
lower_written (kind.Upper v) w e h = absurd cc
lower_written (kind.Interface v) w e h = absurd cc
lower_written (kind.Variable v) w e h = absurd cc
lower_written (kind.Integer v) w e h = absurd cc
lower_written (kind.Text v) w e h = absurd cc
lower_written (kind.Symbol v) w e h = absurd cc
lower_written (kind.Annotation v) w e h = absurd cc
lower_written (kind.Mark v) w e h = absurd cc
lower_written kind.PastInteger w e h = absurd cc
lower_written kind.Stray w e h = absurd cc

pub words_written : {u : Use} {n m : TypeName} {ts rest : List Token} → Words u n m ts rest → AreCapital n.path → AreLexical ts → IsPath u m.path × AreLexical rest
words_written {u = u} {n = n} (capital w s e f) c h = (path_ends u n.path w c (inl (e, h.0.kind)), h.1)
words_written {u = u} {n = n} (interface w s e) c h = (path_ends u n.path w c (inr (inl (e, h.0.kind))), h.1)
words_written {u = u} {n = n} (small w s e) c h = (path_ends u n.path w c (inr (inr (e, h.0.kind.0, h.0.kind.1))), h.1)
words_written {n = n} (outer w s s' e d) c h = words_written d (capital_more n.path w c h.0.kind) h.1.1

pub name_written : {u : Use} {n : TypeName} {ts rest : List Token} → Name u n ts rest → AreLexical ts → IsName u n × AreLexical rest
name_written (relative d) h = words_written d tt h
name_written (rooted s d) h = words_written d tt h.1

mutual
  pub type_written : {x : Sort} {t : PlainTy} {ts rest : List Token} → Spells x t ts rest → AreLexical ts → IsType t × AreLexical rest
  type_written (lone_inter d) h = type_written d h
  type_written (union s d ds) h = let a = type_written d h in let b = types_written ds (a.0, tt) a.1.1 in ((several_written ds refl, b.0), b.1)
  type_written (lone_opt d) h = type_written d h
  type_written (inter_of s d ds) h = let a = type_written d h in let b = types_written ds (a.0, tt) a.1.1 in ((several_written ds refl, b.0), b.1)
  type_written (lone_simple d) h = type_written d h
  type_written (opt_of s d) h = let a = type_written d h in (a.0, a.1.1)
  type_written (lone_result d e) h = type_written d h
  type_written (opt_result s d) h = let a = type_written d h in (a.0, a.1.1)
  type_written (paren s s' d) h = let a = type_written d h.1 in (a.0, a.1.1)
  type_written (base k b s e) h = (tt, h.1)
  type_written (integer n s) h = (h.0.kind, h.1)
  type_written (past_integer s) h = absurd h.0.kind
  type_written (text w s) h = (h.0.kind, h.1)
  type_written (symbol w s) h = (h.0.kind, h.1)
  type_written (name d) h = let a = name_written d h in ((a.0, tt), a.1)
  type_written (applied s s' d ds) h = let a = name_written d h in let b = types_written ds tt a.1.1 in ((a.0, b.0), b.1.1)
  type_written (single s s' s'' d) h = let a = name_written d h.1.1 in (a.0, a.1.1)
  type_written (unit s s') h = (tt, h.1.1)
  type_written (tuple s s' ds) h = let b = types_written ds tt h.1 in (b.0, b.1.1)
  type_written (no_record s s') h = (tt, h.1.1)
  type_written (record_of s s' ds) h = let b = keys_written ds tt h.1 in (b.0, b.1.1)
  type_written (proc s d) h = function_of_written d h.1

  pub types_written : {x : Sort} {by : Mark} {before all : PlainTys} {ts rest : List Token} → Lists x by before all ts rest → AreTypes before → AreLexical ts → AreTypes all × AreLexical rest
  types_written {before = before} (one {t = t} d) b h = let a = type_written d h in (types_and before t b a.0, a.1)
  types_written {before = before} (more {t = t} s d ds) b h = let a = type_written d h in types_written ds (types_and before t b a.0) a.1.1

  several_written : {x : Sort} {by : Mark} {before all : PlainTys} {ts rest : List Token} → Lists x by before all ts rest → no_ty before ≡ false → several all ≡ true
  several_written {before = before} (one {t = t} d) e = several_and before t e
  several_written {before = before} (more {t = t} s d ds) e = several_written ds (some_and before t)

  pub key_written : {before ks : PlainKeys} {ts rest : List Token} → Key before ks ts rest → AreKeys before → AreLexical ts → AreKeys ks × AreLexical rest
  key_written {before = before} (needed_key {t = t} k w s s' e n d) b h = let a = type_written d h.1.1 in (keys_and before w true t b n (lower_written k w e h.0.kind) a.0, a.1)
  key_written {before = before} (optional_key {t = t} k w s s' s'' e n d) b h = let a = type_written d h.1.1.1 in (keys_and before w false t b n (lower_written k w e h.1.0.kind) a.0, a.1)

  pub keys_written : {before ks : PlainKeys} {ts rest : List Token} → Keys before ks ts rest → AreKeys before → AreLexical ts → AreKeys ks × AreLexical rest
  keys_written (last_key d) b h = key_written d b h
  keys_written (more_keys s d ds) b h = let a = key_written d b h in keys_written ds a.0 a.1.1

  pub function_of_written : {f : PlainFun} {ts rest : List Token} → Function f ts rest → AreLexical ts → IsFunction f × AreLexical rest
  function_of_written (function {l = l} {b = b} {t = t} s d e r) h =
      let a = listed_written d h in
      let i = block_written e a.1 in
      let j = type_written r i.1.1 in
      (function_written l b t a.0 i.0 j.0, j.1)

  listed_written : {l : the_listed.Listed} {ts rest : List Token} → Listed l ts rest → AreLexical ts → AreListed l × AreLexical rest
  listed_written unlisted h = (record { parameters = none_yet; key_rest = tt }, h)
  listed_written (empty s s') h = (record { parameters = none_yet; key_rest = tt }, h.1.1)
  listed_written (listed s s' d) h = let a = parameters_written d none_yet h.1 in (a.0, a.1.1)

  block_written : {b : PlainBlock} {ts rest : List Token} → Blocked b ts rest → AreLexical ts → IsBlock b × AreLexical rest
  block_written no_block h = (tt, h)
  block_written (needed_block s d) h = braced_written d h.1
  block_written (optional_block s s' d) h = braced_written d h.1.1

  braced_written : {f : PlainFun} {ts rest : List Token} → Braced f ts rest → AreLexical ts → (IsFunction f × (has_no_block f ≡ true)) × AreLexical rest
  braced_written (braced {l = l} {t = t} s s' d r) h =
      let a = listed_written d h in
      let j = type_written r a.1.1 in
      ((function_written l plain.no_block t a.0 tt j.0, refl), j.1.1)

  parameters_written : {p : the_parameters.Parameters} {l : the_listed.Listed} {ts rest : List Token} → Parameters p l ts rest → AreParametersSoFar p → AreLexical ts → AreListed l × AreLexical rest
  parameters_written (last d) p h = let a = parameter_written d p h in (record { parameters = a.0; key_rest = tt }, a.1)
  parameters_written (key_rest s d) p h = let a = argument_written d h.1 in (record { parameters = p; key_rest = a.0 }, a.1)
  parameters_written (further s d ds) p h = let a = parameter_written d p h in parameters_written ds a.0 a.1.1

  parameter_written : {p q : the_parameters.Parameters} {ts rest : List Token} → Parameter p q ts rest → AreParametersSoFar p → AreLexical ts → AreParametersSoFar q × AreLexical rest
  parameter_written {p = p} (positional {t = t} {n = n} e d) b h = let a = argument_written d h in (with_positional p t n b a.0.0 a.0.1, a.1)
  parameter_written {p = p} (optional {t = t} {n = n} s e d) b h = let a = argument_written d h.1 in (with_optional p t n e b a.0.0 a.0.1, a.1)
  parameter_written {p = p} (rest_of {t = t} {n = n} s e d) b h = let a = argument_written d h.1 in (with_rest p t n e b a.0.0 a.0.1, a.1)
  parameter_written {p = p} (needed_keyword {t = t} k w s s' e n d) b h = let a = type_written d h.1.1 in (with_keyword p w true t n b (lower_written k w e h.0.kind) a.0, a.1)
  parameter_written {p = p} (optional_keyword {t = t} k w s s' s'' e n d) b h = let a = type_written d h.1.1.1 in (with_keyword p w false t n b (lower_written k w e h.1.0.kind) a.0, a.1)

  argument_written : {t : PlainTy} {n : Option (List ℕ)} {ts rest : List Token} → Argument t n ts rest → AreLexical ts → (IsType t × IsParameterName n) × AreLexical rest
  argument_written (unnamed d) h = let a = type_written d h in ((a.0, tt), a.1)
  argument_written (named k w s e d) h = let a = type_written d h in ((a.0, lower_written k w e a.1.0.kind), a.1.1)
