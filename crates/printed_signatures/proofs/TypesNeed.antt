-- Each text of a type opens as much as the type needs.
use Rattle.std.proofs.Common.{max, ℕ, ◌+◌, ◌≤◌, ◌≡◌, refl, sym, ◌∙◌, ap, subst, Bool, true, false, List, [], ◌∷◌, arith}
use Rattle.std.specs.Prelude.{◌&&◌, not, if◌then◌else◌, pos, Option, Some, None}
use Rattle.rbs_terminals.specs.declared.token.Token.{Token}
use Rattle.rbs_terminals.specs.declared.token.Spot.{Spot}
use Rattle.rbs_terminals.specs.declared.token.Mark.{Mark}
use Rattle.rbs_terminals.specs.declared.token.Mark.TheVariants as mark
use Rattle.rbs_terminals.specs.declared.token.Keyword.TheVariants as keyword
use Rattle.rbs_terminals.specs.declared.token.Kind.{Kind}
use Rattle.rbs_terminals.specs.declared.token.Kind.TheVariants as kind
use Rattle.rbs_terminals.specs.Kinds.{lower_of}
use Rattle.sig_model.specs.declared.ty.TypeName.{TypeName}
use Rattle.sig_model.specs.PlainTy as plain
use Rattle.sig_model.specs.PlainTy.{PlainTy, PlainTys, PlainKeys, PlainArgs, PlainRest, PlainFun, PlainBlock}
use Rattle.rbs_types.specs.declared.state.Parameters as the_parameters
use Rattle.rbs_types.specs.declared.state.Listed as the_listed
use Rattle.rbs_types.specs.Symbols.{sign, question_follows}
use Rattle.rbs_types.specs.Plains.{and_ty, and_key, and_arg, no_arg, no_rest_yet}
use Rattle.rbs_types.specs.Parts.{no_parameters, and_positional, and_optional, and_rest, and_keyword}
use Rattle.rbs_types.specs.Grammar.{Use, Words, capital, interface, small, outer, Name, relative, rooted, Sort, type, inter, opt, simple, result, Spells, lone_inter, union, lone_opt, inter_of, lone_simple, opt_of, lone_result, opt_result, paren, base, integer, past_integer, text, symbol, name, applied, single, unit, tuple, no_record, record_of, proc, Lists, one, more, Key, needed_key, optional_key, Keys, last_key, more_keys, Function, function, Listed, unlisted, empty, listed as in_parentheses, Blocked, no_block, needed_block, optional_block, Braced, braced, Parameters, last, key_rest, further, Parameter, positional, optional, rest_of, needed_keyword, optional_keyword, Argument, unnamed, named}
use Rattle.rbs_printer.specs.Types.{Site, whole, in_union, in_inter, before_question, result as in_result, is_optional, result_of, needs_parentheses}
use Rattle.printed_signatures.specs.Nesting.{around, listed, no_parameter, nesting, nestings, keys_nesting, function_nesting, arguments_nesting, rest_nesting, block_nesting}
use Rattle.printed_signatures.proofs.PiecesOpen.{is_level}
use Rattle.printed_signatures.proofs.TokensOpen.{Opens, Begins, opens_none, fewer, fewer_begin, opens_append, begins_append, opens_token, begins_token, then_token, begins_then, begins_bracket, begins_parentheses, opens_empty}

pub opens_of : {k : ℕ} {ts rest : List Token} → Begins k ts rest → Opens k ts rest
opens_of h = h.opens

-- ---- what each sort needs

-- it stands in parentheses as a simple type
abbrev pub is_composed : PlainTy → Bool
is_composed (plain.union ts) = true
is_composed (plain.inter ts) = true
is_composed (plain.opt t) = true
is_composed _ = false

-- Before a question mark a proc type stands in parentheses where its result is not optional.
abbrev pub Needs : Sort → PlainTy → List Token → List Token → Type 0
Needs type t ts rest = Begins (nesting t) ts rest
Needs inter t ts rest = Begins (around (needs_parentheses in_union t) (nesting t)) ts rest
Needs opt t ts rest = Begins (around (needs_parentheses in_inter t) (nesting t)) ts rest
Needs simple t ts rest = Begins (around (is_composed t) (nesting t)) ts rest × (question_follows rest ≡ true → Begins (around (needs_parentheses before_question t) (nesting t)) ts rest)
Needs result t ts rest = Begins (around (needs_parentheses in_result t) (nesting t)) ts rest

bare : (p : Bool) (k : ℕ) → k ≤ around p k
bare true k = omega arith
bare false k = omega arith

in_parens : (p : Bool) (k : ℕ) → around p k ≤ 1 + k
in_parens true k = omega arith
in_parens false k = omega arith

union_inter : (t : PlainTy) → around (needs_parentheses in_union t) (nesting t) ≤ around (needs_parentheses in_inter t) (nesting t)
union_inter (plain.inter ts) = omega arith
union_inter (plain.union ts) = omega arith
union_inter _ = omega arith

inter_simple : (t : PlainTy) → around (needs_parentheses in_inter t) (nesting t) ≤ around (is_composed t) (nesting t)
inter_simple (plain.inter ts) = omega arith
inter_simple (plain.union ts) = omega arith
inter_simple (plain.opt t) = omega arith
inter_simple _ = omega arith

result_simple : (t : PlainTy) → around (needs_parentheses in_result t) (nesting t) ≤ around (is_composed t) (nesting t)
result_simple (plain.inter ts) = omega arith
result_simple (plain.union ts) = omega arith
result_simple (plain.opt t) = omega arith
result_simple _ = omega arith

whole_bare : (t : PlainTy) → around (needs_parentheses whole t) (nesting t) ≤ nesting t
whole_bare (plain.union ts) = omega arith
whole_bare _ = omega arith

-- a simple type that is no proc type needs the same before a question mark
both : (t : PlainTy) {ts rest : List Token} → needs_parentheses before_question t ≡ is_composed t → Begins (around (is_composed t) (nesting t)) ts rest → Needs simple t ts rest
both t {ts = ts} {rest = rest} e h = (h, λ q. subst (λ p. Begins (around p (nesting t)) ts rest) (sym e) h)

-- ---- lists with one more

nestings_and : (x : Site) (ts : PlainTys) (t : PlainTy) → nestings x (and_ty ts t) ≤ max (nestings x ts) (around (needs_parentheses x t) (nesting t))
nestings_and x plain.no_tys t = omega arith
nestings_and x (plain.more_tys u ts) t = omega (arith, nestings_and x ts t)

keys_and : (ks : PlainKeys) (w : List ℕ) (needed : Bool) (t : PlainTy) → keys_nesting (and_key ks w needed t) ≤ max (keys_nesting ks) (nesting t)
keys_and plain.no_keys w needed t = omega arith
keys_and (plain.more_keys v n u ks) w needed t = omega (arith, keys_and ks w needed t)

arguments_and : (ts : PlainArgs) (t : PlainTy) (n : Option (List ℕ)) → arguments_nesting (and_arg ts t n) ≤ max (arguments_nesting ts) (nesting t)
arguments_and plain.no_args t n = omega arith
arguments_and (plain.more_args u m ts) t n = omega (arith, arguments_and ts t n)

pub name_needs : (n : TypeName) (us : PlainTys) → nesting (plain.name n us) ≤ 1 + nestings whole us
name_needs n plain.no_tys = omega arith
name_needs n (plain.more_tys t ts) = omega (arith, bare (needs_parentheses whole t) (nesting t))

-- ---- parameters

abbrev pub inside : the_parameters.Parameters → ℕ
inside p = max (arguments_nesting p.required) (max (arguments_nesting p.optional) (max (rest_nesting p.rest) (max (arguments_nesting p.trailing) (keys_nesting p.keys))))

abbrev pub inside_listed : the_listed.Listed → ℕ
inside_listed l = max (inside l.parameters) (rest_nesting l.key_rest)

either_inside : (b : Bool) (p q : the_parameters.Parameters) (k : ℕ) → inside p ≤ k → inside q ≤ k → inside (if b then p else q) ≤ k
either_inside true p q k h i = h
either_inside false p q k h i = i

with_positional : (p : the_parameters.Parameters) (t : PlainTy) (n : Option (List ℕ)) → inside (and_positional p t n) ≤ max (inside p) (nesting t)
with_positional p t n = either_inside (no_arg p.optional && no_rest_yet p.rest) _ _ _ (omega (arith, arguments_and p.required t n)) (omega (arith, arguments_and p.trailing t n))

listed_at_most : (b : Bool) (k : ℕ) → listed b k ≤ 1 + k
listed_at_most true k = omega arith
listed_at_most false k = omega arith

abbrev pub listed_needs : the_listed.Listed → ℕ
listed_needs l =
    let p = l.parameters in
    listed (no_parameter p.required p.optional p.rest p.trailing p.keys l.key_rest)
    (max (arguments_nesting p.required) (max (arguments_nesting p.optional) (max (rest_nesting p.rest) (max (arguments_nesting p.trailing) (max (keys_nesting p.keys) (rest_nesting l.key_rest))))))

listed_inside : (l : the_listed.Listed) → listed_needs l ≤ 1 + inside_listed l
listed_inside l = omega (arith, listed_at_most (no_parameter l.parameters.required l.parameters.optional l.parameters.rest l.parameters.trailing l.parameters.keys l.key_rest) (max (arguments_nesting l.parameters.required) (max (arguments_nesting l.parameters.optional) (max (rest_nesting l.parameters.rest) (max (arguments_nesting l.parameters.trailing) (max (keys_nesting l.parameters.keys) (rest_nesting l.key_rest)))))))

-- ---- words

pub lower_level : (k : Kind) (w : List ℕ) → lower_of k ≡ Some w → is_level k ≡ true
lower_level (kind.Lower v) w e = refl
lower_level (kind.Keyword k) w e = refl
lower_level (kind.Upper v) w e = refl
lower_level (kind.Interface v) w e = refl
lower_level (kind.Variable v) w e = refl
lower_level (kind.Integer v) w e = refl
lower_level (kind.Text v) w e = refl
lower_level (kind.Symbol v) w e = refl
lower_level (kind.Annotation v) w e = refl
lower_level (kind.Mark v) w e = absurd cc
lower_level kind.PastInteger w e = refl
lower_level kind.Stray w e = refl

pub words_begin : {u : Use} {n m : TypeName} {ts rest : List Token} → Words u n m ts rest → Begins 0 ts rest
words_begin {rest = rest} (capital w s e f) = begins_token (kind.Upper w) s refl (opens_none rest)
words_begin {rest = rest} (interface w s e) = begins_token (kind.Interface w) s refl (opens_none rest)
words_begin {rest = rest} (small w s e) = begins_token (kind.Lower w) s refl (opens_none rest)
words_begin (outer w s s' e d) = begins_token (kind.Upper w) s refl (opens_of (begins_token (kind.Mark mark.Scope) s' refl (opens_of (words_begin d))))

pub name_begins : {u : Use} {n : TypeName} {ts rest : List Token} → Name u n ts rest → Begins 0 ts rest
name_begins (relative d) = words_begin d
name_begins (rooted s d) = begins_token (kind.Mark mark.Scope) s refl (opens_of (words_begin d))

-- a result before a question mark has its own
result_optional : {t : PlainTy} {ts rest : List Token} → Spells result t ts rest → question_follows rest ≡ true → is_optional t ≡ true
result_optional (lone_result d e) q = absurd (clash (sym e ∙ q))
  where
    clash : false ≡ true → ⊥
    clash e = cc
result_optional (opt_result s d) q = refl

proc_optional : {f : PlainFun} {ts rest : List Token} → Function f ts rest → question_follows rest ≡ true → is_optional (result_of f) ≡ true
proc_optional (function s l b r) q = result_optional r q

-- the brackets
pub squares : (s s' : Spot) {k : ℕ} {ts rest : List Token} → Opens k ts (sign mark.CloseSquare s' ∷ rest) → Begins (1 + k) (sign mark.OpenSquare s ∷ ts) rest
squares s s' h = begins_bracket mark.OpenSquare mark.CloseSquare s s' (λ n. refl) (λ n. refl) refl h

braces : (s s' : Spot) {k : ℕ} {ts rest : List Token} → Opens k ts (sign mark.CloseBrace s' ∷ rest) → Begins (1 + k) (sign mark.OpenBrace s ∷ ts) rest
braces s s' h = begins_bracket mark.OpenBrace mark.CloseBrace s s' (λ n. refl) (λ n. refl) refl h

-- where the members of a list stand
abbrev site_of : Sort → Site
site_of inter = in_union
site_of opt = in_inter
site_of _ = whole

abbrev is_listed : Sort → Bool
is_listed type = true
is_listed inter = true
is_listed opt = true
is_listed _ = false

member : (x : Sort) (t : PlainTy) {ts rest : List Token} → is_listed x ≡ true → Needs x t ts rest → Begins (around (needs_parentheses (site_of x) t) (nesting t)) ts rest
member type t e h = fewer_begin (around (needs_parentheses whole t) (nesting t)) (whole_bare t) h
member inter t e h = h
member opt t e h = h
member simple t e h = absurd cc
member result t e h = absurd cc

mutual
  pub type_needs : {x : Sort} {t : PlainTy} {ts rest : List Token} → Spells x t ts rest → Needs x t ts rest
  type_needs (lone_inter {t = t} d) = fewer_begin (nesting t) (bare (needs_parentheses in_union t) (nesting t)) (type_needs d)
  type_needs (union {t = t} {us = us} s d ds) =
      let (k, h, l) = types_need ds refl refl in
      fewer_begin (nestings in_union us) (omega (arith, l)) (begins_append (begins_then (kind.Mark mark.Bar) s refl (type_needs d)) h)
  type_needs (lone_opt {t = t} d) = fewer_begin (around (needs_parentheses in_union t) (nesting t)) (union_inter t) (type_needs d)
  type_needs (inter_of {t = t} {us = us} s d ds) =
      let (k, h, l) = types_need ds refl refl in
      fewer_begin (nestings in_inter us) (omega (arith, l)) (begins_append (begins_then (kind.Mark mark.Amp) s refl (type_needs d)) h)
  type_needs (lone_simple {t = t} d) = fewer_begin (around (needs_parentheses in_inter t) (nesting t)) (inter_simple t) (type_needs d).0
  type_needs (opt_of {t = t} s d) = begins_then (kind.Mark mark.Question) s refl ((type_needs d).1 refl)
  type_needs (lone_result {t = t} d e) = fewer_begin (around (needs_parentheses in_result t) (nesting t)) (result_simple t) (type_needs d).0
  type_needs (opt_result {t = t} s d) = begins_then (kind.Mark mark.Question) s refl ((type_needs d).1 refl)
  type_needs (paren {t = t} s s' d) =
      let h = begins_parentheses s s' (type_needs d) in
      (fewer_begin (around (is_composed t) (nesting t)) (in_parens (is_composed t) (nesting t)) h, λ q. fewer_begin (around (needs_parentheses before_question t) (nesting t)) (in_parens (needs_parentheses before_question t) (nesting t)) h)
  type_needs {rest = rest} (base k b s e) = both (plain.base b) refl (begins_token (kind.Keyword k) s refl (opens_none rest))
  type_needs {rest = rest} (integer n s) = both (plain.int n) refl (begins_token (kind.Integer n) s refl (opens_none rest))
  type_needs {rest = rest} (past_integer s) = both (plain.int (pos 0)) refl (begins_token kind.PastInteger s refl (opens_none rest))
  type_needs {rest = rest} (text w s) = both (plain.str w) refl (begins_token (kind.Text w) s refl (opens_none rest))
  type_needs {rest = rest} (symbol w s) = both (plain.sym w) refl (begins_token (kind.Symbol w) s refl (opens_none rest))
  type_needs (name {n = n} d) = both (plain.name n plain.no_tys) refl (name_begins d)
  type_needs (applied {n = n} {us = us} s s' d ds) =
      let (k, h, l) = types_need ds refl refl in
      both (plain.name n us) refl (fewer_begin (nesting (plain.name n us)) (omega (arith, name_needs n us, l)) (begins_append (name_begins d) (opens_of (squares s s' h))))
  type_needs (single {n = n} s s' s'' d) =
      both (plain.single n) refl (begins_token (kind.Keyword keyword.Singleton) s refl (opens_of (begins_parentheses s' s'' (name_begins d))))
  type_needs {rest = rest} (unit s s') = both (plain.tuple plain.no_tys) refl (squares s s' (opens_none (sign mark.CloseSquare s' ∷ rest)))
  type_needs (tuple {us = us} s s' ds) = let (k, h, l) = types_need ds refl refl in both (plain.tuple us) refl (fewer_begin (1 + nestings whole us) (omega (arith, l)) (squares s s' h))
  type_needs {rest = rest} (no_record s s') = both (plain.rec plain.no_keys) refl (braces s s' (opens_none (sign mark.CloseBrace s' ∷ rest)))
  type_needs (record_of {ks = ks} s s' ds) = let (k, h, l) = keys_need ds in both (plain.rec ks) refl (fewer_begin (1 + keys_nesting ks) (omega (arith, l)) (braces s s' h))
  type_needs (proc {f = f} s {ts = ts} {rest = rest} d) =
      let h = begins_token (kind.Mark mark.Caret) s refl (function_needs d) in
      (h, λ q. subst (λ p. Begins (around (not p) (function_nesting f)) (sign mark.Caret s ∷ ts) rest) (sym (proc_optional d q)) h)

  -- the members of a list, of which those before need less
  pub types_need : {x : Sort} {by : Mark} {before all : PlainTys} {ts rest : List Token} → Lists x by before all ts rest → is_listed x ≡ true → is_level (kind.Mark by) ≡ true
      → (k : ℕ) × Opens k ts rest × (nestings (site_of x) all ≤ max (nestings (site_of x) before) k)
  types_need {x = x} {before = before} (one {t = t} d) e f = (_, opens_of (member x t e (type_needs d)), nestings_and (site_of x) before t)
  types_need {x = x} {by = by} {before = before} (more {t = t} s d ds) e f =
      let h = begins_then (kind.Mark by) s f (member x t e (type_needs d)) in
      let (k, i, l) = types_need ds e f in
      (_, opens_append (opens_of h) i, omega (arith, l, nestings_and (site_of x) before t))

  key_needs : {before ks : PlainKeys} {ts rest : List Token} → Key before ks ts rest → (k : ℕ) × Opens k ts rest × (keys_nesting ks ≤ max (keys_nesting before) k)
  key_needs {before = before} (needed_key {t = t} k w s s' e n d) =
      (nesting t, opens_of (begins_token k s (lower_level k w e) (opens_of (begins_token (kind.Mark mark.Colon) s' refl (opens_of (type_needs d))))), keys_and before w true t)
  key_needs {before = before} (optional_key {t = t} k w s s' s'' e n d) =
      (nesting t, opens_of (begins_token (kind.Mark mark.Question) s refl (opens_of (begins_token k s' (lower_level k w e) (opens_of (begins_token (kind.Mark mark.Colon) s'' refl (opens_of (type_needs d))))))), keys_and before w false t)

  keys_need : {before ks : PlainKeys} {ts rest : List Token} → Keys before ks ts rest → (k : ℕ) × Opens k ts rest × (keys_nesting ks ≤ max (keys_nesting before) k)
  keys_need (last_key d) = key_needs d
  keys_need (more_keys s d ds) =
      let (j, h, l) = key_needs d in
      let (k, i, m) = keys_need ds in
      (max j k, opens_append (then_token (kind.Mark mark.Comma) s refl h) i, omega (arith, l, m))

  pub function_needs : {f : PlainFun} {ts rest : List Token} → Function f ts rest → Opens (function_nesting f) ts rest
  function_needs (function {l = l} {b = b} {t = t} s d e r) =
      fewer (max (listed_needs l) (max (block_nesting b) (around (needs_parentheses in_result t) (nesting t)))) (omega arith)
      (opens_append (listed_need d) (opens_append (then_token (kind.Mark mark.Arrow) s refl (block_needs e)) (opens_of (type_needs r))))

  listed_need : {l : the_listed.Listed} {ts rest : List Token} → Listed l ts rest → Opens (listed_needs l) ts rest
  listed_need {rest = rest} unlisted = opens_none rest
  listed_need (empty s s') = opens_empty s s'
  listed_need (in_parentheses {l = l} s s' d) =
      let (k, h, m) = parameters_need d in
      fewer (listed_needs l) (omega (arith, listed_inside l, m)) (opens_of (begins_parentheses s s' h))

  block_needs : {b : PlainBlock} {ts rest : List Token} → Blocked b ts rest → Opens (block_nesting b) ts rest
  block_needs {rest = rest} no_block = opens_none rest
  block_needs (needed_block s d) = let (s', h) = braced_needs d in opens_of (braces s s' h)
  block_needs (optional_block s s' d) = let (s'', h) = braced_needs d in opens_of (begins_token (kind.Mark mark.Question) s refl (opens_of (braces s' s'' h)))

  braced_needs : {f : PlainFun} {ts rest : List Token} → Braced f ts rest → (s : Spot) × Opens (function_nesting f) ts (sign mark.CloseBrace s ∷ rest)
  braced_needs (braced {l = l} {t = t} s s' d r) =
      (s', fewer (max (listed_needs l) (max 0 (around (needs_parentheses in_result t) (nesting t)))) (omega arith) (opens_append (then_token (kind.Mark mark.Arrow) s refl (listed_need d)) (opens_of (type_needs r))))

  parameters_need : {p : the_parameters.Parameters} {l : the_listed.Listed} {ts rest : List Token} → Parameters p l ts rest → (k : ℕ) × Begins k ts rest × (inside_listed l ≤ max (inside p) k)
  parameters_need (last d) = let (k, h, l) = parameter_needs d in (k, h, omega (arith, l))
  parameters_need (key_rest {t = t} s d) = (nesting t, begins_token (kind.Mark mark.DoubleStar) s refl (opens_of (argument_needs d)), omega arith)
  parameters_need (further s d ds) =
      let (j, h, l) = parameter_needs d in
      let (k, i, m) = parameters_need ds in
      (max j k, begins_append (begins_then (kind.Mark mark.Comma) s refl h) (opens_of i), omega (arith, l, m))

  parameter_needs : {p q : the_parameters.Parameters} {ts rest : List Token} → Parameter p q ts rest → (k : ℕ) × Begins k ts rest × (inside q ≤ max (inside p) k)
  parameter_needs {p = p} (positional {t = t} {n = n} e d) = (nesting t, argument_needs d, with_positional p t n)
  parameter_needs {p = p} (optional {t = t} {n = n} s e d) = (nesting t, begins_token (kind.Mark mark.Question) s refl (opens_of (argument_needs d)), omega (arith, arguments_and p.optional t n))
  parameter_needs {p = p} (rest_of {t = t} {n = n} s e d) = (nesting t, begins_token (kind.Mark mark.Star) s refl (opens_of (argument_needs d)), omega arith)
  parameter_needs {p = p} (needed_keyword {t = t} k w s s' e n d) =
      (nesting t, begins_token k s (lower_level k w e) (opens_of (begins_token (kind.Mark mark.Colon) s' refl (opens_of (type_needs d)))), omega (arith, keys_and p.keys w true t))
  parameter_needs {p = p} (optional_keyword {t = t} k w s s' s'' e n d) =
      (nesting t, begins_token (kind.Mark mark.Question) s refl (opens_of (begins_token k s' (lower_level k w e) (opens_of (begins_token (kind.Mark mark.Colon) s'' refl (opens_of (type_needs d)))))), omega (arith, keys_and p.keys w false t))

  argument_needs : {t : PlainTy} {n : Option (List ℕ)} {ts rest : List Token} → Argument t n ts rest → Begins (nesting t) ts rest
  argument_needs (unnamed d) = type_needs d
  argument_needs (named k w s e d) = begins_then k s (lower_level k w e) (type_needs d)
