-- What a phrase begins with, and what the reader does where something else may stand in its place.
use Rattle.std.proofs.Common.{ℕ, ◌≡◌, sym, subst, List, [], ◌∷◌, Option, Some, None}
use Rattle.rbs_terminals.specs.declared.token.Token.{Token}
use Rattle.rbs_terminals.specs.declared.token.Spot.{Spot}
use Rattle.rbs_terminals.specs.declared.token.Mark.{Mark}
use Rattle.rbs_terminals.specs.declared.token.Mark.TheVariants as mark
use Rattle.rbs_terminals.specs.declared.token.Kind.{Kind}
use Rattle.rbs_terminals.specs.declared.token.Kind.TheVariants as kind
use Rattle.rbs_terminals.specs.Keywords.{base_of}
use Rattle.rbs_terminals.specs.Kinds.{lower_of}
use Rattle.sig_model.specs.declared.ty.TypeName.{TypeName}
use Rattle.sig_model.specs.PlainTy.{PlainTy, PlainTys, PlainKeys, PlainBlock}
use Rattle.rbs_types.specs.declared.state.Parameters as the_parameters
use Rattle.rbs_types.specs.declared.state.Listed as the_listed
use Rattle.rbs_types.specs.declared.state.Opening.{Opening}
use Rattle.rbs_types.specs.Symbols.{sign}
use Rattle.rbs_types.specs.Machine.{opening_of_keyword}
use Rattle.rbs_types.specs.Grammar.{Use, Words, capital, interface, small, outer, Name, relative, rooted, Sort, type, Spells, lone_inter, union, lone_opt, inter_of, lone_simple, opt_of, lone_result, opt_result, paren, base, integer, past_integer, text, symbol, name, applied, single, unit, tuple, no_record, record_of, proc, Lists, one, more, Key, needed_key, optional_key, Keys, last_key, more_keys, Blocked, no_block, needed_block, optional_block, Parameters, last, key_rest, further, Parameter, positional, optional, rest_of, needed_keyword, optional_keyword, Argument, unnamed, named}
use Rattle.rbs_types.proofs.Followers.{ends_parameter, EndsParameter}

-- ---- no colon: behind it a word would be the name of a keyword

abbrev pub no_colon : Kind → Type 0
no_colon (kind.Mark mark.Colon) = ⊥
no_colon _ = Unit {0}

abbrev pub NoColon : List Token → Type 0
NoColon [] = Unit {0}
NoColon (c ∷ ts) = no_colon c.kind

no_colon_word : (k : Kind) (w : List ℕ) → lower_of k ≡ Some w → no_colon k
no_colon_word (kind.Mark m) w h = absurd (cc)
no_colon_word _ w h = tt

no_colon_end : (k : Kind) → ends_parameter k → no_colon k
no_colon_end (kind.Mark mark.Colon) h = h
no_colon_end _ h = tt

no_colon_ends : (ts : List Token) → EndsParameter ts → NoColon ts
no_colon_ends [] h = tt
no_colon_ends (c ∷ ts) h = no_colon_end c.kind h

-- ---- the first token of a type

abbrev pub opens_mark : Mark → Type 0
opens_mark mark.Open = Unit {0}
opens_mark mark.OpenSquare = Unit {0}
opens_mark mark.OpenBrace = Unit {0}
opens_mark mark.Caret = Unit {0}
opens_mark mark.Scope = Unit {0}
opens_mark _ = ⊥

abbrev pub is_opening : Option Opening → Type 0
is_opening (Some o) = Unit {0}
is_opening None = ⊥

-- a type begins so; where a word begins it, no colon is behind the word
abbrev pub opens : Kind → List Token → Type 0
opens (kind.Mark m) ts = opens_mark m
opens (kind.Keyword k) ts = is_opening (opening_of_keyword k (base_of k)) × NoColon ts
opens (kind.Lower w) ts = NoColon ts
opens _ ts = Unit {0}

abbrev pub Opens : List Token → Type 0
Opens [] = ⊥
Opens (c ∷ ts) = opens c.kind ts

words_open : {u : Use} {n m : TypeName} {ts rest : List Token} → Words u n m ts rest → NoColon rest → Opens ts
words_open (capital w s e f) h = tt
words_open (interface w s e) h = tt
words_open (small w s e) h = h
words_open (outer w s s' e d) h = tt

name_opens : {u : Use} {n : TypeName} {ts rest : List Token} → Name u n ts rest → NoColon rest → Opens ts
name_opens (relative d) h = words_open d h
name_opens (rooted s d) h = tt

pub type_opens : {x : Sort} {t : PlainTy} {ts rest : List Token} → Spells x t ts rest → NoColon rest → Opens ts
type_opens (lone_inter d) h = type_opens d h
type_opens (union s d ds) h = type_opens d tt
type_opens (lone_opt d) h = type_opens d h
type_opens (inter_of s d ds) h = type_opens d tt
type_opens (lone_simple d) h = type_opens d h
type_opens (opt_of s d) h = type_opens d tt
type_opens (lone_result d q) h = type_opens d h
type_opens (opt_result s d) h = type_opens d tt
type_opens (paren s s' d) h = tt
type_opens (base k b s e) h = (subst (λ o. is_opening (opening_of_keyword k o)) (sym e) tt, h)
type_opens (integer n s) h = tt
type_opens (past_integer s) h = tt
type_opens (text w s) h = tt
type_opens (symbol w s) h = tt
type_opens (name d) h = name_opens d h
type_opens (applied s s' d ds) h = name_opens d tt
type_opens (single s s' s'' d) h = (tt, tt)
type_opens (unit s s') h = tt
type_opens (tuple s s' d) h = tt
type_opens (no_record s s') h = tt
type_opens (record_of s s' d) h = tt
type_opens (proc s d) h = tt

pub types_open : {before us : PlainTys} {ts rest : List Token} → Lists type mark.Comma before us ts rest → NoColon rest → Opens ts
types_open (one d) h = type_opens d h
types_open (more s d ds) h = type_opens d tt

pub argument_opens : {t : PlainTy} {n : Option (List ℕ)} {ts rest : List Token} → Argument t n ts rest → EndsParameter rest → Opens ts
argument_opens {rest = rest} (unnamed d) h = type_opens d (no_colon_ends rest h)
argument_opens (named k w s e d) h = type_opens d (no_colon_word k w e)

-- ---- the first token of keys, of parameters and of what is behind parameters

-- a question mark or a word
abbrev pub opens_key : Kind → Type 0
opens_key (kind.Mark mark.CloseBrace) = ⊥
opens_key _ = Unit {0}

abbrev pub OpensKey : List Token → Type 0
OpensKey [] = Unit {0}
OpensKey (c ∷ ts) = opens_key c.kind

opens_key_word : (k : Kind) (w : List ℕ) → lower_of k ≡ Some w → opens_key k
opens_key_word (kind.Mark m) w h = absurd (cc)
opens_key_word _ w h = tt

key_opens : {before ks : PlainKeys} {ts rest : List Token} → Key before ks ts rest → OpensKey ts
key_opens (needed_key k w s s' e n d) = opens_key_word k w e
key_opens (optional_key k w s s' s'' e n d) = tt

pub keys_open : {before ks : PlainKeys} {ts rest : List Token} → Keys before ks ts rest → OpensKey ts
keys_open (last_key d) = key_opens d
keys_open (more_keys s d ds) = key_opens d

abbrev pub opens_parameter : Kind → Type 0
opens_parameter (kind.Mark mark.Close) = ⊥
opens_parameter _ = Unit {0}

abbrev pub OpensParameter : List Token → Type 0
OpensParameter [] = Unit {0}
OpensParameter (c ∷ ts) = opens_parameter c.kind

opens_parameter_word : (k : Kind) (w : List ℕ) → lower_of k ≡ Some w → opens_parameter k
opens_parameter_word (kind.Mark m) w h = absurd (cc)
opens_parameter_word _ w h = tt

opens_parameter_type : (k : Kind) (ts : List Token) → opens k ts → opens_parameter k
opens_parameter_type (kind.Mark mark.Close) ts h = h
opens_parameter_type _ ts h = tt

opens_parameter_types : (ts : List Token) → Opens ts → OpensParameter ts
opens_parameter_types [] h = tt
opens_parameter_types (c ∷ ts) h = opens_parameter_type c.kind ts h

parameter_opens : {p q : the_parameters.Parameters} {ts rest : List Token} → Parameter p q ts rest → EndsParameter rest → OpensParameter ts
parameter_opens {ts = ts} (positional e d) h = opens_parameter_types ts (argument_opens d h)
parameter_opens (optional s e d) h = tt
parameter_opens (rest_of s e d) h = tt
parameter_opens (needed_keyword k w s s' e n d) h = opens_parameter_word k w e
parameter_opens (optional_keyword k w s s' s'' e n d) h = tt

pub parameters_open : {p : the_parameters.Parameters} {l : the_listed.Listed} {ts rest : List Token} → Parameters p l ts rest → EndsParameter rest → OpensParameter ts
parameters_open (last d) h = parameter_opens d h
parameters_open (key_rest s d) h = tt
parameters_open (further s d ds) h = parameter_opens d tt

-- no parenthesis opens parameters
abbrev pub unlisted_before : Kind → Type 0
unlisted_before (kind.Mark mark.Open) = ⊥
unlisted_before _ = Unit {0}

abbrev pub UnlistedBefore : List Token → Type 0
UnlistedBefore [] = Unit {0}
UnlistedBefore (c ∷ ts) = unlisted_before c.kind

pub blocked_opens : {b : PlainBlock} {s : Spot} {ts rest : List Token} → Blocked b ts (sign mark.Arrow s ∷ rest) → UnlistedBefore ts
blocked_opens no_block = tt
blocked_opens (needed_block s d) = tt
blocked_opens (optional_block s s' d) = tt
