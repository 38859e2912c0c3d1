-- What a derivation spells, the reader takes, and it has the same tree: alone, and as a phrase inside a longer text.
use Rattle.std.proofs.Common.{ℕ, ◌≡◌, refl, ◌∙◌, ap, sym, Bool, true, false, if◌then◌else◌, List, [], ◌∷◌, Option, Some, None}
use Rattle.std.specs.Prelude.{pos, option_and_then}
use Rattle.rbs_terminals.specs.declared.token.Token.{Token}
use Rattle.rbs_terminals.specs.declared.token.Spot.{Spot}
use Rattle.rbs_terminals.specs.declared.token.Mark.TheVariants as mark
use Rattle.rbs_terminals.specs.declared.token.Kind.{Kind}
use Rattle.rbs_terminals.specs.declared.token.Kind.TheVariants as kind
use Rattle.sig_model.specs.declared.ty.TypeName.{TypeName}
use Rattle.sig_model.specs.PlainTy as plain
use Rattle.sig_model.specs.PlainTy.{PlainTy, PlainTys, PlainKeys, PlainFun, PlainBlock}
use Rattle.rbs_types.specs.declared.state.Members.TheVariants as members
use Rattle.rbs_types.specs.declared.state.Parameters as the_parameters
use Rattle.rbs_types.specs.declared.state.Listed as the_listed
use Rattle.rbs_types.specs.declared.state.Head.{Head}
use Rattle.rbs_types.specs.declared.state.Level.{Level}
use Rattle.rbs_types.specs.declared.state.Owner.{Owner}
use Rattle.rbs_types.specs.declared.state.Owner.TheVariants as owner
use Rattle.rbs_types.specs.declared.state.Slot.{Slot}
use Rattle.rbs_types.specs.declared.state.Slot.TheVariants as slot
use Rattle.rbs_types.specs.declared.state.Frame.{Frame}
use Rattle.rbs_types.specs.declared.state.Frame.TheVariants as frame
use Rattle.rbs_types.specs.declared.state.Focus.{Focus}
use Rattle.rbs_types.specs.declared.state.Focus.TheVariants as focus
use Rattle.rbs_types.specs.declared.state.State.{State}
use Rattle.rbs_types.specs.Symbols.{sign, word}
use Rattle.rbs_types.specs.Plains.{and_ty}
use Rattle.rbs_types.specs.Parts.{grown, no_name, root, added, function_of, ended}
use Rattle.rbs_types.specs.Grammar.{Words, of_type, of_class, capital, interface, small, outer, Name, relative, rooted, type, inter, opt, simple, result, Spells, lone_inter, union, lone_opt, inter_of, lone_simple, opt_of, lone_result, opt_result, paren, base, integer, past_integer, text, symbol, name, applied, single, unit, tuple, no_record, record_of, proc, Lists, one, more, Key, needed_key, optional_key, Keys, last_key, more_keys, Function, function, Listed, unlisted, empty, listed, Blocked, no_block, needed_block, optional_block, Braced, braced, Parameters, last, key_rest, further, Parameter, positional, optional, rest_of, needed_keyword, optional_keyword, Argument, unnamed, named}
use Rattle.rbs_types.specs.Machine.{at, level_of, ground, result_level, closed_level, headed, start, next, final, wants_keyword, single_closed, after_bare, after_simple}
use Rattle.viable_prefixes.specs.Runs.{reads}
use Rattle.rbs_types.specs.Grammar.{Phrase, a_type, a_function, arguments_of, Spelled}
use Rattle.rbs_types.specs.Machine.{start_of}
use Rattle.rbs_types.specs.Limits.{IsWritten}
use Rattle.rbs_types.proofs.Through.{rests, taken, through}
pub use Rattle.rbs_types.proofs.Followers.{Follows}
use Rattle.rbs_types.proofs.Followers.{follows_inter, follows_opt, follows_simple, word_follows, parameter_follows, is_positional, positional_followed, EndsParameter}
use Rattle.rbs_types.proofs.Openings.{UnlistedBefore, types_open, argument_opens, keys_open, parameters_open, blocked_opens}
use Rattle.rbs_types.proofs.BehindTypes as behind
pub use Rattle.rbs_types.proofs.BehindTypes.{place, behind_type}
use Rattle.rbs_types.proofs.BehindTypes.{behind_inter, behind_opt, behind_simple, behind_name, owner_begins}

-- no token goes on with a phrase that ends by itself
nothing_closed : (t : PlainTy) (k : Kind) → after_simple t closed_level [] k ≡ None
nothing_closed t (kind.Mark mark.Question) = refl
nothing_closed t _ = refl

module _ {R : Type 0} (K : PlainTy → List Token → R) (fail : R) where
  -- the reader from this place on
  abbrev pub at_place : Focus → List Frame → List Token → R
  at_place f frames ts = through K fail (place f frames) ts

  -- ---- names

  scope_read : (n : TypeName) {m : TypeName} {ts rest : List Token} (level : Level) (frames : List Frame) → Words of_type n m ts rest
      → at_place (focus.Scope n level) frames ts ≡ behind_name K fail m level frames rest
  unfolding through
  scope_read n level frames (capital w s {rest = rest} e f) = behind.upper_read_whole K fail (grown n w) level frames rest f
  scope_read n level frames (interface w s {rest = rest} e) = behind.through_is K fail (place (focus.Bare (grown n w) level) frames) rest
  scope_read n level frames (small w s {rest = rest} e) = behind.through_is K fail (place (focus.Bare (grown n w) level) frames) rest
  scope_read n level frames (outer w s s' {ts = ts} e d) =
      behind.took K fail (place (focus.Upper (grown n w) level) frames) (sign mark.Scope s') (place (focus.Scope (grown n w) level) frames) ts
      (ap (λ b. if b then at (focus.Scope (grown n w) level) frames else after_bare (grown n w) level frames (kind.Mark mark.Scope)) e)
      ∙ scope_read (grown n w) level frames d

  -- a name begins at once as behind a `::` that nothing stands before
  words_begun : {m : TypeName} {ts rest : List Token} (level : Level) (frames : List Frame) → Words of_type no_name m ts rest
      → at_place (focus.Type level) frames ts ≡ at_place (focus.Scope no_name level) frames ts
  unfolding through
  words_begun level frames (capital w s e f) = refl
  words_begun level frames (interface w s e) = refl
  words_begun level frames (small w s e) = refl
  words_begun level frames (outer w s s' e d) = refl

  name_read : {n : TypeName} {ts rest : List Token} (level : Level) (frames : List Frame) → Name of_type n ts rest → at_place (focus.Type level) frames ts ≡ behind_name K fail n level frames rest
  unfolding through
  name_read level frames (relative d) = words_begun level frames d ∙ scope_read no_name level frames d
  name_read level frames (rooted s d) = scope_read root level frames d

  singleton_scope_read : (n : TypeName) {m : TypeName} {s : Spot} {ts rest : List Token} (level : Level) (frames : List Frame) → Words of_class n m ts (sign mark.Close s ∷ rest)
      → at_place (focus.SingletonScope n level) frames ts ≡ at_place (focus.Simple (plain.single m) level) frames rest
  unfolding through
  singleton_scope_read n level frames (capital w s e f) = refl
  singleton_scope_read n level frames (interface w s e) = absurd (cc)
  singleton_scope_read n level frames (small w s e) = absurd (cc)
  singleton_scope_read n level frames (outer w s s' {ts = ts} e d) =
      behind.took K fail (place (focus.SingletonUpper (grown n w) level) frames) (sign mark.Scope s') (place (focus.SingletonScope (grown n w) level) frames) ts
      (ap (λ b. if b then at (focus.SingletonScope (grown n w) level) frames else single_closed (grown n w) level frames (kind.Mark mark.Scope)) e)
      ∙ singleton_scope_read (grown n w) level frames d

  singleton_words_begun : {m : TypeName} {ts rest : List Token} (level : Level) (frames : List Frame) → Words of_class no_name m ts rest
      → at_place (focus.SingletonOpen level) frames ts ≡ at_place (focus.SingletonScope no_name level) frames ts
  unfolding through
  singleton_words_begun level frames (capital w s e f) = refl
  singleton_words_begun level frames (interface w s e) = absurd (cc)
  singleton_words_begun level frames (small w s e) = absurd (cc)
  singleton_words_begun level frames (outer w s s' e d) = refl

  singleton_read : {n : TypeName} {s : Spot} {ts rest : List Token} (level : Level) (frames : List Frame) → Name of_class n ts (sign mark.Close s ∷ rest)
      → at_place (focus.SingletonOpen level) frames ts ≡ at_place (focus.Simple (plain.single n) level) frames rest
  unfolding through
  singleton_read level frames (relative d) = singleton_words_begun level frames d ∙ singleton_scope_read no_name level frames d
  singleton_read level frames (rooted s d) = singleton_scope_read root level frames d

  -- ---- phrases

  simple_is : (t : PlainTy) (level : Level) (frames : List Frame) (ts : List Token) → at_place (focus.Simple t level) frames ts ≡ behind_simple K fail t level frames ts
  simple_is t level frames ts = behind.through_is K fail (place (focus.Simple t level) frames) ts

  mutual
    unfolding through

    pub type_read : {t : PlainTy} {ts rest : List Token} (frames : List Frame) → Spells type t ts rest → Follows type rest → at_place (focus.Type ground) frames ts ≡ behind_type K fail t frames rest
    type_read frames (lone_inter {t = t} {rest = rest} d) f = inter_read plain.no_tys frames d (follows_inter rest f) ∙ behind.inter_read_whole K fail t plain.no_tys frames rest f
    type_read frames (union {t = t} s d ds) f = inter_read plain.no_tys frames d tt ∙ union_read t plain.no_tys frames ds f

    -- the members of a union behind the first ones
    union_read : {us : PlainTys} {ts rest : List Token} (t : PlainTy) (before : PlainTys) (frames : List Frame) → Lists inter mark.Bar (plain.more_tys t before) us ts rest → Follows type rest
        → at_place (focus.Type (level_of (members.Operands (plain.more_tys t before) plain.no_tys))) frames ts ≡ behind_type K fail (plain.union us) frames rest
    union_read t before frames (one {t = u} {rest = rest} d) f =
        inter_read (plain.more_tys t before) frames d (follows_inter rest f) ∙ behind.inter_read_whole K fail u (plain.more_tys t before) frames rest f
    union_read t before frames (more {t = u} s d ds) f = inter_read (plain.more_tys t before) frames d tt ∙ union_read t (and_ty before u) frames ds f

    pub inter_read : {t : PlainTy} {ts rest : List Token} (us : PlainTys) (frames : List Frame) → Spells inter t ts rest → Follows inter rest
        → at_place (focus.Type (level_of (members.Operands us plain.no_tys))) frames ts ≡ behind_inter K fail t us frames rest
    inter_read us frames (lone_opt {t = t} {rest = rest} d) f = opt_read us plain.no_tys frames d (follows_opt rest f) ∙ behind.opt_read_whole K fail t us plain.no_tys frames rest f
    inter_read us frames (inter_of {t = t} s d ds) f = opt_read us plain.no_tys frames d tt ∙ members_read us t plain.no_tys frames ds f

    -- the members of an intersection behind the first ones
    members_read : {is : PlainTys} {ts rest : List Token} (us : PlainTys) (t : PlainTy) (before : PlainTys) (frames : List Frame) → Lists opt mark.Amp (plain.more_tys t before) is ts rest → Follows inter rest
        → at_place (focus.Type (level_of (members.Operands us (plain.more_tys t before)))) frames ts ≡ behind_inter K fail (plain.inter is) us frames rest
    members_read us t before frames (one {t = u} {rest = rest} d) f =
        opt_read us (plain.more_tys t before) frames d (follows_opt rest f) ∙ behind.opt_read_whole K fail u us (plain.more_tys t before) frames rest f
    members_read us t before frames (more {t = u} s d ds) f = opt_read us (plain.more_tys t before) frames d tt ∙ members_read us t (and_ty before u) frames ds f

    pub opt_read : {t : PlainTy} {ts rest : List Token} (us is : PlainTys) (frames : List Frame) → Spells opt t ts rest → Follows opt rest
        → at_place (focus.Type (level_of (members.Operands us is))) frames ts ≡ behind_opt K fail t (members.Operands us is) frames rest
    opt_read us is frames (lone_simple {t = t} {rest = rest} d) f =
        simple_read (level_of (members.Operands us is)) frames d (follows_simple rest f) ∙ behind.simple_read_whole K fail t (members.Operands us is) frames rest f
    opt_read us is frames (opt_of {t = t} s {rest = rest} d) f =
        simple_read (level_of (members.Operands us is)) frames d tt ∙ behind.through_is K fail (place (focus.Optional (plain.opt t) (members.Operands us is)) frames) rest

    pub simple_read : {t : PlainTy} {ts rest : List Token} (level : Level) (frames : List Frame) → Spells simple t ts rest → Follows simple rest
        → at_place (focus.Type level) frames ts ≡ behind_simple K fail t level frames rest
    simple_read level frames (paren {t = t} s s' {ts = ts} {rest = rest} d) f =
        behind.paren_begun K fail level frames ts ∙ type_read (frame.Paren level ∷ frames) d tt ∙ simple_is t level frames rest
    simple_read level frames (base k b s {rest = rest} e) f =
        behind.took K fail (place (focus.Type level) frames) (word k s) (place (focus.Simple (plain.base b) level) frames) rest (ap (wants_keyword level frames k) e)
        ∙ simple_is (plain.base b) level frames rest
    simple_read level frames (integer n s {rest = rest}) f = simple_is (plain.int n) level frames rest
    simple_read level frames (past_integer s {rest = rest}) f = simple_is (plain.int (pos 0)) level frames rest
    simple_read level frames (text w s {rest = rest}) f = simple_is (plain.str w) level frames rest
    simple_read level frames (symbol w s {rest = rest}) f = simple_is (plain.sym w) level frames rest
    simple_read level frames (name {n = n} {rest = rest} d) f = name_read level frames d ∙ behind.name_read_whole K fail n level frames rest f
    simple_read level frames (applied {n = n} {us = us} s s' {rest = rest} d ds) f = name_read level frames d ∙ arguments_read n plain.no_tys level frames ds ∙ simple_is (plain.name n us) level frames rest
    simple_read level frames (single {n = n} s s' s'' {rest = rest} d) f = singleton_read level frames d ∙ simple_is (plain.single n) level frames rest
    simple_read level frames (unit s s' {rest = rest}) f = simple_is (plain.tuple plain.no_tys) level frames rest
    simple_read level frames (tuple {us = us} s s' {ts = ts} {rest = rest} d) f =
        behind.tuple_begun K fail level frames ts (types_open d tt) ∙ tuple_read plain.no_tys level frames d ∙ simple_is (plain.tuple us) level frames rest
    simple_read level frames (no_record s s' {rest = rest}) f = simple_is (plain.rec plain.no_keys) level frames rest
    simple_read level frames (record_of {ks = ks} s s' {ts = ts} {rest = rest} d) f =
        behind.record_begun K fail level frames ts (keys_open d) ∙ keys_read plain.no_keys level frames d ∙ simple_is (plain.rec ks) level frames rest
    simple_read level frames (proc s d) f = function_read level frames d f

    -- the types between the brackets behind a name, and between those of a tuple

    pub arguments_read : {us : PlainTys} {s : Spot} {ts rest : List Token} (n : TypeName) (before : PlainTys) (level : Level) (frames : List Frame)
        → Lists type mark.Comma before us ts (sign mark.CloseSquare s ∷ rest)
        → at_place (focus.Type ground) (frame.Arguments n before level ∷ frames) ts ≡ at_place (focus.Simple (plain.name n us) level) frames rest
    arguments_read n before level frames (one d) = type_read (frame.Arguments n before level ∷ frames) d tt
    arguments_read n before level frames (more {t = t} s d ds) = type_read (frame.Arguments n before level ∷ frames) d tt ∙ arguments_read n (and_ty before t) level frames ds

    pub tuple_read : {us : PlainTys} {s : Spot} {ts rest : List Token} (before : PlainTys) (level : Level) (frames : List Frame) → Lists type mark.Comma before us ts (sign mark.CloseSquare s ∷ rest)
        → at_place (focus.Type ground) (frame.Tuple before level ∷ frames) ts ≡ at_place (focus.Simple (plain.tuple us) level) frames rest
    tuple_read before level frames (one d) = type_read (frame.Tuple before level ∷ frames) d tt
    tuple_read before level frames (more {t = t} s d ds) = type_read (frame.Tuple before level ∷ frames) d tt ∙ tuple_read (and_ty before t) level frames ds

    -- the keys of a record

    pub keys_read : {ks : PlainKeys} {s : Spot} {ts rest : List Token} (before : PlainKeys) (level : Level) (frames : List Frame) → Keys before ks ts (sign mark.CloseBrace s ∷ rest)
        → at_place (focus.Key before level) frames ts ≡ at_place (focus.Simple (plain.rec ks) level) frames rest
    keys_read before level frames (last_key d) = last_key_read before level frames d
    keys_read before level frames (more_keys {with_it = with_it} s d ds) = key_read before level frames d ∙ keys_read with_it level frames ds

    last_key_read : {ks : PlainKeys} {s : Spot} {ts rest : List Token} (before : PlainKeys) (level : Level) (frames : List Frame) → Key before ks ts (sign mark.CloseBrace s ∷ rest)
        → at_place (focus.Key before level) frames ts ≡ at_place (focus.Simple (plain.rec ks) level) frames rest
    last_key_read before level frames (needed_key k w s s' {ts = ts} e n d) =
        behind.needed_key_begun K fail before level frames k w s s' ts e n ∙ type_read (frame.Record before w true level ∷ frames) d tt
    last_key_read before level frames (optional_key k w s s' s'' {ts = ts} e n d) =
        behind.optional_key_begun K fail before level frames k w s s' s'' ts e n ∙ type_read (frame.Record before w false level ∷ frames) d tt

    key_read : {ks : PlainKeys} {s : Spot} {ts rest : List Token} (before : PlainKeys) (level : Level) (frames : List Frame) → Key before ks ts (sign mark.Comma s ∷ rest)
        → at_place (focus.Key before level) frames ts ≡ at_place (focus.Key ks level) frames rest
    key_read before level frames (needed_key k w s s' {ts = ts} e n d) =
        behind.needed_key_begun K fail before level frames k w s s' ts e n ∙ type_read (frame.Record before w true level ∷ frames) d tt
    key_read before level frames (optional_key k w s s' s'' {ts = ts} e n d) =
        behind.optional_key_begun K fail before level frames k w s s' s'' ts e n ∙ type_read (frame.Record before w false level ∷ frames) d tt

    -- functions

    pub function_read : {g : PlainFun} {ts rest : List Token} (level : Level) (frames : List Frame) → Function g ts rest → Follows simple rest
        → at_place (focus.Function level) frames ts ≡ behind_simple K fail (plain.fun g) level frames rest
    function_read level frames (function {l = l} {b = b} s d e r) f =
        listed_read (owner.Function level) frames d (blocked_opens e) ∙ blocked_read l level frames e ∙ result_read (record { listed = l; block = b }) level frames r f

    -- the result of a function, which ends the function
    pub result_read : {t : PlainTy} {ts rest : List Token} (h : Head) (level : Level) (frames : List Frame) → Spells result t ts rest → Follows simple rest
        → at_place (focus.Type (headed h level)) frames ts ≡ behind_simple K fail (ended h t) level frames rest
    result_read h level frames (lone_result {t = t} {rest = rest} d q) f = simple_read (headed h level) frames d f ∙ behind.result_read_whole K fail t h level frames rest q
    result_read h level frames (opt_result {t = t} s {rest = rest} d) f = simple_read (headed h level) frames d tt ∙ simple_is (ended h (plain.opt t)) level frames rest

    -- the parameters of a function or of a block, where it has some
    listed_read : {l : the_listed.Listed} {ts rest : List Token} (o : Owner) (frames : List Frame) → Listed l ts rest → UnlistedBefore rest → at_place (owner_begins o) frames ts ≡ at_place (focus.Listed l o) frames rest
    listed_read o frames (unlisted {rest = rest}) u = behind.unlisted_begun K fail o frames rest u
    listed_read o frames (empty s s' {rest = rest}) u = behind.listed_begun K fail o frames s (sign mark.Close s' ∷ rest)
    listed_read o frames (listed s s' {ts = ts} d) u =
        behind.listed_begun K fail o frames s ts ∙ behind.parameters_begun K fail o frames ts (parameters_open d tt) ∙ parameters_read o frames d

    blocked_read : {b : PlainBlock} {s : Spot} {ts rest : List Token} (l : the_listed.Listed) (level : Level) (frames : List Frame) → Blocked b ts (sign mark.Arrow s ∷ rest)
        → at_place (focus.Listed l (owner.Function level)) frames ts ≡ at_place (focus.Type (headed (record { listed = l; block = b }) level)) frames rest
    blocked_read l level frames no_block = refl
    blocked_read l level frames (needed_block s d) = braced_read true l level frames d
    blocked_read l level frames (optional_block s s' d) = braced_read false l level frames d

    braced_read : {g : PlainFun} {ts rest : List Token} (needed : Bool) (around : the_listed.Listed) (level : Level) (frames : List Frame) → Braced g ts rest
        → at_place (focus.Block needed around level) frames ts ≡ at_place (focus.Headed (record { listed = around; block = plain.block needed g }) level) frames rest
    braced_read needed around level frames (braced {l = l} s s' d r) = listed_read (owner.Block needed around level) frames d tt ∙ block_result_read needed l around level frames r

    block_result_read : {t : PlainTy} {s : Spot} {ts rest : List Token} (needed : Bool) (inner around : the_listed.Listed) (level : Level) (frames : List Frame) → Spells result t ts (sign mark.CloseBrace s ∷ rest)
        → at_place (focus.Type result_level) (frame.Block needed inner around level ∷ frames) ts
        ≡ at_place (focus.Headed (record { listed = around; block = plain.block needed (function_of inner plain.no_block t) }) level) frames rest
    block_result_read needed inner around level frames (lone_result d q) = simple_read result_level (frame.Block needed inner around level ∷ frames) d tt
    block_result_read needed inner around level frames (opt_result s d) = simple_read result_level (frame.Block needed inner around level ∷ frames) d tt

    -- parameters

    pub parameters_read : {p : the_parameters.Parameters} {l : the_listed.Listed} {s : Spot} {ts rest : List Token} (o : Owner) (frames : List Frame) → Parameters p l ts (sign mark.Close s ∷ rest)
        → at_place (focus.Parameter p o) frames ts ≡ at_place (focus.Listed l o) frames rest
    parameters_read o frames (last d) = parameter_read o frames d tt
    parameters_read o frames (key_rest {p = p} s d) = key_rest_read p o frames d
    parameters_read o frames (further s d ds) = parameter_read o frames d tt ∙ parameters_read o frames ds

    parameter_read : {p q : the_parameters.Parameters} {ts rest : List Token} (o : Owner) (frames : List Frame) → Parameter p q ts rest → EndsParameter rest
        → at_place (focus.Parameter p o) frames ts ≡ at_place (focus.ParameterNamed q o) frames rest
    parameter_read o frames (positional {p = p} {ts = ts} e d) f = behind.positional_begun K fail p o frames ts e (argument_opens d f) ∙ argument_read p slot.Positional o frames tt d f
    parameter_read o frames (optional {p = p} s {ts = ts} e d) f = behind.optional_begun K fail p o frames s ts e (argument_opens d f) ∙ argument_read p slot.Optional o frames tt d f
    parameter_read o frames (rest_of {p = p} s {ts = ts} e d) f = behind.rest_begun K fail p o frames s ts e ∙ argument_read p slot.Rest o frames tt d f
    parameter_read o frames (needed_keyword {p = p} {t = t} k w s s' {ts = ts} {rest = rest} e n d) f =
        behind.needed_keyword_begun K fail p o frames k w s s' ts e n
        ∙ type_read (frame.Parameter p (slot.Key w true) o ∷ frames) d (parameter_follows rest f)
        ∙ behind.unnamed_read_whole K fail t p (slot.Key w true) o frames rest tt f
    parameter_read o frames (optional_keyword {p = p} {t = t} k w s s' s'' {ts = ts} {rest = rest} e n d) f =
        behind.optional_keyword_begun K fail p o frames k w s s' s'' ts e n
        ∙ type_read (frame.Parameter p (slot.Key w false) o ∷ frames) d (parameter_follows rest f)
        ∙ behind.unnamed_read_whole K fail t p (slot.Key w false) o frames rest tt f

    argument_read : {t : PlainTy} {n : Option (List ℕ)} {ts rest : List Token} (p : the_parameters.Parameters) (x : Slot) (o : Owner) (frames : List Frame) → is_positional x → Argument t n ts rest → EndsParameter rest
        → at_place (focus.Type ground) (frame.Parameter p x o ∷ frames) ts ≡ at_place (focus.ParameterNamed (added p x t n) o) frames rest
    argument_read p x o frames i (unnamed {t = t} {rest = rest} d) f =
        type_read (frame.Parameter p x o ∷ frames) d (parameter_follows rest f) ∙ behind.unnamed_read_whole K fail t p x o frames rest (positional_followed x i) f
    argument_read p x o frames i (named {t = t} k w s {rest = rest} e d) f =
        type_read (frame.Parameter p x o ∷ frames) d (word_follows k w e) ∙ behind.named_read_whole K fail t p x o frames k w s rest i e

    -- the rest of the keywords
    key_rest_read : {t : PlainTy} {n : Option (List ℕ)} {s : Spot} {ts rest : List Token} (p : the_parameters.Parameters) (o : Owner) (frames : List Frame) → Argument t n ts (sign mark.Close s ∷ rest)
        → at_place (focus.Type ground) (frame.Parameter p slot.KeyRest o ∷ frames) ts ≡ at_place (focus.Listed (record { parameters = p; key_rest = plain.rest t n }) o) frames rest
    key_rest_read p o frames (unnamed d) = type_read (frame.Parameter p slot.KeyRest o ∷ frames) d tt
    key_rest_read {s = s'} {rest = rest} p o frames (named {t = t} k w s e d) =
        type_read (frame.Parameter p slot.KeyRest o ∷ frames) d (word_follows k w e) ∙ behind.key_rest_named_read K fail t p o frames k w s (sign mark.Close s' ∷ rest) e

  -- ---- a phrase inside a longer text

  -- behind a phrase that ends by itself nothing goes on
  closed_read : (t : PlainTy) (ts : List Token) → behind_simple K fail t closed_level [] ts ≡ K t ts
  closed_read t [] = refl
  closed_read t (c ∷ ts) = ap (λ o. taken o (λ m. through K fail m ts) (K t (c ∷ ts))) (nothing_closed t c.kind)

-- what may stand behind it; a closing bracket ends the arguments
abbrev pub FollowsPhrase : Phrase → List Token → Type 0
FollowsPhrase a_type ts = Follows type ts
FollowsPhrase a_function ts = Follows simple ts
FollowsPhrase (arguments_of n) ts = Unit {0}

type_passed : {R : Type 0} (K : PlainTy → List Token → R) (fail : R) (t : PlainTy) (ts : List Token) → behind_type K fail t [] ts ≡ K t ts
type_passed K fail t [] = refl
type_passed K fail t (c ∷ ts) = refl

-- the reader takes the phrase and hands on what stands behind it
pub phrase_read : {R : Type 0} (K : PlainTy → List Token → R) (fail : R) (p : Phrase) (t : PlainTy) (ts rest : List Token) → Spelled p t ts rest → FollowsPhrase p rest → through K fail (start_of p) ts ≡ K t rest
phrase_read K fail a_type t ts rest d f = type_read K fail [] d f ∙ type_passed K fail t rest
phrase_read K fail a_function t ts rest d f = function_read K fail closed_level [] d.2 f ∙ closed_read K fail (plain.fun d.0) rest ∙ ap (λ t. K t rest) (sym d.1)
phrase_read K fail (arguments_of n) t ts rest d f =
    arguments_read K fail n plain.no_tys closed_level [] d.3
    ∙ simple_is K fail (plain.name n d.0) closed_level [] rest
    ∙ closed_read K fail (plain.name n d.0) rest
    ∙ ap (λ t. K t rest) (sym d.2)

-- ---- a phrase that is the whole text

abbrev whole : PlainTy → List Token → Option PlainTy
whole t [] = Some t
whole t (c ∷ ts) = None

nothing_rests : (o : Option PlainTy) (c : Token) (ts : List Token) → None ≡ rests whole None o (c ∷ ts)
nothing_rests (Some t) c ts = refl
nothing_rests None c ts = refl

all_rests : (o : Option PlainTy) → o ≡ rests whole None o []
all_rests (Some t) = refl
all_rests None = refl

reads_taken : (s : State) (o : Option State) (c : Token) (ts : List Token) → ((m : State) → reads next final m ts ≡ through whole None m ts)
    → option_and_then (λ m. reads next final m ts) o ≡ taken o (λ m. through whole None m ts) (rests whole None (final s) (c ∷ ts))
reads_taken s (Some m) c ts h = h m
reads_taken s None c ts h = nothing_rests (final s) c ts

reads_through : (s : State) (ts : List Token) → reads next final s ts ≡ through whole None s ts
unfolding through reads
reads_through s [] = all_rests (final s)
reads_through s (c ∷ ts) = reads_taken s (next s c) c ts (λ m. reads_through m ts)

nothing_follows : (p : Phrase) → FollowsPhrase p []
nothing_follows a_type = tt
nothing_follows a_function = tt
nothing_follows (arguments_of n) = tt

pub complete_phrase : (p : Phrase) (t : PlainTy) (ts : List Token) → Spelled p t ts [] → reads next final (start_of p) ts ≡ Some t
complete_phrase p t ts d = reads_through (start_of p) ts ∙ phrase_read whole None p t ts [] d (nothing_follows p)

pub complete : (t : PlainTy) (ts : List Token) → IsWritten t ts → reads next final start ts ≡ Some t
complete t ts d = complete_phrase a_type t ts d
