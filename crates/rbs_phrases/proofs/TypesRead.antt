-- Types that were read.
use Rattle.std.proofs.Common.{◌≡◌, refl, sym, ◌∙◌, ap, subst, Bool, true, false, List, [], ◌∷◌, Option, Some}
use Rattle.rbs_terminals.specs.declared.token.Token.{Token}
use Rattle.rbs_terminals.specs.declared.token.Spot.{Spot}
use Rattle.rbs_terminals.specs.declared.token.Kind.{Kind}
use Rattle.rbs_terminals.specs.declared.token.Kind.TheVariants as kind
use Rattle.rbs_terminals.specs.declared.token.Keyword.TheVariants as keyword
use Rattle.rbs_terminals.specs.declared.token.Mark.{Mark}
use Rattle.rbs_terminals.specs.declared.token.Mark.TheVariants as mark
use Rattle.sig_model.specs.declared.ty.TypeName.{TypeName}
use Rattle.sig_model.specs.PlainTy as plain
use Rattle.sig_model.specs.PlainTy.{PlainTy, PlainTys, PlainKeys, PlainFun, PlainBlock}
use Rattle.rbs_types.specs.declared.state.Parameters.{Parameters as Ps}
use Rattle.rbs_types.specs.declared.state.Listed.{Listed as Ls}
use Rattle.rbs_types.specs.declared.state.Slot.{Slot}
use Rattle.rbs_types.specs.Symbols.{token, sign, word, is_question, question_follows}
use Rattle.rbs_types.specs.Plains.{and_ty, and_key}
use Rattle.rbs_types.specs.Parts.{closed, added, nothing_listed, no_parameters, function_of}
use Rattle.rbs_types.specs.Grammar.{Sort, type, inter, opt, simple, result, of_type, of_class, Name, Spells, lone_inter, union, lone_opt, inter_of, lone_simple, opt_of, lone_result, opt_result, paren, integer, text, symbol, name, applied, single, unit, tuple, no_record, record_of, proc, Lists, one, more, Key, Keys, last_key, more_keys, Function, function, Listed, unlisted, empty, listed, Blocked, no_block, needed_block, optional_block, Braced, braced, Parameters, last, key_rest, further, Parameter, Argument, Spelled, a_function}
use Rattle.rbs_phrases.specs.Fronts.{Marked, Skips, IsNext}
use Rattle.rbs_phrases.specs.Slots.{Fills, Slotted, Keyed}
use Rattle.rbs_phrases.specs.declared.types.Item.{Item}
use Rattle.rbs_phrases.specs.declared.types.Item.TheVariants as item
use Rattle.rbs_phrases.specs.Items.{literal_of, sort_of}

-- no question mark follows
pub no_question : (ts : List Token) → (IsNext mark.Question ts → ⊥) → question_follows ts ≡ false
no_question [] no_next = refl
no_question (c ∷ ts) no_next = asked c.kind no_next
  where
    marked : (m : Mark) → (kind.Mark m ≡ kind.Mark mark.Question → ⊥) → is_question (kind.Mark m) ≡ false
    marked mark.Question h = absurd (h refl)
    marked _ h = refl

    asked : (k : Kind) → (k ≡ kind.Mark mark.Question → ⊥) → is_question k ≡ false
    asked (kind.Mark m) h = marked m h
    asked _ h = refl

module _ {t : PlainTy} {ts mid rest : List Token} where
  pub opt_read : Spells simple t ts mid → Marked mark.Question mid rest → Spells opt (plain.opt t) ts rest
  opt_read d (s, e) = opt_of s (subst (λ m. Spells simple t ts m) e d)

  pub opt_result_read : Spells simple t ts mid → Marked mark.Question mid rest → Spells result (plain.opt t) ts rest
  opt_result_read d (s, e) = opt_result s (subst (λ m. Spells simple t ts m) e d)

  pub result_read : Spells simple t ts mid → Skips mark.Question false mid rest → Spells result t ts rest
  result_read d (e, h) = subst (λ m. Spells result t ts m) e (lone_result d (no_question mid h))

  pub paren_read : (s : Spot) → Spells type t ts mid → Marked mark.Close mid rest → Spells simple t (sign mark.Open s ∷ ts) rest
  paren_read s d (s', e) = paren s s' (subst (λ m. Spells type t ts m) e d)

module _ {t : PlainTy} {us : PlainTys} {ts mid mid' rest : List Token} where
  pub union_read : Spells inter t ts mid → Marked mark.Bar mid mid' → Lists inter mark.Bar (and_ty plain.no_tys t) us mid' rest → Spells type (plain.union us) ts rest
  union_read d (s, e) l = union s (subst (λ m. Spells inter t ts m) e d) l

  pub inter_read : Spells opt t ts mid → Marked mark.Amp mid mid' → Lists opt mark.Amp (and_ty plain.no_tys t) us mid' rest → Spells inter (plain.inter us) ts rest
  inter_read d (s, e) l = inter_of s (subst (λ m. Spells opt t ts m) e d) l

pub tuple_read : {us : PlainTys} {ts mid rest : List Token} (s : Spot) → Lists type mark.Comma plain.no_tys us ts mid → Marked mark.CloseSquare mid rest → Spells simple (plain.tuple us) (sign mark.OpenSquare s ∷ ts) rest
tuple_read {us = us} {ts = ts} s l (s', e) = tuple s s' (subst (λ m. Lists type mark.Comma plain.no_tys us ts m) e l)

pub unit_read : {ts rest : List Token} (s : Spot) → Marked mark.CloseSquare ts rest → Spells simple (plain.tuple plain.no_tys) (sign mark.OpenSquare s ∷ ts) rest
unit_read {rest = rest} s (s', e) = subst (λ m. Spells simple (plain.tuple plain.no_tys) (sign mark.OpenSquare s ∷ m) rest) (sym e) (unit s s')

pub applied_read : {n : TypeName} {us : PlainTys} {ts mid mid' mid'' rest : List Token} → Name of_type n ts mid → Marked mark.OpenSquare mid mid' → Lists type mark.Comma plain.no_tys us mid' mid'' → Marked mark.CloseSquare mid'' rest
    → Spells simple (plain.name n us) ts rest
applied_read {n = n} {us = us} {ts = ts} {mid' = mid'} d (s, e) l (s', f) = applied s s' (subst (λ m. Name of_type n ts m) e d) (subst (λ m. Lists type mark.Comma plain.no_tys us mid' m) f l)

pub name_read : {n : TypeName} {ts mid rest : List Token} → Name of_type n ts mid → mid ≡ rest → Spells simple (plain.name n plain.no_tys) ts rest
name_read {n = n} {ts = ts} d e = name (subst (λ m. Name of_type n ts m) e d)

pub single_read : {n : TypeName} {ts mid mid' rest : List Token} (s : Spot) → Marked mark.Open ts mid → Name of_class n mid mid' → Marked mark.Close mid' rest → Spells simple (plain.single n) (word keyword.Singleton s ∷ ts) rest
single_read {n = n} {mid = mid} {rest = rest} s (s', e) d (s'', f) =
    subst (λ m. Spells simple (plain.single n) (word keyword.Singleton s ∷ m) rest) (sym e) (single s s' s'' (subst (λ m. Name of_class n mid m) f d))

pub no_record_read : {ts rest : List Token} (s : Spot) → Marked mark.CloseBrace ts rest → Spells simple (plain.rec plain.no_keys) (sign mark.OpenBrace s ∷ ts) rest
no_record_read {rest = rest} s (s', e) = subst (λ m. Spells simple (plain.rec plain.no_keys) (sign mark.OpenBrace s ∷ m) rest) (sym e) (no_record s s')

pub record_read : {ks : PlainKeys} {ts mid rest : List Token} (s : Spot) → Keys plain.no_keys ks ts mid → Marked mark.CloseBrace mid rest → Spells simple (plain.rec ks) (sign mark.OpenBrace s ∷ ts) rest
record_read {ks = ks} {ts = ts} s l (s', e) = record_of s s' (subst (λ m. Keys plain.no_keys ks ts m) e l)

pub proc_read : {t : PlainTy} {ts rest : List Token} (s : Spot) → Spelled a_function t ts rest → Spells simple t (sign mark.Caret s ∷ ts) rest
proc_read {ts = ts} {rest = rest} s (f, e, d) = subst (λ t. Spells simple t (sign mark.Caret s ∷ ts) rest) (sym e) (proc s d)

-- ---- lists, where one more was read

module _ (x : Sort) (by : Mark) (before done done' : PlainTys) (t : PlainTy) (start ts mid rest : List Token)
    (go_on : (us : PlainTys) (end : List Token) → Lists x by done us ts end → Lists x by before us start end)
    (read : Spells x t ts mid) (with_it : done' ≡ and_ty done t) where
  pub list_further : Marked by mid rest → (us : PlainTys) (end : List Token) → Lists x by done' us rest end → Lists x by before us start end
  list_further (s, e) us end l = go_on us end (more s (subst (λ m. Spells x t ts m) e read) (subst (λ ds. Lists x by ds us rest end) with_it l))

  pub list_whole : mid ≡ rest → Lists x by before done' start rest
  list_whole e = go_on done' rest (subst (λ ds. Lists x by done ds ts rest) (sym with_it) (one (subst (λ m. Spells x t ts m) e read)))

module _ (done done' : PlainKeys) (w : List _) (needed : Bool) (t : PlainTy) (start ts colon mid rest : List Token)
    (go_on : (ks : PlainKeys) (end : List Token) → Keys done ks ts end → Keys plain.no_keys ks start end)
    (keyed : Keyed done w needed ts colon) (read : Spells type t colon mid) (with_it : done' ≡ and_key done w needed t) where
  pub keys_further : Marked mark.Comma mid rest → (ks : PlainKeys) (end : List Token) → Keys done' ks rest end → Keys plain.no_keys ks start end
  keys_further (s, e) ks end l = go_on ks end (more_keys s (subst (λ m. Key done (and_key done w needed t) ts m) e (keyed t mid read)) (subst (λ ds. Keys ds ks rest end) with_it l))

  pub keys_whole : mid ≡ rest → Keys plain.no_keys done' start rest
  keys_whole e = go_on done' rest (last_key (subst (λ ds. Key done ds ts rest) (sym with_it) (keyed t rest (subst (λ m. Spells type t colon m) e read))))

module _ (done done' : Ps) (x : Slot) (t : PlainTy) (n : Option (List _)) (start ts type_at mid rest : List Token)
    (go_on : (l : Ls) (end : List Token) → Parameters done l ts end → Parameters no_parameters l start end)
    (slotted : Slotted x done ts type_at) (read : Fills x t n type_at mid) (with_it : done' ≡ added done x t n) where
  pub parameters_further : Marked mark.Comma mid rest → (l : Ls) (end : List Token) → Parameters done' l rest end → Parameters no_parameters l start end
  parameters_further (s, e) l end d = go_on l end (further s (subst (λ m. Parameter done (added done x t n) ts m) e (slotted t n mid read)) (subst (λ ds. Parameters ds l rest end) with_it d))

  pub parameters_whole : mid ≡ rest → Parameters no_parameters (closed done') start rest
  parameters_whole e = go_on (closed done') rest (last (subst (λ ds. Parameter done ds ts rest) (sym with_it) (subst (λ m. Parameter done (added done x t n) ts m) e (slotted t n mid read))))

pub key_rest_read : {p : Ps} {t : PlainTy} {n : Option (List _)} {ts mid rest : List Token} → Marked mark.DoubleStar ts mid → Argument t n mid rest → Parameters p (record { parameters = p; key_rest = plain.rest t n }) ts rest
key_rest_read {p = p} {t = t} {n = n} {rest = rest} (s, e) d = subst (λ m. Parameters p (record { parameters = p; key_rest = plain.rest t n }) m rest) (sym e) (key_rest s d)

-- ---- functions

pub unlisted_read : {ts rest : List Token} → ts ≡ rest → Listed nothing_listed ts rest
unlisted_read {ts = ts} e = subst (λ m. Listed nothing_listed ts m) e unlisted

pub empty_read : {ts mid rest : List Token} → Marked mark.Open ts mid → Marked mark.Close mid rest → Listed nothing_listed ts rest
empty_read {rest = rest} (s, e) (s', f) = subst (λ m. Listed nothing_listed m rest) (sym (e ∙ ap (λ m. sign mark.Open s ∷ m) f)) (empty s s')

pub listed_read : {l : Ls} {ts mid mid' rest : List Token} → Marked mark.Open ts mid → Parameters no_parameters l mid mid' → Marked mark.Close mid' rest → Listed l ts rest
listed_read {l = l} {mid = mid} {rest = rest} (s, e) d (s', f) = subst (λ m. Listed l m rest) (sym e) (listed s s' (subst (λ m. Parameters no_parameters l mid m) f d))

pub no_block_read : {ts mid rest : List Token} → ts ≡ mid → mid ≡ rest → Blocked plain.no_block ts rest
no_block_read {ts = ts} e f = subst (λ m. Blocked plain.no_block ts m) (e ∙ f) no_block

pub needed_block_read : {b : PlainBlock} {ts mid rest : List Token} → Marked mark.OpenBrace ts mid → (f : PlainFun) × (b ≡ plain.block true f) × Braced f mid rest → Blocked b ts rest
needed_block_read {ts = ts} {rest = rest} (s, e) (f, is, d) = subst (λ b. Blocked b ts rest) (sym is) (subst (λ m. Blocked (plain.block true f) m rest) (sym e) (needed_block s d))

pub optional_block_read : {b : PlainBlock} {ts mid mid' mid'' rest : List Token} → ts ≡ mid → Marked mark.Question mid mid' → Marked mark.OpenBrace mid' mid'' → (f : PlainFun) × (b ≡ plain.block false f) × Braced f mid'' rest → Blocked b ts rest
optional_block_read {ts = ts} {mid' = mid'} {rest = rest} same (s, e) (s', e') (f, is, d) =
    subst (λ b. Blocked b ts rest) (sym is)
    (subst (λ m. Blocked (plain.block false f) m rest) (sym (same ∙ e ∙ ap (λ m. sign mark.Question s ∷ m) e')) (optional_block s s' d))

module _ {l : Ls} {t : PlainTy} where
  pub braced_read : {ts mid mid' mid'' rest : List Token} → Listed l ts mid → Marked mark.Arrow mid mid' → Spells result t mid' mid'' → Marked mark.CloseBrace mid'' rest → Braced (function_of l plain.no_block t) ts rest
  braced_read {ts = ts} {mid' = mid'} d (s, e) r (s', f) = braced s s' (subst (λ m. Listed l ts m) e d) (subst (λ m. Spells result t mid' m) f r)

  pub function_read : {b : PlainBlock} {ts mid mid' mid'' rest : List Token} → Listed l ts mid → Blocked b mid mid' → Marked mark.Arrow mid' mid'' → Spells result t mid'' rest → Function (function_of l b t) ts rest
  function_read {b = b} {mid = mid} d k (s, e) r = function s d (subst (λ m. Blocked b mid m) e k) r

-- a type of one terminal
pub literal_read : {t : PlainTy} {rest : List Token} (k : Kind) (s : Spot) → literal_of k ≡ Some t → Spells simple t (token k s ∷ rest) rest
literal_read {rest = rest} (kind.Integer n) s e = subst (λ t. Spells simple t (token (kind.Integer n) s ∷ rest) rest) (cc) (integer n s)
literal_read {rest = rest} (kind.Text w) s e = subst (λ t. Spells simple t (token (kind.Text w) s ∷ rest) rest) (cc) (text w s)
literal_read {rest = rest} (kind.Symbol w) s e = subst (λ t. Spells simple t (token (kind.Symbol w) s ∷ rest) rest) (cc) (symbol w s)
literal_read _ s e = absurd (cc)

-- a type that nothing goes on with
pub alone : {t : PlainTy} {ts rest : List Token} (x : Item) → Spells simple t ts rest → Spells (sort_of x) t ts rest
alone item.Type d = lone_inter (lone_opt (lone_simple d))
alone item.Inter d = lone_opt (lone_simple d)
alone item.Opt d = lone_simple d
