-- The written grammar of types, over terminals.
use Rattle.std.specs.Prelude.{ℕ, ◌≡◌, ℤ, pos, Bool, true, false, List, ◌∷◌, Option, Some, None}
use Rattle.rbs_terminals.specs.declared.token.Token.{Token}
use Rattle.rbs_terminals.specs.declared.token.Spot.{Spot}
use Rattle.rbs_terminals.specs.declared.token.Mark.{Mark}
use Rattle.rbs_terminals.specs.declared.token.Mark.TheVariants as mark
use Rattle.rbs_terminals.specs.declared.token.Keyword.{Keyword}
use Rattle.rbs_terminals.specs.declared.token.Keyword.TheVariants as keyword
use Rattle.rbs_terminals.specs.declared.token.Kind.{Kind}
use Rattle.rbs_terminals.specs.declared.token.Kind.TheVariants as kind
use Rattle.rbs_terminals.specs.Keywords.{base_of}
use Rattle.rbs_terminals.specs.Kinds.{lower_of}
use Rattle.sig_model.specs.declared.ty.BaseTy.{BaseTy}
use Rattle.sig_model.specs.declared.ty.TypeName.{TypeName}
use Rattle.sig_model.specs.PlainTy as plain
use Rattle.sig_model.specs.PlainTy.{PlainTy, PlainTys, PlainKeys, PlainFun, PlainBlock}
use Rattle.rbs_types.specs.declared.state.Parameters as the_parameters
use Rattle.rbs_types.specs.declared.state.Listed as the_listed
use Rattle.rbs_types.specs.Symbols.{token, sign, word, on_line, scope_follows, question_follows}
use Rattle.rbs_types.specs.Plains.{and_ty, and_key, is_new}
use Rattle.rbs_types.specs.Parts.{grown, no_name, root, no_parameters, closed, nothing_listed, takes_positional, takes_optional, and_positional, and_optional, and_rest, and_keyword, function_of}

-- What a name may name.
pub data Use : Type 0 where
  of_type : Use
  of_class : Use
  of_interface : Use
  of_alias : Use
  of_class_or_interface : Use

abbrev pub ends_capital : Use → Bool
ends_capital of_type = true
ends_capital of_class = true
ends_capital of_class_or_interface = true
ends_capital _ = false

abbrev pub ends_interface : Use → Bool
ends_interface of_type = true
ends_interface of_interface = true
ends_interface of_class_or_interface = true
ends_interface _ = false

abbrev pub ends_small : Use → Bool
ends_small of_type = true
ends_small of_alias = true
ends_small _ = false

-- `Words use n m ts rest`: a word must come behind `n`, and the words of `ts` make it the name `m`. A `::` behind a capital word on its line goes on with the name.
pub data Words : Use → TypeName → TypeName → List Token → List Token → Type 0 where
  capital : {u : Use} {n : TypeName} (w : List ℕ) (s : Spot) {rest : List Token} → ends_capital u ≡ true → scope_follows rest ≡ false → Words u n (grown n w) (token (kind.Upper w) s ∷ rest) rest
  interface : {u : Use} {n : TypeName} (w : List ℕ) (s : Spot) {rest : List Token} → ends_interface u ≡ true → Words u n (grown n w) (token (kind.Interface w) s ∷ rest) rest
  small : {u : Use} {n : TypeName} (w : List ℕ) (s : Spot) {rest : List Token} → ends_small u ≡ true → Words u n (grown n w) (token (kind.Lower w) s ∷ rest) rest
  outer : {u : Use} {n m : TypeName} (w : List ℕ) (s s' : Spot) {ts rest : List Token} → on_line s' ≡ true → Words u (grown n w) m ts rest
      → Words u n m (token (kind.Upper w) s ∷ sign mark.Scope s' ∷ ts) rest

pub data Name : Use → TypeName → List Token → List Token → Type 0 where
  relative : {u : Use} {n : TypeName} {ts rest : List Token} → Words u no_name n ts rest → Name u n ts rest
  rooted : {u : Use} {n : TypeName} (s : Spot) {ts rest : List Token} → Words u root n ts rest → Name u n (sign mark.Scope s ∷ ts) rest

-- A `result` is what stands behind the arrow of a function.
pub data Sort : Type 0 where
  type : Sort
  inter : Sort
  opt : Sort
  simple : Sort
  result : Sort

-- `Spells x t ts rest`: the tokens `ts` are a phrase of the sort `x` that spells `t`, and after it `rest`.
-- `Lists x by before all ts rest`: behind the types `before`, phrases of the sort `x` with the mark `by` between, at least one, make them `all`. Keys and parameters are listed alike.
--
--     type   = inter {"|" inter}
--     inter  = opt {"&" opt}
--     opt    = simple ["?"]
--     result = simple ["?"]
--     simple = "(" type ")" | base | integer | string | symbol | name ["[" type {"," type} "]"] | "singleton" "(" name ")"
--            | "[" [type {"," type}] "]" | "{" [key {"," key}] "}" | "^" function
--     key    = ["?"] word ":" type
--     function = ["(" [parameters] ")"] [["?"] "{" ["(" [parameters] ")"] "->" result "}"] "->" result
--     parameters = required, "?" optional, "*" rest, trailing, keys, "**" rest, in this order, by commas; each positional one: type [word]
mutual
  pub data Spells : Sort → PlainTy → List Token → List Token → Type 0 where
    lone_inter : {t : PlainTy} {ts rest : List Token} → Spells inter t ts rest → Spells type t ts rest
    union : {t : PlainTy} {us : PlainTys} (s : Spot) {ts mid rest : List Token} → Spells inter t ts (sign mark.Bar s ∷ mid) → Lists inter mark.Bar (plain.more_tys t plain.no_tys) us mid rest
        → Spells type (plain.union us) ts rest
    lone_opt : {t : PlainTy} {ts rest : List Token} → Spells opt t ts rest → Spells inter t ts rest
    inter_of : {t : PlainTy} {us : PlainTys} (s : Spot) {ts mid rest : List Token} → Spells opt t ts (sign mark.Amp s ∷ mid) → Lists opt mark.Amp (plain.more_tys t plain.no_tys) us mid rest
        → Spells inter (plain.inter us) ts rest
    lone_simple : {t : PlainTy} {ts rest : List Token} → Spells simple t ts rest → Spells opt t ts rest
    opt_of : {t : PlainTy} (s : Spot) {ts rest : List Token} → Spells simple t ts (sign mark.Question s ∷ rest) → Spells opt (plain.opt t) ts rest
    -- a question mark belongs to the innermost result that has none yet
    lone_result : {t : PlainTy} {ts rest : List Token} → Spells simple t ts rest → question_follows rest ≡ false → Spells result t ts rest
    opt_result : {t : PlainTy} (s : Spot) {ts rest : List Token} → Spells simple t ts (sign mark.Question s ∷ rest) → Spells result (plain.opt t) ts rest
    paren : {t : PlainTy} (s s' : Spot) {ts rest : List Token} → Spells type t ts (sign mark.Close s' ∷ rest) → Spells simple t (sign mark.Open s ∷ ts) rest
    base : (k : Keyword) (b : BaseTy) (s : Spot) {rest : List Token} → base_of k ≡ Some b → Spells simple (plain.base b) (word k s ∷ rest) rest
    integer : (n : ℤ) (s : Spot) {rest : List Token} → Spells simple (plain.int n) (token (kind.Integer n) s ∷ rest) rest
    -- past the limit, and so with any value
    past_integer : (s : Spot) {rest : List Token} → Spells simple (plain.int (pos 0)) (token kind.PastInteger s ∷ rest) rest
    text : (w : List ℕ) (s : Spot) {rest : List Token} → Spells simple (plain.str w) (token (kind.Text w) s ∷ rest) rest
    symbol : (w : List ℕ) (s : Spot) {rest : List Token} → Spells simple (plain.sym w) (token (kind.Symbol w) s ∷ rest) rest
    name : {n : TypeName} {ts rest : List Token} → Name of_type n ts rest → Spells simple (plain.name n plain.no_tys) ts rest
    applied : {n : TypeName} {us : PlainTys} (s s' : Spot) {ts mid rest : List Token} → Name of_type n ts (sign mark.OpenSquare s ∷ mid) → Lists type mark.Comma plain.no_tys us mid (sign mark.CloseSquare s' ∷ rest)
        → Spells simple (plain.name n us) ts rest
    single : {n : TypeName} (s s' s'' : Spot) {ts rest : List Token} → Name of_class n ts (sign mark.Close s'' ∷ rest) → Spells simple (plain.single n) (word keyword.Singleton s ∷ sign mark.Open s' ∷ ts) rest
    unit : (s s' : Spot) {rest : List Token} → Spells simple (plain.tuple plain.no_tys) (sign mark.OpenSquare s ∷ sign mark.CloseSquare s' ∷ rest) rest
    tuple : {us : PlainTys} (s s' : Spot) {ts rest : List Token} → Lists type mark.Comma plain.no_tys us ts (sign mark.CloseSquare s' ∷ rest) → Spells simple (plain.tuple us) (sign mark.OpenSquare s ∷ ts) rest
    no_record : (s s' : Spot) {rest : List Token} → Spells simple (plain.rec plain.no_keys) (sign mark.OpenBrace s ∷ sign mark.CloseBrace s' ∷ rest) rest
    record_of : {ks : PlainKeys} (s s' : Spot) {ts rest : List Token} → Keys plain.no_keys ks ts (sign mark.CloseBrace s' ∷ rest) → Spells simple (plain.rec ks) (sign mark.OpenBrace s ∷ ts) rest
    proc : {f : PlainFun} (s : Spot) {ts rest : List Token} → Function f ts rest → Spells simple (plain.fun f) (sign mark.Caret s ∷ ts) rest

  pub data Lists : Sort → Mark → PlainTys → PlainTys → List Token → List Token → Type 0 where
    one : {x : Sort} {by : Mark} {before : PlainTys} {t : PlainTy} {ts rest : List Token} → Spells x t ts rest → Lists x by before (and_ty before t) ts rest
    more : {x : Sort} {by : Mark} {before us : PlainTys} {t : PlainTy} (s : Spot) {ts mid rest : List Token} → Spells x t ts (sign by s ∷ mid) → Lists x by (and_ty before t) us mid rest → Lists x by before us ts rest

  pub data Key : PlainKeys → PlainKeys → List Token → List Token → Type 0 where
    needed_key : {before : PlainKeys} {t : PlainTy} (k : Kind) (w : List ℕ) (s s' : Spot) {ts rest : List Token} → lower_of k ≡ Some w → is_new w before ≡ true → Spells type t ts rest
        → Key before (and_key before w true t) (token k s ∷ sign mark.Colon s' ∷ ts) rest
    optional_key : {before : PlainKeys} {t : PlainTy} (k : Kind) (w : List ℕ) (s s' s'' : Spot) {ts rest : List Token} → lower_of k ≡ Some w → is_new w before ≡ true → Spells type t ts rest
        → Key before (and_key before w false t) (sign mark.Question s ∷ token k s' ∷ sign mark.Colon s'' ∷ ts) rest

  pub data Keys : PlainKeys → PlainKeys → List Token → List Token → Type 0 where
    last_key : {before ks : PlainKeys} {ts rest : List Token} → Key before ks ts rest → Keys before ks ts rest
    more_keys : {before with_it ks : PlainKeys} (s : Spot) {ts mid rest : List Token} → Key before with_it ts (sign mark.Comma s ∷ mid) → Keys with_it ks mid rest → Keys before ks ts rest

  -- the parameters, the block and the result of a function
  pub data Function : PlainFun → List Token → List Token → Type 0 where
    function : {l : the_listed.Listed} {b : PlainBlock} {t : PlainTy} (s : Spot) {ts mid mid' rest : List Token} → Listed l ts mid → Blocked b mid (sign mark.Arrow s ∷ mid') → Spells result t mid' rest
        → Function (function_of l b t) ts rest

  pub data Listed : the_listed.Listed → List Token → List Token → Type 0 where
    unlisted : {rest : List Token} → Listed nothing_listed rest rest
    empty : (s s' : Spot) {rest : List Token} → Listed nothing_listed (sign mark.Open s ∷ sign mark.Close s' ∷ rest) rest
    listed : {l : the_listed.Listed} (s s' : Spot) {ts rest : List Token} → Parameters no_parameters l ts (sign mark.Close s' ∷ rest) → Listed l (sign mark.Open s ∷ ts) rest

  pub data Blocked : PlainBlock → List Token → List Token → Type 0 where
    no_block : {rest : List Token} → Blocked plain.no_block rest rest
    needed_block : {f : PlainFun} (s : Spot) {ts rest : List Token} → Braced f ts rest → Blocked (plain.block true f) (sign mark.OpenBrace s ∷ ts) rest
    optional_block : {f : PlainFun} (s s' : Spot) {ts rest : List Token} → Braced f ts rest → Blocked (plain.block false f) (sign mark.Question s ∷ sign mark.OpenBrace s' ∷ ts) rest

  -- a block behind its opening brace
  pub data Braced : PlainFun → List Token → List Token → Type 0 where
    braced : {l : the_listed.Listed} {t : PlainTy} (s s' : Spot) {ts mid rest : List Token} → Listed l ts (sign mark.Arrow s ∷ mid) → Spells result t mid (sign mark.CloseBrace s' ∷ rest)
        → Braced (function_of l plain.no_block t) ts rest

  pub data Parameters : the_parameters.Parameters → the_listed.Listed → List Token → List Token → Type 0 where
    last : {p q : the_parameters.Parameters} {ts rest : List Token} → Parameter p q ts rest → Parameters p (closed q) ts rest
    key_rest : {p : the_parameters.Parameters} {t : PlainTy} {n : Option (List ℕ)} (s : Spot) {ts rest : List Token} → Argument t n ts rest
        → Parameters p (record { parameters = p; key_rest = plain.rest t n }) (sign mark.DoubleStar s ∷ ts) rest
    further : {p q : the_parameters.Parameters} {l : the_listed.Listed} (s : Spot) {ts mid rest : List Token} → Parameter p q ts (sign mark.Comma s ∷ mid) → Parameters q l mid rest → Parameters p l ts rest

  pub data Parameter : the_parameters.Parameters → the_parameters.Parameters → List Token → List Token → Type 0 where
    positional : {p : the_parameters.Parameters} {t : PlainTy} {n : Option (List ℕ)} {ts rest : List Token} → takes_positional p ≡ true → Argument t n ts rest → Parameter p (and_positional p t n) ts rest
    optional : {p : the_parameters.Parameters} {t : PlainTy} {n : Option (List ℕ)} (s : Spot) {ts rest : List Token} → takes_optional p ≡ true → Argument t n ts rest
        → Parameter p (and_optional p t n) (sign mark.Question s ∷ ts) rest
    rest_of : {p : the_parameters.Parameters} {t : PlainTy} {n : Option (List ℕ)} (s : Spot) {ts rest : List Token} → takes_optional p ≡ true → Argument t n ts rest
        → Parameter p (and_rest p t n) (sign mark.Star s ∷ ts) rest
    needed_keyword : {p : the_parameters.Parameters} {t : PlainTy} (k : Kind) (w : List ℕ) (s s' : Spot) {ts rest : List Token} → lower_of k ≡ Some w → is_new w p.keys ≡ true → Spells type t ts rest
        → Parameter p (and_keyword p w true t) (token k s ∷ sign mark.Colon s' ∷ ts) rest
    optional_keyword : {p : the_parameters.Parameters} {t : PlainTy} (k : Kind) (w : List ℕ) (s s' s'' : Spot) {ts rest : List Token} → lower_of k ≡ Some w → is_new w p.keys ≡ true → Spells type t ts rest
        → Parameter p (and_keyword p w false t) (sign mark.Question s ∷ token k s' ∷ sign mark.Colon s'' ∷ ts) rest

  -- the type of a positional parameter, and its name where it has one
  pub data Argument : PlainTy → Option (List ℕ) → List Token → List Token → Type 0 where
    unnamed : {t : PlainTy} {ts rest : List Token} → Spells type t ts rest → Argument t None ts rest
    named : {t : PlainTy} (k : Kind) (w : List ℕ) (s : Spot) {ts rest : List Token} → lower_of k ≡ Some w → Spells type t ts (token k s ∷ rest) → Argument t (Some w) ts rest

-- what is read as a phrase: a type; what stands behind the name of a method; what stands behind the bracket of a name's arguments, with that bracket closed
pub data Phrase : Type 0 where
  a_type : Phrase
  a_function : Phrase
  arguments_of : TypeName → Phrase

-- the tokens from the first list up to the second spell the phrase, where there are no limits
abbrev pub Spelled : Phrase → PlainTy → List Token → List Token → Type 0
Spelled a_type t ts rest = Spells type t ts rest
Spelled a_function t ts rest = (f : PlainFun) × (t ≡ plain.fun f) × Function f ts rest
Spelled (arguments_of n) t ts rest = (us : PlainTys) × (s : _) × (t ≡ plain.name n us) × Lists type mark.Comma plain.no_tys us ts (sign mark.CloseSquare s ∷ rest)
