-- A printed type is read back.
use Rattle.std.proofs.Common.{ℕ, ◌≡◌, refl, sym, subst, Bool, true, false, List, [], ◌∷◌, ◌++◌, Some, inl, inr}
use Rattle.std.specs.Prelude.{◌⊎◌, not}
use Rattle.std.specs.Fmt.{signed_decimal}
use Rattle.rbs_lexer.specs.declared.token.TokenKind.{TokenKind}
use Rattle.rbs_lexer.specs.declared.token.TokenKind.TheVariants as token_kind
use Rattle.rbs_terminals.specs.declared.token.Token.{Token}
use Rattle.rbs_terminals.specs.declared.token.Spot.{Spot}
use Rattle.rbs_terminals.specs.declared.token.Gap.{Gap}
use Rattle.rbs_terminals.specs.declared.token.Gap.TheVariants as gap
use Rattle.rbs_terminals.specs.declared.token.Mark.TheVariants as mark
use Rattle.rbs_terminals.specs.declared.token.Keyword.{Keyword}
use Rattle.rbs_terminals.specs.declared.token.Keyword.TheVariants as keyword
use Rattle.rbs_terminals.specs.declared.token.Kind.{Kind}
use Rattle.rbs_terminals.specs.declared.token.Kind.TheVariants as kind
use Rattle.rbs_terminals.specs.Kinds.{kind_at}
use Rattle.rbs_terminals.specs.Keywords.{base_of}
use Rattle.sig_model.specs.declared.ty.TypeName.{TypeName}
use Rattle.sig_model.specs.declared.ty.BaseTy.{BaseTy}
use Rattle.sig_model.specs.declared.ty.BaseTy.TheVariants as base
use Rattle.sig_model.specs.PlainTy as plain
use Rattle.sig_model.specs.PlainTy.{PlainTy, PlainTys, PlainKeys, PlainArgs, PlainRest, PlainFun, PlainBlock}
use Rattle.rbs_types.specs.Symbols.{token, sign, word, scope_follows, question_follows}
use Rattle.rbs_types.specs.Grammar as grammar
use Rattle.rbs_types.specs.Grammar.{Use, of_type, of_class, Spells, Function, Name, Lists}
use Rattle.rbs_printer.specs.Texts.{base_text, string_text, ends_in_word}
use Rattle.rbs_printer.specs.Types.{whole, in_union, in_inter, before_question, is_optional, result_of}
use Rattle.printed_tokens.specs.Pieces.{blank, tok}
use Rattle.printed_tokens.specs.Layout as lay
use Rattle.printed_tokens.specs.Layout.{joined, comma, where_set, name_pieces, type_pieces, types_at, arguments_pieces, key_pieces, keys_pieces, record_pieces, function_pieces, placed, question_behind}
use Rattle.printed_tokens.specs.Fits.{Fits}
use Rattle.printed_signatures.specs.Writable.{IsName, IsType, AreTypes, AreKeys, IsFunction, AreArguments, IsRest, IsBlock, several}
use Rattle.printed_signatures.proofs.Split.{gap_behind, split, unpadded, first, first_mark, first_keyword, mark_between, last_mark, last_spaced, onward}
use Rattle.printed_signatures.proofs.Values.{integer_at, text_at}
use Rattle.printed_signatures.proofs.NamesRead.{name_read}
use Rattle.printed_signatures.proofs.Sites.{Quiet, Reads, Done, read_whole, read_in_union, read_in_inter, read_questioned}
use Rattle.printed_signatures.proofs.ListsRead.{AllRead, KeysRead, mark_separates, parted, lists_read, types_read, all_new, keys_read}
use Rattle.printed_signatures.proofs.FunctionsRead.{ArgumentsRead, RestRead, FunctionRead, BlockRead, function_read}

-- ---- one token

-- a type that is one token
alone : (k : TokenKind) (w : List ℕ) (x : Kind) (t : PlainTy) → kind_at k w ≡ x → ((s : Spot) (rest : List Token) → Spells grammar.simple t (token x s ∷ rest) rest) → (g : Gap) (ts rest : List Token) → Fits g (tok k w ∷ []) ts rest
    → Spells grammar.simple t ts rest
alone k w x t e d g ts rest f =
    let (s, more, at, j, end) = first g k w x e [] ts rest f in subst (λ ts. Spells grammar.simple t ts rest) (sym (onward at end)) (d s rest)

base_keyword : (b : BaseTy) → (k : Keyword) × (kind_at token_kind.Ident (base_text b) ≡ kind.Keyword k) × (base_of k ≡ Some b)
base_keyword base.True = (keyword.True, refl, refl)
base_keyword base.False = (keyword.False, refl, refl)
base_keyword base.Nil = (keyword.Nil, refl, refl)
base_keyword base.Bool = (keyword.Bool, refl, refl)
base_keyword base.Void = (keyword.Void, refl, refl)
base_keyword base.Top = (keyword.Top, refl, refl)
base_keyword base.Bot = (keyword.Bot, refl, refl)
base_keyword base.SelfTy = (keyword.SelfWord, refl, refl)
base_keyword base.Instance = (keyword.Instance, refl, refl)
base_keyword base.ClassTy = (keyword.Class, refl, refl)
base_keyword base.Untyped = (keyword.Untyped, refl, refl)

base_read : (b : BaseTy) → Reads (plain.base b)
base_read b g ts rest f q h =
    let (k, e, is) = base_keyword b in alone token_kind.Ident (base_text b) (kind.Keyword k) (plain.base b) e (λ s rest. grammar.base k b s is) g ts rest f

-- ---- names

pub applied_read : (u : Use) (n : TypeName) (t : PlainTy) (us : PlainTys) → IsName u n → Reads t → AllRead us → (g : Gap) (ts rest : List Token) → Fits g (name_pieces n ++ arguments_pieces (plain.more_tys t us)) ts rest
    → (s : Spot) × (s' : Spot) × (mid : List Token) × Name u n ts (sign mark.OpenSquare s ∷ mid) × Lists grammar.type mark.Comma plain.no_tys (plain.more_tys t us) mid (sign mark.CloseSquare s' ∷ rest)
applied_read u n t us h r rs g ts rest f =
    let (s, mid, a, j, b) = mark_between g (name_pieces n) mark.OpenSquare (joined comma (type_pieces t ∷ types_at whole us) ++ lay.sign mark.CloseSquare ∷ []) ts rest f in
    let (s', c, j') = last_mark gap.Joined (joined comma (type_pieces t ∷ types_at whole us)) mark.CloseSquare mid rest b in
    (s, s', mid, name_read u n h g ts (sign mark.OpenSquare s ∷ mid) a refl, types_read plain.no_tys t us r rs gap.Joined mid (sign mark.CloseSquare s' ∷ rest) c (refl, refl))

name_type_read : (n : TypeName) (us : PlainTys) → IsName of_type n → AllRead us → Reads (plain.name n us)
name_type_read n plain.no_tys h r g ts rest f q d = grammar.name (name_read of_type n h g ts rest (unpadded g (name_pieces n) ts rest f) q)
name_type_read n (plain.more_tys t us) h r g ts rest f q d = let (s, s', mid, a, b) = applied_read of_type n t us h r.0 r.1 g ts rest f in grammar.applied s s' a b

pub single_read : (n : TypeName) → IsName of_class n → (g : Gap) (ts rest : List Token) → Fits g (type_pieces (plain.single n)) ts rest
    → (s : Spot) × (s' : Spot) × (s'' : Spot) × (mid : List Token) × (ts ≡ word keyword.Singleton s ∷ sign mark.Open s' ∷ mid) × Name of_class n mid (sign mark.Close s'' ∷ rest)
single_read n h g ts rest f =
    let (s, more, at, j, b) = first_keyword g keyword.Singleton (lay.sign mark.Open ∷ name_pieces n ++ lay.sign mark.Close ∷ []) ts rest f in
    let (s', mid, at', j', c) = first_mark gap.Joined mark.Open (name_pieces n ++ lay.sign mark.Close ∷ []) more rest b in
    let (s'', a, j'') = last_mark gap.Joined (name_pieces n) mark.Close mid rest c in
    (s, s', s'', mid, onward at at', name_read of_class n h gap.Joined mid (sign mark.Close s'' ∷ rest) a refl)

single_type_read : (n : TypeName) → IsName of_class n → Reads (plain.single n)
single_type_read n h g ts rest f q d =
    let (s, s', s'', mid, at, a) = single_read n h g ts rest f in subst (λ ts. Spells grammar.simple (plain.single n) ts rest) (sym at) (grammar.single s s' s'' a)

-- ---- optional types

question_ends : (t : PlainTy) (g : Gap) (ts rest : List Token) → Fits g (question_behind t) ts rest → (s : Spot) × (ts ≡ sign mark.Question s ∷ rest)
question_ends (plain.sym w) g ts rest f = by (ends_in_word w) f
  where
    by : (b : Bool) → Fits g (where_set b (blank ∷ []) ++ lay.sign mark.Question ∷ []) ts rest → (s : Spot) × (ts ≡ sign mark.Question s ∷ rest)
    by true f = let (s, more, at, j, e) = first_mark gap.Blank mark.Question [] ts rest f in (s, onward at e)
    by false f = let (s, more, at, j, e) = first_mark g mark.Question [] ts rest f in (s, onward at e)
question_ends _ g ts rest f = let (s, more, at, j, e) = first_mark g mark.Question [] ts rest f in (s, onward at e)

opt_read : (t : PlainTy) → Reads t → Reads (plain.opt t)
opt_read t r g ts rest f q d =
    let (mid, a, b) = split g (placed before_question t (type_pieces t)) (question_behind t) ts rest f in
    let (s, at) = question_ends t (gap_behind g (placed before_question t (type_pieces t))) mid rest b in
    (s, read_questioned t r g ts (sign mark.Question s ∷ rest) (subst (Fits g (placed before_question t (type_pieces t)) ts) at a) refl)

-- ---- unions and intersections

unsettled : (rest : List Token) → scope_follows rest ≡ false → (true ≡ false) ⊎ (question_follows rest ≡ false) → Quiet rest
unsettled rest q (inl e) = absurd (cc)
unsettled rest q (inr e) = (q, e)

union_read : (us : PlainTys) → several us ≡ true → AllRead us → Reads (plain.union us)
union_read plain.no_tys h r g ts rest f q d = absurd (cc)
union_read (plain.more_tys t plain.no_tys) h r g ts rest f q d = absurd (cc)
union_read (plain.more_tys t (plain.more_tys u us)) h r g ts rest f q d =
    let by = blank ∷ lay.sign mark.Bar ∷ blank ∷ [] in
    let (s, more, a, b) = parted by mark.Bar (mark_separates mark.Bar) (placed in_union t (type_pieces t)) (placed in_union u (type_pieces u)) (types_at in_union us) g ts rest f in
    grammar.union s (read_in_union t r.0 g ts (sign mark.Bar s ∷ more) a (refl, refl))
    (lists_read grammar.inter in_union read_in_union by mark.Bar (mark_separates mark.Bar) (λ s more. (refl, refl)) (plain.more_tys t plain.no_tys) u us r.1.0 r.1.1 (gap_behind g (placed in_union t (type_pieces t) ++ by)) more rest b (unsettled rest q d))

inter_read : (us : PlainTys) → several us ≡ true → AllRead us → Reads (plain.inter us)
inter_read plain.no_tys h r g ts rest f q d = absurd (cc)
inter_read (plain.more_tys t plain.no_tys) h r g ts rest f q d = absurd (cc)
inter_read (plain.more_tys t (plain.more_tys u us)) h r g ts rest f q d =
    let by = blank ∷ lay.sign mark.Amp ∷ blank ∷ [] in
    let (s, more, a, b) = parted by mark.Amp (mark_separates mark.Amp) (placed in_inter t (type_pieces t)) (placed in_inter u (type_pieces u)) (types_at in_inter us) g ts rest f in
    grammar.inter_of s (read_in_inter t r.0 g ts (sign mark.Amp s ∷ more) a (refl, refl))
    (lists_read grammar.opt in_inter read_in_inter by mark.Amp (mark_separates mark.Amp) (λ s more. (refl, refl)) (plain.more_tys t plain.no_tys) u us r.1.0 r.1.1 (gap_behind g (placed in_inter t (type_pieces t) ++ by)) more rest b (unsettled rest q d))

-- ---- brackets and braces

tuple_read : (us : PlainTys) → AllRead us → Reads (plain.tuple us)
tuple_read plain.no_tys r g ts rest f q d =
    let (s, more, at, j, b) = first_mark g mark.OpenSquare (lay.sign mark.CloseSquare ∷ []) ts rest f in
    let (s', end, at', j', e) = first_mark gap.Joined mark.CloseSquare [] more rest b in
    subst (λ ts. Spells grammar.simple (plain.tuple plain.no_tys) ts rest) (sym (onward at (onward at' e))) (grammar.unit s s')
tuple_read (plain.more_tys t us) r g ts rest f q d =
    let inside = joined comma (type_pieces t ∷ types_at whole us) in
    let (s, more, at, j, b) = first_mark g mark.OpenSquare (inside ++ lay.sign mark.CloseSquare ∷ []) ts rest f in
    let (s', a, j') = last_mark gap.Joined inside mark.CloseSquare more rest b in
    subst (λ ts. Spells grammar.simple (plain.tuple (plain.more_tys t us)) ts rest) (sym at)
    (grammar.tuple s s' (types_read plain.no_tys t us r.0 r.1 gap.Joined more (sign mark.CloseSquare s' ∷ rest) a (refl, refl)))

record_read : (ks : PlainKeys) → AreKeys ks → KeysRead ks → Reads (plain.rec ks)
record_read plain.no_keys h r g ts rest f q d =
    let (s, more, at, j, b) = first_mark g mark.OpenBrace (lay.sign mark.CloseBrace ∷ []) ts rest f in
    let (s', end, at', j', e) = first_mark gap.Joined mark.CloseBrace [] more rest b in
    subst (λ ts. Spells grammar.simple (plain.rec plain.no_keys) ts rest) (sym (onward at (onward at' e))) (grammar.no_record s s')
record_read (plain.more_keys w needed t ks) h r g ts rest f q d =
    let inside = joined comma ((key_pieces w needed ++ type_pieces t) ∷ keys_pieces ks) in
    let (s, more, at, j, b) = first_mark g mark.OpenBrace (blank ∷ inside ++ blank ∷ lay.sign mark.CloseBrace ∷ []) ts rest f in
    let (s', a) = last_spaced gap.Blank inside mark.CloseBrace more rest b in
    subst (λ ts. Spells grammar.simple (plain.rec (plain.more_keys w needed t ks)) ts rest) (sym at)
    (grammar.record_of s s' (keys_read plain.no_keys w needed t ks h (all_new (plain.more_keys w needed t ks)) r.0 r.1 gap.Blank more (sign mark.CloseBrace s' ∷ rest) a (refl, refl)))

-- ---- procs

done_proc : (t : PlainTy) (rest : List Token) → (not (is_optional t) ≡ false) ⊎ (question_follows rest ≡ false) → Done t rest
done_proc (plain.opt t) rest d = inl refl
done_proc _ rest (inl e) = absurd (cc)
done_proc _ rest (inr e) = inr e

proc_read : (f : PlainFun) → IsFunction f → FunctionRead f → Reads (plain.fun f)
proc_read f h r g ts rest k q d =
    let (s, more, at, j, b) = first_mark g mark.Caret (function_pieces f) ts rest k in
    subst (λ ts. Spells grammar.simple (plain.fun f) ts rest) (sym at) (grammar.proc s (function_read f r h gap.Joined more rest b q (done_proc (result_of f) rest d)))

-- ---- all types

mutual
  pub read_type : (t : PlainTy) → IsType t → Reads t
  read_type (plain.name n ts) h = name_type_read n ts h.0 (read_types ts h.1)
  read_type (plain.single n) h = single_type_read n h
  read_type (plain.opt t) h = opt_read t (read_type t h)
  read_type (plain.union ts) h = union_read ts h.0 (read_types ts h.1)
  read_type (plain.inter ts) h = inter_read ts h.0 (read_types ts h.1)
  read_type (plain.tuple ts) h = tuple_read ts (read_types ts h)
  read_type (plain.rec ks) h = record_read ks h (read_keys ks h)
  read_type (plain.fun f) h = proc_read f h (read_function f h)
  read_type (plain.int n) h = λ g ts rest f q d. alone token_kind.Int (signed_decimal n) (kind.Integer n) (plain.int n) (integer_at n h) (λ s rest. grammar.integer n s) g ts rest f
  read_type (plain.str w) h = λ g ts rest f q d. alone token_kind.Str (string_text w) (kind.Text w) (plain.str w) (text_at w) (λ s rest. grammar.text w s) g ts rest f
  read_type (plain.sym w) h = λ g ts rest f q d. alone token_kind.Sym (58 ∷ w) (kind.Symbol w) (plain.sym w) refl (λ s rest. grammar.symbol w s) g ts rest f
  read_type (plain.base b) h = base_read b

  pub read_types : (ts : PlainTys) → AreTypes ts → AllRead ts
  read_types plain.no_tys h = tt
  read_types (plain.more_tys t ts) h = (read_type t h.0, read_types ts h.1)

  read_keys : (ks : PlainKeys) → AreKeys ks → KeysRead ks
  read_keys plain.no_keys h = tt
  read_keys (plain.more_keys w needed t ks) h = (read_type t h.2, read_keys ks h.3)

  pub read_function : (f : PlainFun) → IsFunction f → FunctionRead f
  read_function (plain.function required optional more trailing keys key_more blk t) h =
      (read_arguments required h.0, read_arguments optional h.1, read_rest more h.2, read_arguments trailing h.3, read_keys keys h.5, read_rest key_more h.6, read_block blk h.7, read_type t h.8)

  read_arguments : (more : PlainArgs) → AreArguments more → ArgumentsRead more
  read_arguments plain.no_args h = tt
  read_arguments (plain.more_args t n more) h = (read_type t h.0, read_arguments more h.2)

  read_rest : (more : PlainRest) → IsRest more → RestRead more
  read_rest plain.no_rest h = tt
  read_rest (plain.rest t n) h = read_type t h.0

  read_block : (b : PlainBlock) → IsBlock b → BlockRead b
  read_block plain.no_block h = tt
  read_block (plain.block needed f) h = read_function f h.0

-- a printed type is read back, where what follows doesn't go on with it
pub type_back : (t : PlainTy) → IsType t → (g : Gap) (ts rest : List Token) → Fits g (type_pieces t) ts rest → scope_follows rest ≡ false → question_follows rest ≡ false → Spells grammar.type t ts rest
type_back t h g ts rest f q e = read_whole t (read_type t h) g ts rest f (q, e)

pub function_back : (f : PlainFun) → IsFunction f → (g : Gap) (ts rest : List Token) → Fits g (function_pieces f) ts rest → scope_follows rest ≡ false → question_follows rest ≡ false → Function f ts rest
function_back f h g ts rest k q e = function_read f (read_function f h) h g ts rest k q (inr e)
