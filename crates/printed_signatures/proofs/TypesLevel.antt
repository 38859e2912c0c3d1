-- A printed type opens no more than it needs.
use Rattle.std.proofs.Common.{max, ℕ, ◌+◌, ◌≤◌, ◌≡◌, refl, sym, ◌∙◌, ap, subst, Bool, true, false, List, [], ◌∷◌, ◌++◌, append_assoc, inl, inr, arith}
use Rattle.std.specs.Prelude.{◌==◌, ◌&&◌, if◌then◌else◌, Option, Some, None}
use Rattle.std.specs.Char.{is_ascii_uppercase}
use Rattle.sig_model.specs.declared.ty.TypeName.{TypeName}
use Rattle.sig_model.specs.declared.ty.BaseTy.{BaseTy}
use Rattle.sig_model.specs.declared.ty.BaseTy.TheVariants as base
use Rattle.sig_model.specs.PlainTy as plain
use Rattle.sig_model.specs.PlainTy.{PlainTy, PlainTys, PlainKeys, PlainArgs, PlainRest, PlainFun, PlainBlock}
use Rattle.rbs_lexer.specs.declared.token.TokenKind.{TokenKind}
use Rattle.rbs_lexer.specs.declared.token.TokenKind.TheVariants as token
use Rattle.rbs_lexer.proofs.Bytes.{bool_cases, and_true}
use Rattle.rbs_terminals.specs.declared.token.Kind.{Kind}
use Rattle.rbs_terminals.specs.declared.token.Keyword.{Keyword}
use Rattle.rbs_terminals.specs.declared.token.Keyword.TheVariants as a_keyword
use Rattle.rbs_terminals.specs.declared.token.Mark.{Mark}
use Rattle.rbs_terminals.specs.declared.token.Mark.TheVariants as mark
use Rattle.rbs_terminals.specs.Keywords.{keyword_of, keyword_text}
use Rattle.rbs_terminals.specs.Marks.{mark_text}
use Rattle.rbs_terminals.specs.Kinds.{kind_at, word_kind}
use Rattle.rbs_types.specs.Grammar.{Use, of_type, of_class}
use Rattle.rbs_types.specs.Plains.{no_arg, no_rest_yet, no_key}
use Rattle.rbs_printer.specs.Texts.{base_text, ends_in_word}
use Rattle.rbs_printer.specs.Types.{Site, whole, in_union, in_inter, before_question, result as in_result, needs_parentheses}
use Rattle.printed_tokens.specs.Pieces.{Piece, blank, tok}
use Rattle.printed_tokens.specs.Layout.{word_token, word, sign, keyword, joined, where_set, path_pieces, name_pieces, question_behind, in_parentheses, placed, name_behind, key_pieces, comma, type_pieces, types_at, arguments_pieces, record_pieces, keys_pieces, function_pieces, arguments, rest_of, block_pieces}
use Rattle.printed_signatures.specs.Writable.{IsPath, IsName, several, IsType, AreTypes, AreKeys, IsFunction, AreArguments, IsRest, IsBlock}
use Rattle.printed_signatures.specs.Nesting.{around, listed, no_parameter, nesting, nestings, keys_nesting, function_nesting, arguments_nesting, rest_nesting, block_nesting}
use Rattle.printed_signatures.proofs.PiecesOpen.{Level, level_none, level_blank, level_token, level_append, level_more, level_bracket, level_parentheses, level_empty, is_level, closes_fresh, Begun, begun_append, Levels, levels_append, level_joined}

-- ---- words

word_kinds_level : (w : List ℕ) (k : Option Keyword) → (is_level (word_kind w k) ≡ true) × (closes_fresh (word_kind w k) ≡ false)
word_kinds_level w None = (refl, refl)
word_kinds_level w (Some k) = (refl, refl)

-- a word of any kind opens and closes nothing
abbrev Quiet : TokenKind → List ℕ → Type 0
Quiet k w = (is_level (kind_at k w) ≡ true) × (closes_fresh (kind_at k w) ≡ false)

ident_quiet : (w : List ℕ) → Quiet token.Ident w
ident_quiet w = word_kinds_level w (keyword_of w)

either_quiet : (b : Bool) (j k : TokenKind) (w : List ℕ) → Quiet j w → Quiet k w → Quiet (if b then j else k) w
either_quiet true j k w h i = h
either_quiet false j k w h i = i

pub word_quiet : (w : List ℕ) → Quiet (word_token w) w
word_quiet [] = ident_quiet []
word_quiet (b ∷ []) = either_quiet (is_ascii_uppercase b) token.Upper _ (b ∷ []) (refl, refl) (either_quiet (b == 95) token.Ident token.Ident (b ∷ []) (ident_quiet (b ∷ [])) (ident_quiet (b ∷ [])))
word_quiet (b ∷ c ∷ w) =
    either_quiet (is_ascii_uppercase b) token.Upper _ (b ∷ c ∷ w) (refl, refl)
    (either_quiet (b == 95) _ token.Ident (b ∷ c ∷ w) (either_quiet (is_ascii_uppercase c) token.IfaceName token.Ident (b ∷ c ∷ w) (refl, refl) (ident_quiet (b ∷ c ∷ w))) (ident_quiet (b ∷ c ∷ w)))

pub level_word : (w : List ℕ) {ps : List Piece} {k : ℕ} → Level ps k → Level (word w ∷ ps) k
level_word w h = level_token (word_token w) w (word_quiet w).0 h

pub level_keyword : (k : Keyword) {ps : List Piece} {m : ℕ} → Level ps m → Level (keyword k ∷ ps) m
level_keyword k h = level_token token.Ident (keyword_text k) (ident_quiet (keyword_text k)).0 h

-- ---- names

level_path : (ws : List (List ℕ)) {k : ℕ} → Level (path_pieces ws) k
level_path [] = level_none
level_path (w ∷ []) = level_word w level_none
level_path (w ∷ v ∷ ws) = level_word w (level_token token.Mark _ refl (level_path (v ∷ ws)))

pub level_name : (n : TypeName) {k : ℕ} → Level (name_pieces n) k
level_name n {k = k} = rooted n.rooted
  where
    rooted : (r : Bool) → Level (where_set r (sign mark.Scope ∷ []) ++ path_pieces n.path) k
    rooted true = level_token token.Mark _ refl (level_path n.path)
    rooted false = level_path n.path

begun_path : (u : Use) (ws : List (List ℕ)) → IsPath u ws → Begun (path_pieces ws)
begun_path u [] h = absurd h
begun_path u (w ∷ []) h = (word_quiet w).1
begun_path u (w ∷ v ∷ ws) h = (word_quiet w).1

pub begun_name : (u : Use) (n : TypeName) → IsName u n → Begun (name_pieces n)
begun_name u n h = rooted n.rooted
  where
    rooted : (r : Bool) → Begun (where_set r (sign mark.Scope ∷ []) ++ path_pieces n.path)
    rooted true = refl
    rooted false = begun_path u n.path h

-- ---- parentheses and question marks

begun_placed : (p : Bool) (ps : List Piece) → Begun ps → Begun (in_parentheses p ps)
begun_placed true ps b = refl
begun_placed false ps b = b

level_placed : (p : Bool) (ps : List Piece) (k : ℕ) → Begun ps → Level ps k → Level (in_parentheses p ps) (around p k)
level_placed true ps k b h = level_parentheses b h
level_placed false ps k b h = h

level_question : (t : PlainTy) {k : ℕ} → Level (question_behind t) k
level_question (plain.sym w) {k = k} = behind (ends_in_word w)
  where
    behind : (b : Bool) → Level (where_set b (blank ∷ []) ++ sign mark.Question ∷ []) k
    behind true = level_blank (level_token token.Mark _ refl level_none)
    behind false = level_token token.Mark _ refl level_none
level_question _ = level_token token.Mark _ refl level_none

-- ---- types begin with a token that closes nothing

begun_number : (w : List ℕ) → Begun (tok token.Int w ∷ [])
begun_number w = refl

mutual
  pub begun : (t : PlainTy) → IsType t → Begun (type_pieces t)
  begun (plain.name n ts) h = begun_append (name_pieces n) (arguments_pieces ts) (begun_name of_type n h.0)
  begun (plain.single n) h = refl
  begun (plain.opt t) h = begun_append (placed before_question t (type_pieces t)) (question_behind t) (begun_placed (needs_parentheses before_question t) (type_pieces t) (begun t h))
  begun (plain.union ts) h = begun_members in_union _ ts h.0 h.1
  begun (plain.inter ts) h = begun_members in_inter _ ts h.0 h.1
  begun (plain.tuple ts) h = refl
  begun (plain.rec plain.no_keys) h = refl
  begun (plain.rec (plain.more_keys w needed t ks)) h = refl
  begun (plain.fun f) h = refl
  begun (plain.int n) h = refl
  begun (plain.str w) h = refl
  begun (plain.sym w) h = refl
  begun (plain.base b) h = (ident_quiet (base_text b)).1

  begun_members : (x : Site) (by : List Piece) (ts : PlainTys) → several ts ≡ true → AreTypes ts → Begun (joined by (types_at x ts))
  begun_members x by plain.no_tys e h = absurd cc
  begun_members x by (plain.more_tys t plain.no_tys) e h = absurd cc
  begun_members x by (plain.more_tys t (plain.more_tys u ts)) e h =
      begun_append (placed x t (type_pieces t) ++ by) (joined by (types_at x (plain.more_tys u ts))) (begun_append (placed x t (type_pieces t)) by (begun_placed (needs_parentheses x t) (type_pieces t) (begun t h.0)))

-- ---- lists

pub level_comma : {k : ℕ} → Level comma k
level_comma = level_token token.Mark _ refl (level_blank level_none)

pub level_bar : (m : Mark) → is_level (kind_at token.Mark (mark_text m)) ≡ true → {k : ℕ} → Level (blank ∷ sign m ∷ blank ∷ []) k
level_bar m e = level_blank (level_token token.Mark _ e (level_blank level_none))

pub levels_more : (rs : List (List Piece)) (k m : ℕ) → k ≤ m → Levels rs k → Levels rs m
levels_more [] k m l h = tt
levels_more (r ∷ rs) k m l h = (level_more k m l h.0, levels_more rs k m l h.1)

-- a closing bracket, and pieces behind it
behind_closing : (ps qs : List Piece) (c : Piece) (k : ℕ) → Level (ps ++ c ∷ []) k → Level qs k → Level (ps ++ c ∷ qs) k
behind_closing ps qs c k h i = subst (λ r. Level r k) (append_assoc ps (c ∷ []) qs) (level_append h i)

abbrev AllBegun : List (List Piece) → Type 0
AllBegun [] = Unit {0}
AllBegun (r ∷ rs) = Begun r × AllBegun rs

all_begun_append : (rs ss : List (List Piece)) → AllBegun rs → AllBegun ss → AllBegun (rs ++ ss)
all_begun_append [] ss h i = i
all_begun_append (r ∷ rs) ss h i = (h.0, all_begun_append rs ss h.1 i)

-- a list in parentheses, which may be empty
level_list : (rs : List (List Piece)) (k : ℕ) → AllBegun rs → Levels rs k → Level (sign mark.Open ∷ joined comma rs ++ sign mark.Close ∷ []) (1 + k)
level_list [] k b h = level_empty
level_list (r ∷ []) k b h = level_parentheses b.0 h.0
level_list (r ∷ s ∷ rs) k b h = level_parentheses (begun_append (r ++ comma) (joined comma (s ∷ rs)) (begun_append r comma b.0)) (level_joined comma (r ∷ s ∷ rs) k level_comma h)

pub square : {ps : List Piece} {k : ℕ} → Level ps k → Level (sign mark.OpenSquare ∷ ps ++ sign mark.CloseSquare ∷ []) (1 + k)
square h = level_bracket mark.OpenSquare mark.CloseSquare (λ n. refl) (λ n. refl) _ _ refl refl h

brace : {ps : List Piece} {k : ℕ} → Level ps k → Level (sign mark.OpenBrace ∷ ps ++ sign mark.CloseBrace ∷ []) (1 + k)
brace h = level_bracket mark.OpenBrace mark.CloseBrace (λ n. refl) (λ n. refl) _ _ refl refl h

-- with a blank inside of both
brace_spaced : (ps : List Piece) (k : ℕ) → Level ps k → Level (sign mark.OpenBrace ∷ blank ∷ ps ++ blank ∷ sign mark.CloseBrace ∷ []) (1 + k)
brace_spaced ps k h =
    subst (λ r. Level (sign mark.OpenBrace ∷ blank ∷ r) (1 + k)) (append_assoc ps (blank ∷ []) (sign mark.CloseBrace ∷ [])) (brace {ps = blank ∷ ps ++ blank ∷ []} (level_blank (level_append h (level_blank level_none))))

-- ---- parameters

level_name_behind : (n : Option (List ℕ)) {k : ℕ} → Level (name_behind n) k
level_name_behind None = level_none
level_name_behind (Some w) = level_blank (level_word w level_none)

level_key : (w : List ℕ) (needed : Bool) {k : ℕ} → Level (key_pieces w needed) k
level_key w true = level_word w (level_token token.Mark _ refl (level_blank level_none))
level_key w false = level_token token.Mark _ refl (level_word w (level_token token.Mark _ refl (level_blank level_none)))

begun_key : (w : List ℕ) (needed : Bool) (ps : List Piece) → Begun (key_pieces w needed ++ ps)
begun_key w true ps = (word_quiet w).1
begun_key w false ps = refl

-- what stands before a parameter
abbrev pub IsBefore : List Piece → Type 0
IsBefore before = ((k : ℕ) → Level before k) × ((ps : List Piece) → Begun ps → Begun (before ++ ps))

none_before : IsBefore []
none_before = (λ k. level_none, λ ps b. b)

mark_before : (m : Mark) → is_level (kind_at token.Mark (mark_text m)) ≡ true → closes_fresh (kind_at token.Mark (mark_text m)) ≡ false → IsBefore (sign m ∷ [])
mark_before m e f = (λ k. level_token token.Mark (mark_text m) e level_none, λ ps b. f)

begun_arguments : (before : List Piece) → IsBefore before → (ts : PlainArgs) → AreArguments ts → AllBegun (arguments before ts)
begun_arguments before i plain.no_args h = tt
begun_arguments before i (plain.more_args t n ts) h =
    (begun_append (before ++ type_pieces t) (name_behind n) (i.1 (type_pieces t) (begun t h.0)), begun_arguments before i ts h.2)

begun_rest : (before : List Piece) → IsBefore before → (r : PlainRest) → IsRest r → AllBegun (rest_of before r)
begun_rest before i plain.no_rest h = tt
begun_rest before i (plain.rest t n) h = (begun_append (before ++ type_pieces t) (name_behind n) (i.1 (type_pieces t) (begun t h.0)), tt)

begun_keys : (ks : PlainKeys) → AllBegun (keys_pieces ks)
begun_keys plain.no_keys = tt
begun_keys (plain.more_keys w needed t ks) = (begun_key w needed (type_pieces t), begun_keys ks)

-- no parameters are no rows
no_arguments : (before : List Piece) (ts : PlainArgs) → no_arg ts ≡ true → arguments before ts ≡ []
no_arguments before plain.no_args e = refl
no_arguments before (plain.more_args t n ts) e = absurd cc

no_rest_rows : (before : List Piece) (r : PlainRest) → no_rest_yet r ≡ true → rest_of before r ≡ []
no_rest_rows before plain.no_rest e = refl
no_rest_rows before (plain.rest t n) e = absurd cc

no_keys_rows : (ks : PlainKeys) → no_key ks ≡ true → keys_pieces ks ≡ []
no_keys_rows plain.no_keys e = refl
no_keys_rows (plain.more_keys w needed t ks) e = absurd cc

abbrev pub rows_of : PlainArgs → PlainArgs → PlainRest → PlainArgs → PlainKeys → PlainRest → List (List Piece)
rows_of required optional more trailing keys key_more =
    arguments [] required ++ arguments (sign mark.Question ∷ []) optional ++ rest_of (sign mark.Star ∷ []) more ++ arguments [] trailing ++ keys_pieces keys ++ rest_of (sign mark.DoubleStar ∷ []) key_more

no_rows : (required optional : PlainArgs) (more : PlainRest) (trailing : PlainArgs) (keys : PlainKeys) (key_more : PlainRest) → no_parameter required optional more trailing keys key_more ≡ true
    → rows_of required optional more trailing keys key_more ≡ []
no_rows required optional more trailing keys key_more e =
    let a = and_true (no_arg required) _ e in
    let b = and_true (no_arg optional) _ a.1 in
    let c = and_true (no_rest_yet more) _ b.1 in
    let d = and_true (no_arg trailing) _ c.1 in
    let f = and_true (no_key keys) (no_rest_yet key_more) d.1 in
    rw (no_arguments [] required a.0, no_arguments (sign mark.Question ∷ []) optional b.0, no_rest_rows (sign mark.Star ∷ []) more c.0, no_arguments [] trailing d.0, no_keys_rows keys f.0, no_rest_rows (sign mark.DoubleStar ∷ []) key_more f.1) refl

level_parameters : (none : Bool) (rs : List (List Piece)) (k : ℕ) → (none ≡ true → rs ≡ []) → AllBegun rs → Levels rs k → Level (sign mark.Open ∷ joined comma rs ++ sign mark.Close ∷ []) (listed none k)
level_parameters true rs k e b h = subst (λ rs. Level (sign mark.Open ∷ joined comma rs ++ sign mark.Close ∷ []) 0) (sym (e refl)) level_empty
level_parameters false rs k e b h = level_list rs k b h

-- ---- types

mutual
  pub level_type : (t : PlainTy) → IsType t → Level (type_pieces t) (nesting t)
  level_type (plain.name n plain.no_tys) h = level_append (level_name n) level_none
  level_type (plain.name n (plain.more_tys t ts)) h =
      let k = max (nesting t) (nestings whole ts) in
      level_append (level_name n)
      (square (level_joined comma (type_pieces t ∷ types_at whole ts) k level_comma (level_more (nesting t) k (omega arith) (level_type t h.1.0), levels_more (types_at whole ts) (nestings whole ts) k (omega arith) (levels_types whole ts h.1.1))))
  level_type (plain.single n) h = level_keyword a_keyword.Singleton (level_parentheses {k = 0} (begun_name of_class n h) (level_name n))
  level_type (plain.opt t) h = level_append (level_placed (needs_parentheses before_question t) (type_pieces t) (nesting t) (begun t h) (level_type t h)) (level_question t)
  level_type (plain.union ts) h = level_joined (blank ∷ sign mark.Bar ∷ blank ∷ []) (types_at in_union ts) (nestings in_union ts) (level_bar mark.Bar refl) (levels_types in_union ts h.1)
  level_type (plain.inter ts) h = level_joined (blank ∷ sign mark.Amp ∷ blank ∷ []) (types_at in_inter ts) (nestings in_inter ts) (level_bar mark.Amp refl) (levels_types in_inter ts h.1)
  level_type (plain.tuple ts) h = square (level_joined comma (types_at whole ts) (nestings whole ts) level_comma (levels_types whole ts h))
  level_type (plain.rec plain.no_keys) h = brace {k = 0} level_none
  level_type (plain.rec (plain.more_keys w needed t ks)) h =
      let k = max (nesting t) (keys_nesting ks) in
      brace_spaced (joined comma ((key_pieces w needed ++ type_pieces t) ∷ keys_pieces ks)) k (level_joined comma ((key_pieces w needed ++ type_pieces t) ∷ keys_pieces ks) k level_comma
      (level_append (level_key w needed) (level_more (nesting t) k (omega arith) (level_type t h.2)), levels_more (keys_pieces ks) (keys_nesting ks) k (omega arith) (levels_keys ks h.3)))
  level_type (plain.fun f) h = level_token token.Mark _ refl (level_function f h)
  level_type (plain.int n) h = level_token token.Int _ refl level_none
  level_type (plain.str w) h = level_token token.Str _ refl level_none
  level_type (plain.sym w) h = level_token token.Sym _ refl level_none
  level_type (plain.base b) h = level_token token.Ident (base_text b) (ident_quiet (base_text b)).0 level_none

  pub levels_types : (x : Site) (ts : PlainTys) → AreTypes ts → Levels (types_at x ts) (nestings x ts)
  levels_types x plain.no_tys h = tt
  levels_types x (plain.more_tys t ts) h =
      let k = max (around (needs_parentheses x t) (nesting t)) (nestings x ts) in
      (level_more (around (needs_parentheses x t) (nesting t)) k (omega arith) (level_placed (needs_parentheses x t) (type_pieces t) (nesting t) (begun t h.0) (level_type t h.0)), levels_more (types_at x ts) (nestings x ts) k (omega arith) (levels_types x ts h.1))

  levels_keys : (ks : PlainKeys) → AreKeys ks → Levels (keys_pieces ks) (keys_nesting ks)
  levels_keys plain.no_keys h = tt
  levels_keys (plain.more_keys w needed t ks) h =
      let k = max (nesting t) (keys_nesting ks) in
      (level_append (level_key w needed) (level_more (nesting t) k (omega arith) (level_type t h.2)), levels_more (keys_pieces ks) (keys_nesting ks) k (omega arith) (levels_keys ks h.3))

  pub level_function : (f : PlainFun) → IsFunction f → Level (function_pieces f) (function_nesting f)
  level_function (plain.function required optional more trailing keys key_more blk t) h =
      let inside = max (arguments_nesting required) (max (arguments_nesting optional) (max (rest_nesting more) (max (arguments_nesting trailing) (max (keys_nesting keys) (rest_nesting key_more))))) in
      let none = no_parameter required optional more trailing keys key_more in
      let k = max (listed none inside) (max (block_nesting blk) (around (needs_parentheses in_result t) (nesting t))) in
      let rows = rows_of required optional more trailing keys key_more in
      let begins : AllBegun rows =
      all_begun_append _ (rest_of (sign mark.DoubleStar ∷ []) key_more)
      (all_begun_append _ (keys_pieces keys)
      (all_begun_append _ (arguments [] trailing)
      (all_begun_append _ (rest_of (sign mark.Star ∷ []) more)
      (all_begun_append (arguments [] required) (arguments (sign mark.Question ∷ []) optional) (begun_arguments [] none_before required h.0) (begun_arguments (sign mark.Question ∷ []) (mark_before mark.Question refl refl) optional h.1))
      (begun_rest (sign mark.Star ∷ []) (mark_before mark.Star refl refl) more h.2))
      (begun_arguments [] none_before trailing h.3)) (begun_keys keys)) (begun_rest (sign mark.DoubleStar ∷ []) (mark_before mark.DoubleStar refl refl) key_more h.6) in
      let levels : Levels rows inside =
      levels_append _ (rest_of (sign mark.DoubleStar ∷ []) key_more) inside
      (levels_append _ (keys_pieces keys) inside
      (levels_append _ (arguments [] trailing) inside
      (levels_append _ (rest_of (sign mark.Star ∷ []) more) inside
      (levels_append (arguments [] required) (arguments (sign mark.Question ∷ []) optional) inside
      (levels_more (arguments [] required) (arguments_nesting required) inside (omega arith) (levels_arguments [] none_before required h.0))
      (levels_more (arguments (sign mark.Question ∷ []) optional) (arguments_nesting optional) inside (omega arith) (levels_arguments (sign mark.Question ∷ []) (mark_before mark.Question refl refl) optional h.1)))
      (levels_more (rest_of (sign mark.Star ∷ []) more) (rest_nesting more) inside (omega arith) (levels_rest (sign mark.Star ∷ []) (mark_before mark.Star refl refl) more h.2)))
      (levels_more (arguments [] trailing) (arguments_nesting trailing) inside (omega arith) (levels_arguments [] none_before trailing h.3)))
      (levels_more (keys_pieces keys) (keys_nesting keys) inside (omega arith) (levels_keys keys h.5)))
      (levels_more (rest_of (sign mark.DoubleStar ∷ []) key_more) (rest_nesting key_more) inside (omega arith) (levels_rest (sign mark.DoubleStar ∷ []) (mark_before mark.DoubleStar refl refl) key_more h.6)) in
      let parameters : Level (sign mark.Open ∷ joined comma rows ++ sign mark.Close ∷ []) k =
      level_more (listed none inside) k (omega arith) (level_parameters none rows inside (no_rows required optional more trailing keys key_more) begins levels) in
      level_append
      (behind_closing (sign mark.Open ∷ joined comma rows) (block_pieces blk) (sign mark.Close) k parameters (level_more (block_nesting blk) k (omega arith) (level_block blk h.7)))
      (level_blank (level_token token.Mark _ refl (level_blank (level_more (around (needs_parentheses in_result t) (nesting t)) k (omega arith) (level_placed (needs_parentheses in_result t) (type_pieces t) (nesting t) (begun t h.8) (level_type t h.8))))))

  levels_arguments : (before : List Piece) → IsBefore before → (ts : PlainArgs) → AreArguments ts → Levels (arguments before ts) (arguments_nesting ts)
  levels_arguments before i plain.no_args h = tt
  levels_arguments before i (plain.more_args t n ts) h =
      let k = max (nesting t) (arguments_nesting ts) in
      (level_append (level_append (i.0 k) (level_more (nesting t) k (omega arith) (level_type t h.0))) (level_name_behind n), levels_more (arguments before ts) (arguments_nesting ts) k (omega arith) (levels_arguments before i ts h.2))

  levels_rest : (before : List Piece) → IsBefore before → (r : PlainRest) → IsRest r → Levels (rest_of before r) (rest_nesting r)
  levels_rest before i plain.no_rest h = tt
  levels_rest before i (plain.rest t n) h = (level_append (level_append (i.0 (nesting t)) (level_type t h.0)) (level_name_behind n), tt)

  level_block : (blk : PlainBlock) → IsBlock blk → Level (block_pieces blk) (block_nesting blk)
  level_block plain.no_block h = level_none
  level_block (plain.block true f) h = level_blank (brace_spaced (function_pieces f) (function_nesting f) (level_function f h.0))
  level_block (plain.block false f) h = level_blank (level_token token.Mark _ refl (brace_spaced (function_pieces f) (function_nesting f) (level_function f h.0)))
