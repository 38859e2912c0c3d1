-- Printed types are told apart.
use Rattle.std.proofs.Common.{ℕ, ◌≡◌, refl, sym, ◌∙◌, ap, subst, Bool, true, false, List, [], ◌∷◌, ◌++◌, inl, inr, arith}
use Rattle.std.specs.Prelude.{◌⊎◌, ◌==◌, ◌||◌, ◌&&◌, not, if◌then◌else◌, Option, Some, None}
use Rattle.sig_model.specs.declared.ty.BaseTy.{BaseTy}
use Rattle.sig_model.specs.declared.ty.BaseTy.TheVariants as base
use Rattle.sig_model.specs.PlainTy as plain
use Rattle.sig_model.specs.PlainTy.{PlainTy, PlainTys, PlainKeys, PlainArgs, PlainRest, PlainFun, PlainBlock}
use Rattle.rbs_lexer.specs.declared.token.TokenKind.TheVariants as token
use Rattle.rbs_lexer.specs.Names.{IsLower, IsMethodName}
use Rattle.rbs_lexer.proofs.Bytes.{bool_cases}
use Rattle.rbs_terminals.specs.declared.token.Mark.{Mark}
use Rattle.rbs_terminals.specs.declared.token.Mark.TheVariants as mark
use Rattle.rbs_terminals.specs.declared.token.Keyword.TheVariants as a_keyword
use Rattle.rbs_terminals.specs.Marks.{mark_text}
use Rattle.rbs_types.specs.Grammar.{of_type, of_class}
use Rattle.rbs_printer.specs.Texts.{ends_in_word, base_text}
use Rattle.rbs_printer.specs.Types.{Site, whole, in_union, in_inter, before_question, result as in_result, needs_parentheses, is_optional, result_of}
use Rattle.printed_tokens.specs.Pieces.{Piece, blank, tok, first_byte, ends, ends_name, ends_symbol, Apart}
use Rattle.printed_tokens.specs.Layout.{word, sign, keyword, joined, name_pieces, question_behind, in_parentheses, placed, name_behind, key_pieces, comma, type_pieces, types_at, arguments_pieces, record_pieces, keys_pieces, function_pieces, arguments, rest_of, block_pieces}
use Rattle.printed_signatures.specs.Writable.{IsType, AreTypes, AreKeys, IsFunction, AreArguments, IsRest, IsBlock, IsParameterName}
use Rattle.printed_signatures.proofs.KeywordWords.{name_rest}
use Rattle.printed_signatures.proofs.Appended.{first_append, apart_append, is_stop, is_end, stop_is_end, end_of_name, end_of_number, mark_is, Rows, rows_append, joined_apart}
use Rattle.printed_signatures.proofs.TextsApart.{integer_is, integer_fits, string_is}
use Rattle.printed_signatures.proofs.NamesApart.{lower_apart, keyword_apart, name_apart}
use Rattle.printed_signatures.proofs.NoStar.{starless}

-- the byte may stand behind the type: where it is a question mark, that doesn't go on with what stands last
abbrev pub may_end : PlainTy → ℕ → Bool
may_end (plain.sym w) b = ends_symbol (58 ∷ w) b
may_end (plain.union ts) b = is_stop b
may_end (plain.inter ts) b = is_stop b
may_end (plain.opt t) b = true
may_end (plain.fun f) b = if is_optional (result_of f) then true else is_stop b
may_end _ b = is_end b

stop_of_symbol : (w : List ℕ) (b : ℕ) → is_stop b ≡ true → ends_symbol w b ≡ true
stop_of_symbol w b e = rw e refl

either_true : (c d : Bool) → d ≡ true → (if c then true else d) ≡ true
either_true true d e = refl
either_true false d e = e

pub stop_ends : (t : PlainTy) (b : ℕ) → is_stop b ≡ true → may_end t b ≡ true
stop_ends (plain.sym w) b e = stop_of_symbol (58 ∷ w) b e
stop_ends (plain.union ts) b e = e
stop_ends (plain.inter ts) b e = e
stop_ends (plain.opt t) b e = refl
stop_ends (plain.fun f) b e = either_true (is_optional (result_of f)) (is_stop b) e
stop_ends _ b e = stop_is_end b e

-- behind a question mark anything may stand
question_last : (b : ℕ) → Apart (sign mark.Question ∷ []) b
question_last b = (mark_is mark.Question, tt, refl, tt)

-- ---- words that are types

base_apart : (t : BaseTy) (b : ℕ) → is_end b ≡ true → Apart (tok token.Ident (base_text t) ∷ []) b
base_apart base.True b e = ((refl, name_rest _ refl, λ h. absurd (omega (arith, h.0))), tt, end_of_name b e, tt)
base_apart _ b e = ((refl, name_rest _ refl, λ h. absurd (omega (arith, h.0))), tt, end_of_name b e, tt)

-- ---- lists

comma_begins : (b : ℕ) → is_stop (first_byte comma b) ≡ true
comma_begins b = refl

comma_apart : (b : ℕ) → Apart comma b
comma_apart b = (mark_is mark.Comma, tt, refl, tt)

pub by_commas : (rs : List (List Piece)) → Rows rs → (b : ℕ) → is_stop b ≡ true → Apart (joined comma rs) b
by_commas rs h b e = joined_apart comma comma_begins comma_apart rs h b e

-- a mark between blanks
abbrev pub between_blanks : Mark → List Piece
between_blanks m = blank ∷ sign m ∷ blank ∷ []

-- the mark is one that a blank ends
pub by_marks : (m : Mark) → ends token.Mark (mark_text m) 32 ≡ true → (rs : List (List Piece)) → Rows rs → (b : ℕ) → is_stop b ≡ true → Apart (joined (between_blanks m) rs) b
by_marks m f rs h b e = joined_apart (between_blanks m) (λ b. refl) (λ b. (mark_is m, tt, f, tt)) rs h b e

-- ---- parentheses

parentheses_apart : (ps : List Piece) → Apart ps 41 → (b : ℕ) → Apart (in_parentheses true ps) b
parentheses_apart ps h b = (mark_is mark.Open, tt, refl, apart_append ps (sign mark.Close ∷ []) b h (mark_is mark.Close, tt, refl, tt))

either_placed : (p : Bool) (ps : List Piece) (b : ℕ) → Apart ps 41 → (p ≡ false → Apart ps b) → Apart (in_parentheses p ps) b
either_placed true ps b h i = parentheses_apart ps h b
either_placed false ps b h i = i refl

-- a star is a mark by itself before a type
star_ends : (t : PlainTy) (n : Option (List ℕ)) → IsType t → (b : ℕ) → ends token.Mark (42 ∷ []) (first_byte (type_pieces t ++ name_behind n) b) ≡ true
star_ends t n h b = let other : (first_byte (type_pieces t ++ name_behind n) b == 42) ≡ false = subst (λ c. (c == 42) ≡ false) (sym (first_append (type_pieces t) (name_behind n) b)) (starless t h (first_byte (name_behind n) b)) in ap not other

optional_ends : (f : PlainFun) (b : ℕ) → not (is_optional (result_of f)) ≡ false → may_end (plain.fun f) b ≡ true
optional_ends f b e = bool_cases (is_optional (result_of f)) (λ t. rw t refl) (λ n. absurd (clash (sym (ap not n) ∙ e)))
  where
    clash : true ≡ false → ⊥
    clash e = cc

no_method_name : IsMethodName [] → ⊥
no_method_name (inl (inl (inl h))) = h
no_method_name (inl (inl (inr h))) = h
no_method_name (inl (inr ([], b, h, i, e))) = cc
no_method_name (inl (inr (c ∷ w, b, h, i, e))) = cc
no_method_name (inr h) = cc

symbol_questioned : (w : List ℕ) → IsMethodName w → (b : ℕ) (in_word : Bool) → ends_in_word w ≡ in_word → Apart (tok token.Sym (58 ∷ w) ∷ question_behind (plain.sym w)) b
symbol_questioned [] h b in_word e = absurd (no_method_name h)
symbol_questioned (c ∷ w) h b true e = rw e ((refl, h), tt, refl, question_last b)
symbol_questioned (c ∷ w) h b false e = rw e ((refl, h), tt, refl, question_last b)

-- what is told apart from each stop
abbrev Stopped : List Piece → Type 0
Stopped ps = (b : ℕ) → is_stop b ≡ true → Apart ps b

key_apart : (w : List ℕ) (needed : Bool) (t : PlainTy) → IsLower w → Stopped (type_pieces t) → Stopped (key_pieces w needed ++ type_pieces t)
key_apart w true t l h b e = lower_apart w l (sign mark.Colon ∷ blank ∷ type_pieces t) b refl (mark_is mark.Colon, tt, refl, h b e)
key_apart w false t l h b e = (mark_is mark.Question, tt, refl, lower_apart w l (sign mark.Colon ∷ blank ∷ type_pieces t) b refl (mark_is mark.Colon, tt, refl, h b e))

-- a type with a name or none
argument_apart : (t : PlainTy) (n : Option (List ℕ)) → Stopped (type_pieces t) → IsParameterName n → Stopped (type_pieces t ++ name_behind n)
argument_apart t None h i b e = apart_append (type_pieces t) [] b (h b e) tt
argument_apart t (Some w) h i b e = apart_append (type_pieces t) (blank ∷ word w ∷ []) b (h 32 refl) (lower_apart w i [] b (end_of_name b (stop_is_end b e)) tt)

-- at each place a stop may stand behind the type
placed_stopped : (x : Site) (t : PlainTy) → Stopped (type_pieces t) → Stopped (placed x t (type_pieces t))
placed_stopped x t h b e = either_placed (needs_parentheses x t) (type_pieces t) b (h 41 refl) (λ f. h b e)

-- with a question mark behind it
pub questioned_apart : (t : PlainTy) → IsType t → ((b : ℕ) → may_end t b ≡ true → Apart (type_pieces t) b) → (b : ℕ) → Apart (placed before_question t (type_pieces t) ++ question_behind t) b
questioned_apart (plain.union ts) h r b = apart_append (in_parentheses true (type_pieces (plain.union ts))) (sign mark.Question ∷ []) b (parentheses_apart (type_pieces (plain.union ts)) (r 41 refl) 63) (question_last b)
questioned_apart (plain.inter ts) h r b = apart_append (in_parentheses true (type_pieces (plain.inter ts))) (sign mark.Question ∷ []) b (parentheses_apart (type_pieces (plain.inter ts)) (r 41 refl) 63) (question_last b)
questioned_apart (plain.opt t) h r b = apart_append (in_parentheses true (type_pieces (plain.opt t))) (sign mark.Question ∷ []) b (parentheses_apart (type_pieces (plain.opt t)) (r 41 refl) 63) (question_last b)
questioned_apart (plain.fun f) h r b =
    apart_append (in_parentheses (not (is_optional (result_of f))) (type_pieces (plain.fun f))) (sign mark.Question ∷ []) b
    (either_placed (not (is_optional (result_of f))) (type_pieces (plain.fun f)) 63 (r 41 (stop_ends (plain.fun f) 41 refl)) (λ e. r 63 (optional_ends f 63 e))) (question_last b)
questioned_apart (plain.sym w) h r b = symbol_questioned w h b (ends_in_word w) refl
questioned_apart (plain.name n ts) h r b = apart_append (type_pieces (plain.name n ts)) (sign mark.Question ∷ []) b (r 63 refl) (question_last b)
questioned_apart (plain.single n) h r b = apart_append (type_pieces (plain.single n)) (sign mark.Question ∷ []) b (r 63 refl) (question_last b)
questioned_apart (plain.tuple ts) h r b = apart_append (type_pieces (plain.tuple ts)) (sign mark.Question ∷ []) b (r 63 refl) (question_last b)
questioned_apart (plain.rec ks) h r b = apart_append (type_pieces (plain.rec ks)) (sign mark.Question ∷ []) b (r 63 refl) (question_last b)
questioned_apart (plain.int n) h r b = apart_append (type_pieces (plain.int n)) (sign mark.Question ∷ []) b (r 63 refl) (question_last b)
questioned_apart (plain.str w) h r b = apart_append (type_pieces (plain.str w)) (sign mark.Question ∷ []) b (r 63 refl) (question_last b)
questioned_apart (plain.base t) h r b = apart_append (type_pieces (plain.base t)) (sign mark.Question ∷ []) b (r 63 refl) (question_last b)

-- behind the arrow of a function, where the byte may stand behind it
result_apart : (t : PlainTy) → ((b : ℕ) → may_end t b ≡ true → Apart (type_pieces t) b) → (b : ℕ) → (if is_optional t then true else is_stop b) ≡ true → Apart (placed in_result t (type_pieces t)) b
result_apart (plain.opt t) h b e = h b refl
result_apart (plain.union ts) h b e = placed_stopped in_result (plain.union ts) (λ b e. h b e) b e
result_apart (plain.inter ts) h b e = placed_stopped in_result (plain.inter ts) (λ b e. h b e) b e
result_apart (plain.fun f) h b e = placed_stopped in_result (plain.fun f) (λ b e. h b (stop_ends (plain.fun f) b e)) b e
result_apart (plain.name n ts) h b e = placed_stopped in_result (plain.name n ts) (λ b e. h b (stop_is_end b e)) b e
result_apart (plain.single n) h b e = placed_stopped in_result (plain.single n) (λ b e. h b (stop_is_end b e)) b e
result_apart (plain.tuple ts) h b e = placed_stopped in_result (plain.tuple ts) (λ b e. h b (stop_is_end b e)) b e
result_apart (plain.rec ks) h b e = placed_stopped in_result (plain.rec ks) (λ b e. h b (stop_is_end b e)) b e
result_apart (plain.int n) h b e = placed_stopped in_result (plain.int n) (λ b e. h b (stop_is_end b e)) b e
result_apart (plain.str w) h b e = placed_stopped in_result (plain.str w) (λ b e. h b (stop_is_end b e)) b e
result_apart (plain.sym w) h b e = placed_stopped in_result (plain.sym w) (λ b e. h b (stop_of_symbol (58 ∷ w) b e)) b e
result_apart (plain.base t) h b e = placed_stopped in_result (plain.base t) (λ b e. h b (stop_is_end b e)) b e

mutual
  -- told apart from each byte that may end the type
  pub type_apart : (t : PlainTy) → IsType t → (b : ℕ) → may_end t b ≡ true → Apart (type_pieces t) b
  type_apart (plain.name n plain.no_tys) h b e = apart_append (name_pieces n) [] b (name_apart of_type n h.0 b (end_of_name b e)) tt
  type_apart (plain.name n (plain.more_tys t ts)) h b e =
      apart_append (name_pieces n) (arguments_pieces (plain.more_tys t ts)) b (name_apart of_type n h.0 91 refl) (
        mark_is mark.OpenSquare,
        tt,
        refl,
        apart_append (joined comma (type_pieces t ∷ types_at whole ts)) (sign mark.CloseSquare ∷ []) b
            (by_commas (type_pieces t ∷ types_at whole ts) ((λ c f. type_apart t h.1.0 c (stop_ends t c f)), types_apart whole ts h.1.1) 93 refl) (mark_is mark.CloseSquare, tt, refl, tt),
      )
  type_apart (plain.single n) h b e =
      keyword_apart a_keyword.Singleton (sign mark.Open ∷ name_pieces n ++ sign mark.Close ∷ []) b refl
      (mark_is mark.Open, tt, refl, apart_append (name_pieces n) (sign mark.Close ∷ []) b (name_apart of_class n h 41 refl) (mark_is mark.Close, tt, refl, tt))
  type_apart (plain.opt t) h b e = questioned_apart t h (λ c f. type_apart t h c f) b
  type_apart (plain.union ts) h b e = by_marks mark.Bar refl (types_at in_union ts) (types_apart in_union ts h.1) b e
  type_apart (plain.inter ts) h b e = by_marks mark.Amp refl (types_at in_inter ts) (types_apart in_inter ts h.1) b e
  type_apart (plain.tuple ts) h b e =
      (mark_is mark.OpenSquare, tt, refl, apart_append (joined comma (types_at whole ts)) (sign mark.CloseSquare ∷ []) b (by_commas (types_at whole ts) (types_apart whole ts h) 93 refl) (mark_is mark.CloseSquare, tt, refl, tt))
  type_apart (plain.rec plain.no_keys) h b e = (mark_is mark.OpenBrace, tt, refl, (mark_is mark.CloseBrace, tt, refl, tt))
  type_apart (plain.rec (plain.more_keys w needed t ks)) h b e = (
    mark_is mark.OpenBrace,
    tt,
    refl,
    apart_append (joined comma ((key_pieces w needed ++ type_pieces t) ∷ keys_pieces ks)) (blank ∷ sign mark.CloseBrace ∷ []) b
        (by_commas ((key_pieces w needed ++ type_pieces t) ∷ keys_pieces ks) (key_apart w needed t h.0 (λ c f. type_apart t h.2 c (stop_ends t c f)), keys_apart ks h.3) 32 refl) (mark_is mark.CloseBrace, tt, refl, tt),
  )
  type_apart (plain.fun f) h b e = (mark_is mark.Caret, tt, refl, function_apart f h b e)
  type_apart (plain.int n) h b e = (integer_is n h, integer_fits n h, end_of_number b e, tt)
  type_apart (plain.str w) h b e = (string_is w h, tt, refl, tt)
  type_apart (plain.sym w) h b e = ((refl, h), tt, e, tt)
  type_apart (plain.base t) h b e = base_apart t b e

  pub types_apart : (x : Site) (ts : PlainTys) → AreTypes ts → Rows (types_at x ts)
  types_apart x plain.no_tys h = tt
  types_apart x (plain.more_tys t ts) h = (placed_stopped x t (λ b e. type_apart t h.0 b (stop_ends t b e)), types_apart x ts h.1)

  keys_apart : (ks : PlainKeys) → AreKeys ks → Rows (keys_pieces ks)
  keys_apart plain.no_keys h = tt
  keys_apart (plain.more_keys w needed t ks) h = (key_apart w needed t h.0 (λ b e. type_apart t h.2 b (stop_ends t b e)), keys_apart ks h.3)

  -- a function, where the byte may stand behind its result
  pub function_apart : (f : PlainFun) → IsFunction f → (b : ℕ) → may_end (plain.fun f) b ≡ true → Apart (function_pieces f) b
  function_apart (plain.function required optional more trailing keys key_more blk t) h b e =
      let rows = arguments [] required ++ arguments (sign mark.Question ∷ []) optional ++ rest_of (sign mark.Star ∷ []) more ++ arguments [] trailing ++ keys_pieces keys ++ rest_of (sign mark.DoubleStar ∷ []) key_more in
      let listed : Rows rows =
      rows_append _ (rest_of (sign mark.DoubleStar ∷ []) key_more)
      (rows_append _ (keys_pieces keys)
      (rows_append _ (arguments [] trailing)
      (rows_append _ (rest_of (sign mark.Star ∷ []) more)
      (rows_append (arguments [] required) (arguments (sign mark.Question ∷ []) optional) (plain_arguments required h.0) (optional_arguments optional h.1)) (starred more h.2))
      (plain_arguments trailing h.3)) (keys_apart keys h.5)) (double_starred key_more h.6) in (
        mark_is mark.Open,
        tt,
        refl,
        apart_append (joined comma rows ++ sign mark.Close ∷ block_pieces blk) (blank ∷ sign mark.Arrow ∷ blank ∷ placed in_result t (type_pieces t)) b
            (apart_append (joined comma rows) (sign mark.Close ∷ block_pieces blk) 32 (by_commas rows listed 41 refl) (mark_is mark.Close, tt, refl, block_apart blk h.7))
            (mark_is mark.Arrow, tt, refl, result_apart t (λ b e. type_apart t h.8 b e) b e),
      )

  plain_arguments : (ts : PlainArgs) → AreArguments ts → Rows (arguments [] ts)
  plain_arguments plain.no_args h = tt
  plain_arguments (plain.more_args t n ts) h = (argument_apart t n (λ b e. type_apart t h.0 b (stop_ends t b e)) h.1, plain_arguments ts h.2)

  optional_arguments : (ts : PlainArgs) → AreArguments ts → Rows (arguments (sign mark.Question ∷ []) ts)
  optional_arguments plain.no_args h = tt
  optional_arguments (plain.more_args t n ts) h = ((λ b e. (mark_is mark.Question, tt, refl, argument_apart t n (λ b e. type_apart t h.0 b (stop_ends t b e)) h.1 b e)), optional_arguments ts h.2)

  starred : (r : PlainRest) → IsRest r → Rows (rest_of (sign mark.Star ∷ []) r)
  starred plain.no_rest h = tt
  starred (plain.rest t n) h = ((λ b e. (mark_is mark.Star, tt, star_ends t n h.0 b, argument_apart t n (λ b e. type_apart t h.0 b (stop_ends t b e)) h.1 b e)), tt)

  double_starred : (r : PlainRest) → IsRest r → Rows (rest_of (sign mark.DoubleStar ∷ []) r)
  double_starred plain.no_rest h = tt
  double_starred (plain.rest t n) h = ((λ b e. (mark_is mark.DoubleStar, tt, refl, argument_apart t n (λ b e. type_apart t h.0 b (stop_ends t b e)) h.1 b e)), tt)

  block_apart : (blk : PlainBlock) → IsBlock blk → Apart (block_pieces blk) 32
  block_apart plain.no_block h = tt
  block_apart (plain.block true f) h =
      (mark_is mark.OpenBrace, tt, refl, apart_append (function_pieces f) (blank ∷ sign mark.CloseBrace ∷ []) 32 (function_apart f h.0 32 (stop_ends (plain.fun f) 32 refl)) (mark_is mark.CloseBrace, tt, refl, tt))
  block_apart (plain.block false f) h = (
    mark_is mark.Question,
    tt,
    refl,
    (
      mark_is mark.OpenBrace,
      tt,
      refl,
      apart_append (function_pieces f) (blank ∷ sign mark.CloseBrace ∷ []) 32 (function_apart f h.0 32 (stop_ends (plain.fun f) 32 refl)) (mark_is mark.CloseBrace, tt, refl, tt),
    ),
  )
