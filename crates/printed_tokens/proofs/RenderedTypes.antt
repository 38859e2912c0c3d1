-- The pieces of types spell their printed form.
use Rattle.std.proofs.Common.{◌≡◌, refl, ◌∙◌, ap, ap₂, ℕ, Bool, true, false, List, [], ◌∷◌, ◌++◌, append_assoc, append-nil, map, Option, Some, None}
use Rattle.std.specs.Prelude.{codes, if◌then◌else◌}
use Rattle.std.specs.Fmt.{signed_decimal}
use Rattle.sig_model.specs.PlainTy as plain
use Rattle.sig_model.specs.PlainTy.{PlainTy, PlainTys, PlainKeys, PlainArgs, PlainRest, PlainFun, PlainBlock}
use Rattle.rbs_terminals.specs.declared.token.Mark.TheVariants as mark
use Rattle.rbs_printer.specs.Texts as text
use Rattle.rbs_printer.specs.Texts.{base_text, string_text, ends_in_word}
use Rattle.rbs_printer.specs.Types as types
use Rattle.rbs_printer.specs.Types.{Site, whole, in_union, in_inter, before_question, result, needs_parentheses, type_text, texts_at, arguments_text, record_text, key_text, key_texts, function_text, argument_texts, rest_texts, block_text}
use Rattle.printed_tokens.specs.Pieces.{Piece, blank, pieces_text}
use Rattle.printed_tokens.specs.Layout as layout
use Rattle.printed_tokens.specs.Layout.{sign, word, comma, joined, key_pieces, type_pieces, types_at, arguments_pieces, record_pieces, keys_pieces, function_pieces, arguments, rest_of, block_pieces, name_pieces}
use Rattle.printed_tokens.proofs.Spelled.{both, joined_is, rows_append, name_is}

in_parentheses : (t : Bool) (ps : List Piece) {w : List ℕ} → pieces_text ps ≡ w → pieces_text (layout.in_parentheses t ps) ≡ types.in_parentheses t w
in_parentheses true ps e = ap (λ w. 40 ∷ w) (both ps (sign mark.Close ∷ []) e refl)
in_parentheses false ps e = e

question_at : (t : Bool) → pieces_text (layout.where_set t (blank ∷ []) ++ sign mark.Question ∷ []) ≡ (if t then codes " ?" else codes "?")
question_at true = refl
question_at false = refl

question_behind : (t : PlainTy) → pieces_text (layout.question_behind t) ≡ types.question_behind t
question_behind (plain.sym w) = question_at (ends_in_word w)
question_behind _ = refl

name_behind : (n : Option (List ℕ)) → pieces_text (layout.name_behind n) ≡ types.name_behind n
name_behind None = refl
name_behind (Some w) = ap (λ w. 32 ∷ w) (append-nil w)

key_is : (w : List ℕ) (needed : Bool) → pieces_text (key_pieces w needed) ≡ key_text w needed
key_is w true = refl
key_is w false = refl

-- a list of texts in front
row : (ps : List Piece) (rows : List (List Piece)) {w : List ℕ} {ws : List (List ℕ)} → pieces_text ps ≡ w → map pieces_text rows ≡ ws → map pieces_text (ps ∷ rows) ≡ w ∷ ws
row ps rows e f = ap₂ (λ w ws. w ∷ ws) e f

flattened : (a b c d e : List ℕ) → (a ++ (b ++ c)) ++ (d ++ e) ≡ a ++ b ++ c ++ d ++ e
flattened a b c d e = simp append_assoc

-- parameters, a block and a result
function_parts : (rows : List (List Piece)) (blk to : List Piece) {ws : List (List ℕ)} {b r : List ℕ} → map pieces_text rows ≡ ws → pieces_text blk ≡ b → pieces_text to ≡ r
    → pieces_text (sign mark.Open ∷ joined comma rows ++ sign mark.Close ∷ blk ++ blank ∷ sign mark.Arrow ∷ blank ∷ to) ≡ codes "(" ++ text.joined (codes ", ") ws ++ codes ")" ++ b ++ codes " -> " ++ r
function_parts rows blk to {ws = ws} {b = b} {r = r} e f g =
    let behind = ap (λ w. codes " -> " ++ w) g in
    let front = both (joined comma rows) (sign mark.Close ∷ blk) (joined_is comma rows e) (ap (λ w. codes ")" ++ w) f) in
    ap (λ w. 40 ∷ w)
    (both (joined comma rows ++ sign mark.Close ∷ blk) (blank ∷ sign mark.Arrow ∷ blank ∷ to) front behind ∙ flattened (text.joined (codes ", ") ws) (codes ")") b (codes " -> ") r)

mutual
  pub type_is : (t : PlainTy) → pieces_text (type_pieces t) ≡ type_text t
  type_is (plain.name n ts) = both (name_pieces n) (arguments_pieces ts) (name_is n) (arguments_are ts)
  type_is (plain.single n) = ap (λ w. codes "singleton(" ++ w) (both (name_pieces n) (sign mark.Close ∷ []) (name_is n) refl)
  type_is (plain.opt t) =
      both (layout.placed before_question t (type_pieces t)) (layout.question_behind t) (in_parentheses (needs_parentheses before_question t) (type_pieces t) (type_is t)) (question_behind t)
  type_is (plain.union ts) = joined_is (blank ∷ sign mark.Bar ∷ blank ∷ []) (types_at in_union ts) (types_are in_union ts)
  type_is (plain.inter ts) = joined_is (blank ∷ sign mark.Amp ∷ blank ∷ []) (types_at in_inter ts) (types_are in_inter ts)
  type_is (plain.tuple ts) = ap (λ w. 91 ∷ w) (both (joined comma (types_at whole ts)) (sign mark.CloseSquare ∷ []) (joined_is comma (types_at whole ts) (types_are whole ts)) refl)
  type_is (plain.rec ks) = record_is ks
  type_is (plain.fun f) = ap (λ w. 94 ∷ w) (function_is f)
  type_is (plain.int n) = append-nil (signed_decimal n)
  type_is (plain.str w) = append-nil (string_text w)
  type_is (plain.sym w) = ap (λ w. 58 ∷ w) (append-nil w)
  type_is (plain.base b) = append-nil (base_text b)

  pub types_are : (x : Site) (ts : PlainTys) → map pieces_text (types_at x ts) ≡ texts_at x ts
  types_are x plain.no_tys = refl
  types_are x (plain.more_tys t ts) =
      row (layout.placed x t (type_pieces t)) (types_at x ts) (in_parentheses (needs_parentheses x t) (type_pieces t) (type_is t)) (types_are x ts)

  pub arguments_are : (ts : PlainTys) → pieces_text (arguments_pieces ts) ≡ arguments_text ts
  arguments_are plain.no_tys = refl
  arguments_are (plain.more_tys t ts) =
      ap (λ w. 91 ∷ w)
      (both (joined comma (type_pieces t ∷ types_at whole ts)) (sign mark.CloseSquare ∷ [])
      (joined_is comma (type_pieces t ∷ types_at whole ts) (row (type_pieces t) (types_at whole ts) (type_is t) (types_are whole ts))) refl)

  record_is : (ks : PlainKeys) → pieces_text (record_pieces ks) ≡ record_text ks
  record_is plain.no_keys = refl
  record_is (plain.more_keys w needed t ks) =
      let first = both (key_pieces w needed) (type_pieces t) (key_is w needed) (type_is t) in
      ap (λ w. codes "{ " ++ w)
      (both (joined comma ((key_pieces w needed ++ type_pieces t) ∷ keys_pieces ks)) (blank ∷ sign mark.CloseBrace ∷ [])
      (joined_is comma ((key_pieces w needed ++ type_pieces t) ∷ keys_pieces ks) (row (key_pieces w needed ++ type_pieces t) (keys_pieces ks) first (keys_are ks))) refl)

  keys_are : (ks : PlainKeys) → map pieces_text (keys_pieces ks) ≡ key_texts ks
  keys_are plain.no_keys = refl
  keys_are (plain.more_keys w needed t ks) =
      row (key_pieces w needed ++ type_pieces t) (keys_pieces ks) (both (key_pieces w needed) (type_pieces t) (key_is w needed) (type_is t)) (keys_are ks)

  pub function_is : (f : PlainFun) → pieces_text (function_pieces f) ≡ function_text f
  function_is (plain.function required optional more trailing keys key_more blk t) =
      let a = arguments [] required in
      let b = arguments (sign mark.Question ∷ []) optional in
      let c = rest_of (sign mark.Star ∷ []) more in
      let d = arguments [] trailing in
      let listed =
      rows_append (a ++ b ++ c ++ d ++ keys_pieces keys) (rest_of (sign mark.DoubleStar ∷ []) key_more)
      (rows_append (a ++ b ++ c ++ d) (keys_pieces keys)
      (rows_append (a ++ b ++ c) d
      (rows_append (a ++ b) c (rows_append a b (arguments_listed [] required) (arguments_listed (sign mark.Question ∷ []) optional)) (rest_listed (sign mark.Star ∷ []) more))
      (arguments_listed [] trailing)) (keys_are keys)) (rest_listed (sign mark.DoubleStar ∷ []) key_more) in
      function_parts (a ++ b ++ c ++ d ++ keys_pieces keys ++ rest_of (sign mark.DoubleStar ∷ []) key_more) (block_pieces blk) (layout.placed result t (type_pieces t))
      listed (block_is blk) (in_parentheses (needs_parentheses result t) (type_pieces t) (type_is t))

  arguments_listed : (before : List Piece) (ts : PlainArgs) → map pieces_text (arguments before ts) ≡ argument_texts (pieces_text before) ts
  arguments_listed before plain.no_args = refl
  arguments_listed before (plain.more_args t n more) =
      row (before ++ type_pieces t ++ layout.name_behind n) (arguments before more)
      (both (before ++ type_pieces t) (layout.name_behind n) (both before (type_pieces t) refl (type_is t)) (name_behind n)) (arguments_listed before more)

  rest_listed : (before : List Piece) (r : PlainRest) → map pieces_text (rest_of before r) ≡ rest_texts (pieces_text before) r
  rest_listed before plain.no_rest = refl
  rest_listed before (plain.rest t n) =
      row (before ++ type_pieces t ++ layout.name_behind n) []
      (both (before ++ type_pieces t) (layout.name_behind n) (both before (type_pieces t) refl (type_is t)) (name_behind n)) refl

  block_is : (b : PlainBlock) → pieces_text (block_pieces b) ≡ block_text b
  block_is plain.no_block = refl
  block_is (plain.block true f) = ap (λ w. codes " { " ++ w) (both (function_pieces f) (blank ∷ sign mark.CloseBrace ∷ []) (function_is f) refl)
  block_is (plain.block false f) = ap (λ w. codes " ?{ " ++ w) (both (function_pieces f) (blank ∷ sign mark.CloseBrace ∷ []) (function_is f) refl)
