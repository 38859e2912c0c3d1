-- The printed form of types and functions.
use Rattle.std.specs.Prelude.{ℕ, Bool, true, false, not, if◌then◌else◌, codes, List, [], ◌∷◌, ◌++◌, Option, Some, None}
use Rattle.std.specs.Fmt.{signed_decimal}
use Rattle.sig_model.specs.PlainTy as plain
use Rattle.sig_model.specs.PlainTy.{PlainTy, PlainTys, PlainKeys, PlainArgs, PlainRest, PlainFun, PlainBlock}
use Rattle.rbs_printer.specs.Texts.{joined, base_text, name_text, string_text, ends_in_word}

-- Where a type stands.
pub data Site : Type 0 where
  -- where any type may stand as it is: in brackets, as an argument, a parameter, a key, or the type of a member
  whole : Site
  in_union : Site
  in_inter : Site
  -- before a question mark
  before_question : Site
  -- behind the arrow of a function
  result : Site

abbrev pub is_optional : PlainTy → Bool
is_optional (plain.opt t) = true
is_optional _ = false

abbrev pub result_of : PlainFun → PlainTy
result_of (plain.function required optional more trailing keys key_more blk t) = t

-- Whether a type stands in parentheses there. A question mark belongs to the result of a proc type, if that has none yet.
abbrev pub needs_parentheses : Site → PlainTy → Bool
needs_parentheses in_union (plain.union ts) = true
needs_parentheses in_inter (plain.union ts) = true
needs_parentheses in_inter (plain.inter ts) = true
needs_parentheses before_question (plain.union ts) = true
needs_parentheses before_question (plain.inter ts) = true
needs_parentheses before_question (plain.opt t) = true
needs_parentheses before_question (plain.fun f) = not (is_optional (result_of f))
needs_parentheses result (plain.union ts) = true
needs_parentheses result (plain.inter ts) = true
needs_parentheses _ _ = false

-- A question mark directly behind the name of a symbol would belong to that.
abbrev pub question_behind : PlainTy → List ℕ
question_behind (plain.sym w) = if ends_in_word w then codes " ?" else codes "?"
question_behind _ = codes "?"

abbrev pub in_parentheses : Bool → List ℕ → List ℕ
in_parentheses true w = codes "(" ++ w ++ codes ")"
in_parentheses false w = w

abbrev pub name_behind : Option (List ℕ) → List ℕ
name_behind None = []
name_behind (Some w) = codes " " ++ w

abbrev pub key_text : List ℕ → Bool → List ℕ
key_text w true = w ++ codes ": "
key_text w false = codes "?" ++ w ++ codes ": "

-- the text of the type, where it stands there
abbrev pub placed : Site → PlainTy → List ℕ → List ℕ
placed x t w = in_parentheses (needs_parentheses x t) w

abbrev mutual
  pub type_text : PlainTy → List ℕ
  type_text (plain.name n ts) = name_text n ++ arguments_text ts
  type_text (plain.single n) = codes "singleton(" ++ name_text n ++ codes ")"
  type_text (plain.opt t) = placed before_question t (type_text t) ++ question_behind t
  type_text (plain.union ts) = joined (codes " | ") (texts_at in_union ts)
  type_text (plain.inter ts) = joined (codes " & ") (texts_at in_inter ts)
  type_text (plain.tuple ts) = codes "[" ++ joined (codes ", ") (texts_at whole ts) ++ codes "]"
  type_text (plain.rec ks) = record_text ks
  type_text (plain.fun f) = codes "^" ++ function_text f
  type_text (plain.int n) = signed_decimal n
  type_text (plain.str w) = string_text w
  type_text (plain.sym w) = codes ":" ++ w
  type_text (plain.base b) = base_text b

  pub texts_at : Site → PlainTys → List (List ℕ)
  texts_at x plain.no_tys = []
  texts_at x (plain.more_tys t ts) = placed x t (type_text t) ∷ texts_at x ts

  -- the arguments of a name, where it has some
  pub arguments_text : PlainTys → List ℕ
  arguments_text plain.no_tys = []
  arguments_text (plain.more_tys t ts) = codes "[" ++ joined (codes ", ") (type_text t ∷ texts_at whole ts) ++ codes "]"

  pub record_text : PlainKeys → List ℕ
  record_text plain.no_keys = codes "{}"
  record_text (plain.more_keys w needed t ks) = codes "{ " ++ joined (codes ", ") ((key_text w needed ++ type_text t) ∷ key_texts ks) ++ codes " }"

  pub key_texts : PlainKeys → List (List ℕ)
  key_texts plain.no_keys = []
  key_texts (plain.more_keys w needed t ks) = (key_text w needed ++ type_text t) ∷ key_texts ks

  -- the parameters, the block and the result of a method, a block or a proc
  pub function_text : PlainFun → List ℕ
  function_text (plain.function required optional more trailing keys key_more blk t) =
      codes "("
      ++ joined (codes ", ") (argument_texts [] required ++ argument_texts (codes "?") optional ++ rest_texts (codes "*") more ++ argument_texts [] trailing ++ key_texts keys ++ rest_texts (codes "**") key_more)
      ++ codes ")" ++ block_text blk ++ codes " -> " ++ placed result t (type_text t)

  -- positional parameters, each with this mark before it
  pub argument_texts : List ℕ → PlainArgs → List (List ℕ)
  argument_texts before plain.no_args = []
  argument_texts before (plain.more_args t n more) = (before ++ type_text t ++ name_behind n) ∷ argument_texts before more

  pub rest_texts : List ℕ → PlainRest → List (List ℕ)
  rest_texts before plain.no_rest = []
  rest_texts before (plain.rest t n) = (before ++ type_text t ++ name_behind n) ∷ []

  pub block_text : PlainBlock → List ℕ
  block_text plain.no_block = []
  block_text (plain.block true f) = codes " { " ++ function_text f ++ codes " }"
  block_text (plain.block false f) = codes " ?{ " ++ function_text f ++ codes " }"
