-- The printed form of declarations as pieces and lines.
use Rattle.std.specs.Prelude.{ℕ, suc, Bool, true, false, ◌==◌, if◌then◌else◌, codes, List, [], ◌∷◌, ◌++◌, map, Option, Some, None}
use Rattle.std.specs.Fmt.{signed_decimal}
use Rattle.std.specs.Char.{is_ascii_uppercase}
use Rattle.source_text.specs.Characters.{starts_word}
use Rattle.sig_model.specs.declared.ty.TypeName.{TypeName}
use Rattle.sig_model.specs.declared.decl.Variance.{Variance}
use Rattle.sig_model.specs.declared.decl.Variance.TheVariants as variance
use Rattle.sig_model.specs.declared.decl.Vis.{Vis}
use Rattle.sig_model.specs.declared.decl.Notes.{Notes}
use Rattle.sig_model.specs.PlainTy as plain
use Rattle.sig_model.specs.PlainTy.{PlainTy, PlainTys, PlainKeys, PlainArgs, PlainRest, PlainFun, PlainBlock}
use Rattle.sig_model.specs.PlainMember.{PlainParam, PlainMethod, PlainMember, method, attr, mixin, alias, ivar, section}
use Rattle.sig_model.specs.PlainDecl as decl
use Rattle.sig_model.specs.PlainDecl.{PlainDecl, PlainBody, PlainParts, PlainDecls}
use Rattle.rbs_lexer.specs.declared.token.TokenKind.{TokenKind}
use Rattle.rbs_lexer.specs.declared.token.TokenKind.TheVariants as token
use Rattle.rbs_lexer.specs.Names.{is_ending}
use Rattle.rbs_terminals.specs.declared.token.Mark.{Mark}
use Rattle.rbs_terminals.specs.declared.token.Mark.TheVariants as mark
use Rattle.rbs_terminals.specs.declared.token.Keyword.{Keyword}
use Rattle.rbs_terminals.specs.declared.token.Keyword.TheVariants as a_keyword
use Rattle.rbs_terminals.specs.Marks.{mark_text}
use Rattle.rbs_terminals.specs.Keywords.{keyword_text}
use Rattle.rbs_printer.specs.Texts.{base_text, vis_text, attribute_text, mixin_text, string_text, ends_in_word}
use Rattle.rbs_printer.specs.Types.{Site, whole, in_union, in_inter, before_question, result, needs_parentheses}
use Rattle.printed_tokens.specs.Pieces.{Piece, blank, tok, Line}

-- the kind of token that a word is
abbrev pub word_token : List ℕ → TokenKind
word_token [] = token.Ident
word_token (b ∷ w) = if is_ascii_uppercase b then token.Upper else if b == 95 then behind_underscore w else token.Ident
  where
    behind_underscore : List ℕ → TokenKind
    behind_underscore [] = token.Ident
    behind_underscore (c ∷ v) = if is_ascii_uppercase c then token.IfaceName else token.Ident

abbrev pub sign : Mark → Piece
sign m = tok token.Mark (mark_text m)

abbrev pub word : List ℕ → Piece
word w = tok (word_token w) w

abbrev pub keyword : Keyword → Piece
keyword k = tok token.Ident (keyword_text k)

-- these lists of pieces with another between each two
abbrev pub joined : List Piece → List (List Piece) → List Piece
joined by [] = []
joined by (w ∷ []) = w
joined by (w ∷ v ∷ ws) = w ++ by ++ joined by (v ∷ ws)

abbrev pub where_set : Bool → List Piece → List Piece
where_set true ps = ps
where_set false ps = []

-- ---- names

abbrev pub path_pieces : List (List ℕ) → List Piece
path_pieces [] = []
path_pieces (w ∷ []) = word w ∷ []
path_pieces (w ∷ v ∷ ws) = word w ∷ sign mark.Scope ∷ path_pieces (v ∷ ws)

abbrev pub name_pieces : TypeName → List Piece
name_pieces n = where_set n.rooted (sign mark.Scope ∷ []) ++ path_pieces n.path

-- a method's name without the mark that ends it
abbrev pub stem : List ℕ → List ℕ
stem [] = []
stem (b ∷ []) = if is_ending b then [] else b ∷ []
stem (b ∷ c ∷ w) = b ∷ stem (c ∷ w)

-- the mark that ends a method's name
abbrev pub ending : List ℕ → List Piece
ending [] = []
ending (b ∷ []) = if is_ending b then tok token.Mark (b ∷ []) ∷ [] else []
ending (b ∷ c ∷ w) = ending (c ∷ w)

-- each byte of an operator is a mark
abbrev pub operator_pieces : List ℕ → List Piece
operator_pieces [] = []
operator_pieces (b ∷ w) = tok token.Mark (b ∷ []) ∷ operator_pieces w

abbrev pub method_pieces : List ℕ → List Piece
method_pieces [] = []
method_pieces (b ∷ w) = if starts_word b then word (stem (b ∷ w)) ∷ ending (b ∷ w) else operator_pieces (b ∷ w)

-- ---- types

abbrev pub question_behind : PlainTy → List Piece
question_behind (plain.sym w) = where_set (ends_in_word w) (blank ∷ []) ++ sign mark.Question ∷ []
question_behind _ = sign mark.Question ∷ []

abbrev pub in_parentheses : Bool → List Piece → List Piece
in_parentheses true ps = sign mark.Open ∷ ps ++ sign mark.Close ∷ []
in_parentheses false ps = ps

abbrev pub placed : Site → PlainTy → List Piece → List Piece
placed x t ps = in_parentheses (needs_parentheses x t) ps

abbrev pub name_behind : Option (List ℕ) → List Piece
name_behind None = []
name_behind (Some w) = blank ∷ word w ∷ []

abbrev pub key_pieces : List ℕ → Bool → List Piece
key_pieces w true = word w ∷ sign mark.Colon ∷ blank ∷ []
key_pieces w false = sign mark.Question ∷ word w ∷ sign mark.Colon ∷ blank ∷ []

-- a comma and a blank
abbrev pub comma : List Piece
comma = sign mark.Comma ∷ blank ∷ []

abbrev mutual
  pub type_pieces : PlainTy → List Piece
  type_pieces (plain.name n ts) = name_pieces n ++ arguments_pieces ts
  type_pieces (plain.single n) = keyword a_keyword.Singleton ∷ sign mark.Open ∷ name_pieces n ++ sign mark.Close ∷ []
  type_pieces (plain.opt t) = placed before_question t (type_pieces t) ++ question_behind t
  type_pieces (plain.union ts) = joined (blank ∷ sign mark.Bar ∷ blank ∷ []) (types_at in_union ts)
  type_pieces (plain.inter ts) = joined (blank ∷ sign mark.Amp ∷ blank ∷ []) (types_at in_inter ts)
  type_pieces (plain.tuple ts) = sign mark.OpenSquare ∷ joined comma (types_at whole ts) ++ sign mark.CloseSquare ∷ []
  type_pieces (plain.rec ks) = record_pieces ks
  type_pieces (plain.fun f) = sign mark.Caret ∷ function_pieces f
  type_pieces (plain.int n) = tok token.Int (signed_decimal n) ∷ []
  type_pieces (plain.str w) = tok token.Str (string_text w) ∷ []
  type_pieces (plain.sym w) = tok token.Sym (58 ∷ w) ∷ []
  type_pieces (plain.base b) = tok token.Ident (base_text b) ∷ []

  pub types_at : Site → PlainTys → List (List Piece)
  types_at x plain.no_tys = []
  types_at x (plain.more_tys t ts) = placed x t (type_pieces t) ∷ types_at x ts

  pub arguments_pieces : PlainTys → List Piece
  arguments_pieces plain.no_tys = []
  arguments_pieces (plain.more_tys t ts) = sign mark.OpenSquare ∷ joined comma (type_pieces t ∷ types_at whole ts) ++ sign mark.CloseSquare ∷ []

  pub record_pieces : PlainKeys → List Piece
  record_pieces plain.no_keys = sign mark.OpenBrace ∷ sign mark.CloseBrace ∷ []
  record_pieces (plain.more_keys w needed t ks) = sign mark.OpenBrace ∷ blank ∷ joined comma ((key_pieces w needed ++ type_pieces t) ∷ keys_pieces ks) ++ blank ∷ sign mark.CloseBrace ∷ []

  pub keys_pieces : PlainKeys → List (List Piece)
  keys_pieces plain.no_keys = []
  keys_pieces (plain.more_keys w needed t ks) = (key_pieces w needed ++ type_pieces t) ∷ keys_pieces ks

  -- the parameters, the block and the result of a function
  pub function_pieces : PlainFun → List Piece
  function_pieces (plain.function required optional more trailing keys key_more blk t) =
      sign mark.Open
      ∷ joined comma
      (arguments [] required ++ arguments (sign mark.Question ∷ []) optional ++ rest_of (sign mark.Star ∷ []) more ++ arguments [] trailing ++ keys_pieces keys ++ rest_of (sign mark.DoubleStar ∷ []) key_more)
      ++ sign mark.Close ∷ block_pieces blk ++ blank ∷ sign mark.Arrow ∷ blank ∷ placed result t (type_pieces t)

  -- positional parameters, each with this mark before it
  pub arguments : List Piece → PlainArgs → List (List Piece)
  arguments before plain.no_args = []
  arguments before (plain.more_args t n more) = (before ++ type_pieces t ++ name_behind n) ∷ arguments before more

  pub rest_of : List Piece → PlainRest → List (List Piece)
  rest_of before plain.no_rest = []
  rest_of before (plain.rest t n) = (before ++ type_pieces t ++ name_behind n) ∷ []

  pub block_pieces : PlainBlock → List Piece
  block_pieces plain.no_block = []
  block_pieces (plain.block true f) = blank ∷ sign mark.OpenBrace ∷ blank ∷ function_pieces f ++ blank ∷ sign mark.CloseBrace ∷ []
  block_pieces (plain.block false f) = blank ∷ sign mark.Question ∷ sign mark.OpenBrace ∷ blank ∷ function_pieces f ++ blank ∷ sign mark.CloseBrace ∷ []

-- ---- members

abbrev pub bound_pieces : Option PlainTy → List Piece
bound_pieces None = []
bound_pieces (Some t) = blank ∷ sign mark.Less ∷ blank ∷ type_pieces t

abbrev pub variance_pieces : Variance → List Piece
variance_pieces variance.Fixed = []
variance_pieces variance.Out = keyword a_keyword.Out ∷ blank ∷ []
variance_pieces variance.In = keyword a_keyword.In ∷ blank ∷ []

abbrev pub parameter_pieces : PlainParam → List Piece
parameter_pieces p = where_set p.unchecked (keyword a_keyword.Unchecked ∷ blank ∷ []) ++ variance_pieces p.variance ++ word p.name ∷ bound_pieces p.bound

abbrev pub parameters_pieces : List PlainParam → List Piece
parameters_pieces [] = []
parameters_pieces (p ∷ ps) = sign mark.OpenSquare ∷ joined comma (map parameter_pieces (p ∷ ps)) ++ sign mark.CloseSquare ∷ []

abbrev pub overload_parameters : List PlainParam → List Piece
overload_parameters [] = []
overload_parameters (p ∷ ps) = parameters_pieces (p ∷ ps) ++ blank ∷ []

abbrev pub overload_pieces : PlainMethod → List Piece
overload_pieces m = overload_parameters m.params ++ function_pieces m.fun

abbrev pub vis_before : Option Vis → List Piece
vis_before None = []
vis_before (Some v) = tok token.Ident (vis_text v) ∷ blank ∷ []

abbrev pub self_before : Bool → List Piece
self_before single = where_set single (keyword a_keyword.SelfWord ∷ sign mark.Dot ∷ [])

abbrev pub member_pieces : PlainMember → List Piece
member_pieces (method v single w ms) =
    vis_before v ++ keyword a_keyword.Def ∷ blank ∷ self_before single ++ method_pieces w ++ sign mark.Colon ∷ blank ∷ joined (blank ∷ sign mark.Bar ∷ blank ∷ []) (map overload_pieces ms)
member_pieces (attr v k w t) = vis_before v ++ tok token.Ident (attribute_text k) ∷ blank ∷ word w ∷ sign mark.Colon ∷ blank ∷ type_pieces t
member_pieces (mixin k t) = tok token.Ident (mixin_text k) ∷ blank ∷ type_pieces t
member_pieces (alias new old) = keyword a_keyword.Alias ∷ blank ∷ method_pieces new ++ blank ∷ method_pieces old
member_pieces (ivar single w t) = self_before single ++ tok token.Ivar (64 ∷ w) ∷ sign mark.Colon ∷ blank ∷ type_pieces t
member_pieces (section v) = tok token.Ident (vis_text v) ∷ []

-- ---- declarations

abbrev pub annotation_piece : List ℕ → Piece
annotation_piece w = tok token.Annotation (codes "%a{" ++ w ++ codes "}")

-- A line with notes above it: the comments stand above the first of the annotations, or above the line itself where there are none.
abbrev pub annotated : ℕ → List (List ℕ) → List (List ℕ) → List Piece → List Line
annotated depth comments [] ps = record { depth = depth; comments = comments; pieces = ps } ∷ []
annotated depth comments (w ∷ ws) ps = record { depth = depth; comments = comments; pieces = annotation_piece w ∷ [] } ∷ annotated depth [] ws ps

abbrev pub noted : ℕ → Notes → List Piece → List Line
noted depth n ps = annotated depth n.comments n.annotations ps

abbrev pub plain_line : ℕ → List Piece → Line
plain_line depth ps = record { depth = depth; comments = []; pieces = ps }

abbrev pub end_line : ℕ → Line
end_line depth = plain_line depth (keyword a_keyword.End ∷ [])

abbrev pub parent_pieces : Option PlainTy → List Piece
parent_pieces None = []
parent_pieces (Some t) = blank ∷ sign mark.Less ∷ blank ∷ type_pieces t

abbrev pub selves_pieces : PlainTys → List Piece
selves_pieces ts = among (types_at whole ts)
  where
    among : List (List Piece) → List Piece
    among [] = []
    among (w ∷ ws) = sign mark.Colon ∷ blank ∷ joined comma (w ∷ ws)

-- the first line of a declaration
abbrev pub heading : PlainBody → List Piece
heading (decl.class n ps t parts) = keyword a_keyword.Class ∷ blank ∷ name_pieces n ++ parameters_pieces ps ++ parent_pieces t
heading (decl.module n ps ts parts) = keyword a_keyword.Module ∷ blank ∷ name_pieces n ++ parameters_pieces ps ++ selves_pieces ts
heading (decl.iface n ps parts) = keyword a_keyword.Interface ∷ blank ∷ name_pieces n ++ parameters_pieces ps
heading (decl.alias n ps t) = keyword a_keyword.Type ∷ blank ∷ name_pieces n ++ parameters_pieces ps ++ blank ∷ sign mark.Equals ∷ blank ∷ type_pieces t
heading (decl.const n t) = name_pieces n ++ sign mark.Colon ∷ blank ∷ type_pieces t

abbrev mutual
  -- the lines behind the first
  pub inner_lines : ℕ → PlainBody → List Line
  inner_lines depth (decl.class n ps t parts) = parts_lines (suc depth) parts ++ end_line depth ∷ []
  inner_lines depth (decl.module n ps ts parts) = parts_lines (suc depth) parts ++ end_line depth ∷ []
  inner_lines depth (decl.iface n ps parts) = parts_lines (suc depth) parts ++ end_line depth ∷ []
  inner_lines depth (decl.alias n ps t) = []
  inner_lines depth (decl.const n t) = []

  pub decl_lines : ℕ → PlainDecl → List Line
  decl_lines depth (decl.decl place notes body) = noted depth notes (heading body) ++ inner_lines depth body

  pub parts_lines : ℕ → PlainParts → List Line
  parts_lines depth decl.no_parts = []
  parts_lines depth (decl.inner d parts) = decl_lines depth d ++ parts_lines depth parts
  parts_lines depth (decl.member place notes m parts) = noted depth notes (member_pieces m) ++ parts_lines depth parts

abbrev pub all_lines : PlainDecls → List Line
all_lines decl.no_decls = []
all_lines (decl.more_decls d ds) = decl_lines 0 d ++ all_lines ds
