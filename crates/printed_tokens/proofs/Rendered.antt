-- The lines of declarations spell their printed form.
use Rattle.std.proofs.Common.{◌≡◌, refl, sym, ◌∙◌, ap, ap₂, ℕ, suc, Bool, true, false, List, [], ◌∷◌, ◌++◌, append_assoc, append-nil, map, Option, Some, None}
use Rattle.std.specs.Prelude.{codes}
use Rattle.std.specs.List.{flat_map}
use Rattle.std.proofs.lemmas.Grind.{flat_map-append}
use Rattle.sig_model.specs.declared.ty.TypeName.{TypeName}
use Rattle.sig_model.specs.declared.decl.Variance.{Variance}
use Rattle.sig_model.specs.declared.decl.Variance.TheVariants as variance
use Rattle.sig_model.specs.declared.decl.Vis.{Vis}
use Rattle.sig_model.specs.declared.decl.Notes.{Notes}
use Rattle.sig_model.specs.PlainTy as plain
use Rattle.sig_model.specs.PlainTy.{PlainTy, PlainTys}
use Rattle.sig_model.specs.PlainMember.{PlainParam, PlainMethod, PlainMember, method, attr, mixin, alias, ivar, section}
use Rattle.sig_model.specs.PlainDecl as decl
use Rattle.sig_model.specs.PlainDecl.{PlainDecl, PlainBody, PlainParts, PlainDecls}
use Rattle.rbs_lexer.specs.declared.token.TokenKind.TheVariants as token
use Rattle.rbs_terminals.specs.declared.token.Mark.TheVariants as mark
use Rattle.rbs_terminals.specs.declared.token.Keyword.{Keyword}
use Rattle.rbs_terminals.specs.declared.token.Keyword.TheVariants as a_keyword
use Rattle.rbs_terminals.specs.Keywords.{keyword_text}
use Rattle.rbs_printer.specs.Texts as text
use Rattle.rbs_printer.specs.Texts.{indent, line, name_text, vis_text, attribute_text, mixin_text, variance_text}
use Rattle.rbs_printer.specs.Types.{whole, type_text}
use Rattle.rbs_printer.specs.Declarations as printed
use Rattle.rbs_printer.specs.Declarations.{bound_text, parameter_text, parameters_text, overload_text, member_text, comment_line, annotation_line, notes_lines, parent_text, selves_text, body_lines}
use Rattle.printed_tokens.specs.Pieces.{Piece, blank, tok, Line, pieces_text, line_text, lines_text}
use Rattle.printed_tokens.specs.Layout as layout
use Rattle.printed_tokens.specs.Layout.{sign, word, keyword, comma, joined, self_before, variance_pieces, bound_pieces, parameter_pieces, parameters_pieces, overload_pieces, member_pieces, annotation_piece, annotated, noted, end_line, parent_pieces, selves_pieces, heading, inner_lines, decl_lines, parts_lines, all_lines, function_pieces, type_pieces, types_at, name_pieces, method_pieces}
use Rattle.printed_tokens.proofs.Spelled.{both, joined_is, where_set, name_is, method_is}
use Rattle.printed_tokens.proofs.RenderedTypes.{type_is, types_are, function_is}

-- ---- members

bound_is : (t : Option PlainTy) → pieces_text (bound_pieces t) ≡ bound_text t
bound_is None = refl
bound_is (Some t) = ap (λ w. codes " < " ++ w) (type_is t)

variance_is : (v : Variance) → pieces_text (variance_pieces v) ≡ variance_text v
variance_is variance.Fixed = refl
variance_is variance.Out = refl
variance_is variance.In = refl

parameter_is : (p : PlainParam) → pieces_text (parameter_pieces p) ≡ parameter_text p
parameter_is p =
    let first = layout.where_set p.unchecked (keyword a_keyword.Unchecked ∷ blank ∷ []) in
    both (first ++ variance_pieces p.variance) (word p.name ∷ bound_pieces p.bound)
    (both first (variance_pieces p.variance) (where_set p.unchecked (keyword a_keyword.Unchecked ∷ blank ∷ [])) (variance_is p.variance)) (ap (λ w. p.name ++ w) (bound_is p.bound))
    ∙ sym (append_assoc (text.where_set p.unchecked (codes "unchecked ") ++ variance_text p.variance) p.name (bound_text p.bound))

rows_are : (ps : List PlainParam) → map pieces_text (map parameter_pieces ps) ≡ map parameter_text ps
rows_are [] = refl
rows_are (p ∷ ps) = ap₂ (λ w ws. w ∷ ws) (parameter_is p) (rows_are ps)

parameters_are : (ps : List PlainParam) → pieces_text (parameters_pieces ps) ≡ parameters_text ps
parameters_are [] = refl
parameters_are (p ∷ ps) =
    ap (λ w. 91 ∷ w)
    (both (joined comma (map parameter_pieces (p ∷ ps))) (sign mark.CloseSquare ∷ []) (joined_is comma (map parameter_pieces (p ∷ ps)) (rows_are (p ∷ ps))) refl)

overload_parameters_are : (ps : List PlainParam) → pieces_text (layout.overload_parameters ps) ≡ printed.overload_parameters ps
overload_parameters_are [] = refl
overload_parameters_are (p ∷ ps) = both (parameters_pieces (p ∷ ps)) (blank ∷ []) (parameters_are (p ∷ ps)) refl

overload_is : (m : PlainMethod) → pieces_text (overload_pieces m) ≡ overload_text m
overload_is m = both (layout.overload_parameters m.params) (function_pieces m.fun) (overload_parameters_are m.params) (function_is m.fun)

overloads_are : (ms : List PlainMethod) → map pieces_text (map overload_pieces ms) ≡ map overload_text ms
overloads_are [] = refl
overloads_are (m ∷ ms) = ap₂ (λ w ws. w ∷ ws) (overload_is m) (overloads_are ms)

vis_before : (v : Option Vis) → pieces_text (layout.vis_before v) ≡ printed.vis_before v
vis_before None = refl
vis_before (Some v) = refl

self_is : (single : Bool) → pieces_text (self_before single) ≡ text.where_set single (codes "self.")
self_is true = refl
self_is false = refl

method_spelled : (v s w m : List ℕ) → v ++ (codes "def " ++ s) ++ w ++ (codes ": " ++ m) ≡ v ++ codes "def " ++ s ++ w ++ codes ": " ++ m
method_spelled v s w m = simp append_assoc

attribute_spelled : (v k w t : List ℕ) → v ++ (k ++ (codes " " ++ (w ++ (codes ": " ++ t)))) ≡ v ++ k ++ codes " " ++ w ++ codes ": " ++ t
attribute_spelled v k w t = simp append_assoc

alias_spelled : (a b : List ℕ) → codes "alias " ++ a ++ (codes " " ++ b) ≡ codes "alias " ++ a ++ codes " " ++ b
alias_spelled a b = ap (λ w. codes "alias " ++ w) (sym (append_assoc a (codes " ") b))

variable_spelled : (s w t : List ℕ) → s ++ (codes "@" ++ (w ++ (codes ": " ++ t))) ≡ s ++ codes "@" ++ w ++ codes ": " ++ t
variable_spelled s w t = simp append_assoc

member_is : (m : PlainMember) → pieces_text (member_pieces m) ≡ member_text m
member_is (method v single w ms) =
    let overloads = joined (blank ∷ sign mark.Bar ∷ blank ∷ []) (map overload_pieces ms) in
    let start = layout.vis_before v ++ keyword a_keyword.Def ∷ blank ∷ self_before single in
    both (start ++ method_pieces w) (sign mark.Colon ∷ blank ∷ overloads)
    (both start (method_pieces w) (both (layout.vis_before v) (keyword a_keyword.Def ∷ blank ∷ self_before single) (vis_before v) (ap (λ u. codes "def " ++ u) (self_is single))) (method_is w))
    (ap (λ u. codes ": " ++ u) (joined_is (blank ∷ sign mark.Bar ∷ blank ∷ []) (map overload_pieces ms) (overloads_are ms)))
    ∙ method_spelled (printed.vis_before v) (text.where_set single (codes "self.")) w (text.joined (codes " | ") (map overload_text ms))
member_is (attr v k w t) =
    both (layout.vis_before v) (tok token.Ident (attribute_text k) ∷ blank ∷ word w ∷ sign mark.Colon ∷ blank ∷ type_pieces t) (vis_before v)
    (ap (λ u. attribute_text k ++ 32 ∷ (w ++ 58 ∷ 32 ∷ u)) (type_is t))
    ∙ attribute_spelled (printed.vis_before v) (attribute_text k) w (type_text t)
member_is (mixin k t) = ap (λ w. mixin_text k ++ 32 ∷ w) (type_is t) ∙ sym (append_assoc (mixin_text k) (codes " ") (type_text t))
member_is (alias new old) =
    ap (λ w. codes "alias " ++ w) (both (method_pieces new) (blank ∷ method_pieces old) (method_is new) (ap (λ w. 32 ∷ w) (method_is old))) ∙ alias_spelled new old
member_is (ivar single w t) =
    both (self_before single) (tok token.Ivar (64 ∷ w) ∷ sign mark.Colon ∷ blank ∷ type_pieces t) (self_is single) (ap (λ u. 64 ∷ (w ++ 58 ∷ 32 ∷ u)) (type_is t))
    ∙ variable_spelled (text.where_set single (codes "self.")) w (type_text t)
member_is (section v) = append-nil (vis_text v)

-- ---- lines

-- the lines of both lists
lines_both : (xs ys : List Line) {v w : List ℕ} → lines_text xs ≡ v → lines_text ys ≡ w → lines_text (xs ++ ys) ≡ v ++ w
lines_both xs ys e f = flat_map-append line_text xs ys ∙ ap₂ (λ v w. v ++ w) e f

annotation_is : (w : List ℕ) → pieces_text (annotation_piece w ∷ []) ≡ codes "%a{" ++ w ++ codes "}"
annotation_is w = append-nil (codes "%a{" ++ w ++ codes "}")

one_line : (c i w : List ℕ) → c ++ i ++ w ++ 10 ∷ [] ≡ c ++ (i ++ w ++ 10 ∷ [])
one_line c i w = simp append_assoc

regrouped : (a b c d : List ℕ) → (a ++ b) ++ (c ++ d) ≡ a ++ ((b ++ c) ++ d)
regrouped a b c d = simp append_assoc

-- a line with notes above it
annotated_is : (depth : ℕ) (cs ws : List (List ℕ)) (ps : List Piece)
    → lines_text (annotated depth cs ws ps) ≡ flat_map (comment_line depth) cs ++ (flat_map (annotation_line depth) ws ++ line depth (pieces_text ps))
annotated_is depth cs [] ps = append-nil (line_text (record { depth = depth; comments = cs; pieces = ps })) ∙ one_line (flat_map (comment_line depth) cs) (indent depth) (pieces_text ps)
annotated_is depth cs (w ∷ ws) ps =
    let noted = flat_map (comment_line depth) cs in
    let first : line_text (record { depth = depth; comments = cs; pieces = annotation_piece w ∷ [] }) ≡ noted ++ annotation_line depth w =
    ap (λ v. noted ++ indent depth ++ v ++ 10 ∷ []) (annotation_is w) ∙ one_line noted (indent depth) (codes "%a{" ++ w ++ codes "}") in
    ap₂ (λ v u. v ++ u) first (annotated_is depth [] ws ps) ∙ regrouped noted (annotation_line depth w) (flat_map (annotation_line depth) ws) (line depth (pieces_text ps))

noted_is : (depth : ℕ) (n : Notes) (ps : List Piece) {w : List ℕ} → pieces_text ps ≡ w → lines_text (noted depth n ps) ≡ notes_lines depth n ++ line depth w
noted_is depth n ps e =
    annotated_is depth n.comments n.annotations ps
    ∙ sym (append_assoc (flat_map (comment_line depth) n.comments) (flat_map (annotation_line depth) n.annotations) (line depth (pieces_text ps)))
    ∙ ap (λ w. notes_lines depth n ++ line depth w) e

end_is : (depth : ℕ) → lines_text (end_line depth ∷ []) ≡ line depth (codes "end")
end_is depth = append-nil (line depth (codes "end"))

-- ---- declarations

parent_is : (t : Option PlainTy) → pieces_text (parent_pieces t) ≡ parent_text t
parent_is None = refl
parent_is (Some t) = ap (λ w. codes " < " ++ w) (type_is t)

selves_are : (ts : PlainTys) → pieces_text (selves_pieces ts) ≡ selves_text ts
selves_are plain.no_tys = refl
selves_are (plain.more_tys t ts) = ap (λ w. codes ": " ++ w) (joined_is comma (types_at whole (plain.more_tys t ts)) (types_are whole (plain.more_tys t ts)))

-- a declaration's word, its name and its type parameters
named : (k : Keyword) (n : TypeName) (ps : List PlainParam)
    → pieces_text (keyword k ∷ blank ∷ name_pieces n ++ parameters_pieces ps) ≡ keyword_text k ++ 32 ∷ (name_text n ++ parameters_text ps)
named k n ps = ap (λ w. keyword_text k ++ 32 ∷ w) (both (name_pieces n) (parameters_pieces ps) (name_is n) (parameters_are ps))

-- the first line of a declaration, the lines inside it, and its end
headed : (depth : ℕ) (ps : List Piece) (ls : List Line) (last : ℕ) {w v : List ℕ} → pieces_text ps ≡ w → lines_text ls ≡ v
    → line depth (pieces_text ps) ++ lines_text (ls ++ end_line last ∷ []) ≡ line depth w ++ v ++ line last (codes "end")
headed depth ps ls last {w = w} {v = v} e f =
    ap₂ (λ w v. line depth w ++ v) e (lines_both ls (end_line last ∷ []) f (end_is last)) ∙ sym (append_assoc (line depth w) v (line last (codes "end")))

mutual
  body_is : (depth : ℕ) (b : PlainBody) → line depth (pieces_text (heading b)) ++ lines_text (inner_lines depth b) ≡ body_lines depth b
  body_is depth (decl.class n ps t parts) =
      headed depth (heading (decl.class n ps t parts)) (parts_lines (suc depth) parts) depth
      (both (keyword a_keyword.Class ∷ blank ∷ name_pieces n ++ parameters_pieces ps) (parent_pieces t) (named a_keyword.Class n ps) (parent_is t)) (parts_are (suc depth) parts)
  body_is depth (decl.module n ps ts parts) =
      headed depth (heading (decl.module n ps ts parts)) (parts_lines (suc depth) parts) depth
      (both (keyword a_keyword.Module ∷ blank ∷ name_pieces n ++ parameters_pieces ps) (selves_pieces ts) (named a_keyword.Module n ps) (selves_are ts)) (parts_are (suc depth) parts)
  body_is depth (decl.iface n ps parts) = headed depth (heading (decl.iface n ps parts)) (parts_lines (suc depth) parts) depth (named a_keyword.Interface n ps) (parts_are (suc depth) parts)
  body_is depth (decl.alias n ps t) =
      append-nil (line depth (pieces_text (heading (decl.alias n ps t))))
      ∙ ap (line depth)
      (both (keyword a_keyword.Type ∷ blank ∷ name_pieces n ++ parameters_pieces ps) (blank ∷ sign mark.Equals ∷ blank ∷ type_pieces t) (named a_keyword.Type n ps) (ap (λ w. codes " = " ++ w) (type_is t))
      ∙ sym (append_assoc (codes "type " ++ name_text n ++ parameters_text ps) (codes " = ") (type_text t)))
  body_is depth (decl.const n t) =
      append-nil (line depth (pieces_text (heading (decl.const n t))))
      ∙ ap (line depth) (both (name_pieces n) (sign mark.Colon ∷ blank ∷ type_pieces t) (name_is n) (ap (λ w. codes ": " ++ w) (type_is t)) ∙ sym (append_assoc (name_text n) (codes ": ") (type_text t)))

  decl_is : (depth : ℕ) (d : PlainDecl) → lines_text (decl_lines depth d) ≡ printed.decl_lines depth d
  decl_is depth (decl.decl place notes body) =
      lines_both (noted depth notes (heading body)) (inner_lines depth body) (noted_is depth notes (heading body) refl) refl
      ∙ append_assoc (notes_lines depth notes) (line depth (pieces_text (heading body))) (lines_text (inner_lines depth body))
      ∙ ap (λ w. notes_lines depth notes ++ w) (body_is depth body)

  parts_are : (depth : ℕ) (parts : PlainParts) → lines_text (parts_lines depth parts) ≡ printed.parts_lines depth parts
  parts_are depth decl.no_parts = refl
  parts_are depth (decl.inner d parts) = lines_both (decl_lines depth d) (parts_lines depth parts) (decl_is depth d) (parts_are depth parts)
  parts_are depth (decl.member place notes m parts) =
      lines_both (noted depth notes (member_pieces m)) (parts_lines depth parts) (noted_is depth notes (member_pieces m) (member_is m)) (parts_are depth parts)

-- the lines of declarations spell what is printed
pub rendered : (ds : PlainDecls) → lines_text (all_lines ds) ≡ printed.printed ds
rendered decl.no_decls = refl
rendered (decl.more_decls d ds) = lines_both (decl_lines 0 d) (all_lines ds) (decl_is 0 d) (rendered ds)
