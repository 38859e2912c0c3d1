-- The printed form of declarations: a line for each declaration and member, and one for each `end`, two blanks further in at each level.
use Rattle.std.specs.Prelude.{ℕ, suc, codes, List, [], ◌∷◌, ◌++◌, map, Option, Some, None}
use Rattle.std.specs.List.{flat_map}
use Rattle.sig_model.specs.declared.decl.Vis.{Vis}
use Rattle.sig_model.specs.declared.decl.Notes.{Notes}
use Rattle.sig_model.specs.PlainTy.{PlainTy, PlainTys}
use Rattle.sig_model.specs.PlainMember.{PlainParam, PlainMethod, PlainMember, method, attr, mixin, alias, ivar, section}
use Rattle.sig_model.specs.PlainDecl as decl
use Rattle.sig_model.specs.PlainDecl.{PlainDecl, PlainBody, PlainParts, PlainDecls}
use Rattle.rbs_printer.specs.Texts.{joined, where_set, variance_text, vis_text, attribute_text, mixin_text, name_text, line}
use Rattle.rbs_printer.specs.Types.{whole, type_text, texts_at, function_text}

abbrev pub bound_text : Option PlainTy → List ℕ
bound_text None = []
bound_text (Some t) = codes " < " ++ type_text t

abbrev pub parameter_text : PlainParam → List ℕ
parameter_text p = where_set p.unchecked (codes "unchecked ") ++ variance_text p.variance ++ p.name ++ bound_text p.bound

-- type parameters, where there are some
abbrev pub parameters_text : List PlainParam → List ℕ
parameters_text [] = []
parameters_text (p ∷ ps) = codes "[" ++ joined (codes ", ") (map parameter_text (p ∷ ps)) ++ codes "]"

-- the type parameters of an overload, with a blank behind them
abbrev pub overload_parameters : List PlainParam → List ℕ
overload_parameters [] = []
overload_parameters (p ∷ ps) = parameters_text (p ∷ ps) ++ codes " "

abbrev pub overload_text : PlainMethod → List ℕ
overload_text m = overload_parameters m.params ++ function_text m.fun

abbrev pub vis_before : Option Vis → List ℕ
vis_before None = []
vis_before (Some v) = vis_text v ++ codes " "

abbrev pub member_text : PlainMember → List ℕ
member_text (method v single w ms) = vis_before v ++ codes "def " ++ where_set single (codes "self.") ++ w ++ codes ": " ++ joined (codes " | ") (map overload_text ms)
member_text (attr v k w t) = vis_before v ++ attribute_text k ++ codes " " ++ w ++ codes ": " ++ type_text t
member_text (mixin k t) = mixin_text k ++ codes " " ++ type_text t
member_text (alias new old) = codes "alias " ++ new ++ codes " " ++ old
member_text (ivar single w t) = where_set single (codes "self.") ++ codes "@" ++ w ++ codes ": " ++ type_text t
member_text (section v) = vis_text v

abbrev pub comment_line : ℕ → List ℕ → List ℕ
comment_line depth w = line depth (codes "#" ++ w)

abbrev pub annotation_line : ℕ → List ℕ → List ℕ
annotation_line depth w = line depth (codes "%a{" ++ w ++ codes "}")

-- carried comment lines, and then annotations
abbrev pub notes_lines : ℕ → Notes → List ℕ
notes_lines depth n = flat_map (comment_line depth) n.comments ++ flat_map (annotation_line depth) n.annotations

abbrev pub parent_text : Option PlainTy → List ℕ
parent_text None = []
parent_text (Some t) = codes " < " ++ type_text t

-- the self types of a module, where it has some
abbrev pub selves_text : PlainTys → List ℕ
selves_text ts = among (texts_at whole ts)
  where
    among : List (List ℕ) → List ℕ
    among [] = []
    among (w ∷ ws) = codes ": " ++ joined (codes ", ") (w ∷ ws)

abbrev mutual
  pub body_lines : ℕ → PlainBody → List ℕ
  body_lines depth (decl.class n ps t parts) = line depth (codes "class " ++ name_text n ++ parameters_text ps ++ parent_text t) ++ parts_lines (suc depth) parts ++ line depth (codes "end")
  body_lines depth (decl.module n ps ts parts) = line depth (codes "module " ++ name_text n ++ parameters_text ps ++ selves_text ts) ++ parts_lines (suc depth) parts ++ line depth (codes "end")
  body_lines depth (decl.iface n ps parts) = line depth (codes "interface " ++ name_text n ++ parameters_text ps) ++ parts_lines (suc depth) parts ++ line depth (codes "end")
  body_lines depth (decl.alias n ps t) = line depth (codes "type " ++ name_text n ++ parameters_text ps ++ codes " = " ++ type_text t)
  body_lines depth (decl.const n t) = line depth (name_text n ++ codes ": " ++ type_text t)

  pub decl_lines : ℕ → PlainDecl → List ℕ
  decl_lines depth (decl.decl place notes body) = notes_lines depth notes ++ body_lines depth body

  pub parts_lines : ℕ → PlainParts → List ℕ
  parts_lines depth decl.no_parts = []
  parts_lines depth (decl.inner d parts) = decl_lines depth d ++ parts_lines depth parts
  parts_lines depth (decl.member place notes m parts) = notes_lines depth notes ++ line depth (member_text m) ++ parts_lines depth parts

abbrev pub printed : PlainDecls → List ℕ
printed decl.no_decls = []
printed (decl.more_decls d ds) = decl_lines 0 d ++ printed ds
