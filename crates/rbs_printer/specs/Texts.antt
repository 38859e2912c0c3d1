-- The texts that the printed form is made of.
use Rattle.std.specs.Prelude.{ℕ, zero, suc, Bool, true, false, ◌||◌, ◌==◌, if◌then◌else◌, codes, List, [], ◌∷◌, ◌++◌}
use Rattle.std.specs.List.{flat_map}
use Rattle.sig_model.specs.declared.ty.TypeName.{TypeName}
use Rattle.sig_model.specs.declared.ty.BaseTy.{BaseTy}
use Rattle.sig_model.specs.declared.ty.BaseTy.TheVariants as base
use Rattle.sig_model.specs.declared.decl.Variance.{Variance}
use Rattle.sig_model.specs.declared.decl.Variance.TheVariants as variance
use Rattle.sig_model.specs.declared.decl.Vis.{Vis}
use Rattle.sig_model.specs.declared.decl.Vis.TheVariants as vis
use Rattle.sig_model.specs.declared.decl.AttrKind.{AttrKind}
use Rattle.sig_model.specs.declared.decl.AttrKind.TheVariants as attribute
use Rattle.sig_model.specs.declared.decl.MixKind.{MixKind}
use Rattle.sig_model.specs.declared.decl.MixKind.TheVariants as mixin

-- these texts with another between each two
abbrev pub joined : List ℕ → List (List ℕ) → List ℕ
joined by [] = []
joined by (w ∷ []) = w
joined by (w ∷ v ∷ ws) = w ++ by ++ joined by (v ∷ ws)

abbrev pub base_text : BaseTy → List ℕ
base_text base.True = codes "true"
base_text base.False = codes "false"
base_text base.Nil = codes "nil"
base_text base.Bool = codes "bool"
base_text base.Void = codes "void"
base_text base.Top = codes "top"
base_text base.Bot = codes "bot"
base_text base.SelfTy = codes "self"
base_text base.Instance = codes "instance"
base_text base.ClassTy = codes "class"
base_text base.Untyped = codes "untyped"

abbrev pub variance_text : Variance → List ℕ
variance_text variance.Fixed = []
variance_text variance.Out = codes "out "
variance_text variance.In = codes "in "

abbrev pub vis_text : Vis → List ℕ
vis_text vis.Public = codes "public"
vis_text vis.Private = codes "private"

abbrev pub attribute_text : AttrKind → List ℕ
attribute_text attribute.Reader = codes "attr_reader"
attribute_text attribute.Writer = codes "attr_writer"
attribute_text attribute.Accessor = codes "attr_accessor"

abbrev pub mixin_text : MixKind → List ℕ
mixin_text mixin.Include = codes "include"
mixin_text mixin.Extend = codes "extend"
mixin_text mixin.Prepend = codes "prepend"

-- a text that stands only where the flag is set
abbrev pub where_set : Bool → List ℕ → List ℕ
where_set true w = w
where_set false w = []

abbrev pub name_text : TypeName → List ℕ
name_text n = where_set n.rooted (codes "::") ++ joined (codes "::") n.path

-- a byte of a string: the four that have an escape are written with it
abbrev pub escaped : ℕ → List ℕ
escaped b =
    if b == 34 then codes "\\\""
    else if b == 92 then codes "\\\\"
    else if b == 10 then codes "\\n"
    else if b == 9 then codes "\\t"
    else b ∷ []

abbrev pub string_text : List ℕ → List ℕ
string_text w = codes "\"" ++ flat_map escaped w ++ codes "\""

-- a byte that ends an operator, or is the mark behind a name
abbrev pub is_sign : ℕ → Bool
is_sign b = b == 33 || b == 37 || b == 42 || b == 43 || b == 45 || b == 47 || b == 60 || b == 61 || b == 62 || b == 63 || b == 64 || b == 93

-- a method's name ends in a word: a question mark directly behind it would belong to it
abbrev pub ends_in_word : List ℕ → Bool
ends_in_word [] = false
ends_in_word (b ∷ []) = if is_sign b then false else true
ends_in_word (b ∷ c ∷ w) = ends_in_word (c ∷ w)

-- the blanks before a line this deep in
abbrev pub indent : ℕ → List ℕ
indent zero = []
indent (suc depth) = codes "  " ++ indent depth

-- a line this deep in
abbrev pub line : ℕ → List ℕ → List ℕ
line depth w = indent depth ++ w ++ 10 ∷ []
