-- What every object has.
use Rattle.std.specs.Prelude.{[], ◌∷◌}
use Rattle.sig_model.specs.PlainDecl.{PlainDecl}
use Rattle.core_texts.specs.Types.{none, one, called, void, top, bool, nil, self_type, string, printable}
use Rattle.core_texts.specs.Shapes.{takes, may_take, def, include_at, private_at, together, class, class_below, module_for}

abbrev pub basic_object : PlainDecl
basic_object = class 19 121 "BasicObject" (together (
    def 39 65 "initialize" (takes none void)
    ∷ def 68 89 "==" (takes (one top) bool)
    ∷ def 92 117 "equal?" (takes (one top) bool)
    ∷ []))

abbrev pub kernel : PlainDecl
kernel = module_for 122 327 "Kernel" "BasicObject" (together (
    def 152 172 "nil?" (takes none bool)
    ∷ def 175 202 "is_a?" (takes (one (called "Module")) bool)
    ∷ def 205 227 "to_s" (takes none string)
    ∷ def 230 252 "itself" (takes none self_type)
    ∷ private_at 255 262
    ∷ def 265 323 "puts" (may_take printable nil)
    ∷ []))

abbrev pub object : PlainDecl
object = class_below 328 375 "Object" "BasicObject" (together (
    include_at 357 371 (called "Kernel")
    ∷ []))
