-- The classes of errors.
use Rattle.std.specs.Prelude.{[], ◌∷◌}
use Rattle.sig_model.specs.PlainDecl.{PlainDecl}
use Rattle.core_texts.specs.Types.{none, void, string}
use Rattle.core_texts.specs.Shapes.{takes, may_take, def, variable, together, class}

abbrev pub exception : PlainDecl
exception = class 2148 2250 "Exception" (together (
    variable 2166 2182 "message" string
    ∷ def 2185 2218 "initialize" (may_take string void)
    ∷ def 2221 2246 "message" (takes none string)
    ∷ []))
