-- The declarations that the text of the core signature spells, with their places in it.
use Rattle.std.specs.Prelude.{[], ◌∷◌}
use Rattle.sig_model.specs.PlainDecl.{PlainDecls, append_decls}
use Rattle.core_texts.specs.Types.{top}
use Rattle.core_texts.specs.Shapes.{empty_below, empty, alias, listed}
use Rattle.core_texts.specs.Objects.{basic_object, kernel, object}
use Rattle.core_texts.specs.Values.{symbol_class, integer_class, string_class}
use Rattle.core_texts.specs.Collections.{array_class, hash_class}
use Rattle.core_texts.specs.Errors.{exception}

-- the alias and the classes at the front: what every object has, and the classes without members
abbrev pub roots : PlainDecls
roots = listed (
    alias 0 18 "boolish" top
    ∷ basic_object
    ∷ kernel
    ∷ object
    ∷ empty 376 392 "Module"
    ∷ empty_below 393 417 "Class" "Module"
    ∷ empty 418 436 "NilClass"
    ∷ empty 437 456 "TrueClass"
    ∷ empty 457 477 "FalseClass"
    ∷ empty 478 492 "Proc"
    ∷ [])

-- the classes of values with methods of their own
abbrev pub values : PlainDecls
values = listed (
    symbol_class
    ∷ integer_class
    ∷ string_class
    ∷ array_class
    ∷ hash_class
    ∷ [])

-- the classes of errors
abbrev pub errors : PlainDecls
errors = listed (
    exception
    ∷ empty_below 2251 2286 "StandardError" "Exception"
    ∷ empty_below 2287 2318 "TestError" "Exception"
    ∷ empty_below 2319 2358 "ArgumentError" "StandardError"
    ∷ empty_below 2359 2394 "NameError" "StandardError"
    ∷ empty_below 2395 2431 "IndexError" "StandardError"
    ∷ empty_below 2432 2468 "RangeError" "StandardError"
    ∷ empty_below 2469 2512 "ZeroDivisionError" "StandardError"
    ∷ empty_below 2513 2553 "LocalJumpError" "StandardError"
    ∷ empty_below 2554 2589 "NoMethodError" "NameError"
    ∷ empty_below 2590 2621 "KeyError" "IndexError"
    ∷ [])

abbrev pub core_declarations : PlainDecls
core_declarations = append_decls roots (append_decls values errors)
