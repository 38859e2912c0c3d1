-- The words that the first profile keeps from names, and the classes whose values it reads.
use Rattle.std.specs.Prelude.{ℕ, Bool, false, not, ◌&&◌, ◌||◌, ◌==◌, List, [], ◌∷◌, codes, nat_eq}
use Rattle.std.specs.Char.{is_ascii_uppercase}
use Rattle.std.specs.List.{starts_with}
use Rattle.names.specs.Places.{same_name, is_among}

-- the words that are never a name: those of the signature language, and those of Ruby
abbrev pub keywords : List (List ℕ)
keywords = codes "class" ∷ codes "module" ∷ codes "interface" ∷ codes "def" ∷ codes "end" ∷ codes "include" ∷ codes "extend" ∷ codes "prepend"
    ∷ codes "attr_reader" ∷ codes "attr_writer" ∷ codes "attr_accessor" ∷ codes "alias" ∷ codes "type" ∷ codes "private" ∷ codes "public"
    ∷ codes "unchecked" ∷ codes "out" ∷ codes "in" ∷ codes "singleton" ∷ codes "true" ∷ codes "false" ∷ codes "nil" ∷ codes "bool" ∷ codes "void"
    ∷ codes "top" ∷ codes "bot" ∷ codes "self" ∷ codes "instance" ∷ codes "untyped"
    ∷ codes "if" ∷ codes "unless" ∷ codes "elsif" ∷ codes "else" ∷ codes "then" ∷ codes "while" ∷ codes "do" ∷ codes "return" ∷ codes "break"
    ∷ codes "next" ∷ codes "yield" ∷ codes "super" ∷ codes "case" ∷ codes "for" ∷ codes "until" ∷ codes "begin" ∷ codes "rescue" ∷ codes "ensure"
    ∷ codes "retry" ∷ codes "redo" ∷ codes "undef" ∷ codes "and" ∷ codes "or" ∷ codes "not" ∷ codes "__method__" ∷ []

abbrev pub begins_upper : List ℕ → Bool
begins_upper [] = false
begins_upper (c ∷ cs) = is_ascii_uppercase c

-- the name of an interface: an underscore, and then a capital
abbrev pub is_interface_name : List ℕ → Bool
is_interface_name [] = false
is_interface_name (c ∷ cs) = c == 95 && begins_upper cs

-- the classes and modules of the core signature, which no signature declares again
abbrev pub core_classes : List (List ℕ)
core_classes = codes "BasicObject" ∷ codes "Kernel" ∷ codes "Object" ∷ codes "Module" ∷ codes "Class" ∷ codes "NilClass" ∷ codes "TrueClass" ∷ codes "FalseClass"
    ∷ codes "Proc" ∷ codes "Symbol" ∷ codes "Integer" ∷ codes "String" ∷ codes "Array" ∷ codes "Hash" ∷ codes "Exception" ∷ codes "StandardError"
    ∷ codes "TestError" ∷ codes "ArgumentError" ∷ codes "NameError" ∷ codes "IndexError" ∷ codes "RangeError" ∷ codes "ZeroDivisionError"
    ∷ codes "LocalJumpError" ∷ codes "NoMethodError" ∷ codes "KeyError" ∷ []

-- the names that the core signature declares, as far as a method of the profile could have them
abbrev pub core_names : List (List ℕ)
core_names = codes "boolish" ∷ codes "to_s" ∷ codes "itself" ∷ codes "puts" ∷ codes "length" ∷ codes "times" ∷ codes "upto" ∷ codes "to_sym" ∷ codes "fetch"
    ∷ codes "push" ∷ codes "pop" ∷ codes "shift" ∷ codes "each" ∷ codes "map" ∷ codes "select" ∷ codes "find" ∷ codes "inject" ∷ codes "delete"
    ∷ codes "keys" ∷ codes "values" ∷ codes "message" ∷ []

-- the names that are kept from every class, beside those that begin with two underscores
abbrev pub reserved_names : List (List ℕ)
reserved_names = codes "hash" ∷ codes "to_ary" ∷ codes "to_proc" ∷ codes "method_missing" ∷ codes "send" ∷ codes "eval" ∷ codes "instance_eval"
    ∷ codes "define_method" ∷ codes "inherited" ∷ codes "included" ∷ codes "extended" ∷ codes "prepended" ∷ codes "method_added" ∷ []

abbrev pub is_reserved : List ℕ → Bool
is_reserved word = is_among word reserved_names || starts_with nat_eq word (codes "__")

-- the classes of the core signature whose values a parameter or a result may be
abbrev pub value_classes : List (List ℕ)
value_classes = codes "Integer" ∷ codes "String" ∷ codes "Symbol" ∷ []

-- a class may declare a method with this name, which is a word, other than `initialize`: it is no name of a class or an interface, no keyword of signatures, no name of the core, and not reserved
abbrev pub is_callable : List ℕ → Bool
is_callable word =
    not (begins_upper word || is_interface_name word || is_among word keywords || is_among word core_names || is_reserved word
    || same_name word (codes "initialize"))
