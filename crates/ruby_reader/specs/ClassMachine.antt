-- A reader of a class, which takes one token at a time.
use Rattle.std.specs.Prelude.{ℕ, [], ◌∷◌, ◌++◌, Option, Some, None}
use Rattle.ruby_tokens.specs.declared.token.Token.{Token}
use Rattle.ruby_tokens.specs.declared.token.Kind.{Kind}
use Rattle.ruby_tokens.specs.declared.token.Kind.TheVariants as kind
use Rattle.ruby_reader.specs.declared.tree.Definition.{Definition}
use Rattle.ruby_reader.specs.declared.tree.Opening.{Opening}
use Rattle.ruby_reader.specs.declared.progress.Turn.{Turn}
use Rattle.ruby_reader.specs.declared.progress.Turn.TheVariants as turn
use Rattle.ruby_reader.specs.declared.progress.Progress.{Progress}
use Rattle.ruby_reader.specs.declared.progress.Progress.TheVariants.{Reading, Read}
use Rattle.ruby_reader.specs.declared.method.MethodReader.{MethodReader}
use Rattle.ruby_reader.specs.declared.method.MethodReader.TheVariants as method
use Rattle.ruby_reader.specs.declared.class.ClassReader.{ClassReader}
use Rattle.ruby_reader.specs.declared.class.ClassReader.TheVariants as class
use Rattle.ruby_reader.specs.MethodMachine.{method_next}

-- behind the `class`
abbrev pub after_class : ℕ → Kind → Option (Progress ClassReader Opening)
after_class start (kind.Upper n) = Some (Reading (class.Between (record { name = n; start = start; definitions = [] }) turn.Taken))
after_class start _ = None

abbrev pub begin_method : Opening → Turn → ℕ → Option (Progress ClassReader Opening)
begin_method o turn.Free start = Some (Reading (class.Method o (method.Def start)))
begin_method o turn.Taken start = None

-- in front of a method or the `end`
abbrev pub between_methods : Opening → Turn → Kind → ℕ → Option (Progress ClassReader Opening)
between_methods o t kind.End start = Some (Read o)
between_methods o t kind.Newline start = Some (Reading (class.Between o turn.Free))
between_methods o t kind.Semicolon start = Some (Reading (class.Between o turn.Free))
between_methods o t kind.TypeNote start = Some (Reading (class.Between o t))
between_methods o t kind.Def start = begin_method o t start
between_methods o t _ start = None

-- a method more
abbrev pub with_definition : Opening → Definition → Opening
with_definition o d = record { name = o.name; start = o.start; definitions = o.definitions ++ d ∷ [] }

-- a class by what a token made of its method
abbrev pub with_method : Opening → Option (Progress MethodReader Definition) → Option (Progress ClassReader Opening)
with_method o None = None
with_method o (Some (Reading m)) = Some (Reading (class.Method o m))
with_method o (Some (Read d)) = Some (Reading (class.Between (with_definition o d) turn.Taken))

abbrev pub in_method : Opening → MethodReader → Token → Option (Progress ClassReader Opening)
in_method o m token = with_method o (method_next m token)

-- what a token makes of a class
abbrev pub class_next : ClassReader → Token → Option (Progress ClassReader Opening)
class_next (class.Class start) token = after_class start token.kind
class_next (class.Between o t) token = between_methods o t token.kind token.start
class_next (class.Method o m) token = in_method o m token
