-- A reader of a text, which takes one token at a time.
use Rattle.std.specs.Prelude.{ℕ, List, [], ◌∷◌, ◌++◌, Option, Some, None}
use Rattle.ruby_tokens.specs.declared.token.Token.{Token}
use Rattle.ruby_tokens.specs.declared.token.Kind.{Kind}
use Rattle.ruby_tokens.specs.declared.token.Kind.TheVariants as kind
use Rattle.ruby_reader.specs.declared.tree.Statement.{Statement}
use Rattle.ruby_reader.specs.declared.tree.Opening.{Opening}
use Rattle.ruby_reader.specs.declared.tree.Program.{Program}
use Rattle.ruby_reader.specs.declared.progress.Turn.{Turn}
use Rattle.ruby_reader.specs.declared.progress.Turn.TheVariants as turn
use Rattle.ruby_reader.specs.declared.progress.Progress.{Progress}
use Rattle.ruby_reader.specs.declared.progress.Progress.TheVariants.{Reading, Read}
use Rattle.ruby_reader.specs.declared.list.ListReader.{ListReader}
use Rattle.ruby_reader.specs.declared.class.ClassReader.{ClassReader}
use Rattle.ruby_reader.specs.declared.class.ClassReader.TheVariants as class
use Rattle.ruby_reader.specs.declared.file.Place.{Place}
use Rattle.ruby_reader.specs.declared.file.Place.TheVariants as place
use Rattle.ruby_reader.specs.declared.file.FileReader.{FileReader}
use Rattle.ruby_reader.specs.ListMachine as list
use Rattle.ruby_reader.specs.ClassMachine.{class_next}

abbrev pub at : List Opening → Place → FileReader
at os p = record { openings = os; place = p }

abbrev pub start : FileReader
start = at [] (place.Between turn.Free)

abbrev pub begin_class : List Opening → Turn → ℕ → Option FileReader
begin_class os turn.Free first = Some (at os (place.Class (class.Class first)))
begin_class os turn.Taken first = None

-- a text by what a token made of its main part
abbrev pub with_main : List Opening → Option ListReader → Option FileReader
with_main os None = None
with_main os (Some r) = Some (at os (place.Main r))

abbrev pub in_main : List Opening → ListReader → Token → Option FileReader
in_main os r token = with_main os (list.list_next r token)

abbrev pub class_or_main : List Opening → Turn → Kind → ℕ → Option FileReader → Option FileReader
class_or_main os t kind.Newline first main = Some (at os (place.Between turn.Free))
class_or_main os t kind.Semicolon first main = Some (at os (place.Between turn.Free))
class_or_main os t kind.Class first main = begin_class os t first
class_or_main os t _ first main = main

-- in front of a class, the main part or the end of the text
abbrev pub between_classes : List Opening → Turn → Token → Option FileReader
between_classes os t token = class_or_main os t token.kind token.start (in_main os (list.start t) token)

-- a text by what a token made of its class
abbrev pub with_class : List Opening → Option (Progress ClassReader Opening) → Option FileReader
with_class os None = None
with_class os (Some (Reading c)) = Some (at os (place.Class c))
with_class os (Some (Read o)) = Some (at (os ++ o ∷ []) (place.Between turn.Taken))

abbrev pub in_class : List Opening → ClassReader → Token → Option FileReader
in_class os c token = with_class os (class_next c token)

abbrev pub step : List Opening → Place → Token → Option FileReader
step os (place.Between t) token = between_classes os t token
step os (place.Class c) token = in_class os c token
step os (place.Main r) token = in_main os r token

-- what a token makes of a text
abbrev pub next : FileReader → Token → Option FileReader
next r token = step r.openings r.place token

-- a text that ends, by the statements of its main part
abbrev pub with_statements : List Opening → Option (List Statement) → Option Program
with_statements os None = None
with_statements os (Some ss) = Some (record { openings = os; statements = ss })

abbrev pub ends : List Opening → Place → Option Program
ends os (place.Between t) = with_statements os (Some [])
ends os (place.Class c) = None
ends os (place.Main r) = with_statements os (list.list_final r)

-- the program, if the text may end here
abbrev pub final : FileReader → Option Program
final r = ends r.openings r.place
