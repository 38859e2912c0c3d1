-- What the reader answers.
use Rattle.std.specs.Prelude.{◌≡◌, ℕ, List, Option, Some, None}
use Rattle.ruby_reader.specs.declared.tree.Program.{Program}
use Rattle.ruby_reader.specs.PlainTree.{PlainProgram}
use Rattle.ruby_reader.specs.PlainLaws.{plain_program}
use Rattle.ruby_reader.specs.Grammar.{IsRuby}

-- the one program that the bytes write, or none
abbrev pub Answers : List ℕ → Option Program → Type 0
Answers bytes None = (p : PlainProgram) → IsRuby p bytes → ⊥
Answers bytes (Some p) = IsRuby (plain_program p) bytes × ((q : PlainProgram) → IsRuby q bytes → q ≡ plain_program p)
