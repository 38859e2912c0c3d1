-- What the reader of tokens answers.
use Rattle.std.specs.Prelude.{◌≡◌, List, Option, Some, None}
use Rattle.ruby_tokens.specs.declared.token.Token.{Token}
use Rattle.ruby_reader.specs.declared.tree.Program.{Program}
use Rattle.ruby_reader.specs.PlainTree.{PlainProgram}
use Rattle.ruby_reader.specs.PlainLaws.{plain_program}
use Rattle.ruby_reader.specs.Heights.{IsLow}
use Rattle.ruby_reader.specs.Grammar.{IsWritten}

-- the one program within the height limit that the tokens write, or none
abbrev pub Written : List Token → Option Program → Type 0
Written ts None = (p : PlainProgram) → IsWritten p ts → IsLow p → ⊥
Written ts (Some z) = IsWritten (plain_program z) ts × IsLow (plain_program z) × ((q : PlainProgram) → IsWritten q ts → IsLow q → q ≡ plain_program z)
