-- What is printed is read back equal.
use Rattle.std.specs.Prelude.{◌≡◌, ℕ, List}
use Rattle.sig_model.specs.PlainDecl.{PlainDecls}
use Rattle.rbs_lexer.specs.declared.token.SigToken.{SigToken}
use Rattle.rbs_lexer.specs.Division.{whole, Divides}
use Rattle.rbs_terminals.specs.Terminals.{terminals}
use Rattle.rbs_declarations.specs.Limits.{IsText}
use Rattle.rbs_printer.specs.Declarations.{printed}
use Rattle.printed_signatures.specs.Unplaced.{unplaced}

-- The bytes of the file of this number spell the declarations, within the limits on heights, on what is open, and on integers.
abbrev pub Spells : ℕ → PlainDecls → List ℕ → Type 0
Spells file ds bytes = (ts : List SigToken) × Divides file 0 ts whole bytes × IsText file ds (terminals bytes ts)

-- Where some text spells the declarations, their printed form spells equal ones, places aside, in the file of each number; and these are printed so again.
abbrev pub ReadsBack : PlainDecls → Type 0
ReadsBack ds = (file : ℕ) (bytes : List ℕ) → Spells file ds bytes → (to : ℕ) → (es : PlainDecls) × Spells to es (printed ds) × (unplaced es ≡ unplaced ds) × (printed es ≡ printed ds)
