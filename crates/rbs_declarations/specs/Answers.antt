-- What the declarations of a file are answered as.
use Rattle.std.specs.Prelude.{ℕ, ◌≡◌, List, take, Result, Ok, Err}
use Rattle.rbs_terminals.specs.declared.token.Token.{Token}
use Rattle.sig_model.specs.declared.decl.Decl.{Decl}
use Rattle.sig_model.specs.PlainDecl.{PlainDecls, plain_decls}
use Rattle.rbs_types.specs.declared.reading.Refused.{Refused}
use Rattle.rbs_types.specs.declared.reading.Refused.TheVariants as refused
use Rattle.rbs_types.specs.Answers.{last_end}
use Rattle.rbs_declarations.specs.Limits.{IsText, IsFaultyFile}

-- In the file of this number.
module _ (file : ℕ) where
  -- the longest front of the tokens with which a text begins ends at the byte `end`
  abbrev pub IsFaultAt : List Token → ℕ → Type 0 → Type 0
  IsFaultAt ts end limit = (n : ℕ) × IsFaultyFile file ts n limit × (end ≡ last_end (take n ts))

  -- The one list of declarations that the tokens spell, or where they go wrong, and whether a limit is passed there. Memory may run out.
  abbrev pub Answers : List Token → Result (List Decl) Refused → Type 0
  Answers ts (Ok ds) = IsText file (plain_decls ds) ts × ((es : PlainDecls) → IsText file es ts → es ≡ plain_decls ds)
  Answers ts (Err (refused.Syntax end)) = IsFaultAt ts end ⊥
  Answers ts (Err (refused.Limit end)) = IsFaultAt ts end (Unit {0})
  Answers ts (Err refused.NoMemory) = Unit {0}
