-- The texts of files within the limits, and where a text that is none goes wrong.
use Rattle.std.specs.Prelude.{ℕ, ◌≤◌, List}
use Rattle.rbs_terminals.specs.declared.token.Token.{Token}
use Rattle.sig_model.specs.PlainDecl as decl
use Rattle.sig_model.specs.PlainDecl.{PlainDecls}
use Rattle.rbs_types.specs.Limits.{IsSmall}
use Rattle.rbs_types.specs.Answers.{last_end}
use Rattle.viable_prefixes.specs.Runs.{Each}
use Rattle.viable_prefixes.specs.Prefixes.{IsFault}
use Rattle.rbs_declarations.specs.declared.state.State.{State}
use Rattle.rbs_declarations.specs.Grammar.{File}
use Rattle.rbs_declarations.specs.Heights.{decls_height}
use Rattle.rbs_declarations.specs.Openness.{file_open}
use Rattle.rbs_declarations.specs.Needs.{need, reach}

-- a token led to the state, and some text within the limits goes on from there
abbrev pub IsWithin : State → Token → Type 0
IsWithin m c = (need m ≤ 200) × (reach m ≤ 400) × IsSmall c

-- In the file of this number.
module _ (file : ℕ) where
  -- the tokens spell the declarations, where there are no limits
  abbrev pub IsWritten : PlainDecls → List Token → Type 0
  IsWritten ds ts = File file (last_end ts) decl.no_decls ds ts

  -- the tokens spell the declarations, within the limits
  pub record IsText (ds : PlainDecls) (ts : List Token) : Type 0 where
    pub written : IsWritten ds ts
    pub height : decls_height ds ≤ 200
    pub nested : file_open written ≤ 400
    pub small : Each IsSmall ts

  abbrev pub IsFaultyFile : List Token → ℕ → Type 0 → Type 0
  IsFaultyFile ts n limit = IsFault IsText IsWritten ts n limit
