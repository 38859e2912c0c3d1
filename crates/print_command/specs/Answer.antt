-- What the words behind `rbs print` answer.
use Rattle.std.specs.Prelude.{◌≡◌, ℕ, List, codes, Option, MatchBool, MatchOption, Result, Ok, Err}
use Rattle.diagnostics.specs.declared.lines.Source.{Source}
use Rattle.run_base.specs.Files.{Shelf}
use Rattle.call_outcomes.specs.declared.outcome.Outcome.{Outcome}
use Rattle.call_outcomes.specs.Outcomes.{usage}
use Rattle.command_words.specs.Words.{file_words}
use Rattle.command_words.specs.Files.{are_files}
use Rattle.call_outcomes.specs.Contents.{contents}
use Rattle.print_command.specs.Prints.{IsOfFiles}

-- the files were read, or reading them stopped with an outcome
abbrev pub IsOfContents : Result (List Source) Outcome → Outcome → Type 0
IsOfContents (Ok sources) outcome = IsOfFiles sources outcome
IsOfContents (Err stopped) outcome = outcome ≡ stopped

-- these files are named
abbrev pub IsOfNames : List (List ℕ) → Shelf → Outcome → Type 0
IsOfNames names shelf outcome = MatchBool (are_files (codes ".rbs") names) (IsOfContents (contents shelf names 0) outcome) (outcome ≡ usage (codes "files"))

-- the outcome is what these words answer over these files
abbrev pub IsPrinted : List (List ℕ) → Shelf → Outcome → Type 0
IsPrinted words shelf outcome = MatchOption (file_words words) (outcome ≡ usage (codes "words")) (λ names. IsOfNames names shelf outcome)
