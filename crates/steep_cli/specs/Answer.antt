-- What a command line answers over files that tell their contents.
use Rattle.std.specs.Prelude.{◌≡◌, ℕ, Bool, ◌&&◌, not, List, [], ◌∷◌, codes, Option, Some, None, MatchBool, nat_eq}
use Rattle.std.specs.List.{starts_with, ends_with}
use Rattle.names.specs.Places.{same_name}
use Rattle.sig_model.specs.declared.diag.Diag.{Diag}
use Rattle.run_base.specs.Files.{Shelf}
use Rattle.call_outcomes.specs.declared.outcome.Outcome.{Outcome}
use Rattle.call_outcomes.specs.Outcomes.{usage, missing, source, listed}
use Rattle.print_command.specs.Answer.{IsPrinted}
use Rattle.steep_cli.specs.Lists.{Lists}

-- both files are there: the list of their check
abbrev pub IsList : List ℕ → List ℕ → List ℕ → List ℕ → Outcome → Type 0
IsList a signature b ruby outcome = (list : List Diag) × Lists signature ruby list × (outcome ≡ listed (source a signature ∷ source b ruby ∷ []) list)

-- with the first file, and what there is of the second
abbrev pub IsSecond : List ℕ → List ℕ → List ℕ → Option (List ℕ) → Outcome → Type 0
IsSecond a signature b None outcome = outcome ≡ missing b
IsSecond a signature b (Some ruby) outcome = IsList a signature b ruby outcome

-- with what there is of the first file
abbrev pub IsFirst : List ℕ → Option (List ℕ) → List ℕ → Option (List ℕ) → Outcome → Type 0
IsFirst a None b second outcome = outcome ≡ missing a
IsFirst a (Some signature) b second outcome = IsSecond a signature b second outcome

-- a word that names a file: it is no option, and ends so
abbrev pub is_file : List ℕ → List ℕ → Bool
is_file ending word = not (starts_with nat_eq word (codes "-")) && ends_with nat_eq word ending

-- the words behind `steep check`: a signature file and a Ruby file
abbrev pub IsChecked : List (List ℕ) → Shelf → Outcome → Type 0
IsChecked (a ∷ b ∷ []) shelf outcome = MatchBool (is_file (codes ".rbs") a && is_file (codes ".rb") b) (IsFirst a (shelf a) b (shelf b) outcome) (outcome ≡ usage (codes "words"))
IsChecked _ shelf outcome = outcome ≡ usage (codes "words")

-- the first two words are these
abbrev pub is_command : List ℕ → List ℕ → List ℕ → List ℕ → Bool
is_command family command first second = same_name family first && same_name command second

-- the outcome is what the words answer over these files
abbrev pub IsAnswer : List (List ℕ) → Shelf → Outcome → Type 0
IsAnswer (family ∷ command ∷ rest) shelf outcome =
    MatchBool (is_command family command (codes "steep") (codes "check")) (IsChecked rest shelf outcome)
    (MatchBool (is_command family command (codes "rbs") (codes "print")) (IsPrinted rest shelf outcome)
    (outcome ≡ usage (codes "command")))
IsAnswer _ shelf outcome = outcome ≡ usage (codes "command")
