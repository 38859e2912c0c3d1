-- The files that the words of a command name.
use Rattle.std.specs.Prelude.{ℕ, List, [], ◌∷◌, Option, Some, None, option_map, option_and_then, codes, nat_eq, if◌then◌else◌}
use Rattle.std.specs.List.{starts_with}
use Rattle.names.specs.Places.{same_name}

-- what the words name: the word `--` ends the options and names nothing, behind it each word is a
-- file, and up to it each word that doesn't begin with a hyphen; one that does is no form
abbrev pub named : List (List ℕ) → Option (List (List ℕ))
named [] = Some []
named (word ∷ rest) =
    if same_name word (codes "--") then Some rest
    else (if starts_with nat_eq word (codes "-") then None
    else option_map (λ files. word ∷ files) (named rest))

abbrev pub at_least_one : List (List ℕ) → Option (List (List ℕ))
at_least_one [] = None
at_least_one (file ∷ files) = Some (file ∷ files)

-- the files that the words name, one or more, or `None` where the words are no form
abbrev pub file_words : List (List ℕ) → Option (List (List ℕ))
file_words words = option_and_then at_least_one (named words)
