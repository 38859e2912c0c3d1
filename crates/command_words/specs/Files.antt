-- Which files a command takes.
use Rattle.std.specs.Prelude.{ℕ, Bool, ◌&&◌, not, true, List, [], ◌∷◌, length, nat_eq, nat_le}
use Rattle.std.specs.List.{ends_with, list_all}
use Rattle.names.specs.Places.{is_among}

-- how many files a command takes at most
abbrev pub most_files : ℕ
most_files = 4096

-- no file is named twice
abbrev pub are_distinct : List (List ℕ) → Bool
are_distinct [] = true
are_distinct (file ∷ files) = not (is_among file files) && are_distinct files

-- the files have the ending, no two are equal, and there aren't too many
abbrev pub are_files : List ℕ → List (List ℕ) → Bool
are_files ending files =
    list_all (λ file. ends_with nat_eq file ending) files
    && (are_distinct files && nat_le (length files) most_files)
