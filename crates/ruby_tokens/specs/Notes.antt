-- Whether a comment gives a local its type, as a test.
use Rattle.std.specs.Prelude.{ℕ, Bool, false, ◌&&◌, ◌||◌, ◌==◌, nat_eq, if◌then◌else◌, List, [], ◌∷◌, length, take, drop, Option, Some, None, option_and_then, codes}
use Rattle.std.specs.Char.{is_ascii_lowercase}
use Rattle.std.specs.Cmp.Lexicographic.{pointwise}
use Rattle.source_text.specs.Characters.{is_blank, is_name_character}

-- the characters from the first on that doesn't pass the test
abbrev pub skip : (ℕ → Bool) → List ℕ → List ℕ
skip p [] = []
skip p (c ∷ cs) = if p c then skip p cs else c ∷ cs

-- what follows these letters, where they stand first
abbrev pub after_letters : List ℕ → List ℕ → Option (List ℕ)
after_letters ls cs = if pointwise nat_eq (take (length ls) cs) ls then Some (drop (length ls) cs) else None

-- what follows the blanks that stand first, one or more
abbrev pub after_blanks : List ℕ → Option (List ℕ)
after_blanks [] = None
after_blanks (c ∷ cs) = if is_blank c then Some (skip is_blank cs) else None

abbrev pub begins_colon : List ℕ → Bool
begins_colon [] = false
begins_colon (c ∷ cs) = c == 58

-- a local's name, and a colon directly behind it
abbrev pub begins_typed_name : List ℕ → Bool
begins_typed_name [] = false
begins_typed_name (c ∷ cs) = (is_ascii_lowercase c || c == 95) && begins_colon (skip is_name_character cs)

-- what follows `@type var` and its blanks
abbrev pub after_mark : List ℕ → Option (List ℕ)
after_mark cs =
    option_and_then after_blanks (option_and_then (after_letters (codes "var")) (option_and_then after_blanks
    (option_and_then (after_letters (codes "@type")) (after_blanks cs))))

abbrev pub is_named : Option (List ℕ) → Bool
is_named None = false
is_named (Some cs) = begins_typed_name cs

abbrev pub is_type_note : List ℕ → Bool
is_type_note cs = is_named (after_mark cs)
