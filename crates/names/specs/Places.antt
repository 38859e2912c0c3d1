-- Names and their places in a list.
use Rattle.std.specs.Prelude.{ℕ, ◌≡◌, Bool, List, Option, nat_eq, position}
use Rattle.std.specs.List.{list_any}
use Rattle.std.specs.Cmp.Lexicographic.{pointwise}

-- two names are letter for letter the same
abbrev pub same_name : List ℕ → List ℕ → Bool
same_name a b = pointwise nat_eq a b

-- a name stands somewhere in the list
abbrev pub is_among : List ℕ → List (List ℕ) → Bool
is_among name names = list_any (same_name name) names

-- the place, from 0, where a name stands first
abbrev pub place_of : List ℕ → List (List ℕ) → Option ℕ
place_of name names = position (same_name name) names

-- the same names stand in both lists, however often
abbrev pub AreSameNames : List (List ℕ) → List (List ℕ) → Type 0
AreSameNames names others = (name : List ℕ) → is_among name names ≡ is_among name others
