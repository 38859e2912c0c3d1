-- The names that a call may have: those that a class may declare, and `new`.
use Rattle.std.specs.Prelude.{◌≡◌, ℕ, true, List, codes}
use Rattle.profile_words.specs.Words.{is_callable}

abbrev pub new_word : List ℕ
new_word = codes "new"

abbrev pub IsCalled : List ℕ → Type 0
IsCalled n = is_callable n ≡ true
