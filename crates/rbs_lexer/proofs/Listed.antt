-- What is among listed words.
use Rattle.std.proofs.Common.{ℕ, ◌≡◌, true, sym, subst, List, [], ◌∷◌}
use Rattle.names.specs.Places.{is_among}
use Rattle.names.proofs.Places.{same_name-true}
use Rattle.rbs_lexer.proofs.Bytes.{or_cases}

-- the fact holds of each of the words
abbrev pub Each : (List ℕ → Type 0) → List (List ℕ) → Type 0
Each P [] = Unit {0}
Each P (w ∷ words) = P w × Each P words

pub among_each : (P : List ℕ → Type 0) (w : List ℕ) (words : List (List ℕ)) → Each P words → is_among w words ≡ true → P w
among_each P w [] h e = cc
among_each P w (v ∷ words) h e = or_cases _ _ e (λ s. subst P (sym (same_name-true w v s)) h.0) (λ s. among_each P w words h.1 s)
