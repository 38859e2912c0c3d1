-- A machine that takes one token at a time, and what is open as a text goes on.
use Rattle.std.specs.Prelude.{ℕ, ◌≤◌, List, [], ◌∷◌, Option, option_and_then}

-- what a text from this state on is
unfoldable pub reads : {S T X : Type 0} → (S → T → Option S) → (S → Option X) → S → List T → Option X
reads next final s [] = final s
reads next final s (t ∷ ts) = option_and_then (λ m. reads next final m ts) (next s t)

abbrev pub Each : {T : Type 0} → (T → Type 0) → List T → Type 0
Each P [] = Unit {0}
Each P (t ∷ ts) = P t × Each P ts

-- Where `d` is what is open before the tokens, and `behind` is what is open behind one more, at no place are more than `limit` open.
abbrev pub OpenAtMost : {D T : Type 0} → (behind : D → T → D) → (sure : D → ℕ) → (limit : ℕ) → D → List T → Type 0
OpenAtMost behind sure limit d [] = Unit {0}
OpenAtMost behind sure limit d (t ∷ ts) = (sure (behind d t) ≤ limit) × OpenAtMost behind sure limit (behind d t) ts
