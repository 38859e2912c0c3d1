-- What is left of a phrase: the relation of a reader to what it reads, by what still stands in front of it.
use Rattle.std.proofs.Common.{◌≡◌, refl, ap, List, [], ◌∷◌, ◌++◌, map, Option, Some, None}
use Rattle.ruby_tokens.specs.declared.token.Token.{Token}
use Rattle.ruby_reader.specs.declared.progress.Turn.{Turn}
use Rattle.ruby_reader.specs.declared.progress.Turn.TheVariants as turn
use Rattle.ruby_reader.specs.declared.progress.Progress.{Progress}
use Rattle.ruby_reader.specs.declared.progress.Progress.TheVariants.{Reading, Read}
use Rattle.ruby_reader.specs.Grammar as grammar

abbrev pub turn_of : Turn → grammar.Turn
turn_of turn.Free = grammar.free
turn_of turn.Taken = grammar.taken

-- `ts` down to `rest` is what is left of the phrase of `x`, after a token
abbrev pub Goes : {R X : Type 0} → (R → X → List Token → List Token → Type 0) → Option (Progress R X) → X → List Token → List Token → Type 0
Goes Left None x ts rest = ⊥
Goes Left (Some (Reading r)) x ts rest = Left r x ts rest
Goes Left (Some (Read y)) x ts rest = (x ≡ y) × (ts ≡ rest)

-- the same for a phrase that the grammar knows by its plain twin
abbrev pub Reaches : {R X Y : Type 0} → (X → Y) → (R → Y → List Token → List Token → Type 0) → Option (Progress R X) → Y → List Token → List Token → Type 0
Reaches plain Left None x ts rest = ⊥
Reaches plain Left (Some (Reading r)) x ts rest = Left r x ts rest
Reaches plain Left (Some (Read y)) x ts rest = (x ≡ plain y) × (ts ≡ rest)

-- the twins of a list with one more at its end
pub map_more : {X Y : Type 0} (f : X → Y) (xs : List X) (x : X) (ys : List Y) → map f (xs ++ x ∷ []) ++ ys ≡ map f xs ++ f x ∷ ys
map_more f [] x ys = refl
map_more f (y ∷ xs) x ys = ap (λ zs. f y ∷ zs) (map_more f xs x ys)

pub none_more : {X : Type 0} (xs : List X) → xs ++ [] ≡ xs
none_more [] = refl
none_more (x ∷ xs) = ap (λ zs. x ∷ zs) (none_more xs)
