-- The order of a list of diagnostics.
use Rattle.std.specs.Prelude.{◌≡◌, ℕ, ◌<◌, ◌⊎◌, ◌↔◌, List, [], ◌∷◌}
use Rattle.std.specs.List.{AllPairs, Contains}
use Rattle.sig_model.specs.declared.diag.Diag.{Diag}
use Rattle.diagnostics.specs.Texts.{id_text}

-- a key stands below another, or is the same and the rest decides
abbrev pub Then : {K : Type 0} → (K → K → Type 0) → K → K → Type 0 → Type 0
Then Below x y Rest = Below x y ⊎ ((x ≡ y) × Rest)

abbrev pub NumberBefore : ℕ → ℕ → Type 0
NumberBefore m n = m < n

-- the first items that differ decide, and else the list that ends first stands before
abbrev pub ListBefore : {X : Type 0} → (X → X → Type 0) → List X → List X → Type 0
ListBefore Below xs [] = ⊥
ListBefore Below [] (y ∷ ys) = Unit {0}
ListBefore Below (x ∷ xs) (y ∷ ys) = Then Below x y (ListBefore Below xs ys)

-- one text stands before another: byte by byte
abbrev pub TextBefore : List ℕ → List ℕ → Type 0
TextBefore = ListBefore NumberBefore

-- one diagnostic stands before another: by the file's number, the start, the end, the name and the arguments, of which the first that differs decides
abbrev pub Before : Diag → Diag → Type 0
Before d e =
    Then NumberBefore d.place.file e.place.file (
    Then NumberBefore d.place.start e.place.start (
    Then NumberBefore d.place.end e.place.end (
    Then TextBefore (id_text d.id) (id_text e.id) (
    ListBefore TextBefore d.args e.args))))

-- each diagnostic stands before all later ones, so none stands twice
abbrev pub IsOrdered : List Diag → Type 0
IsOrdered list = AllPairs Before list

-- the two lists have the same diagnostics
abbrev pub SameDiagnostics : List Diag → List Diag → Type 0
SameDiagnostics xs ys = (d : Diag) → Contains xs d ↔ Contains ys d

-- the list has the diagnostics that were found, in their order and each once
pub record IsOrderOf (found list : List Diag) : Type 0 where
  pub ordered : IsOrdered list
  pub same : SameDiagnostics found list
