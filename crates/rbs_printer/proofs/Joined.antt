-- Lists with a separator, the last byte of a name, and blanks.
use Rattle.std.proofs.Common.{◌≡◌, refl, ap, sym, ℕ, suc, zero, ◌+◌, List, [], ◌∷◌, ◌++◌, append_assoc, add-one, Bool, true, false, not}
use Rattle.std.proofs.lemmas.List.{append-nil}
use Rattle.std.specs.Prelude.{codes, if◌then◌else◌}
use Rattle.rbs_printer.specs.Texts.{joined, ends_in_word, is_sign, indent}
use Rattle.rbs_printer.specs.Listed.{listed, some_listed}

listed_behind : (by w : List ℕ) (ws : List (List ℕ)) → joined by (w ∷ ws) ≡ w ++ listed true by ws
listed_behind by w [] = sym (append-nil w)
listed_behind by w (v ∷ ws) = rw (listed_behind by v ws) (simp append_assoc)

-- a list is what is listed where nothing was before
pub joined_listed : (by : List ℕ) (ws : List (List ℕ)) → joined by ws ≡ listed false by ws
joined_listed by [] = refl
joined_listed by (w ∷ ws) = listed_behind by w ws

-- a list goes on where one before it ends
pub listed_append : (before : Bool) (by : List ℕ) (ws vs : List (List ℕ)) → listed before by (ws ++ vs) ≡ listed before by ws ++ listed (some_listed before ws) by vs
listed_append before by [] vs = refl
listed_append before by (w ∷ []) vs = simp append_assoc
listed_append before by (w ∷ v ∷ ws) vs = rw (listed_append true by (v ∷ ws) vs) (simp append_assoc)

word_end : (b : Bool) → (if b then false else true) ≡ not b
word_end true = refl
word_end false = refl

-- whether a name ends in a word is told by its last byte
pub last_of_word : (front : List ℕ) (last : ℕ) → ends_in_word (front ++ last ∷ []) ≡ not (is_sign last)
last_of_word [] last = word_end (is_sign last)
last_of_word (b ∷ []) last = word_end (is_sign last)
last_of_word (b ∷ c ∷ front) last = last_of_word (c ∷ front) last

indent_suc : (depth : ℕ) → indent (suc depth) ≡ indent depth ++ codes "  "
indent_suc zero = refl
indent_suc (suc depth) = ap (λ w. codes "  " ++ w) (indent_suc depth)

-- one level more
pub indent_more : (depth : ℕ) → indent (depth + 1) ≡ indent depth ++ codes "  "
indent_more depth = rw add-one (indent_suc depth)
