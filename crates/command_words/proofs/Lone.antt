-- A word that is a hyphen alone.
use Rattle.std.proofs.Common.{◌≡◌, ◌∙◌, ◌&&◌, ◌||◌, Bool, cond, true, false, not, List, ℕ, [], ◌∷◌, Option, Some, None, nat_eq, refl, sym, ap, codes, true≢false}
use Rattle.std.specs.Prelude.{option_map, option_and_then}
use Rattle.std.specs.List.{starts_with}
use Rattle.names.specs.Places.{same_name}
use Rattle.names.proofs.Places.{same_name-true}
use Rattle.command_words.specs.Command.{has_lone_hyphen}
use Rattle.command_words.specs.Words.{at_least_one, file_words, named}

-- what a word and those behind it name, by whether it is the end, whether it begins with a hyphen, and what those name
abbrev named_by : List ℕ → List (List ℕ) → Bool → Bool → Option (List (List ℕ)) → Option (List (List ℕ))
named_by word rest is_end begins names_rest = cond is_end (Some rest) (cond begins None (option_map (λ files. word ∷ files) names_rest))

none_named : (words : List (List ℕ)) → has_lone_hyphen words ≡ true → named words ≡ None
none_named [] lone = absurd (true≢false (sym lone))
none_named (word ∷ rest) lone = by_cases (same_name word (codes "--")) refl (same_name word (codes "-")) refl lone (none_named rest)
  where
    no_more : (b : Bool) → named_by word rest false b None ≡ None
    no_more true = refl
    no_more false = refl

    by_cases : (is_end : Bool) → same_name word (codes "--") ≡ is_end → (is_lone : Bool) → same_name word (codes "-") ≡ is_lone
        → (not is_end && (is_lone || has_lone_hyphen rest)) ≡ true → (has_lone_hyphen rest ≡ true → named rest ≡ None) → named (word ∷ rest) ≡ None
    by_cases true e is_lone f bad later = absurd (true≢false (sym bad))
    by_cases false e true f found later =
        let begins_so : starts_with nat_eq word (codes "-") ≡ true = ap (λ w. starts_with nat_eq w (codes "-")) (same_name-true word (codes "-") f) in
        ap (λ (b : Bool). named_by word rest b (starts_with nat_eq word (codes "-")) (named rest)) e
        ∙ ap (λ (b : Bool). named_by word rest false b (named rest)) begins_so
    by_cases false e false f found later =
        ap (λ (b : Bool). named_by word rest b (starts_with nat_eq word (codes "-")) (named rest)) e
        ∙ ap (λ (o : Option (List (List ℕ))). named_by word rest false (starts_with nat_eq word (codes "-")) o) (later found)
        ∙ no_more (starts_with nat_eq word (codes "-"))

pub lone_refused : (words : List (List ℕ)) → has_lone_hyphen words ≡ true → None ≡ file_words words
lone_refused words lone = sym (ap (option_and_then at_least_one) (none_named words lone))
