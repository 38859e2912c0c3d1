-- Aliases that were read.
use Rattle.std.proofs.Common.{ℕ, ◌≡◌, refl, sym, ◌∙◌, ap, subst, true, false, codes, List, ◌∷◌, ◌++◌, Option, Some, inr}
use Rattle.rbs_terminals.specs.declared.token.Token.{Token}
use Rattle.rbs_terminals.specs.declared.token.Spot.{Spot}
use Rattle.rbs_terminals.specs.declared.token.Mark.{Mark}
use Rattle.rbs_terminals.specs.declared.token.Mark.TheVariants as mark
use Rattle.rbs_terminals.specs.declared.token.Kind.{Kind}
use Rattle.rbs_types.specs.Symbols.{token, sign, scope_follows}
use Rattle.rbs_declarations.specs.Words.{method_word, is_joined}
use Rattle.rbs_declarations.specs.Grammar.{MethodName}
use Rattle.rbs_declarations.proofs.NamePlaces.{double_equals_at}
use Rattle.rbs_files.specs.Behind.{joined_mark, is_equals, equals_follows}
use Rattle.rbs_files.proofs.MethodNamesRead.{next_sign, bare, ended_word}

equals_is : (o : Option Mark) → is_equals o ≡ true → o ≡ Some mark.Equals
equals_is (Some mark.Equals) e = refl
equals_is _ e = absurd (cc)

next_equals : (ts : List Token) (c : Token) (mid : List Token) → ts ≡ c ∷ mid → equals_follows ts ≡ true → (s : Spot) × (ts ≡ sign mark.Equals s ∷ mid) × (is_joined s ≡ true)
next_equals ts c mid n e = next_sign mark.Equals ts c mid n (equals_is (joined_mark ts) e)

-- a word with an `=`
equalled : (k : Kind) (w name : List ℕ) (ts : List Token) (c : Token) (mid : List Token) → ts ≡ c ∷ mid → equals_follows ts ≡ true → method_word k ≡ Some w → name ≡ w ++ codes "=" → (s : Spot) → MethodName name (token k s ∷ ts) mid
equalled k w name ts c mid n e x y s =
    subst (λ w. MethodName w (token k s ∷ ts) mid) (sym y) (ended_word k w (codes "=") mark.Equals ts c mid n (equals_is (joined_mark ts) e) x refl s)

-- two `=` side by side
double : (name : List ℕ) (ts : List Token) (c : Token) (ts' : List Token) (c' : Token) (rest : List Token) → ts ≡ c ∷ ts' → ts' ≡ c' ∷ rest → equals_follows ts ≡ true → equals_follows ts' ≡ true → name ≡ codes "==" → MethodName name ts rest
double name ts c ts' c' rest n n' e e' y =
    let first = next_equals ts c ts' n e in
    let second = next_equals ts' c' rest n' e' in
    let whole : ts ≡ sign mark.Equals first.0 ∷ sign mark.Equals second.0 ∷ rest = first.1 ∙ ap (λ ts. sign mark.Equals first.0 ∷ ts) second.1 in
    subst (λ w. MethodName w ts rest) (sym y) (subst (λ ts. MethodName (codes "==") ts rest) (sym whole) (double_equals_at first.0 second.0 rest second.2))

-- the names of an alias
abbrev pub Renamed : List ℕ → List ℕ → List Token → List Token → Type 0
Renamed new old ts rest = (mid : List Token) × MethodName new ts mid × MethodName old mid rest

-- behind the new name, which ends with an `=`, the old one
pub one_equals : (k : Kind) (w new old : List ℕ) (ts : List Token) (c : Token) (mid rest : List Token) → ts ≡ c ∷ mid → equals_follows ts ≡ true → new ≡ w ++ codes "=" → MethodName old mid rest
    → method_word k ≡ Some w → (s : Spot) → Renamed new old (token k s ∷ ts) rest
one_equals k w new old ts c mid rest n e y d x s = (mid, equalled k w new ts c mid n e x y s, d)

-- the old name is `==`, directly behind the new one
pub two_equals : (k : Kind) (w old : List ℕ) (ts : List Token) (c : Token) (ts' : List Token) (c' : Token) (rest : List Token) → ts ≡ c ∷ ts' → ts' ≡ c' ∷ rest → equals_follows ts ≡ true → equals_follows ts' ≡ true
    → old ≡ codes "==" → method_word k ≡ Some w → (s : Spot) → Renamed w old (token k s ∷ ts) rest
two_equals k w old ts c ts' c' rest n n' e e' y x s =
    let none = subst (λ ts. scope_follows ts ≡ false) (sym (next_equals ts c ts' n e).1) refl in
    (ts, bare k w ts x (inr none) s, double old ts c ts' c' rest n n' e e' y)

-- the new name ends with an `=`, and the old one is `==` directly behind it
pub three_equals : (k : Kind) (w new old : List ℕ) (ts : List Token) (c : Token) (ts' : List Token) (c' : Token) (ts'' : List Token) (c'' : Token) (rest : List Token) → ts ≡ c ∷ ts' → ts' ≡ c' ∷ ts'' → ts'' ≡ c'' ∷ rest
    → equals_follows ts ≡ true → equals_follows ts' ≡ true → equals_follows ts'' ≡ true → new ≡ w ++ codes "=" → old ≡ codes "==" → method_word k ≡ Some w → (s : Spot) → Renamed new old (token k s ∷ ts) rest
three_equals k w new old ts c ts' c' ts'' c'' rest n n' n'' e e' e'' y z x s = (ts', equalled k w new ts c ts' n e x y s, double old ts' c' ts'' c'' rest n' n'' e' e'' z)
