-- Names of methods that were read.
use Rattle.std.proofs.Common.{ℕ, ◌≡◌, refl, sym, ◌∙◌, ap, subst, Bool, true, false, ◌&&◌, List, ◌∷◌, ◌++◌, Some, ◌⊎◌, ⊎_elim}
use Rattle.rbs_terminals.specs.declared.token.Token.{Token}
use Rattle.rbs_terminals.specs.declared.token.Spot.{Spot}
use Rattle.rbs_terminals.specs.declared.token.Mark.{Mark}
use Rattle.rbs_terminals.specs.declared.token.Mark.TheVariants as mark
use Rattle.rbs_terminals.specs.declared.token.Kind.{Kind}
use Rattle.rbs_terminals.specs.declared.token.Kind.TheVariants as kind
use Rattle.rbs_terminals.specs.declared.token.Keyword.TheVariants as keyword
use Rattle.rbs_types.specs.Symbols.{token, sign, word, scope_follows}
use Rattle.rbs_declarations.specs.declared.operators.Operator.{Operator}
use Rattle.rbs_declarations.specs.Operators.{operator_text}
use Rattle.rbs_declarations.specs.Words.{method_word, is_capital, is_joined, ending_of, extended_at, extension}
use Rattle.rbs_declarations.specs.Grammar.{Marks, one_more, MethodName, bare_word, marked_word, an_operator, Single, of_itself}
use Rattle.rbs_phrases.specs.Fronts.{Marked}
use Rattle.rbs_files.specs.Behind.{mark_if, mark_at, joined_mark, operator_at}

and_false : (b : Bool) → (b && false) ≡ false
and_false true = refl
and_false false = refl

-- with one more mark
pub longer_operator : (o o' o'' : Operator) (ts : List Token) (c : Token) (mid rest : List Token) → ts ≡ c ∷ mid → extension o ts ≡ Some o' → Marks o' o'' mid rest → Marks o o'' ts rest
longer_operator o o' o'' ts c mid rest e x d = subst (λ ts. Marks o o'' ts rest) (sym e) (of_kind c.kind c.spot (subst (λ ts. extension o ts ≡ Some o') e x))
  where
    of_kind : (k : Kind) (s : Spot) → extended_at o k s ≡ Some o' → Marks o o'' (token k s ∷ mid) rest
    of_kind (kind.Mark m) s x = one_more m s x d
    of_kind _ s x = absurd (cc)

-- what stands directly behind is a mark
if_joined : (b : Bool) (m n : Mark) → mark_if b n ≡ Some m → (kind.Mark n ≡ kind.Mark m) × (b ≡ true)
if_joined true m n e = (cc, refl)
if_joined false m n e = absurd (cc)

is_sign : (m : Mark) (k : Kind) (s : Spot) → mark_at k s ≡ Some m → (k ≡ kind.Mark m) × (is_joined s ≡ true)
is_sign m (kind.Mark n) s e = if_joined (is_joined s) m n e
is_sign m _ s e = absurd (cc)

pub next_sign : (m : Mark) (ts : List Token) (c : Token) (mid : List Token) → ts ≡ c ∷ mid → joined_mark ts ≡ Some m → (s : Spot) × (ts ≡ sign m s ∷ mid) × (is_joined s ≡ true)
next_sign m ts c mid e h =
    let is = is_sign m c.kind c.spot (subst (λ ts. joined_mark ts ≡ Some m) e h) in
    (c.spot, e ∙ ap (λ k. token k c.spot ∷ mid) is.0, is.1)

-- a bare word
pub bare : (k : Kind) (w : List ℕ) (ts : List Token) → method_word k ≡ Some w → ((is_capital k ≡ false) ⊎ (scope_follows ts ≡ false)) → (s : Spot) → MethodName w (token k s ∷ ts) ts
bare k w ts e u s = bare_word k w s e (⊎_elim (λ f. ap (λ b. b && scope_follows ts) f) (λ f. ap (λ b. is_capital k && b) f ∙ and_false (is_capital k)) u)

-- a word with its ending
pub ended_word : (k : Kind) (w e : List ℕ) (m : Mark) (ts : List Token) (c : Token) (mid : List Token) → ts ≡ c ∷ mid → joined_mark ts ≡ Some m → method_word k ≡ Some w → ending_of m ≡ Some e
    → (s : Spot) → MethodName (w ++ e) (token k s ∷ ts) mid
ended_word k w e m ts c mid n h x y s =
    let next = next_sign m ts c mid n h in
    subst (λ ts. MethodName (w ++ e) (token k s ∷ ts) mid) (sym next.1) (marked_word k w e m s next.0 x y next.2)

-- an operator from its first mark on
pub whole_operator : (k : Kind) (o o' : Operator) (ts rest : List Token) → operator_at k ≡ Some o → Marks o o' ts rest → (s : Spot) → MethodName (operator_text o') (token k s ∷ ts) rest
whole_operator (kind.Mark m) o o' ts rest e d s = an_operator m s e d
whole_operator _ o o' ts rest e d s = absurd (cc)

-- `self` and a dot
pub itself : (k : Kind) (s : Spot) (ts old mid : List Token) → k ≡ kind.Keyword keyword.SelfWord → old ≡ token k s ∷ ts → Marked mark.Dot ts mid → Single true old mid
itself k s ts old mid is e m =
    subst (λ ts. Single true ts mid) (sym (e ∙ ap (λ k. token k s ∷ ts) is ∙ ap (λ ts. word keyword.SelfWord s ∷ ts) m.1)) (of_itself s m.0)
