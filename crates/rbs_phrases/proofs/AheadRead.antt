-- What the next terminal is by its sort, and what is left of the text when it is taken.
use Rattle.std.proofs.Common.{ℕ, ◌≡◌, ◌+◌, ◌<◌, ◌&&◌, refl, sym, ◌∙◌, ap, subst, Bool, true, false, List, [], ◌∷◌, length, Option, Some, arith}
use Rattle.std.specs.Prelude.{MatchOption}
use Rattle.rbs_terminals.specs.declared.token.Token.{Token}
use Rattle.rbs_terminals.specs.declared.token.Spot.{Spot}
use Rattle.rbs_terminals.specs.declared.token.Mark.{Mark}
use Rattle.rbs_terminals.specs.declared.token.Mark.TheVariants as mark
use Rattle.rbs_terminals.specs.declared.token.Kind.{Kind}
use Rattle.rbs_terminals.specs.declared.token.Kind.TheVariants as kind
use Rattle.rbs_terminals.specs.declared.sorts.Sort.{Sort}
use Rattle.rbs_terminals.specs.Sorts.{sort_of, next_sort}
use Rattle.rbs_types.specs.Symbols.{scope_at, scope_follows}
use Rattle.rbs_phrases.specs.Fronts.{Front, Whole, whole, opens_by, opens, is_small_kind, all_small, end_behind, IsNext}
use Rattle.rbs_phrases.specs.Ahead.{opens_by_sort, is_small_sort, mark_of, next_mark, on_line_next}

opens_is : (k : Kind) → opens_by k ≡ opens_by_sort (sort_of k)
opens_is (kind.Mark mark.Open) = refl
opens_is (kind.Mark mark.OpenSquare) = refl
opens_is (kind.Mark mark.OpenBrace) = refl
opens_is (kind.Mark _) = refl
opens_is _ = refl

small_is : (k : Kind) → is_small_kind k ≡ is_small_sort (sort_of k)
small_is kind.PastInteger = refl
small_is _ = refl

-- what is said of a value that there may be, where there is one
pub found_is : {X : Type 0} (A : Type 0) (P : X → Type 0) (r : Option X) (x : X) → r ≡ Some x → MatchOption r A P → P x
found_is A P r x e h = subst (λ r. MatchOption r A P) e h

some_is : {s t : Sort} → Some s ≡ Some t → s ≡ t
some_is e = cc

whole_is : (o o' l l' : ℕ) (b b' : Bool) → o ≡ o' → l ≡ l' → b ≡ b' → ◌≡◌ {A = Whole} (record { opens = o; last = l; small = b }) (record { opens = o'; last = l'; small = b' })
whole_is o o' l l' b b' e f g = rw (e, f, g) refl

-- when the next terminal is taken, which is of this sort, the whole text stays the same
module _ (f : Front) (c : Token) (rest : List Token) (s : Sort) (end opened : ℕ) where
  from_terminal : next_sort (c ∷ rest) ≡ Some s → opened ≡ f.opened + opens_by_sort s → is_small_sort s ≡ true → end ≡ c.spot.end
      → whole (record { rest = rest; end = end; opened = opened }) ≡ whole (record { rest = c ∷ rest; end = f.end; opened = f.opened })
  from_terminal n o small last =
      let sort : sort_of c.kind ≡ s = some_is n in
      let opens_one : opens_by c.kind ≡ opens_by_sort s = opens_is c.kind ∙ ap opens_by_sort sort in
      let small_one : is_small_kind c.kind ≡ true = small_is c.kind ∙ ap is_small_sort sort ∙ small in
      whole_is (opened + opens rest) (f.opened + (opens_by c.kind + opens rest)) (end_behind end rest) (end_behind c.spot.end rest) (all_small rest) (is_small_kind c.kind && all_small rest)
      (omega (arith, o, opens_one)) (ap (λ e. end_behind e rest) last) (rw small_one refl)

  pub taken_whole : f.rest ≡ c ∷ rest → next_sort f.rest ≡ Some s → opened ≡ f.opened + opens_by_sort s → is_small_sort s ≡ true → end ≡ c.spot.end
      → whole (record { rest = rest; end = end; opened = opened }) ≡ whole f
  taken_whole e n o small last =
      from_terminal (subst (λ ts. next_sort ts ≡ Some s) e n) o small last ∙ ap (λ ts. whole (record { rest = ts; end = f.end; opened = f.opened })) (sym e)

  pub shorter_by : f.rest ≡ c ∷ rest → length rest < length f.rest
  shorter_by e = rw e (omega arith)

-- the next terminal is a mark where its sort says so
kind_is : (m : Mark) (k : Kind) → mark_of (Some (sort_of k)) ≡ Some m → k ≡ kind.Mark m
kind_is m (kind.Mark n) e = cc
kind_is m _ e = absurd (cc)

pub mark_next : (m : Mark) (ts : List Token) → next_mark ts ≡ Some m → IsNext m ts
mark_next m [] e = absurd (cc)
mark_next m (c ∷ ts) e = kind_is m c.kind e

pub next_of : (m : Mark) (ts : List Token) → IsNext m ts → next_mark ts ≡ Some m
next_of m [] h = absurd h
next_of m (c ∷ ts) h = ap (λ k. mark_of (Some (sort_of k))) h

-- what is known of the sort of the next terminal
pub mark_ahead : (m : Mark) (s : Option Sort) (ts : List Token) → s ≡ next_sort ts → mark_of s ≡ Some m → IsNext m ts
mark_ahead m s ts e h = mark_next m ts (subst (λ s. mark_of s ≡ Some m) e h)

pub ahead_of : (m : Mark) (s : Option Sort) (ts : List Token) → s ≡ next_sort ts → IsNext m ts → mark_of s ≡ Some m
ahead_of m s ts e h = ap mark_of e ∙ next_of m ts h

-- a `::` follows on the line where it is next and stands on the line
pub scope_is_next : (ts : List Token) → next_mark ts ≡ Some mark.Scope → scope_follows ts ≡ on_line_next ts
scope_is_next [] e = absurd (cc)
scope_is_next (c ∷ ts) e = ap (λ k. scope_at k c.spot) (kind_is mark.Scope c.kind e)

not_scope : (k : Kind) (s : Spot) → (k ≡ kind.Mark mark.Scope → ⊥) → scope_at k s ≡ false
not_scope (kind.Mark mark.Scope) s h = absurd (h refl)
not_scope (kind.Mark _) s h = refl
not_scope _ s h = refl

pub no_scope_next : (ts : List Token) → (IsNext mark.Scope ts → ⊥) → scope_follows ts ≡ false
no_scope_next [] h = refl
no_scope_next (c ∷ ts) h = not_scope c.kind c.spot h
