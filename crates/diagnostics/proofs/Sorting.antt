-- The order of diagnostics is strict, a comparison ranks by it, and one list alone has given diagnostics in order.
use Rattle.std.proofs.Common.{◌≡◌, ℕ, zero, suc, ◌<◌, Bool, true, false, List, [], ◌∷◌, length, refl, sym, ap, subst, ◌∙◌, arith, slice_index_or}
use mathlib.Core.Logic.{inl, inr}
use Rattle.std.specs.Prelude.{◌⊎◌, ◌↔◌, IsTrue}
use Rattle.std.specs.Cmp.{IsTotalOrder, strict, means, one_rank, both_ways, tied_itself, ranks, below_irrefl, below_chain, Equal-is, eq_by_cmp_equiv}
use Rattle.std.specs.Cmp.Lexicographic.{slice_cmp}
use Rattle.std.specs.List.{AllPairs, Contains, dedup}
use Rattle.std.specs.List.Sorted.{IsPermutation, IsSorted, IsStrictlySortedBy}
use Rattle.std.specs.Ordering.{MatchOrdering, ordering_then, nat_cmp, is_lt, is_eq, is_ne, eq_by_cmp}
use Rattle.std.specs.declared.cmp.Ordering.{Ordering}
use Rattle.std.specs.declared.cmp.Ordering.TheVariants.{Less, Equal, Greater}
use Rattle.std.proofs.lemmas.Bool.{false≢true}
use Rattle.std.proofs.lemmas.List.Elements.{All-from_recursion, All-weaker}
use Rattle.std.proofs.lemmas.List.Kept.{AllPairs-cons, IsStrictlySortedBy-dedup, Contains-dedup, Contains-from_dedup}
use Rattle.std.proofs.lemmas.List.Sorted.{Contains-permutation, IsPermutation-sym}
use Rattle.sig_model.specs.declared.diag.Diag.{Diag}
use Rattle.diagnostics.specs.Texts.{id_text}
use Rattle.diagnostics.specs.Order.{Then, NumberBefore, ListBefore, TextBefore, Before, IsOrdered, SameDiagnostics}
use Rattle.diagnostics.proofs.Names.{one_name}

abbrev Irreflexive : {K : Type 0} → (K → K → Type 0) → Type 0
Irreflexive {K} L = (x : K) → ¬ L x x

abbrev Chains : {K : Type 0} → (K → K → Type 0) → Type 0
Chains {K} L = (x y z : K) → L x y → L y z → L x z

abbrev Ranks : {K : Type 0} → (K → K → Type 0) → (K → K → Ordering) → Type 0
Ranks {K} L R = (x y : K) → MatchOrdering (R x y) (L x y) (x ≡ y) (L y x)

-- ---- a key, and then the rest

module _ {K : Type 0} (L : K → K → Type 0) where
  then_irrefl : Irreflexive L → (x : K) (P : Type 0) → (P → ⊥) → Then L x x P → ⊥
  then_irrefl irrefl x P none (inl less) = irrefl x less
  then_irrefl irrefl x P none (inr rest) = none rest.1

  then_chain : Chains L → (x y z : K) (P Q R : Type 0) → (P → Q → R) → Then L x y P → Then L y z Q → Then L x z R
  then_chain chain x y z P Q R both (inl a) (inl b) = inl (chain x y z a b)
  then_chain chain x y z P Q R both (inl a) (inr b) = inl (subst (L x) b.0 a)
  then_chain chain x y z P Q R both (inr a) (inl b) = inl (subst (λ k. L k z) (sym a.0) b)
  then_chain chain x y z P Q R both (inr a) (inr b) = inr (a.0 ∙ b.0, both a.1 b.1)

  then_ranks : (x y : K) (P Q R : Type 0) (r s : Ordering) → MatchOrdering r (L x y) (x ≡ y) (L y x) → MatchOrdering s P Q R → MatchOrdering (ordering_then r s) (Then L x y P) ((x ≡ y) × Q) (Then L y x R)
  then_ranks x y P Q R Less s h k = inl h
  then_ranks x y P Q R Equal Less h k = inr (h, k)
  then_ranks x y P Q R Equal Equal h k = (h, k)
  then_ranks x y P Q R Equal Greater h k = inr (sym h, k)
  then_ranks x y P Q R Greater s h k = inl h

at_equal : (r : Ordering) (P Q S R : Type 0) → (Q → S) → MatchOrdering r P Q R → MatchOrdering r P S R
at_equal Less P Q S R f h = h
at_equal Equal P Q S R f h = f h
at_equal Greater P Q S R f h = h

-- ---- lists

module _ {X : Type 0} (L : X → X → Type 0) where
  list_irrefl : Irreflexive L → Irreflexive (ListBefore L)
  list_irrefl irrefl [] h = h
  list_irrefl irrefl (x ∷ xs) h = then_irrefl L irrefl x (ListBefore L xs xs) (list_irrefl irrefl xs) h

  list_chain : Chains L → Chains (ListBefore L)
  list_chain chain xs ys [] h k = absurd k
  list_chain chain xs [] (z ∷ zs) h k = absurd h
  list_chain chain [] (y ∷ ys) (z ∷ zs) h k = tt
  list_chain chain (x ∷ xs) (y ∷ ys) (z ∷ zs) h k = then_chain L chain x y z (ListBefore L xs ys) (ListBefore L ys zs) (ListBefore L xs zs) (list_chain chain xs ys zs) h k

  list_ranks : (R : X → X → Ordering) → Ranks L R → Ranks (ListBefore L) (slice_cmp R)
  list_ranks R ranked [] [] = refl
  list_ranks R ranked [] (y ∷ ys) = tt
  list_ranks R ranked (x ∷ xs) [] = tt
  list_ranks R ranked (x ∷ xs) (y ∷ ys) =
      let later = list_ranks R ranked xs ys in
      let all = then_ranks L x y (ListBefore L xs ys) (xs ≡ ys) (ListBefore L ys xs) (R x y) (slice_cmp R xs ys) (ranked x y) later in
      at_equal (ordering_then (R x y) (slice_cmp R xs ys)) (ListBefore L (x ∷ xs) (y ∷ ys)) ((x ≡ y) × (xs ≡ ys)) (x ∷ xs ≡ y ∷ ys) (ListBefore L (y ∷ ys) (x ∷ xs)) (λ e i. e.0 i ∷ e.1 i) all

abbrev WordsBefore : List (List ℕ) → List (List ℕ) → Type 0
WordsBefore = ListBefore TextBefore

text_irrefl : Irreflexive TextBefore
text_irrefl = list_irrefl NumberBefore below_irrefl

text_chain : Chains TextBefore
text_chain = list_chain NumberBefore below_chain

text_ranks : Ranks TextBefore (slice_cmp nat_cmp)
text_ranks = list_ranks NumberBefore nat_cmp ranks

words_irrefl : Irreflexive WordsBefore
words_irrefl = list_irrefl TextBefore text_irrefl

words_chain : Chains WordsBefore
words_chain = list_chain TextBefore text_chain

words_ranks : Ranks WordsBefore (slice_cmp (slice_cmp nat_cmp))
words_ranks = list_ranks TextBefore (slice_cmp nat_cmp) text_ranks

-- ---- diagnostics

abbrev by_words : Diag → Diag → Type 0
by_words d e = WordsBefore d.args e.args

abbrev by_name : Diag → Diag → Type 0
by_name d e = Then TextBefore (id_text d.id) (id_text e.id) (by_words d e)

abbrev by_end : Diag → Diag → Type 0
by_end d e = Then NumberBefore d.place.end e.place.end (by_name d e)

abbrev by_start : Diag → Diag → Type 0
by_start d e = Then NumberBefore d.place.start e.place.start (by_end d e)

pub before_irrefl : Irreflexive Before
before_irrefl d =
    then_irrefl NumberBefore below_irrefl d.place.file (by_start d d) (
    then_irrefl NumberBefore below_irrefl d.place.start (by_end d d) (
    then_irrefl NumberBefore below_irrefl d.place.end (by_name d d) (
    then_irrefl TextBefore text_irrefl (id_text d.id) (by_words d d) (
    words_irrefl d.args))))

pub before_chain : Chains Before
before_chain c d e =
    then_chain NumberBefore below_chain c.place.file d.place.file e.place.file (by_start c d) (by_start d e) (by_start c e) (
    then_chain NumberBefore below_chain c.place.start d.place.start e.place.start (by_end c d) (by_end d e) (by_end c e) (
    then_chain NumberBefore below_chain c.place.end d.place.end e.place.end (by_name c d) (by_name d e) (by_name c e) (
    then_chain TextBefore text_chain (id_text c.id) (id_text d.id) (id_text e.id) (by_words c d) (by_words d e) (by_words c e) (
    words_chain c.args d.args e.args))))

abbrev compare_words : Diag → Diag → Ordering
compare_words d e = slice_cmp (slice_cmp nat_cmp) d.args e.args

abbrev compare_name : Diag → Diag → Ordering
compare_name d e = ordering_then (slice_cmp nat_cmp (id_text d.id) (id_text e.id)) (compare_words d e)

abbrev compare_end : Diag → Diag → Ordering
compare_end d e = ordering_then (nat_cmp d.place.end e.place.end) (compare_name d e)

abbrev compare_start : Diag → Diag → Ordering
compare_start d e = ordering_then (nat_cmp d.place.start e.place.start) (compare_end d e)

abbrev pub compare : Diag → Diag → Ordering
compare d e = ordering_then (nat_cmp d.place.file e.place.file) (compare_start d e)

abbrev SameFromName : Diag → Diag → Type 0
SameFromName d e = (id_text d.id ≡ id_text e.id) × (d.args ≡ e.args)

abbrev SameFromEnd : Diag → Diag → Type 0
SameFromEnd d e = (d.place.end ≡ e.place.end) × (SameFromName d e)

abbrev SameFromStart : Diag → Diag → Type 0
SameFromStart d e = (d.place.start ≡ e.place.start) × (SameFromEnd d e)

abbrev SameKeys : Diag → Diag → Type 0
SameKeys d e = (d.place.file ≡ e.place.file) × (SameFromStart d e)

one_diagnostic : (d e : Diag) → SameKeys d e → d ≡ e
one_diagnostic d e same =
    let rule = one_name d.id e.id same.1.1.1.0 in
    λ i. record {
      place = record { file = same.0 i; start = same.1.0 i; end = same.1.1.0 i };
      id = rule i;
      args = same.1.1.1.1 i;
    }

ranked_name : (d e : Diag) → MatchOrdering (compare_name d e) (by_name d e) (SameFromName d e) (by_name e d)
ranked_name d e = then_ranks TextBefore (id_text d.id) (id_text e.id) (by_words d e) (d.args ≡ e.args) (by_words e d) (slice_cmp nat_cmp (id_text d.id) (id_text e.id)) (compare_words d e) (text_ranks (id_text d.id) (id_text e.id)) (words_ranks d.args e.args)

ranked_end : (d e : Diag) → MatchOrdering (compare_end d e) (by_end d e) (SameFromEnd d e) (by_end e d)
ranked_end d e = then_ranks NumberBefore d.place.end e.place.end (by_name d e) (SameFromName d e) (by_name e d) (nat_cmp d.place.end e.place.end) (compare_name d e) (ranks d.place.end e.place.end) (ranked_name d e)

ranked_start : (d e : Diag) → MatchOrdering (compare_start d e) (by_start d e) (SameFromStart d e) (by_start e d)
ranked_start d e = then_ranks NumberBefore d.place.start e.place.start (by_end d e) (SameFromEnd d e) (by_end e d) (nat_cmp d.place.start e.place.start) (compare_end d e) (ranks d.place.start e.place.start) (ranked_end d e)

pub ranked : Ranks Before compare
ranked d e =
    let keys = then_ranks NumberBefore d.place.file e.place.file (by_start d e) (SameFromStart d e) (by_start e d) (nat_cmp d.place.file e.place.file) (compare_start d e) (ranks d.place.file e.place.file) (ranked_start d e) in
    at_equal (compare d e) (Before d e) (SameKeys d e) (d ≡ e) (Before e d) (one_diagnostic d e) keys

pub compare_total : IsTotalOrder compare
compare_total = strict Before before_irrefl before_chain compare ranked

pub stands : (d e : Diag) (r : Ordering) → r ≡ compare d e → MatchOrdering r (Before d e) (d ≡ e) (Before e d)
stands d e r is = means Before before_irrefl before_chain compare ranked d e r (sym is)

answer : (d e : Diag) (r : Ordering) → MatchOrdering r (Before d e) (d ≡ e) (Before e d) → r ≡ compare d e
answer d e r h = one_rank Before before_irrefl before_chain d e r (compare d e) h (ranked d e)

-- ---- the comparison, step by step

abbrev pub compare_place : Diag → Diag → Ordering
compare_place d e = ordering_then (ordering_then (nat_cmp d.place.file e.place.file) (nat_cmp d.place.start e.place.start)) (nat_cmp d.place.end e.place.end)

regrouped : (f s e rest : Ordering) → ordering_then (ordering_then (ordering_then f s) e) rest ≡ ordering_then f (ordering_then s (ordering_then e rest))
regrouped Less s e rest = refl
regrouped Equal Less e rest = refl
regrouped Equal Equal e rest = refl
regrouped Equal Greater e rest = refl
regrouped Greater s e rest = refl

decided : (r rest : Ordering) → is_ne r ≡ true → r ≡ ordering_then r rest
decided Less rest h = refl
decided Equal rest h = absurd (false≢true h)
decided Greater rest h = refl

passed : (r rest : Ordering) → is_ne r ≡ false → rest ≡ ordering_then r rest
passed Less rest h = absurd (false≢true (sym h))
passed Equal rest h = refl
passed Greater rest h = absurd (false≢true (sym h))

in_place : (d e : Diag) (p : Ordering) → p ≡ compare_place d e → ordering_then p (compare_name d e) ≡ compare d e
in_place d e p is =
    ap (λ r. ordering_then r (compare_name d e)) is
    ∙ regrouped (nat_cmp d.place.file e.place.file) (nat_cmp d.place.start e.place.start) (nat_cmp d.place.end e.place.end) (compare_name d e)

module _ (d e : Diag) (place : Ordering) (is : place ≡ compare_place d e) where
  pub by_place : is_ne place ≡ true → place ≡ compare d e
  by_place told = decided place (compare_name d e) told ∙ in_place d e place is

  module _ (same : is_ne place ≡ false) (name : Ordering) (named : name ≡ slice_cmp nat_cmp (id_text d.id) (id_text e.id)) where
    rest_decides : compare_name d e ≡ compare d e
    rest_decides = passed place (compare_name d e) same ∙ in_place d e place is

    pub by_names : is_ne name ≡ true → name ≡ compare d e
    by_names told = decided name (compare_words d e) told ∙ ap (λ r. ordering_then r (compare_words d e)) named ∙ rest_decides

    pub by_arguments : is_ne name ≡ false → (words : Ordering) → words ≡ compare_words d e → words ≡ compare d e
    by_arguments told words is_words = is_words ∙ passed name (compare_words d e) told ∙ ap (λ r. ordering_then r (compare_words d e)) named ∙ rest_decides

-- ---- what `sort_unstable_by` and `dedup` leave

pub below_alike : (d e : Diag) (r : Ordering) → MatchOrdering r (Before d e) (d ≡ e) (Before e d) → is_lt r ≡ is_lt (compare d e)
below_alike d e r h = ap is_lt (answer d e r h)

abbrev pub same : Diag → Diag → Bool
same = eq_by_cmp compare

same_diagnostic : (d e : Diag) → same d e ≡ true → d ≡ e
same_diagnostic d e h = stands d e Equal (sym ((Equal-is (compare d e)).0 h))

same_itself : (d e : Diag) → d ≡ e → same d e ≡ true
same_itself d e is = subst (λ x. same d x ≡ true) is (ap is_eq (tied_itself compare_total d))

pub equal_exactly : (d e : Diag) (r : Ordering) (b : Bool) → MatchOrdering r (Before d e) (d ≡ e) (Before e d) → b ≡ is_eq r → IsTrue b ↔ (d ≡ e)
equal_exactly d e r b h told =
    let test : b ≡ same d e = told ∙ ap is_eq (answer d e r h) in
    (λ t. same_diagnostic d e (sym test ∙ t), λ is. test ∙ same_itself d e is)

-- what a test of two references says of what they point to
pub same_alike : (d e x y : Diag) (b : Bool) → d ≡ x → e ≡ y → IsTrue b ↔ (d ≡ e) → b ≡ same x y
same_alike d e x y b p q h =
    both_ways b (same d e) (λ t. same_itself d e (h.0 t)) (λ t. h.1 (same_diagnostic d e t)) ∙ (λ i. same (p i) (q i))

pairs : (list : List Diag) → IsStrictlySortedBy compare list → AllPairs Before list
unfolding IsStrictlySortedBy
pairs [] h = λ i j d low high. absurd (omega arith)
pairs (d ∷ list) h = AllPairs-cons Before d list (All-weaker _ (Before d) (λ e less. stands d e Less (sym less)) list (All-from_recursion _ list h.0)) (pairs list h.1)

-- ---- one list alone

tail_pairs : (d : Diag) (list : List Diag) → AllPairs Before (d ∷ list) → AllPairs Before list
tail_pairs d list h = λ i j x low high. h (suc i) (suc j) x (omega arith) (omega arith)

head_below : (d : Diag) (list : List Diag) → AllPairs Before (d ∷ list) → (e : Diag) → Contains list e → Before d e
head_below d list h e has = subst (Before d) has.2 (h 0 (suc has.0) e (omega arith) (omega (arith, has.1)))

first_or_at : (d : Diag) (list : List Diag) (e : Diag) (k : ℕ) → k < length (d ∷ list) → slice_index_or (d ∷ list) k e ≡ e → (d ≡ e) ⊎ Contains list e
first_or_at d list e zero inside is = inl is
first_or_at d list e (suc k) inside is = inr (k, omega arith, is)

first_or_later : (d : Diag) (list : List Diag) (e : Diag) → Contains (d ∷ list) e → (d ≡ e) ⊎ Contains list e
first_or_later d list e has = first_or_at d list e has.0 has.1 has.2

pub at_first : (d : Diag) (list : List Diag) → Contains (d ∷ list) d
at_first d list = (0, omega arith, refl)

at_later : (d : Diag) (list : List Diag) (e : Diag) → Contains list e → Contains (d ∷ list) e
at_later d list e has = (suc has.0, omega (arith, has.1), has.2)

pub nothing_in : (e : Diag) → Contains [] e → ⊥
nothing_in e has = omega (arith, has.1)

same_first : (d e : Diag) (ds es : List Diag) → AllPairs Before (d ∷ ds) → AllPairs Before (e ∷ es) → (e ≡ d) ⊎ Contains es d → (d ≡ e) ⊎ Contains ds e → d ≡ e
same_first d e ds es p q (inl is) k = sym is
same_first d e ds es p q (inr h) (inl is) = is
same_first d e ds es p q (inr h) (inr k) = absurd (before_irrefl d (before_chain d e d (head_below d ds p e k) (head_below e es q d h)))

not_first : (d e : Diag) (ds es : List Diag) → AllPairs Before (d ∷ ds) → d ≡ e → (c : Diag) → Contains ds c → (e ≡ c) ⊎ Contains es c → Contains es c
not_first d e ds es p first c has (inl is) = absurd (before_irrefl d (subst (Before d) (sym is ∙ sym first) (head_below d ds p c has)))
not_first d e ds es p first c has (inr later) = later

pub one_list : (ds es : List Diag) → AllPairs Before ds → AllPairs Before es → SameDiagnostics ds es → ds ≡ es
one_list [] [] p q same = refl
one_list [] (e ∷ es) p q same = absurd (nothing_in e ((same e).1 (at_first e es)))
one_list (d ∷ ds) [] p q same = absurd (nothing_in d ((same d).0 (at_first d ds)))
one_list (d ∷ ds) (e ∷ es) p q same =
    let first = same_first d e ds es p q (first_or_later e es d ((same d).0 (at_first d ds))) (first_or_later d ds e ((same e).1 (at_first e es))) in
    let rest = one_list ds es (tail_pairs d ds p) (tail_pairs e es q) (λ c. (
      λ has. not_first d e ds es p first c has (first_or_later e es c ((same c).0 (at_later d ds c has))),
      λ has. not_first e d es ds q (sym first) c has (first_or_later d ds c ((same c).1 (at_later e es c has))),
    )) in
    λ i. first i ∷ rest i

-- ---- the result of a sort, with each repeat dropped

module _ (list items : List Diag) (moved : IsPermutation list items) where
  pub sorted_same : SameDiagnostics list (dedup same items)
  sorted_same d = (
    λ has. Contains-dedup (eq_by_cmp_equiv compare_total) same_diagnostic items d (Contains-permutation list items d moved has),
    λ has. Contains-permutation items list d (IsPermutation-sym list items moved) (Contains-from_dedup same items d has),
  )

  module _ (sorted : IsSorted compare items) where
    pub sorted_order : IsOrdered (dedup same items)
    sorted_order = pairs (dedup same items) (IsStrictlySortedBy-dedup compare_total (λ d e. refl) items sorted)

    pub sorted_only : (other : List Diag) → IsOrdered other → SameDiagnostics list other → other ≡ dedup same items
    sorted_only other p q = one_list other (dedup same items) p sorted_order (λ d. (λ has. (sorted_same d).0 ((q d).1 has), λ has. (q d).0 ((sorted_same d).1 has)))
