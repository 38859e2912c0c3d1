-- Whether a name is among those of a list, by its first few items and the names of the others.
use Rattle.std.proofs.Common.{ℕ, ◌≡◌, ◌<◌, ◌≤◌, ◌||◌, refl, sym, ◌∙◌, ap, subst, Bool, true, false, List, [], ◌∷◌, ◌++◌, length, map, take, drop, arith, take-append-drop, length-append, ⊎_elim}
use Rattle.std.specs.Prelude.{min, MatchBool}
use Rattle.std.proofs.lemmas.Bool.{cases_lt}
use Rattle.std.proofs.lemmas.List.{drop_all, map-append}
use Rattle.std.proofs.Math.Seq.{drop-append-le}
use Rattle.std.proofs.lemmas.List.Folds.{list_any-append}
use Rattle.names.specs.Places.{same_name, is_among, AreSameNames}
use Rattle.names.proofs.Places.{same_name-true}

or_false : (a : Bool) → (a || false) ≡ a
or_false true = refl
or_false false = refl

module _ {X : Type 0} (name : X → List ℕ) where
  among_both : (w : List ℕ) (xs ys : List X) → is_among w (map name (xs ++ ys)) ≡ (is_among w (map name xs) || is_among w (map name ys))
  among_both w xs ys = ap (is_among w) (map-append name xs ys) ∙ list_any-append (same_name w) (map name xs) (map name ys)

  -- behind as many as there are, up to sixteen, stands what stands behind sixteen
  behind_few : (items : List X) (few : ℕ) → few ≡ min (length items) 16 → drop few items ≡ drop 16 items
  behind_few items few f =
      ⊎_elim (λ l. let all : few ≡ length items = omega (arith, f, l) in drop_all few items (omega (arith, all)) ∙ sym (drop_all 16 items (omega (arith, l))))
      (λ l. let all : few ≡ 16 = omega (arith, f, l) in ap (λ n. drop n items) all) (cases_lt (length items) 16)

  -- a name stands among the first few, as many as there are, or among the names of the others
  pub among_by : (later : List (List ℕ)) (items : List X) (few : ℕ) (w : List ℕ) → few ≡ min (length items) 16 → AreSameNames later (map name (drop 16 items))
      → is_among w (map name items) ≡ (is_among w (map name (take few items)) || is_among w later)
  among_by later items few w f h =
      ap (λ xs. is_among w (map name xs)) (sym (take-append-drop few items)) ∙ among_both w (take few items) (drop few items)
      ∙ ap (λ b. is_among w (map name (take few items)) || b) (ap (λ xs. is_among w (map name xs)) (behind_few items few f) ∙ sym (h w))

  module _ (later : List (List ℕ)) (items : List X) (x : X) (h : AreSameNames later (map name (drop 16 items))) where
    -- one more among the first sixteen
    pub same_few : length items < 16 → AreSameNames later (map name (drop 16 (items ++ x ∷ [])))
    same_few l w =
        let before : drop 16 items ≡ [] = drop_all 16 items (omega (arith, l)) in
        let after : drop 16 (items ++ x ∷ []) ≡ [] = drop_all 16 (items ++ x ∷ []) (omega (arith, length-append items (x ∷ []), l)) in
        h w ∙ ap (λ xs. is_among w (map name xs)) (before ∙ sym after)

    -- one more behind them
    one_more : (w : List ℕ) → 16 ≤ length items → is_among w (map name (drop 16 (items ++ x ∷ []))) ≡ (is_among w later || same_name w (name x))
    one_more w l =
        ap (λ xs. is_among w (map name xs)) (drop-append-le 16 items (x ∷ []) l) ∙ among_both w (drop 16 items) (x ∷ [])
        ∙ rw (or_false (same_name w (name x))) (ap (λ b. b || same_name w (name x)) (sym (h w)))

    there : (w : List ℕ) (b : Bool) → same_name w (name x) ≡ b → is_among (name x) later ≡ true → is_among w later ≡ (is_among w later || b)
    there w true e among = let same : w ≡ name x = same_name-true w (name x) e in rw (same, among) refl
    there w false e among = sym (or_false (is_among w later))

    -- whose name is added, if it isn't there
    pub same_with : (later' : List (List ℕ)) (k : List ℕ) (added : Bool) → k ≡ name x → 16 ≤ length items
        → MatchBool added ((is_among k later ≡ false) × (later' ≡ later ++ k ∷ [])) ((is_among k later ≡ true) × (later' ≡ later)) → AreSameNames later' (map name (drop 16 (items ++ x ∷ [])))
    same_with later' k true e l m w =
        ap (is_among w) (m.1 ∙ ap (λ k. later ++ k ∷ []) e) ∙ list_any-append (same_name w) later (name x ∷ []) ∙ ap (λ b. is_among w later || b) (or_false (same_name w (name x)))
        ∙ sym (one_more w l)
    same_with later' k false e l m w =
        ap (is_among w) m.1 ∙ there w (same_name w (name x)) refl (subst (λ k. is_among k later ≡ true) e m.0) ∙ sym (one_more w l)
