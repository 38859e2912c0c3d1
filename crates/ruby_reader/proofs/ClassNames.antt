-- Names that are the same as a set: what is in scope of the ones is in scope of the others.
use Rattle.std.proofs.Common.{◌≡◌, ℕ, ◌+◌, ◌<◌, Bool, true, false, ◌||◌, refl, sym, ◌∙◌, ap, List, [], ◌∷◌, ◌++◌, map, take, length, get_or, MatchBool}
use Rattle.std.specs.List.{AllByRecursion}
use Rattle.std.proofs.lemmas.List.{take_more}
use Rattle.std.proofs.lemmas.List.Folds.{list_any-append}
use Rattle.names.specs.Places.{same_name, is_among}
use Rattle.names.proofs.Places.{same_name-true}
use Rattle.ruby_reader.specs.declared.tree.Opening.{Opening}
use Rattle.ruby_reader.specs.declared.tree.Program.{Program}
use Rattle.ruby_reader.specs.PlainTree.{PlainExpression, PlainExpressions, literal, local, call, new, no_expressions, more_expressions, PlainStatement, assignment, expression, PlainDefinition, PlainOpening}
use Rattle.ruby_reader.specs.PlainLaws.{plain_statements, plain_openings, plain_program}
use Rattle.ruby_reader.specs.Scopes.{Reads, ReadsEach, Keeps, locals_behind, InScope, HasScope, opened_names, HasScopes}

abbrev pub SameNames : List (List ℕ) → List (List ℕ) → Type 0
SameNames a b = (n : List ℕ) → is_among n a ≡ is_among n b

module _ (a b : List (List ℕ)) (same : SameNames a b) where
  mutual
    reads_on : (ls : List (List ℕ)) (x : PlainExpression) → Reads a ls x → Reads b ls x
    reads_on ls (literal l) g = g
    reads_on ls (local n) g = g
    reads_on ls (call r n s e xs) g = (reads_on ls r g.0, each_on ls xs g.1)
    reads_on ls (new c s e xs) g = (sym (same c) ∙ g.0, each_on ls xs g.1)

    each_on : (ls : List (List ℕ)) (xs : PlainExpressions) → ReadsEach a ls xs → ReadsEach b ls xs
    each_on ls no_expressions g = g
    each_on ls (more_expressions x xs) g = (reads_on ls x g.0, each_on ls xs g.1)

  keeps_on : (ls : List (List ℕ)) (s : PlainStatement) → Keeps a ls s → Keeps b ls s
  keeps_on ls (expression x) g = reads_on ls x g
  keeps_on ls (assignment n x) g = (reads_on ls x g.0, g.1)

  scope_on : (ls : List (List ℕ)) (ss : List PlainStatement) → InScope a ls ss → InScope b ls ss
  scope_on ls [] g = g
  scope_on ls (s ∷ ss) g = (keeps_on ls s g.0, scope_on (locals_behind ls s) ss g.1)

  methods_on : (ds : List PlainDefinition) → AllByRecursion (HasScope a) ds → AllByRecursion (HasScope b) ds
  methods_on [] g = g
  methods_on (d ∷ ds) g = (record { distinct = g.0.distinct; in_scope = scope_on d.parameters d.body g.0.in_scope }, methods_on ds g.1)

  classes_on : (os : List PlainOpening) → AllByRecursion (λ (o : PlainOpening). AllByRecursion (HasScope a) o.definitions) os → AllByRecursion (λ (o : PlainOpening). AllByRecursion (HasScope b) o.definitions) os
  classes_on [] g = g
  classes_on (o ∷ os) g = (methods_on o.definitions g.0, classes_on os g.1)

abbrev pub class_name : Opening → List ℕ
class_name o = o.name

names_plain : (os : List Opening) → map class_name os ≡ map (λ (o : PlainOpening). o.name) (plain_openings os)
names_plain [] = refl
names_plain (o ∷ os) = ap (λ ns. o.name ∷ ns) (names_plain os)

-- the parts of a program keep to these classes
abbrev pub KeepScopes : List (List ℕ) → Program → Type 0
KeepScopes classes p = AllByRecursion (λ (o : PlainOpening). AllByRecursion (HasScope classes) o.definitions) (plain_openings p.openings) × InScope classes [] (plain_statements p.statements)

module _ (p : Program) (classes : List (List ℕ)) (same : SameNames classes (map class_name p.openings)) where
  to_opened : SameNames classes (opened_names (plain_program p))
  to_opened n = same n ∙ ap (is_among n) (names_plain p.openings)

  pub scopes_of : KeepScopes classes p → HasScopes (plain_program p)
  scopes_of g = record { methods = classes_on classes (opened_names (plain_program p)) to_opened (plain_openings p.openings) g.0; main = scope_on classes (opened_names (plain_program p)) to_opened [] (plain_statements p.statements) g.1 }

  pub of_scopes : HasScopes (plain_program p) → KeepScopes classes p
  of_scopes g = (classes_on (opened_names (plain_program p)) classes (λ n. sym (to_opened n)) (plain_openings p.openings) g.methods, scope_on (opened_names (plain_program p)) classes (λ n. sym (to_opened n)) [] (plain_statements p.statements) g.main)

map_append : (xs ys : List Opening) → map class_name (xs ++ ys) ≡ map class_name xs ++ map class_name ys
map_append [] ys = refl
map_append (x ∷ xs) ys = ap (λ zs. class_name x ∷ zs) (map_append xs ys)

or_true : (a : Bool) → (a || true) ≡ true
or_true true = refl
or_true false = refl

or_none : (a : Bool) → (a || false) ≡ a
or_none true = refl
or_none false = refl

-- a name that is there already adds nothing
there : (n x : List ℕ) (ns : List (List ℕ)) → is_among x ns ≡ true → is_among n ns ≡ (is_among n ns || (same_name n x || false))
there n x ns among = by_cases (same_name n x) refl
  where
    by_cases : (t : Bool) → same_name n x ≡ t → is_among n ns ≡ (is_among n ns || (t || false))
    by_cases true e = ap (λ n. is_among n ns) (same_name-true n x e) ∙ among ∙ sym (or_true (is_among n ns))
    by_cases false e = sym (or_none (is_among n ns))

-- the names behind one more class
module _ (os : List Opening) (i : ℕ) (o : Opening) (within : i < length os) (is : o ≡ get_or os i o) (x : List ℕ) (named : x ≡ o.name) (ns : List (List ℕ)) (same : SameNames ns (map class_name (take i os))) where
  taken : map class_name (take (i + 1) os) ≡ map class_name (take i os) ++ x ∷ []
  taken = ap (map class_name) (take_more os i o within ∙ ap (λ o. take i os ++ o ∷ []) (sym is)) ∙ map_append (take i os) (o ∷ []) ∙ ap (λ x. map class_name (take i os) ++ x ∷ []) (sym named)

  more_names : (n : List ℕ) → is_among n (map class_name (take (i + 1) os)) ≡ (is_among n ns || (same_name n x || false))
  more_names n = ap (is_among n) taken ∙ list_any-append (same_name n) (map class_name (take i os)) (x ∷ []) ∙ ap (λ b. b || (same_name n x || false)) (sym (same n))

  pub one_more : (b : Bool) (ms : List (List ℕ)) → MatchBool b ((is_among x ns ≡ false) × (ms ≡ ns ++ x ∷ [])) ((is_among x ns ≡ true) × (ms ≡ ns)) → SameNames ms (map class_name (take (i + 1) os))
  one_more true ms g n = ap (is_among n) g.1 ∙ list_any-append (same_name n) ns (x ∷ []) ∙ sym (more_names n)
  one_more false ms g n = ap (is_among n) g.1 ∙ there n x ns g.0 ∙ sym (more_names n)
