-- What the walk computes is what the typing rules give: why a call refuses its arguments, the types of expressions, the locals behind a statement, the type of a body.
use Rattle.std.proofs.Common.{◌≡◌, ℕ, ◌≤◌, Bool, true, false, if◌then◌else◌, List, [], ◌∷◌, length, nat_lt, codes, Option, None, Some, refl, sym, ap, ◌∙◌, subst, arith}
use Rattle.std.specs.Option.{option_map_or}
use Rattle.std.proofs.lemmas.Bool.{ltb-true, ltb-false, lt-ltb, le-ltb}
use Rattle.sig_model.specs.declared.diag.DiagId.{DiagId}
use Rattle.sig_model.specs.declared.diag.DiagId.TheVariants.{InsufficientPositionalArguments, UnexpectedPositionalArgument, ArgumentTypeMismatch}
use Rattle.ruby_reader.specs.PlainTree.{PlainExpression, PlainExpressions, literal, local, call, new, no_expressions, more_expressions, PlainStatement, assignment, expression}
use Rattle.body_check.specs.declared.ty.ValueType.{ValueType}
use Rattle.body_check.specs.declared.ty.ValueType.TheVariants as ty
use Rattle.body_check.specs.declared.table.MethodEntry.{MethodEntry}
use Rattle.body_check.specs.declared.table.ClassMethods.{ClassMethods}
use Rattle.body_check.specs.declared.calls.Refusal.{Refusal}
use Rattle.body_check.specs.Types.{fits, type_text}
use Rattle.body_check.specs.Calls.{method_on, constructor_parameters, Fit, fit_none, fit_more, FirstMisfit, misfit_here, misfit_later, Refuses, too_few, too_many, misfit}
use Rattle.body_check.specs.Typing.{Locals, expression_of, with_local, HasType, literal_has, local_has, call_has, new_has, HaveTypes, none_have, more_have, Leaves, expression_leaves, assignment_leaves, assignment_lost, GivesLast, last_none, last_more}
use Rattle.body_check.specs.Walk.{refusal, misfit_of, refusal_of, outcome, method_outcome, call_outcome, new_outcome, given_by, with_type, type_of, types_of, locals_behind, last_type}

-- what an option holds
pub some_is : {X : Type 0} {x y : X} → Some x ≡ Some y → x ≡ y
some_is e = cc

abbrev argument_misfit : ValueType → ValueType → Refusal
argument_misfit a b = refusal ArgumentTypeMismatch (type_text a ∷ type_text b ∷ [])

-- what a test of an argument makes of the rest
abbrev misfit_by : Bool → ValueType → ValueType → List ValueType → List ValueType → Option Refusal
misfit_by b t u ts us = if b then misfit_of ts us else Some (argument_misfit t u)

fit_length : {ts us : List ValueType} → Fit ts us → length ts ≡ length us
fit_length fit_none = refl
fit_length (fit_more f fit) = omega (arith, fit_length fit)

fit_misfit : {ts us : List ValueType} → Fit ts us → misfit_of ts us ≡ None
fit_misfit fit_none = refl
fit_misfit (fit_more {t = t} {u = u} {ts = ts} {us = us} f fit) = ap (λ b. misfit_by b t u ts us) f ∙ fit_misfit fit

misfit_fit : (ts us : List ValueType) → length ts ≡ length us → misfit_of ts us ≡ None → Fit ts us
misfit_fit [] [] same none = fit_none
misfit_fit [] (u ∷ us) same none = absurd (omega (arith, same))
misfit_fit (t ∷ ts) [] same none = absurd (omega (arith, same))
misfit_fit (t ∷ ts) (u ∷ us) same none = by_test (fits t u) refl (misfit_fit ts us (omega (arith, same))) none
  where
    by_test : (b : Bool) → fits t u ≡ b → (misfit_of ts us ≡ None → Fit ts us) → misfit_by b t u ts us ≡ None → Fit (t ∷ ts) (u ∷ us)
    by_test true f rest none = fit_more f (rest none)
    by_test false f rest none = absurd (cc)

first_misfit : {ts us : List ValueType} {a b : ValueType} → FirstMisfit ts us a b → misfit_of ts us ≡ Some (argument_misfit a b)
first_misfit (misfit_here {t = t} {u = u} {ts = ts} {us = us} f) = ap (λ b. misfit_by b t u ts us) f
first_misfit (misfit_later {t = t} {u = u} {ts = ts} {us = us} f first) = ap (λ b. misfit_by b t u ts us) f ∙ first_misfit first

abbrev Misfits : List ValueType → List ValueType → Refusal → Type 0
Misfits ts us r = (a : ValueType) × (b : ValueType) × FirstMisfit ts us a b × (argument_misfit a b ≡ r)

misfit_first : (ts us : List ValueType) (r : Refusal) → misfit_of ts us ≡ Some r → Misfits ts us r
misfit_first [] us r is = absurd (cc)
misfit_first (t ∷ ts) [] r is = absurd (cc)
misfit_first (t ∷ ts) (u ∷ us) r is = by_test (fits t u) refl (misfit_first ts us r) is
  where
    by_test : (b : Bool) → fits t u ≡ b → (misfit_of ts us ≡ Some r → Misfits ts us r) → misfit_by b t u ts us ≡ Some r → Misfits (t ∷ ts) (u ∷ us) r
    by_test true f rest is = let later = rest is in (later.0, later.1, misfit_later f later.2, later.3)
    by_test false f rest is = (t, u, misfit_here f, some_is is)

module _ (name : List ℕ) (ts us : List ValueType) where
  abbrev by_counts : Bool → Bool → Option Refusal
  by_counts few many = if few then Some (refusal InsufficientPositionalArguments (name ∷ [])) else if many then Some (refusal UnexpectedPositionalArgument (name ∷ [])) else misfit_of ts us

  equal_counts : length ts ≡ length us → refusal_of name ts us ≡ misfit_of ts us
  equal_counts same =
      ap (λ b. by_counts b (nat_lt (length us) (length ts))) (le-ltb (length ts) (length us) (omega (arith, same)))
      ∙ ap (λ b. by_counts false b) (le-ltb (length us) (length ts) (omega (arith, same)))

  -- arguments that fit are not refused
  pub fit_unrefused : Fit ts us → refusal_of name ts us ≡ None
  fit_unrefused fit = equal_counts (fit_length fit) ∙ fit_misfit fit

  pub unrefused_fit : refusal_of name ts us ≡ None → Fit ts us
  unrefused_fit none = by_few (nat_lt (length ts) (length us)) refl none
    where
      by_many : length us ≤ length ts → (b : Bool) → nat_lt (length us) (length ts) ≡ b → by_counts false b ≡ None → Fit ts us
      by_many enough true many none = absurd (cc)
      by_many enough false most none = misfit_fit ts us (omega (arith, enough, ltb-false (length us) (length ts) most)) none

      by_few : (b : Bool) → nat_lt (length ts) (length us) ≡ b → by_counts b (nat_lt (length us) (length ts)) ≡ None → Fit ts us
      by_few true few none = absurd (cc)
      by_few false enough none = by_many (ltb-false (length ts) (length us) enough) (nat_lt (length us) (length ts)) refl none

  -- arguments that a call refuses are refused for that reason
  pub refuses_refused : {id : DiagId} {args : List (List ℕ)} → Refuses name ts us id args → refusal_of name ts us ≡ Some (refusal id args)
  refuses_refused (too_few few) = ap (λ b. by_counts b (nat_lt (length us) (length ts))) (lt-ltb (length ts) (length us) few)
  refuses_refused (too_many many) =
      ap (λ b. by_counts b (nat_lt (length us) (length ts))) (le-ltb (length ts) (length us) (omega (arith, many)))
      ∙ ap (λ b. by_counts false b) (lt-ltb (length us) (length ts) many)
  refuses_refused (misfit same first) = equal_counts same ∙ first_misfit first

  abbrev RefusedBy : Refusal → Type 0
  RefusedBy r = Refuses name ts us r.id r.args

  pub refused_refuses : (r : Refusal) → refusal_of name ts us ≡ Some r → Refuses name ts us r.id r.args
  refused_refuses r is = by_few (nat_lt (length ts) (length us)) refl is
    where
      by_many : length us ≤ length ts → (b : Bool) → nat_lt (length us) (length ts) ≡ b → by_counts false b ≡ Some r → RefusedBy r
      by_many enough true many is = subst RefusedBy (some_is is) (too_many (ltb-true (length us) (length ts) many))
      by_many enough false most is =
          let first = misfit_first ts us r is in
          subst RefusedBy first.3 (misfit (omega (arith, enough, ltb-false (length us) (length ts) most)) first.2)

      by_few : (b : Bool) → nat_lt (length ts) (length us) ≡ b → by_counts b (nat_lt (length us) (length ts)) ≡ Some r → RefusedBy r
      by_few true few is = subst RefusedBy (some_is is) (too_few (ltb-true (length ts) (length us) few))
      by_few false enough is = by_many (ltb-false (length ts) (length us) enough) (nat_lt (length us) (length ts)) refl is

module _ (classes : List ClassMethods) (locals : Locals) where
  mutual
    -- an expression with a type has the type that is computed
    pub has_type : {x : PlainExpression} {t : ValueType} → HasType classes locals x t → type_of classes locals x ≡ Some t
    has_type literal_has = refl
    has_type (local_has is) = is
    has_type (call_has {n = n} {arguments = arguments} {t = t} {ts = ts} {m = m} on have found fit) =
        ap (λ o. given_by (call_outcome classes n o (types_of classes locals arguments))) (has_type on)
        ∙ ap (λ o. given_by (call_outcome classes n (Some t) o)) (have_types have)
        ∙ ap (λ o. given_by (method_outcome n t ts o)) found
        ∙ ap (λ o. given_by (outcome o m.gives)) (fit_unrefused n ts m.parameters fit)
    has_type (new_has {c = c} {ts = ts} have fit) =
        ap (λ o. given_by (new_outcome classes c o)) (have_types have)
        ∙ ap (λ o. given_by (outcome o (ty.Class c))) (fit_unrefused (codes "new") ts (constructor_parameters classes c) fit)

    pub have_types : {xs : PlainExpressions} {ts : List ValueType} → HaveTypes classes locals xs ts → types_of classes locals xs ≡ Some ts
    have_types none_have = refl
    have_types (more_have {xs = xs} {t = t} h hs) = ap (λ o. with_type o (types_of classes locals xs)) (has_type h) ∙ ap (λ o. with_type (Some t) o) (have_types hs)

  mutual
    -- the type that is computed is one that the expression has
    pub type_had : (x : PlainExpression) (t : ValueType) → type_of classes locals x ≡ Some t → HasType classes locals x t
    type_had (literal l) t is = subst (HasType classes locals (literal l)) (some_is is) literal_has
    type_had (local n) t is = local_has is
    type_had (call receiver n s e arguments) t is = by_types (type_of classes locals receiver) (types_of classes locals arguments) (type_had receiver) (types_had arguments) is
      where
        by_refusal : (u : ValueType) (ts : List ValueType) (m : MethodEntry) → HasType classes locals receiver u → HaveTypes classes locals arguments ts → method_on classes u n ≡ Some m
            → (o : Option Refusal) → refusal_of n ts m.parameters ≡ o → given_by (outcome o m.gives) ≡ Some t → HasType classes locals (call receiver n s e arguments) t
        by_refusal u ts m h hs found None none is = subst (HasType classes locals (call receiver n s e arguments)) (some_is is) (call_has h hs found (unrefused_fit n ts m.parameters none))
        by_refusal u ts m h hs found (Some r) refused is = absurd (cc)

        by_method : (u : ValueType) (ts : List ValueType) → HasType classes locals receiver u → HaveTypes classes locals arguments ts
            → (o : Option MethodEntry) → method_on classes u n ≡ o → given_by (method_outcome n u ts o) ≡ Some t → HasType classes locals (call receiver n s e arguments) t
        by_method u ts h hs None none is = absurd (cc)
        by_method u ts h hs (Some m) found is = by_refusal u ts m h hs found (refusal_of n ts m.parameters) refl is

        by_types : (o : Option ValueType) (os : Option (List ValueType)) → ((u : ValueType) → o ≡ Some u → HasType classes locals receiver u)
            → ((ts : List ValueType) → os ≡ Some ts → HaveTypes classes locals arguments ts) → given_by (call_outcome classes n o os) ≡ Some t → HasType classes locals (call receiver n s e arguments) t
        by_types None os has have is = absurd (cc)
        by_types (Some u) None has have is = absurd (cc)
        by_types (Some u) (Some ts) has have is = by_method u ts (has u refl) (have ts refl) (method_on classes u n) refl is
    type_had (new c s e arguments) t is = by_types (types_of classes locals arguments) (types_had arguments) is
      where
        by_refusal : (ts : List ValueType) → HaveTypes classes locals arguments ts → (o : Option Refusal) → refusal_of (codes "new") ts (constructor_parameters classes c) ≡ o
            → given_by (outcome o (ty.Class c)) ≡ Some t → HasType classes locals (new c s e arguments) t
        by_refusal ts hs None none is = subst (HasType classes locals (new c s e arguments)) (some_is is) (new_has hs (unrefused_fit (codes "new") ts (constructor_parameters classes c) none))
        by_refusal ts hs (Some r) refused is = absurd (cc)

        by_types : (os : Option (List ValueType)) → ((ts : List ValueType) → os ≡ Some ts → HaveTypes classes locals arguments ts) → given_by (new_outcome classes c os) ≡ Some t → HasType classes locals (new c s e arguments) t
        by_types None have is = absurd (cc)
        by_types (Some ts) have is = by_refusal ts (have ts refl) (refusal_of (codes "new") ts (constructor_parameters classes c)) refl is

    pub types_had : (xs : PlainExpressions) (ts : List ValueType) → types_of classes locals xs ≡ Some ts → HaveTypes classes locals xs ts
    types_had no_expressions ts is = subst (HaveTypes classes locals no_expressions) (some_is is) none_have
    types_had (more_expressions x xs) ts is = by_types (type_of classes locals x) (types_of classes locals xs) (type_had x) (types_had xs) is
      where
        by_types : (o : Option ValueType) (os : Option (List ValueType)) → ((u : ValueType) → o ≡ Some u → HasType classes locals x u) → ((us : List ValueType) → os ≡ Some us → HaveTypes classes locals xs us)
            → with_type o os ≡ Some ts → HaveTypes classes locals (more_expressions x xs) ts
        by_types None os has have is = absurd (cc)
        by_types (Some u) None has have is = absurd (cc)
        by_types (Some u) (Some us) has have is = subst (HaveTypes classes locals (more_expressions x xs)) (some_is is) (more_have (has u refl) (have us refl))

  -- no rule gives a type where none is computed
  pub untyped : {x : PlainExpression} → type_of classes locals x ≡ None → (t : ValueType) → HasType classes locals x t → ⊥
  untyped none t has = none_some (sym none ∙ has_type has)
    where
      none_some : {u : ValueType} → None ≡ Some u → ⊥
      none_some e = absurd (cc)

  -- the locals behind a statement
  pub leaves : (s : PlainStatement) → Leaves classes locals s (locals_behind classes locals s)
  leaves (expression x) = expression_leaves
  leaves (assignment n x) = by_type (type_of classes locals x) refl
    where
      by_type : (o : Option ValueType) → type_of classes locals x ≡ o → Leaves classes locals (assignment n x) (option_map_or (with_local locals n) o locals)
      by_type None none = assignment_lost (untyped none)
      by_type (Some t) has = assignment_leaves (type_had x t has)

  pub only_left : {s : PlainStatement} {behind : Locals} → Leaves classes locals s behind → behind ≡ locals_behind classes locals s
  only_left expression_leaves = refl
  only_left (assignment_leaves {n = n} has) = ap (λ o. option_map_or (with_local locals n) o locals) (sym (has_type has))
  only_left (assignment_lost {n = n} {x = x} untyped) = by_type (type_of classes locals x) refl
    where
      by_type : (o : Option ValueType) → type_of classes locals x ≡ o → locals ≡ option_map_or (with_local locals n) o locals
      by_type None none = refl
      by_type (Some t) has = absurd (untyped t (type_had x t has))

module _ (classes : List ClassMethods) where
  -- without a type before there is none behind
  none_last : (locals : Locals) (ss : List PlainStatement) → last_type classes None locals ss ≡ None
  none_last locals [] = refl
  none_last locals (s ∷ ss) = none_last (locals_behind classes locals s) ss

  pub gives_last : {locals : Locals} {before t : ValueType} {ss : List PlainStatement} → GivesLast classes locals before ss t → last_type classes (Some before) locals ss ≡ Some t
  gives_last last_none = refl
  gives_last {locals = locals} (last_more {given = given} {s = s} {ss = ss} gives left more) =
      ap (λ o. last_type classes o (locals_behind classes locals s) ss) (has_type classes locals gives)
      ∙ ap (λ ls. last_type classes (Some given) ls ss) (sym (only_left classes locals left))
      ∙ gives_last more

  pub last_given : (locals : Locals) (before t : ValueType) (ss : List PlainStatement) → last_type classes (Some before) locals ss ≡ Some t → GivesLast classes locals before ss t
  last_given locals before t [] is = subst (GivesLast classes locals before []) (some_is is) last_none
  last_given locals before t (s ∷ ss) is = by_type (type_of classes locals (expression_of s)) refl (λ given. last_given (locals_behind classes locals s) given t ss) is
    where
      none_some : None ≡ Some t → ⊥
      none_some e = absurd (cc)

      by_type : (o : Option ValueType) → type_of classes locals (expression_of s) ≡ o
          → ((given : ValueType) → last_type classes (Some given) (locals_behind classes locals s) ss ≡ Some t → GivesLast classes (locals_behind classes locals s) given ss t)
          → last_type classes o (locals_behind classes locals s) ss ≡ Some t → GivesLast classes locals before (s ∷ ss) t
      by_type None none more is = absurd (none_some (sym (none_last (locals_behind classes locals s) ss) ∙ is))
      by_type (Some given) has more is = last_more (type_had classes locals (expression_of s) given has) (leaves classes locals s) (more given is)

-- an expression has one type
pub one_type : (classes : List ClassMethods) (locals : Locals) (x : PlainExpression) (t u : ValueType) → HasType classes locals x t → HasType classes locals x u → t ≡ u
one_type classes locals x t u h g = some_is (sym (has_type classes locals h) ∙ has_type classes locals g)
