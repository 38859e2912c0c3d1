-- Overloads that were read.
use Rattle.std.proofs.Common.{ℕ, ◌≤◌, subst, List, [], ◌∷◌, ◌++◌, arith}
use Rattle.rbs_terminals.specs.declared.token.Token.{Token}
use Rattle.rbs_terminals.specs.declared.token.Mark.TheVariants as mark
use Rattle.sig_model.specs.PlainTy.{PlainFun}
use Rattle.sig_model.specs.PlainMember.{PlainParam, PlainMethod}
use Rattle.sig_model.specs.Height.{fun_height}
use Rattle.rbs_phrases.specs.Fronts.{Marked}
use Rattle.rbs_declarations.specs.Grammar.{last_overload, more_overloads}
use Rattle.rbs_declarations.specs.Heights.{params_height, methods_height}
use Rattle.rbs_declarations.proofs.Heights.{methods_and}
use Rattle.rbs_files.specs.Within.{IsParams, IsFunction}
use Rattle.rbs_files.specs.Parameters.{Overloaded}

module _ (room : ℕ) (before : List PlainMethod) (ps : List PlainParam) (f : PlainFun) (ts mid : List Token) (p : IsParams room ps ts mid) where
  pub more_follow : (all : List PlainMethod) (a b rest : List Token) → IsFunction room f mid a → Marked mark.Bar a b
      → Overloaded room (before ++ record { params = ps; fun = f } ∷ []) all b rest → Overloaded room before all ts rest
  more_follow all a b rest h bar further =
      let (d, low, high) = p in
      let (e, most, tall) = subst (λ a. IsFunction room f mid a) bar.1 h in
      let (l, others) = further in
      (more_overloads bar.0 d e l, omega (arith, low, most, others))

  pub none_follows : (rest : List Token) → IsFunction room f mid rest → Overloaded room before (before ++ record { params = ps; fun = f } ∷ []) ts rest
  none_follows rest h =
      let (d, low, high) = p in
      let (e, most, tall) = h in
      (last_overload d e, omega (arith, low, most))

-- with one more
pub not_high : (done : List PlainMethod) (ps : List PlainParam) (f : PlainFun) → methods_height done ≤ 200 → params_height ps ≤ 200 → fun_height f ≤ 200
    → methods_height (done ++ record { params = ps; fun = f } ∷ []) ≤ 200
not_high done ps f a b c = omega (arith, methods_and done (record { params = ps; fun = f }), a, b, c)
