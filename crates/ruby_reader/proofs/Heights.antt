-- The heights of expressions, by what they are made of.
use Rattle.std.proofs.Common.{arith, ◌≡◌, ℕ, ◌+◌, ◌≤◌, max, sym, ap, List, [], ◌∷◌, ◌++◌}
use Rattle.ruby_reader.specs.declared.tree.Literal.{Literal}
use Rattle.ruby_reader.specs.declared.tree.Expression as expression
use Rattle.ruby_reader.specs.PlainLaws.{plain_expression, plain_expressions, plain-Literal, plain-Local, plain-Call, plain-New}
use Rattle.ruby_reader.specs.Heights.{height, tallest}

pub height-Literal : (l : Literal) → height (plain_expression (expression.Literal l)) ≡ 1
height-Literal l = ap height (plain-Literal l)

pub height-Local : (n : List ℕ) → height (plain_expression (expression.Local n)) ≡ 1
height-Local n = ap height (plain-Local n)

pub height-Call : (x : expression.Expression) (n : List ℕ) (s e : ℕ) (xs : List expression.Expression) → height (plain_expression (expression.Call x n s e xs)) ≡ max (height (plain_expression x)) (tallest (plain_expressions xs)) + 1
height-Call x n s e xs = ap height (plain-Call x n s e xs)

pub height-New : (c : List ℕ) (s e : ℕ) (xs : List expression.Expression) → height (plain_expression (expression.New c s e xs)) ≡ max 1 (tallest (plain_expressions xs)) + 1
height-New c s e xs = ap height (plain-New c s e xs)

pub tallest_more : (xs : List expression.Expression) (x : expression.Expression) → tallest (plain_expressions (xs ++ x ∷ [])) ≡ max (tallest (plain_expressions xs)) (height (plain_expression x))
tallest_more [] x = omega arith
tallest_more (y ∷ ys) x = let ih = tallest_more ys x in omega arith

pub ruleset heights = (height-Literal, height-Local, height-Call, height-New, tallest_more)

pub leaf-Literal : (l : Literal) → (1 ≡ height (plain_expression (expression.Literal l))) × (1 ≤ 200)
leaf-Literal l = (sym (height-Literal l), omega arith)

pub leaf-Local : (n : List ℕ) → (1 ≡ height (plain_expression (expression.Local n))) × (1 ≤ 200)
leaf-Local n = (sym (height-Local n), omega arith)

pub row_more : (xs ys : List expression.Expression) (x : expression.Expression) (levels more most : ℕ) → ys ≡ xs ++ x ∷ [] → (levels ≡ tallest (plain_expressions xs)) × (levels ≤ 200)
    → (more ≡ height (plain_expression x)) × (more ≤ 200) → most ≡ max levels more → (most ≡ tallest (plain_expressions ys)) × (most ≤ 200)
row_more xs ys x levels more most same h l is =
    let t = tallest_more xs x in let u : tallest (plain_expressions ys) ≡ tallest (plain_expressions (xs ++ x ∷ [])) = ap (λ zs. tallest (plain_expressions zs)) same in
    let a = h.0 in let b = h.1 in let d = l.0 in let e = l.1 in
    (omega arith, omega arith)
