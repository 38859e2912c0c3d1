use Rattle.std.proofs.Common.{sym, ◌∙◌}
use Rattle.diagnostics.proofs.Sorting.{stands, by_place, by_names, by_arguments}
use Rattle.diagnostics.proofs.order.compare.Goals as goal

pub returns-then-is_ne : goal.returns-then-is_ne
returns-then-is_ne c =
    let left = c.args.left.now in
    let right = c.args.right.now in
    stands left right _ (by_place left right c.then-place.result (cc) (sym c.is_ne.ensures ∙ c.if-is_ne.true))

pub returns-then-is_ne-2 : goal.returns-then-is_ne-2
returns-then-is_ne-2 c =
    let left = c.args.left.now in
    let right = c.args.right.now in
    stands left right _ (by_names left right c.then-place.result (cc) (sym c.is_ne.ensures ∙ c.if-is_ne.false) c.cmp-name.result (cc) (sym c.is_ne-2.ensures ∙ c.if-is_ne-2.true))

pub returns : goal.returns
returns c =
    let left = c.args.left.now in
    let right = c.args.right.now in
    stands left right _ (by_arguments left right c.then-place.result (cc) (sym c.is_ne.ensures ∙ c.if-is_ne.false) c.cmp-name.result (cc) (sym c.is_ne-2.ensures ∙ c.if-is_ne-2.false) c.compare_arguments.result (cc))
