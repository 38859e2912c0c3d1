use Rattle.std.proofs.Common.{refl, sym, subst, ◌∙◌, rules}
use Rattle.std.specs.List.Sorted.{IsPermutation}
use Rattle.std.specs.Ordering.{is_lt}
use Rattle.std.proofs.lemmas.Fn.{dedup_same}
use Rattle.std.proofs.lemmas.List.Sorted.{ranks_by, answers_always}
use Rattle.diagnostics.proofs.Sorting.{compare, compare_total, below_alike, same_alike, same, sorted_order, sorted_same, sorted_only}
use Rattle.diagnostics.proofs.order.ordered.Goals as goal

pub returns : goal.returns
returns c =
    let items = c.sort_unstable_by.new.self.items in
    let moved = subst (λ list. IsPermutation list items) c.into_vec-items.ensures c.sort_unstable_by.ensures.permutation in
    let sorted = c.sort_unstable_by.ensures.sorted (λ d e. is_lt (compare d e)) (ranks_by compare_total (λ d. d)) (answers_always _ _ _ (λ f a r g h. search (rules, below_alike))) in
    let kept = dedup_same _ same _ (λ x y b f' x' y' k. (
      same_alike k.first.now k.second.now x y b k.shows.0 k.shows.1 k.called.met.0,
      refl,
      sym k.leaves.0 ∙ k.called.met.1.0 ∙ k.shows.0,
      sym k.leaves.1 ∙ k.called.met.1.1 ∙ k.shows.1,
    )) _ _ c.dedup_by.ensures.filtered in
    let is = c.from_vec.ensures ∙ kept in
    record {
      order = rw is (sorted_order c.args.list items moved sorted);
      same = rw is (sorted_same c.args.list items moved);
      only = rw is (sorted_only c.args.list items moved sorted);
    }
