use Rattle.std.proofs.Common.{◌≡◌, rules, refl, ◌∙◌}
use Rattle.std.proofs.lemmas.List.{map-id}
use Rattle.std.specs.Cmp.Lexicographic.{slice_cmp}
use Rattle.std.specs.Ordering.{nat_cmp}
use Rattle.std.proofs.lemmas.Iterator.{YieldsList-from_slice, YieldsList-from_map_by}
use Rattle.std.proofs.lemmas.Iterator.Consumers.{YieldsList-at}
use Rattle.std.proofs.lemmas.Iterator.Search.{cmp_from_yields_List}
use Rattle.diagnostics.proofs.order.compare_arguments.Goals as goal

pub returns : goal.returns
returns c =
    let left = YieldsList-from_map_by _ (λ bytes. bytes.now) (λ word. word) (YieldsList-from_slice c.args.left.now cc) c.map.ensures.closure (λ x r q k. search rules) in
    let right = YieldsList-from_map_by _ (λ bytes. bytes.now) (λ word. word) (YieldsList-from_slice c.args.right.now cc) c.map-2.ensures.closure (λ x r q k. search rules) in
    cmp_from_yields_List (λ x y. y ≡ x) _ (slice_cmp nat_cmp) _ c.cmp.ensures.ran left (λ it e. YieldsList-at e right) (λ x y. refl)
    ∙ (λ i. slice_cmp (slice_cmp nat_cmp) (map-id c.args.left.now i) (map-id c.args.right.now i))
