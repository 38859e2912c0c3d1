use Rattle.std.proofs.Common.{◌≡◌, ◌↔◌, ◌++◌, map, drop}
use Rattle.std.specs.List.{AllByRecursion}
use Rattle.body_check.specs.declared.table.ClassMethods.{ClassMethods}
use Rattle.body_check.specs.Matching.{DeclaresOnce, method_names}
use Rattle.body_check.proofs.index.methods_of_each.Given as goal

abbrev pub invariant-loop-class : goal.invariant-loop-class
invariant-loop-class l =
    let names = λ (c : ClassMethods). method_names c.methods in
    (AllByRecursion DeclaresOnce l.classes ↔ AllByRecursion DeclaresOnce (drop l.class-index l.classes)) × (l.methods ++ map names (drop l.class-index l.classes) ≡ map names l.classes)
