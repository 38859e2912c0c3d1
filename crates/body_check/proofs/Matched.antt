-- When a program matches its signature, by what its parts do.
use Rattle.std.proofs.Common.{List}
use Rattle.std.specs.Prelude.{Bool, IfOk, IsTrue, ◌↔◌, Result, Ok, Err}
use Rattle.std.specs.List.{AllByRecursion}
use Rattle.ruby_reader.specs.PlainTree.{PlainProgram}
use Rattle.body_check.specs.declared.table.ClassMethods.{ClassMethods}
use Rattle.body_check.specs.Matching.{SameNames, class_names, opened_names, DeclaresOnce, IsDefined, Matches}

module _ {E : Type 0} (classes : List ClassMethods) (p : PlainProgram) (declared : AllByRecursion DeclaresOnce classes) (opened : SameNames (class_names classes) (opened_names p.openings)) where
  pub matched : (r : Result Bool E) → IfOk r (λ same. IsTrue same ↔ AllByRecursion (IsDefined classes) p.openings) → IfOk r (λ same. IsTrue same ↔ Matches classes p)
  matched (Ok b) same = (λ t. record { declared = declared; opened = opened; defined = same.0 t }, λ m. same.1 m.defined)
  matched (Err e) same = tt
