-- The methods of a class, by the place of its name.
use Rattle.std.proofs.Common.{◌≡◌, ℕ, List, [], ◌∷◌, get_or, refl, ap}
use Rattle.std.specs.Prelude.{Option, None, Some}
use Rattle.std.specs.Option.{option_map_or}
use Rattle.names.specs.Places.{place_of}
use Rattle.body_check.specs.declared.table.ClassMethods.{ClassMethods}
use Rattle.body_check.specs.declared.index.Index.{Index}
use Rattle.ruby_reader.specs.PlainTree.{PlainDefinition}
use Rattle.body_check.specs.Calls.{methods_in}
use Rattle.body_check.specs.Walk.{faults_of_definitions}
use Rattle.body_check.specs.Matching.{IsIndex}
use Rattle.body_check.proofs.Found.{found_at, not_found}

module _ (classes : List ClassMethods) (index : Index) (is : IsIndex classes index) (c : List ℕ) where
  pub methods_found : (place : ℕ) (item : ClassMethods) → Some place ≡ place_of c index.classes → methods_in c classes ≡ (get_or classes place item).methods
  methods_found place item here =
      ap (λ (found : Option ClassMethods). option_map_or (λ m. m.methods) found []) (found_at (λ (m : ClassMethods). m.name) c classes index.classes place item is.classes_are here)

  pub no_methods_found : None ≡ place_of c index.classes → methods_in c classes ≡ []
  no_methods_found none =
      ap (λ (found : Option ClassMethods). option_map_or (λ m. m.methods) found []) (not_found (λ (m : ClassMethods). m.name) c classes index.classes is.classes_are none)

-- a class without methods has no faults
pub no_methods_no_faults : (file : ℕ) (classes : List ClassMethods) (ds : List PlainDefinition) → faults_of_definitions file classes [] ds ≡ []
no_methods_no_faults file classes [] = refl
no_methods_no_faults file classes (d ∷ ds) = no_methods_no_faults file classes ds
