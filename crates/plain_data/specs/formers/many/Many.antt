-- How a `Many` holds its items, so that a type may lead back to itself through one.
use mathlib.Core.Path.{◌≡◌, refl, sym}
use mathlib.Core.List.{List, []}
use mathlib.Core.Former.{Former, this, list, via, children}
use base.Stored.{code_map}
use denote.RattleType.{RattleType}
use denote.HoleLaws.{Alike}
use denote.HolePlaces.{Recodes, struct_places, laid}
use denote.Hole.Carrier.{listed, list-listed}
use denote.Hole.Fix.{over}
use denote.Param.Weighed.{Weighed, w_list}
use denote.Model.Placed.{view_places}
use Rattle.std.specs.formers.vec.Vec as vec
use Rattle.std.specs.declared.alloc.Global.{Global}
use Rattle.std.specs.contracts.alloc.Global as heap
use Rattle.std.specs.contracts.impls.GlobalAllocator.TheImpl.{ghosts}
use Rattle.plain_data.specs.declared.many.Many.TheInside.{Inside}
use Rattle.plain_data.specs.declared.many.Many.TheView.{view, invariant}
use Rattle.plain_data.specs.contracts.many.Many as made
use Rattle.plain_data.specs.contracts.many.Many.TheInside as inner

-- contracts see a list, and a list holds its items
abbrev pub the_former : Former {0} → Former {0}
the_former items = list items

abbrev pub the_weighed : {items : Former {0}} → Weighed items → Weighed (the_former items)
the_weighed weighed = w_list weighed

-- none of them is needed
pub the_empty : List ⊥
the_empty = []

abbrev pub the_items : (X : Type 0) → List X → List X
the_items X items = items

pub the_items_listed : (X : Type 0) (items : List X) → listed _ (children (the_former this) X items) ≡ the_items X items
the_items_listed X items = list-listed X items

-- the one field is a `Vec` of them
abbrev inside : Former {0}
inside = via (vec.the_former this Global) Inside (λ X m. m.items) (λ X items. record { items = items }) (λ X m. refl) (λ X items. refl)

module _ (R S : RattleType) (h : R.Denot → S.Denot) where
  pub the_places : Alike R S h → Alike (made.the_row R) (made.the_row S) ((the_former this).map R.Denot S.Denot h)
  the_places alike =
      let vec_alike = vec.the_places heap.the_row ghosts R S h alike in
      view_places inside (list this) view (λ X Y k m. refl) (λ X m. refl) R.Denot S.Denot h (made.the_row R).coded (made.the_row S).coded
      (invariant R.Denot) (invariant S.Denot) (λ m p q. refl) (λ m p q. refl) (λ m e. tt) (λ m e. tt) (over (inner.the_row R)) (over (inner.the_row S))
      (struct_places (inner.the_type R) (inner.the_type S) (vec.mapped h, tt) _ (λ d. refl) refl (laid _ _ _ vec_alike, tt))

  pub the_codes_placed : Recodes R S h → Recodes (made.the_row R) (made.the_row S) ((the_former this).map R.Denot S.Denot h)
  the_codes_placed recodes items = sym (code_map R.coded.code S.coded.code h (λ x. sym (recodes x)) items)
