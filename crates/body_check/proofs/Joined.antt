-- The types of expressions, one more at a time.
use Rattle.std.proofs.Common.{◌≡◌, List, [], ◌∷◌, refl, ap, append_assoc, append-nil}
use Rattle.std.specs.Prelude.{Option, None, Some}
use Rattle.body_check.specs.declared.ty.ValueType.{ValueType}
use Rattle.body_check.specs.Walk.{with_type, joined, with_last}

pub joined_more : (ts : Option (List ValueType)) (t : Option ValueType) (us : Option (List ValueType)) → joined (with_last ts t) us ≡ joined ts (with_type t us)
joined_more None t us = refl
joined_more (Some ts) None us = refl
joined_more (Some ts) (Some t) None = refl
joined_more (Some ts) (Some t) (Some us) = ap Some (append_assoc ts (t ∷ []) us)

pub joined_none : (us : Option (List ValueType)) → joined (Some []) us ≡ us
joined_none None = refl
joined_none (Some us) = refl

pub joined_all : (ts : Option (List ValueType)) → joined ts (Some []) ≡ ts
joined_all None = refl
joined_all (Some ts) = ap Some (append-nil ts)
