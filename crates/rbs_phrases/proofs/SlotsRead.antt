-- Parameters and keys that were read up to their types.
use Rattle.std.proofs.Common.{◌≡◌, refl, subst, Bool, true, false, not, List, ◌∷◌, Some, None}
use Rattle.rbs_terminals.specs.declared.token.Token.{Token}
use Rattle.rbs_terminals.specs.declared.token.Spot.{Spot}
use Rattle.rbs_terminals.specs.declared.token.Kind.{Kind}
use Rattle.rbs_terminals.specs.declared.token.Kind.TheVariants as kind
use Rattle.rbs_terminals.specs.declared.token.Mark.TheVariants as mark
use Rattle.rbs_terminals.specs.Kinds.{lower_of}
use Rattle.sig_model.specs.PlainTy.{PlainTy, PlainKeys}
use Rattle.rbs_types.specs.declared.state.Parameters.{Parameters}
use Rattle.rbs_types.specs.declared.state.Slot.{Slot}
use Rattle.rbs_types.specs.declared.state.Slot.TheVariants as slot
use Rattle.rbs_types.specs.Symbols.{token}
use Rattle.rbs_types.specs.Plains.{is_new}
use Rattle.rbs_types.specs.Parts.{takes_optional}
use Rattle.rbs_types.specs.Grammar.{Spells, type, unnamed, named, positional, optional, rest_of, needed_keyword, optional_keyword, needed_key, optional_key}
use Rattle.rbs_phrases.specs.Fronts.{Marked, Skips}
use Rattle.rbs_phrases.specs.Slots.{Fills, Slotted, Keyed, asked, takes, slot_of, is_key}

-- the name of a key, with a colon behind it
pub key_named : (ks : PlainKeys) (k : Kind) (w : List _) (b : Bool) (ts mid mid' rest : List Token) → Skips mark.Question b ts mid → (s : Spot) × (mid ≡ token k s ∷ mid')
    → lower_of k ≡ Some w → is_new w ks ≡ true → Marked mark.Colon mid' rest → Keyed ks w (not b) ts rest
key_named ks k w true ts mid mid' rest (q, e) (s, f) lower new (s', g) t more d = rw (e, f, g) (optional_key k w q s s' lower new d)
key_named ks k w false ts mid mid' rest (e, n) (s, f) lower new (s', g) t more d = rw (e, f, g) (needed_key k w s s' lower new d)

-- the name of a keyword, with a colon behind it
pub keyword_slot : (p : Parameters) (k : Kind) (w : List _) (needed : Bool) (q s : Spot) (ts rest : List Token)
    → lower_of k ≡ Some w → is_new w p.keys ≡ true → Marked mark.Colon ts rest → Slotted (slot.Key w needed) p (asked needed q (token k s ∷ ts)) rest
keyword_slot p k w true q s ts rest lower new (s', g) t n more d = rw g (needed_keyword k w s s' lower new d.1)
keyword_slot p k w false q s ts rest lower new (s', g) t n more d = rw g (optional_keyword k w q s s' lower new d.1)

-- a parameter that begins with its type
pub plain_slot : (p : Parameters) (needed : Bool) (q : Spot) (ts : List Token) → takes needed p ≡ true → Slotted (slot_of needed) p (asked needed q ts) ts
plain_slot p true q ts takes t n more d = positional takes d
plain_slot p false q ts takes t n more d = optional q takes d

-- a star before it
pub rest_slot : (p : Parameters) (k : Kind) (s : Spot) (ts mid : List Token) → k ≡ kind.Mark mark.Star → ts ≡ token k s ∷ mid → takes_optional p ≡ true → Slotted slot.Rest p ts mid
rest_slot p k s ts mid is e takes t n more d = rw (e, is) (rest_of s takes d)

-- behind the type comes its name
pub named_slot : (x : Slot) (k : Kind) (w : List _) (t : PlainTy) (ts mid rest : List Token) → is_key x ≡ false
    → (s : Spot) × (mid ≡ token k s ∷ rest) → lower_of k ≡ Some w → Spells type t ts mid → Fills x t (Some w) ts rest
named_slot (slot.Key key needed) k w t ts mid rest other next lower d = absurd (cc)
named_slot slot.Positional k w t ts mid rest other next lower d = named k w next.0 lower (subst (λ m. Spells type t ts m) next.1 d)
named_slot slot.Optional k w t ts mid rest other next lower d = named k w next.0 lower (subst (λ m. Spells type t ts m) next.1 d)
named_slot slot.Rest k w t ts mid rest other next lower d = named k w next.0 lower (subst (λ m. Spells type t ts m) next.1 d)
named_slot slot.KeyRest k w t ts mid rest other next lower d = named k w next.0 lower (subst (λ m. Spells type t ts m) next.1 d)

-- behind the type comes no name
pub unnamed_slot : (x : Slot) (t : PlainTy) (ts rest : List Token) → Spells type t ts rest → Fills x t None ts rest
unnamed_slot (slot.Key key needed) t ts rest d = (refl, d)
unnamed_slot slot.Positional t ts rest d = unnamed d
unnamed_slot slot.Optional t ts rest d = unnamed d
unnamed_slot slot.Rest t ts rest d = unnamed d
unnamed_slot slot.KeyRest t ts rest d = unnamed d
