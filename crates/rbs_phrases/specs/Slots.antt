-- What stands before the type of a parameter or of a key.
use Rattle.std.specs.Prelude.{ℕ, ◌≡◌, Bool, true, false, if◌then◌else◌, List, ◌∷◌, Option, None}
use Rattle.rbs_terminals.specs.declared.token.Token.{Token}
use Rattle.rbs_terminals.specs.declared.token.Spot.{Spot}
use Rattle.rbs_terminals.specs.declared.token.Kind.{Kind}
use Rattle.rbs_terminals.specs.declared.token.Kind.TheVariants as kind
use Rattle.rbs_terminals.specs.declared.token.Mark.TheVariants as mark
use Rattle.rbs_types.specs.Symbols.{sign}
use Rattle.sig_model.specs.PlainTy.{PlainTy, PlainKeys}
use Rattle.rbs_types.specs.declared.state.Parameters.{Parameters}
use Rattle.rbs_types.specs.declared.state.Slot.{Slot}
use Rattle.rbs_types.specs.declared.state.Slot.TheVariants as slot
use Rattle.rbs_types.specs.Plains.{and_key}
use Rattle.rbs_types.specs.Parts.{takes_positional, takes_optional, added}
use Rattle.rbs_types.specs.Grammar.{Spells, type, Argument, Parameter, Key}

-- the type of a parameter of this slot, with the name behind it; a keyword has its name before its type
abbrev pub Fills : Slot → PlainTy → Option (List ℕ) → List Token → List Token → Type 0
Fills (slot.Key w needed) t n ts rest = (n ≡ None) × Spells type t ts rest
Fills _ t n ts rest = Argument t n ts rest

abbrev pub is_key : Slot → Bool
is_key (slot.Key w needed) = true
is_key _ = false

-- behind these parameters one of this slot begins, whose type begins with the second list
abbrev pub Slotted : Slot → Parameters → List Token → List Token → Type 0
Slotted x p ts mid = (t : PlainTy) → (n : Option (List ℕ)) → (rest : List Token) → Fills x t n mid rest → Parameter p (added p x t n) ts rest

-- these terminals, or a question mark and these
abbrev pub asked : (needed : Bool) → Spot → List Token → List Token
asked needed s ts = if needed then ts else sign mark.Question s ∷ ts

abbrev pub takes : (needed : Bool) → Parameters → Bool
takes needed p = if needed then takes_positional p else takes_optional p

abbrev pub slot_of : (needed : Bool) → Slot
slot_of needed = if needed then slot.Positional else slot.Optional

-- behind these keys one of this name begins, whose type begins with the second list
abbrev pub Keyed : PlainKeys → List ℕ → Bool → List Token → List Token → Type 0
Keyed ks w needed ts mid = (t : PlainTy) → (rest : List Token) → Spells type t mid rest → Key ks (and_key ks w needed t) ts rest

-- a word, which may be the name of a key or of a parameter
abbrev pub is_word : Kind → Bool
is_word (kind.Lower w) = true
is_word (kind.Keyword k) = true
is_word _ = false
