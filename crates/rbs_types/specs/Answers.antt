-- What the type of a text is answered as.
use Rattle.std.specs.Prelude.{ℕ, ◌≡◌, List, [], ◌∷◌, take, Result, Ok, Err}
use Rattle.rbs_terminals.specs.declared.token.Token.{Token}
use Rattle.sig_model.specs.declared.ty.Ty.{Ty}
use Rattle.sig_model.specs.PlainTy.{PlainTy, plain_ty}
use Rattle.rbs_types.specs.declared.reading.Refused.{Refused}
use Rattle.rbs_types.specs.declared.reading.Refused.TheVariants as refused
use Rattle.rbs_types.specs.Limits.{IsText, IsFaultyType}

-- where the last token ends, 0 where there is none
abbrev pub last_end : List Token → ℕ
last_end [] = 0
last_end (c ∷ []) = c.spot.end
last_end (c ∷ d ∷ ts) = last_end (d ∷ ts)

-- the longest front of the tokens with which a text begins ends at the byte `end`
abbrev pub IsFaultAt : List Token → ℕ → Type 0 → Type 0
IsFaultAt ts end limit = (n : ℕ) × IsFaultyType ts n limit × (end ≡ last_end (take n ts))

-- The one type that the tokens spell, or where they go wrong, and whether a limit is passed there. Memory may run out.
abbrev pub Answers : List Token → Result Ty Refused → Type 0
Answers ts (Ok t) = IsText (plain_ty t) ts × ((u : PlainTy) → IsText u ts → u ≡ plain_ty t)
Answers ts (Err (refused.Syntax end)) = IsFaultAt ts end ⊥
Answers ts (Err (refused.Limit end)) = IsFaultAt ts end (Unit {0})
Answers ts (Err refused.NoMemory) = Unit {0}
