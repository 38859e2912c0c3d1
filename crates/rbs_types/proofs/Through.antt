-- A phrase inside a longer text: what the reader doesn't take goes on to `K`, with the phrase that is whole there.
use Rattle.std.specs.Prelude.{List, [], ◌∷◌, Option, Some, None}
use Rattle.rbs_terminals.specs.declared.token.Token.{Token}
use Rattle.sig_model.specs.PlainTy.{PlainTy}
use Rattle.rbs_types.specs.declared.state.State.{State}
use Rattle.rbs_types.specs.Machine.{next, final}

abbrev pub rests : {R : Type 0} → (PlainTy → List Token → R) → R → Option PlainTy → List Token → R
rests K fail (Some t) ts = K t ts
rests K fail None ts = fail

abbrev pub taken : {R : Type 0} → Option State → (State → R) → R → R
taken (Some m) f r = f m
taken None f r = r

unfoldable pub through : {R : Type 0} → (PlainTy → List Token → R) → R → State → List Token → R
through K fail s [] = rests K fail (final s) []
through K fail s (c ∷ ts) = taken (next s c) (λ m. through K fail m ts) (rests K fail (final s) (c ∷ ts))
