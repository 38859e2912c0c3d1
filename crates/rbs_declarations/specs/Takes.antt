-- What a reader within the limits does with one token, and at the end.
use Rattle.std.specs.Prelude.{ℕ, ◌≡◌, List, Option, Some, None, Result, Ok, Err}
use Rattle.rbs_terminals.specs.declared.token.Token.{Token}
use Rattle.sig_model.specs.declared.decl.Decl.{Decl}
use Rattle.sig_model.specs.PlainDecl.{plain_decls}
use Rattle.rbs_types.specs.declared.reading.Refused.{Refused}
use Rattle.rbs_types.specs.declared.reading.Refused.TheVariants as refused
use Rattle.rbs_declarations.specs.declared.state.State.{State}
use Rattle.rbs_declarations.specs.declared.reading.Reading.{Reading}
use Rattle.rbs_declarations.specs.Machine.{next, final}
use Rattle.rbs_declarations.specs.Limits.{IsWithin}

-- the token leads on, and only past the limits
abbrev pub IsPast : Option State → Token → Type 0
IsPast (Some m) c = IsWithin m c → ⊥
IsPast None c = ⊥

-- In the file of this number.
module _ (file : ℕ) where
  -- A token is taken where it leads on within the limits. Else the answer is where the token before it ends.
  abbrev pub Takes : State → ℕ → Token → Result Reading Refused → Type 0
  Takes s end c (Ok r) = (next file s c ≡ Some r.state) × IsWithin r.state c × (r.end ≡ c.spot.end)
  Takes s end c (Err (refused.Syntax e)) = (next file s c ≡ None) × (e ≡ end)
  Takes s end c (Err (refused.Limit e)) = IsPast (next file s c) c × (e ≡ end)
  Takes s end c (Err refused.NoMemory) = Unit {0}

  -- At the end each declaration is whole, or the answer is where the last token ends.
  abbrev pub Finishes : State → ℕ → Result (List Decl) Refused → Type 0
  Finishes s end (Ok ds) = final file end s ≡ Some (plain_decls ds)
  Finishes s end (Err (refused.Syntax e)) = (final file end s ≡ None) × (e ≡ end)
  Finishes s end (Err (refused.Limit e)) = ⊥
  Finishes s end (Err refused.NoMemory) = Unit {0}
