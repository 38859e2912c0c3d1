-- What goes on in a list of parts or declarations, and the notes before one.
use Rattle.std.specs.Prelude.{ℕ, ◌≡◌, ◌≤◌, List, [], ◌∷◌, Option}
use Rattle.rbs_terminals.specs.declared.token.Token.{Token}
use Rattle.rbs_terminals.specs.declared.token.Spot.{Spot}
use Rattle.rbs_terminals.specs.declared.token.Keyword.TheVariants as keyword
use Rattle.sig_model.specs.declared.ty.TypeName.{TypeName}
use Rattle.sig_model.specs.PlainTy.{PlainTy, PlainTys}
use Rattle.sig_model.specs.Height.{tallest}
use Rattle.sig_model.specs.PlainMember.{PlainParam}
use Rattle.sig_model.specs.PlainDecl.{PlainParts, PlainDecls}
use Rattle.rbs_types.specs.Symbols.{token, word}
use Rattle.rbs_types.specs.Grammar.{of_class, Name}
use Rattle.rbs_declarations.specs.Grammar.{Annotations, notes_at, SelfTypes, Parts, InterfaceParts, File}
use Rattle.rbs_declarations.specs.Heights.{parts_height, decls_height}
use Rattle.rbs_declarations.specs.Openness.{self_types_open, parts_open, interface_parts_open, file_open}
use Rattle.rbs_files.specs.declared.notes.Noted.{Noted}
use Rattle.rbs_files.specs.Within.{IsParams, IsParent, IsSelves}

-- the notes before a declaration or a member, and its first terminal, which ends at the byte `end`
abbrev pub IsNoted : Noted → (end : ℕ) → List Token → List Token → Type 0
IsNoted n end ts rest = (texts : List (List ℕ)) × (s : Spot) × Annotations [] texts ts (token n.kind s ∷ rest) × (n.notes ≡ notes_at ts texts) × (n.start ≡ s.start) × (end ≡ s.end)

-- the annotations from one terminal on, where those from another behind it on are these
abbrev pub Annotated : Noted → List Token → Spot → Noted → List Token → Spot → Type 0
Annotated m ts s n ts' s' = (all : List (List ℕ)) → (rest : List Token) → Annotations n.notes.annotations all (token n.kind s' ∷ ts') rest → Annotations m.notes.annotations all (token m.kind s ∷ ts) rest

-- the word that closes what is declared, which ends at the byte `e`
abbrev pub Ended : ℕ → List Token → List Token → Type 0
Ended e ts rest = (s : Spot) × (ts ≡ word keyword.End s ∷ rest) × (e ≡ s.end)

-- ---- what stands before the parts

abbrev pub IsClassHeading : ℕ → TypeName × List PlainParam × Option PlainTy → List Token → List Token → Type 0
IsClassHeading room h ts rest = (mid : List Token) × (mid' : List Token) × Name of_class h.0 ts mid × IsParams room h.1 mid mid' × IsParent room h.2 mid' rest

abbrev pub IsModuleHeading : ℕ → TypeName × List PlainParam × PlainTys → List Token → List Token → Type 0
IsModuleHeading room h ts rest = (mid : List Token) × (mid' : List Token) × Name of_class h.0 ts mid × IsParams room h.1 mid mid' × IsSelves room h.2 mid' rest

abbrev pub AreSelfTypes : ℕ → PlainTys → PlainTys → List Token → List Token → Type 0
AreSelfTypes room before all ts rest = (d : SelfTypes before all ts rest) × (self_types_open d ≤ room) × (tallest all ≤ 200)

-- ---- from the terminals `ts` up to `rest` a list grew: what goes on behind it goes on from there too

abbrev pub GrowsSelves : ℕ → PlainTys → PlainTys → List Token → List Token → Type 0
GrowsSelves room before after ts mid = (all : PlainTys) → (rest : List Token) → (d : SelfTypes after all mid rest) → self_types_open d ≤ room → (w : SelfTypes before all ts rest) × (self_types_open w ≤ room)

-- In the file of this number, which ends at the byte `last`.
module _ (room file last : ℕ) where
  abbrev pub GrowsParts : PlainParts → PlainParts → List Token → List Token → Type 0
  GrowsParts before after ts mid = ((all : PlainParts) → (rest : List Token) → (d : Parts file last after all mid rest) → parts_open d ≤ room → (w : Parts file last before all ts rest) × (parts_open w ≤ room))
      × (parts_height before ≤ 200 → parts_height after ≤ 200)

  abbrev pub GrowsInterface : PlainParts → PlainParts → List Token → List Token → Type 0
  GrowsInterface before after ts mid = ((all : PlainParts) → (rest : List Token) → (d : InterfaceParts file last after all mid rest) → interface_parts_open d ≤ room → (w : InterfaceParts file last before all ts rest) × (interface_parts_open w ≤ room))
      × (parts_height before ≤ 200 → parts_height after ≤ 200)

  abbrev pub GrowsFile : PlainDecls → PlainDecls → List Token → List Token → Type 0
  GrowsFile before after ts mid = ((all : PlainDecls) → (d : File file last after all mid) → file_open d ≤ room → (w : File file last before all ts) × (file_open w ≤ room))
      × (decls_height before ≤ 200 → decls_height after ≤ 200)
