-- Phrases within the limits: none of their types is higher than 200, and no more than `room` brackets and words are open in them at once.
use Rattle.std.specs.Prelude.{ℕ, ◌≤◌, List, [], Option}
use Rattle.rbs_terminals.specs.declared.token.Token.{Token}
use Rattle.sig_model.specs.declared.decl.Vis.{Vis}
use Rattle.sig_model.specs.PlainTy.{PlainTy, PlainTys, PlainFun}
use Rattle.sig_model.specs.Height.{height, tallest, fun_height}
use Rattle.sig_model.specs.PlainMember.{PlainParam, PlainMethod, PlainMember}
use Rattle.sig_model.specs.PlainDecl as decl
use Rattle.sig_model.specs.PlainDecl.{PlainDecl, PlainBody, PlainParts}
use Rattle.rbs_types.specs.Grammar.{Use, Spells, type, Function}
use Rattle.rbs_declarations.specs.Grammar.{Applied, Params, Overloads, Method, Member, InterfaceMember, Parent, Selves, Declaration, Body, Parts, InterfaceParts}
use Rattle.rbs_declarations.specs.Heights.{option_height, params_height, methods_height, member_height, body_height, decl_height, parts_height}
use Rattle.rbs_declarations.specs.Openness.{types_open, applied_open, params_open, overloads_open, method_open, member_open, interface_member_open, parent_open, selves_open, declaration_open, body_open, parts_open, interface_parts_open}

-- a type
abbrev pub IsType : ℕ → PlainTy → List Token → List Token → Type 0
IsType room t ts rest = Spells type t ts rest × (types_open 0 ts rest ≤ room) × (height t ≤ 200)

-- the parameters, the block and the result of a method
abbrev pub IsFunction : ℕ → PlainFun → List Token → List Token → Type 0
IsFunction room f ts rest = Function f ts rest × (types_open 0 ts rest ≤ room) × (fun_height f ≤ 200)

-- a name that may have arguments
abbrev pub IsApplied : ℕ → Use → PlainTy → List Token → List Token → Type 0
IsApplied room u t ts rest = (d : Applied u t ts rest) × (applied_open d ≤ room) × (height t ≤ 200)

abbrev pub IsParams : ℕ → List PlainParam → List Token → List Token → Type 0
IsParams room ps ts rest = (d : Params ps ts rest) × (params_open d ≤ room) × (params_height ps ≤ 200)

abbrev pub IsOverloads : ℕ → List PlainMethod → List Token → List Token → Type 0
IsOverloads room ms ts rest = (d : Overloads [] ms ts rest) × (overloads_open d ≤ room) × (methods_height ms ≤ 200)

abbrev pub IsMethod : ℕ → (last : ℕ) → Option Vis → PlainMember → ℕ → List Token → List Token → Type 0
IsMethod room last v m e ts rest = (d : Method last v m e ts rest) × (method_open d ≤ room) × (member_height m ≤ 200)

-- a member of a class or a module, which ends at the byte `e`, where the whole text ends at `last`
abbrev pub IsMember : ℕ → (last : ℕ) → PlainMember → ℕ → List Token → List Token → Type 0
IsMember room last m e ts rest = (d : Member last m e ts rest) × (member_open d ≤ room) × (member_height m ≤ 200)

abbrev pub IsInterfaceMember : ℕ → (last : ℕ) → PlainMember → ℕ → List Token → List Token → Type 0
IsInterfaceMember room last m e ts rest = (d : InterfaceMember last m e ts rest) × (interface_member_open d ≤ room) × (member_height m ≤ 200)

abbrev pub IsParent : ℕ → Option PlainTy → List Token → List Token → Type 0
IsParent room t ts rest = (d : Parent t ts rest) × (parent_open d ≤ room) × (option_height t ≤ 200)

abbrev pub IsSelves : ℕ → PlainTys → List Token → List Token → Type 0
IsSelves room us ts rest = (d : Selves us ts rest) × (selves_open d ≤ room) × (tallest us ≤ 200)

-- In the file of this number, which ends at the byte `last`.
module _ (room file last : ℕ) where
  -- what is declared, which ends at the byte `e`
  abbrev pub IsBody : PlainBody → ℕ → List Token → List Token → Type 0
  IsBody b e ts rest = (d : Body file last b e ts rest) × (body_open d ≤ room) × (body_height b ≤ 200)

  abbrev pub IsDeclaration : PlainDecl → List Token → List Token → Type 0
  IsDeclaration x ts rest = (d : Declaration file last x ts rest) × (declaration_open d ≤ room) × (decl_height x ≤ 200)

  abbrev pub AreParts : PlainParts → List Token → List Token → Type 0
  AreParts ps ts rest = (d : Parts file last decl.no_parts ps ts rest) × (parts_open d ≤ room) × (parts_height ps ≤ 200)

  abbrev pub AreInterfaceParts : PlainParts → List Token → List Token → Type 0
  AreInterfaceParts ps ts rest = (d : InterfaceParts file last decl.no_parts ps ts rest) × (interface_parts_open d ≤ room) × (parts_height ps ≤ 200)
