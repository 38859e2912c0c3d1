-- Parts that were read.
use Rattle.std.proofs.Common.{ℕ, ◌≡◌, ◌≤◌, sym, subst, List, ◌∷◌, arith}
use Rattle.rbs_terminals.specs.declared.token.Token.{Token}
use Rattle.rbs_terminals.specs.declared.token.Spot.{Spot}
use Rattle.sig_model.specs.declared.place.Place.{Place}
use Rattle.sig_model.specs.PlainMember.{PlainMember}
use Rattle.sig_model.specs.PlainDecl as decl
use Rattle.sig_model.specs.PlainDecl.{PlainDecl, PlainBody, PlainParts}
use Rattle.rbs_types.specs.Symbols.{token}
use Rattle.rbs_declarations.specs.Grammar.{notes_at, and_member, and_inner, declaration, Parts, no_part, inner_part, member_part, InterfaceParts, no_interface_part, interface_part}
use Rattle.rbs_declarations.specs.Heights.{parts_height}
use Rattle.rbs_declarations.specs.Openness.{parts_open, interface_parts_open}
use Rattle.rbs_declarations.proofs.Heights.{inner_and, member_and}
use Rattle.rbs_files.specs.declared.notes.Noted.{Noted}
use Rattle.rbs_files.specs.Within.{IsMember, IsInterfaceMember, IsBody, IsDeclaration, AreParts, AreInterfaceParts}
use Rattle.rbs_files.specs.Onward.{IsNoted, GrowsParts, GrowsInterface}

-- In the file of this number, which ends at the byte `last`.
module _ (room file last : ℕ) where
  pub declared : (n : Noted) (end e : ℕ) (b : PlainBody) (ts mid rest : List Token) → IsNoted n end ts mid → ((s : Spot) → IsBody room file last b e (token n.kind s ∷ mid) rest)
      → IsDeclaration room file last (decl.decl (record { file = file; start = n.start; end = e }) n.notes b) ts rest
  declared n end e b ts mid rest noted body =
      let (texts, s, annotations, notes, start, stop) = noted in
      let (d, within, high) = body s in
      rw (notes, start) (declaration annotations d, within, high)

  pub inner_grows : (before after : PlainParts) (d : PlainDecl) (ts mid : List Token) → IsDeclaration room file last d ts mid → after ≡ and_inner before d → GrowsParts room file last before after ts mid
  inner_grows before after d ts mid h e =
      let (declared, within, high) = h in
      let go : (all : PlainParts) (rest : List Token) (w : Parts file last after all mid rest) → parts_open w ≤ room → (w : Parts file last before all ts rest) × (parts_open w ≤ room) =
      λ all rest w low.
      let (behind, low') = subst (λ (ps : PlainParts). (w : Parts file last ps all mid rest) × (parts_open w ≤ room)) e (w, low) in
      (inner_part declared behind, omega arith) in
      (go, λ low. subst (λ (ps : PlainParts). parts_height ps ≤ 200) (sym e) (omega (arith, inner_and before d)))

  pub member_grows : (before after : PlainParts) (n : Noted) (end e : ℕ) (m : PlainMember) (ts mid rest : List Token) → IsNoted n end ts mid
      → ((s : Spot) → end ≡ s.end → IsMember room last m e (token n.kind s ∷ mid) rest) → after ≡ and_member before (record { file = file; start = n.start; end = e }) n.notes m → GrowsParts room file last before after ts rest
  member_grows before after n end e m ts mid rest noted member more =
      let (texts, s, annotations, notes, start, stop) = noted in
      let (d, within, high) = member s stop in
      let place : Place = record { file = file; start = s.start; end = e } in
      let more' : after ≡ and_member before place (notes_at ts texts) m = rw (notes, start) at more in
      let go : (all : PlainParts) (rest' : List Token) (w : Parts file last after all rest rest') → parts_open w ≤ room → (w : Parts file last before all ts rest') × (parts_open w ≤ room) =
      λ all rest' w low.
      let (behind, low') = subst (λ (ps : PlainParts). (w : Parts file last ps all rest rest') × (parts_open w ≤ room)) more' (w, low) in
      (member_part annotations d behind, omega arith) in
      (go, λ low. subst (λ (ps : PlainParts). parts_height ps ≤ 200) (sym more') (omega (arith, member_and before place (notes_at ts texts) m)))

  pub interface_grows : (before after : PlainParts) (n : Noted) (end e : ℕ) (m : PlainMember) (ts mid rest : List Token) → IsNoted n end ts mid
      → ((s : Spot) → IsInterfaceMember room last m e (token n.kind s ∷ mid) rest) → after ≡ and_member before (record { file = file; start = n.start; end = e }) n.notes m → GrowsInterface room file last before after ts rest
  interface_grows before after n end e m ts mid rest noted member more =
      let (texts, s, annotations, notes, start, stop) = noted in
      let (d, within, high) = member s in
      let place : Place = record { file = file; start = s.start; end = e } in
      let more' : after ≡ and_member before place (notes_at ts texts) m = rw (notes, start) at more in
      let go : (all : PlainParts) (rest' : List Token) (w : InterfaceParts file last after all rest rest') → interface_parts_open w ≤ room → (w : InterfaceParts file last before all ts rest') × (interface_parts_open w ≤ room) =
      λ all rest' w low.
      let (behind, low') = subst (λ (ps : PlainParts). (w : InterfaceParts file last ps all rest rest') × (interface_parts_open w ≤ room)) more' (w, low) in
      (interface_part annotations d behind, omega arith) in
      (go, λ low. subst (λ (ps : PlainParts). parts_height ps ≤ 200) (sym more') (omega (arith, member_and before place (notes_at ts texts) m)))

  -- ---- lists

  pub parts_start : (ps : PlainParts) (ts : List Token) → GrowsParts room file last ps ps ts ts
  parts_start ps ts = (λ all rest d low. (d, low), λ low. low)

  pub parts_join : (ps qs rs : PlainParts) (ts mid rest : List Token) → GrowsParts room file last ps qs ts mid → GrowsParts room file last qs rs mid rest → GrowsParts room file last ps rs ts rest
  parts_join ps qs rs ts mid rest f g = (λ all rest' d low. let w = g.0 all rest' d low in f.0 all rest' w.0 w.1, λ low. g.1 (f.1 low))

  pub parts_end : (ps : PlainParts) (ts rest : List Token) → GrowsParts room file last decl.no_parts ps ts rest → AreParts room file last ps ts rest
  parts_end ps ts rest f =
      let w = f.0 ps rest no_part (omega arith) in
      (w.0, w.1, f.1 (omega arith))

  pub interface_start : (ps : PlainParts) (ts : List Token) → GrowsInterface room file last ps ps ts ts
  interface_start ps ts = (λ all rest d low. (d, low), λ low. low)

  pub interface_join : (ps qs rs : PlainParts) (ts mid rest : List Token) → GrowsInterface room file last ps qs ts mid → GrowsInterface room file last qs rs mid rest → GrowsInterface room file last ps rs ts rest
  interface_join ps qs rs ts mid rest f g = (λ all rest' d low. let w = g.0 all rest' d low in f.0 all rest' w.0 w.1, λ low. g.1 (f.1 low))

  pub interface_end : (ps : PlainParts) (ts rest : List Token) → GrowsInterface room file last decl.no_parts ps ts rest → AreInterfaceParts room file last ps ts rest
  interface_end ps ts rest f =
      let w = f.0 ps rest no_interface_part (omega arith) in
      (w.0, w.1, f.1 (omega arith))
