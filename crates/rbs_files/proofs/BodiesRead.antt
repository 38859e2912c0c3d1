-- What was declared.
use Rattle.std.proofs.Common.{ℕ, ◌≡◌, ◌≤◌, ◌+◌, subst, List, ◌∷◌, Option, arith}
use Rattle.rbs_terminals.specs.declared.token.Token.{Token}
use Rattle.rbs_terminals.specs.declared.token.Spot.{Spot}
use Rattle.rbs_terminals.specs.declared.token.Mark.TheVariants as mark
use Rattle.rbs_terminals.specs.declared.token.Keyword.TheVariants as keyword
use Rattle.sig_model.specs.declared.ty.TypeName.{TypeName}
use Rattle.sig_model.specs.PlainTy.{PlainTy, PlainTys}
use Rattle.sig_model.specs.PlainMember.{PlainParam}
use Rattle.sig_model.specs.PlainDecl as decl
use Rattle.sig_model.specs.PlainDecl.{PlainBody, PlainParts}
use Rattle.rbs_types.specs.Symbols.{sign, word}
use Rattle.rbs_types.specs.Grammar.{of_class, of_interface, of_alias, Name}
use Rattle.rbs_phrases.specs.Fronts.{Marked}
use Rattle.rbs_declarations.specs.Words.{end_at}
use Rattle.rbs_declarations.specs.Grammar.{a_class, a_module, an_interface, a_type, a_constant}
use Rattle.rbs_files.specs.Within.{IsType, IsParams, IsBody, AreParts, AreInterfaceParts}
use Rattle.rbs_files.specs.Onward.{Ended, IsClassHeading, IsModuleHeading}

-- In the file of this number, which ends at the byte `last`.
module _ (room file last : ℕ) where
  pub class_read : (within : ℕ) → within + 1 ≤ room → (n : TypeName) (ps : List PlainParam) (t : Option PlainTy) (parts : PlainParts) (b : PlainBody) (e : ℕ) (ts mid behind rest : List Token)
      → IsClassHeading within (n, ps, t) ts mid → AreParts within file last parts mid behind → Ended e behind rest → b ≡ decl.class n ps t parts → (s : Spot) → IsBody room file last b e (word keyword.Class s ∷ ts) rest
  class_read within less n ps t parts b e ts mid behind rest heading h ended is s =
      let (mid', mid'', named, (ps', low, high), (t', low', high')) = heading in
      let (s', next, stop) = ended in
      let (inside, low'', high'') = subst (λ (behind : List Token). AreParts within file last parts mid behind) next h in
      rw (is, stop) (a_class s s' named ps' t' inside, omega arith, omega arith)

  pub module_read : (within : ℕ) → within + 1 ≤ room → (n : TypeName) (ps : List PlainParam) (us : PlainTys) (parts : PlainParts) (b : PlainBody) (e : ℕ) (ts mid behind rest : List Token)
      → IsModuleHeading within (n, ps, us) ts mid → AreParts within file last parts mid behind → Ended e behind rest → b ≡ decl.module n ps us parts → (s : Spot) → IsBody room file last b e (word keyword.Module s ∷ ts) rest
  module_read within less n ps us parts b e ts mid behind rest heading h ended is s =
      let (mid', mid'', named, (ps', low, high), (us', low', high')) = heading in
      let (s', next, stop) = ended in
      let (inside, low'', high'') = subst (λ (behind : List Token). AreParts within file last parts mid behind) next h in
      rw (is, stop) (a_module s s' named ps' us' inside, omega arith, omega arith)

  pub interface_read : (within : ℕ) → within + 1 ≤ room → (n : TypeName) (ps : List PlainParam) (parts : PlainParts) (b : PlainBody) (e : ℕ) (ts mid mid' behind rest : List Token)
      → Name of_interface n ts mid → IsParams within ps mid mid' → AreInterfaceParts within file last parts mid' behind → Ended e behind rest → b ≡ decl.iface n ps parts
      → (s : Spot) → IsBody room file last b e (word keyword.Interface s ∷ ts) rest
  interface_read within less n ps parts b e ts mid mid' behind rest named heading h ended is s =
      let (ps', low, high) = heading in
      let (s', next, stop) = ended in
      let (inside, low'', high'') = subst (λ (behind : List Token). AreInterfaceParts within file last parts mid' behind) next h in
      rw (is, stop) (an_interface s s' named ps' inside, omega arith, omega arith)

  pub alias_read : (n : TypeName) (ps : List PlainParam) (t : PlainTy) (b : PlainBody) (e : ℕ) (ts mid behind mid' rest : List Token) → Name of_alias n ts mid → IsParams room ps mid behind → Marked mark.Equals behind mid'
      → IsType room t mid' rest → e ≡ end_at last rest → b ≡ decl.alias n ps t → (s : Spot) → IsBody room file last b e (word keyword.Type s ∷ ts) rest
  alias_read n ps t b e ts mid behind mid' rest named h equals ty stop is s =
      let (ps', low, high) = subst (λ (behind : List Token). IsParams room ps mid behind) equals.1 h in
      let (spelled, low', high') = ty in
      rw (is, stop) (a_type s equals.0 named ps' spelled, omega arith, omega arith)

  pub constant_read : (n : TypeName) (t : PlainTy) (b : PlainBody) (e : ℕ) (ts behind mid rest : List Token) → Name of_class n ts behind → Marked mark.Colon behind mid → IsType room t mid rest
      → e ≡ end_at last rest → b ≡ decl.const n t → IsBody room file last b e ts rest
  constant_read n t b e ts behind mid rest h colon ty stop is =
      let named : Name of_class n ts (sign mark.Colon colon.0 ∷ mid) = subst (λ (behind : List Token). Name of_class n ts behind) colon.1 h in
      let (spelled, low, high) = ty in
      rw (is, stop) (a_constant colon.0 named spelled, low, high)
